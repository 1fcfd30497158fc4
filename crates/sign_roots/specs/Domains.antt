-- The domain that a message is signed under (consensus-specs, `get_domain`, `compute_domain`).
use Rattle.std.specs.Prelude.{ℕ, List, [], ◌∷◌, ◌++◌, take, nat_lt, if◌then◌else◌}
use Rattle.edge_kit.specs.declared.bytes.Root.{Root}
use Rattle.phase0_types.specs.Roots.{root_of}
use Rattle.phase0_types.specs.Containers.{fork_data}
use Rattle.phase0_types.specs.Forks.{fork_data_value}
use Rattle.phase0_types.specs.declared.fork.Fork.{Fork}
use Rattle.sign_roots.specs.declared.domains.Domains.{Domains}
use Rattle.sign_roots.specs.declared.kind.DomainKind.{DomainKind}
use Rattle.sign_roots.specs.declared.kind.DomainKind.TheVariants as kind

-- the four bytes of a domain type (consensus-specs, "Domain types")
abbrev pub domain_type : DomainKind → List ℕ
domain_type kind.BeaconProposer = 0 ∷ 0 ∷ 0 ∷ 0 ∷ []
domain_type kind.BeaconAttester = 1 ∷ 0 ∷ 0 ∷ 0 ∷ []
domain_type kind.Randao = 2 ∷ 0 ∷ 0 ∷ 0 ∷ []
domain_type kind.Deposit = 3 ∷ 0 ∷ 0 ∷ 0 ∷ []
domain_type kind.VoluntaryExit = 4 ∷ 0 ∷ 0 ∷ 0 ∷ []
domain_type kind.SelectionProof = 5 ∷ 0 ∷ 0 ∷ 0 ∷ []
domain_type kind.AggregateAndProof = 6 ∷ 0 ∷ 0 ∷ 0 ∷ []
domain_type kind.SyncCommittee = 7 ∷ 0 ∷ 0 ∷ 0 ∷ []
domain_type kind.SyncCommitteeSelectionProof = 8 ∷ 0 ∷ 0 ∷ 0 ∷ []
domain_type kind.ContributionAndProof = 9 ∷ 0 ∷ 0 ∷ 0 ∷ []
domain_type kind.ApplicationBuilder = 0 ∷ 0 ∷ 0 ∷ 1 ∷ []

-- the fork's previous version before its epoch, and its current one from there on (`get_domain`)
abbrev pub version_at : Fork → ℕ → List ℕ
version_at fork epoch = if nat_lt epoch fork.epoch then fork.previous_version else fork.current_version

-- the root of `ForkData` (`compute_fork_data_root`)
unfoldable pub fork_data_root : List ℕ → Root → List ℕ
fork_data_root version genesis = root_of fork_data (fork_data_value (record { current_version = version; genesis_validators_root = genesis }))

-- the domain type, and the first 28 bytes of the root of the fork's data (`compute_domain`)
unfoldable pub domain_of : Domains → DomainKind → ℕ → List ℕ
domain_of domains kind epoch = domain_type kind ++ take 28 (fork_data_root (version_at domains.fork epoch) domains.genesis)
