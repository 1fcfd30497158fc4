-- The chains whose fork versions are known, and the chain and the version that an object is signed under (consensus-specs,
-- `configs`).
use Rattle.std.specs.Prelude.{ℕ, Bool, false, List, [], ◌∷◌, replicate, nat_lt, unwrap_or, Option, Some, None, option_map, if◌then◌else◌, codes}
use Rattle.std.specs.Str.{bytes_eq}
use Rattle.edge_kit.specs.Texts.{hex_bytes}
use Rattle.edge_kit.specs.declared.bytes.Root.{Root}
use Rattle.phase0_types.specs.declared.fork.Fork.{Fork}
use Rattle.sign_roots.specs.declared.domains.Domains.{Domains}
use Rattle.signer_link.specs.Objects.{root}
use Rattle.signing_requests.specs.Objects.{ObjectValue, exit_is}
use Rattle.signing_requests.specs.declared.chain.Chain.{Chain}
use Rattle.signing_requests.specs.declared.chain.Chain.TheVariants as chain
use Rattle.signing_requests.specs.declared.chain.Network.{Network}

-- the text is that of the root
abbrev pub is_root : List ℕ → Root → Bool
is_root text given = unwrap_or (option_map (λ bytes. bytes_eq bytes given.0) (hex_bytes 32 text)) false

abbrev pub mainnet : Network
mainnet = record { genesis_fork_version = 0 ∷ 0 ∷ 0 ∷ 0 ∷ []; capella_fork_version = 3 ∷ 0 ∷ 0 ∷ 0 ∷ []; deneb_fork_epoch = 269568 }

abbrev pub hoodi : Network
hoodi = record { genesis_fork_version = 16 ∷ 0 ∷ 9 ∷ 16 ∷ []; capella_fork_version = 64 ∷ 0 ∷ 9 ∷ 16 ∷ []; deneb_fork_epoch = 0 }

abbrev pub sepolia : Network
sepolia = record { genesis_fork_version = 144 ∷ 0 ∷ 0 ∷ 105 ∷ []; capella_fork_version = 144 ∷ 0 ∷ 0 ∷ 114 ∷ []; deneb_fork_epoch = 132608 }

-- the network with this root of its genesis validators, if it is known
abbrev pub network_of : Root → Option Network
network_of genesis = if is_root (codes "0x4b363db94e286120d76eb905340fdd4e54bfe9f06bf33ff6cf5ad27f511bfe95") genesis then Some mainnet
    else if is_root (codes "0x212f13fc4df078b6cb7db228f1c8307566dcecf900867401a92023d7ba99cb5f") genesis then Some hoodi
    else if is_root (codes "0xd8ea171f3c94aea21ebc42a1ed61052acf3f9209c00e4efbaaddac09ed9b8078") genesis then Some sepolia
    else None

-- one version in all epochs
abbrev pub always : List ℕ → ℕ → Fork
always version epoch = record { previous_version = version; current_version = version; epoch = epoch }

-- an exit is signed under Capella's version once the fork is Deneb's or a later one, where the network is known (EIP-7044)
abbrev pub exit_fork : Fork → Option Network → Fork
exit_fork f None = f
exit_fork f (Some n) = if nat_lt f.epoch n.deneb_fork_epoch then f else always n.capella_fork_version f.epoch

abbrev pub exit_domains : Domains → Domains
exit_domains d = record { fork = exit_fork d.fork (network_of d.genesis); genesis = d.genesis }

-- the chain and the fork that an object of a chain is signed under
abbrev pub domains_by : Domains → ObjectValue → Domains
domains_by d (exit_is v) = exit_domains d
domains_by d s = d

-- what is of no chain is signed under the version at genesis and a root of zeros
abbrev pub signing_domains : Chain → ObjectValue → Domains
signing_domains (chain.Named d) s = domains_by d s
signing_domains (chain.AtGenesis version) s = record { fork = always version 0; genesis = root (replicate 32 0) }
