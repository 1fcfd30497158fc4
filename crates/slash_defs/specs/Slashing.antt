-- Slashing conditions of phase 0 (consensus-specs, is_slashable_attestation_data and process_proposer_slashing).
use Rattle.std.specs.Prelude.{◌≡◌, ◌≢◌, ℕ, ◌<◌, ◌⊎◌, Option, Some, None}
use Rattle.edge_kit.specs.declared.bytes.Root.{Root}
use Rattle.slash_defs.specs.declared.message.Message.{Message}
use Rattle.slash_defs.specs.declared.message.Message.TheVariants as message
use Rattle.slash_defs.specs.declared.entry.Entry.{Entry}
use Rattle.slash_defs.specs.declared.entry.Entry.TheVariants as entry

-- one vote's source is the lesser and its target the greater: it surrounds the other
abbrev pub Surrounds : ℕ → ℕ → ℕ → ℕ → Type 0
Surrounds source target inner_source inner_target = (source < inner_source) × (inner_target < target)

-- two messages of one key that the chain slashes
abbrev pub Slashable : Message → Message → Type 0
Slashable (message.Block slot root) (message.Block other_slot other_root) = (slot ≡ other_slot) × (root ≢ other_root)
Slashable (message.Vote s t r) (message.Vote u v q) = ((t ≡ v) × ((s ≢ u) ⊎ (r ≢ q))) ⊎ Surrounds s t u v ⊎ Surrounds u v s t
Slashable (message.Block slot root) (message.Vote u v q) = ⊥
Slashable (message.Vote s t r) (message.Block slot root) = ⊥

-- an absent root differs from every root
abbrev pub Differs : Option Root → Root → Type 0
Differs None root = Unit {0}
Differs (Some kept) root = kept ≢ root

-- an entry forbids a message of its key (EIP-3076, conditions 1 and 3)
abbrev pub Conflict : Entry → Message → Type 0
Conflict (entry.Block kept) (message.Block slot root) = (kept.slot ≡ slot) × Differs kept.root root
Conflict (entry.Vote kept) (message.Vote u v q) = ((kept.target ≡ v) × ((kept.source ≢ u) ⊎ Differs kept.root q)) ⊎ Surrounds kept.source kept.target u v ⊎ Surrounds u v kept.source kept.target
Conflict (entry.Block kept) (message.Vote u v q) = ⊥
Conflict (entry.Vote kept) (message.Block slot root) = ⊥
