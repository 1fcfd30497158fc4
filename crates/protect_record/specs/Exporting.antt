-- What a record exports, and the book that prunes it.
use Rattle.std.specs.Prelude.{◌≡◌, ℕ, ◌⊎◌, ◌==◌, ◌&&◌, Bool, List, [], ◌∷◌, Option, Some, None, nat_le, IsTrue, IsSome, IsSomeAnd, if◌then◌else◌, filter, count_by, find}
use Rattle.std.specs.List.{list_all, list_any}
use Rattle.edge_kit.specs.declared.bytes.Root.{Root}
use Rattle.slash_defs.specs.declared.entry.BlockEntry.{BlockEntry}
use Rattle.slash_defs.specs.declared.entry.VoteEntry.{VoteEntry}
use Rattle.slash_defs.specs.declared.book.Book.{Book}
use Rattle.slash_defs.specs.declared.message.Message.{Message}
use Rattle.slash_defs.specs.declared.message.Message.TheVariants as message
use Rattle.protect_record.specs.Parts.{Parts}
use Rattle.protect_record.specs.Floors.{greater_pair, greatest_by, greatest_pair_by, epochs}

-- the greatest source and the greatest target of the kept votes, the floors counted
abbrev pub greatest_epochs : Option (ℕ × ℕ) → List VoteEntry → Option (ℕ × ℕ)
greatest_epochs floors votes = greater_pair floors (greatest_pair_by (λ e. Some (epochs e)) votes)

-- each kept vote is at or above both floors, and the kept votes attain both
abbrev pub is_regular_at : ℕ × ℕ → List VoteEntry → Bool
is_regular_at floor votes =
    list_all (λ e. nat_le floor.0 e.source && nat_le floor.1 e.target) votes
    && list_any (λ e. e.source == floor.0) votes
    && list_any (λ e. e.target == floor.1) votes

-- there are vote floors, and the kept votes are regular there
abbrev pub IsRegular : Parts → Type 0
IsRegular parts = IsSomeAnd parts.floors.vote (λ floor. IsTrue (is_regular_at floor parts.votes))

-- one vote without a root
abbrev pub vote_without_root : Option (ℕ × ℕ) → List VoteEntry
vote_without_root None = []
vote_without_root (Some p) = record { target = p.1; source = p.0; root = None } ∷ []

-- without floors all kept votes; else all of them where they are regular, and otherwise one vote that stands for all
abbrev pub exported_votes : Option (ℕ × ℕ) → List VoteEntry → List VoteEntry
exported_votes None votes = votes
exported_votes (Some floor) votes = if is_regular_at floor votes then votes else vote_without_root (greatest_epochs (Some floor) votes)

-- the book that a record exports
abbrev pub export_of : Parts → Book
export_of parts = record { blocks = parts.blocks; votes = exported_votes parts.floors.vote parts.votes }

-- where the exported book lets pass what the record lets pass
abbrev pub IsExportedExactly : Parts → Message → Type 0
IsExportedExactly parts (message.Block slot root) = IsSome parts.floors.block ⊎ (parts.blocks ≡ [])
IsExportedExactly parts (message.Vote source target root) = IsRegular parts ⊎ ((parts.votes ≡ []) × (parts.floors.vote ≡ None))

-- the kept blocks at the greatest slot
abbrev pub blocks_at : Option ℕ → List BlockEntry → List BlockEntry
blocks_at None blocks = []
blocks_at (Some slot) blocks = filter (λ e. e.slot == slot) blocks

-- the root of a vote of this source, if there is one
abbrev pub root_from : ℕ → Option VoteEntry → Option Root
root_from source None = None
root_from source (Some e) = if e.source == source then e.root else None

-- where one kept vote alone has the target, and has the source, its root
abbrev pub root_of_only : ℕ × ℕ → List VoteEntry → Option Root
root_of_only p votes = if count_by (λ e. e.target == p.1) votes == 1 then root_from p.0 (find (λ e. e.target == p.1) votes) else None

-- the one vote that stands for all
abbrev pub pruned_vote : Option (ℕ × ℕ) → List VoteEntry → List VoteEntry
pruned_vote None votes = []
pruned_vote (Some p) votes = record { target = p.1; source = p.0; root = root_of_only p votes } ∷ []

-- the book that prunes a record: its blocks at the greatest slot, and where there are votes or vote floors one vote
abbrev pub prune_book : Parts → Book
prune_book parts = record {
  blocks = blocks_at (greatest_by (λ e. Some e.slot) parts.blocks) parts.blocks;
  votes = pruned_vote (greatest_epochs parts.floors.vote parts.votes) parts.votes;
}
