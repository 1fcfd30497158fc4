-- What a past lets pass (EIP-3076, "Conditions", 1 to 5, read book by book).
use Rattle.std.specs.Prelude.{◌≡◌, ◌≢◌, ℕ, ◌<◌, ◌≤◌, ◌⊎◌, [], Some, All, Contains}
use Rattle.edge_kit.specs.declared.bytes.Root.{Root}
use Rattle.slash_defs.specs.declared.message.Message.{Message}
use Rattle.slash_defs.specs.declared.message.Message.TheVariants as message
use Rattle.slash_defs.specs.declared.entry.BlockEntry.{BlockEntry}
use Rattle.slash_defs.specs.declared.entry.VoteEntry.{VoteEntry}
use Rattle.slash_defs.specs.declared.entry.Entry.TheVariants as entry
use Rattle.slash_defs.specs.declared.book.Book.{Book}
use Rattle.slash_defs.specs.Slashing.{Slashable, Conflict}
use Rattle.protect_record.specs.Pasts.{Past}

-- the block repeats the entry: all is equal, and the entry's root is known (EIP-3076, condition 2)
abbrev pub IsSameBlock : BlockEntry → ℕ → Root → Type 0
IsSameBlock e slot root = (e.slot ≡ slot) × (e.root ≡ Some root)

-- the same of a vote (EIP-3076, condition 5)
abbrev pub IsSameVote : VoteEntry → ℕ → ℕ → Root → Type 0
IsSameVote e source target root = (e.source ≡ source) × (e.target ≡ target) × (e.root ≡ Some root)

-- a book refuses a message; "at most the least" is said as "at most each, where there is one" (EIP-3076, conditions 1 to 5)
abbrev pub BookRefuses : Book → Message → Type 0
BookRefuses b (message.Block slot root) =
    ((e : BlockEntry) × Contains b.blocks e × Conflict (entry.Block e) (message.Block slot root))
    ⊎ ((b.blocks ≢ []) × All (λ e. slot ≤ e.slot) b.blocks × ¬ ((e : BlockEntry) × Contains b.blocks e × IsSameBlock e slot root))
BookRefuses b (message.Vote source target root) =
    ((e : VoteEntry) × Contains b.votes e × Conflict (entry.Vote e) (message.Vote source target root))
    ⊎ ((b.votes ≢ []) × All (λ e. source < e.source) b.votes)
    ⊎ ((b.votes ≢ []) × All (λ e. target ≤ e.target) b.votes × ¬ ((e : VoteEntry) × Contains b.votes e × IsSameVote e source target root))

-- no imported book refuses the message, and no own message is slashable with it
abbrev pub Passes : Past → Message → Type 0
Passes past m = All (λ b. ¬ (BookRefuses b m)) past.books × All (λ n. ¬ (Slashable n m)) past.own

-- what the past lets pass is not slashable with the message
abbrev pub Covers : Past → Message → Type 0
Covers past m = (n : Message) → Passes past n → ¬ (Slashable n m)
