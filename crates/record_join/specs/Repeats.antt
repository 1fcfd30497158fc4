-- Messages that a past has already, root and all.
use Rattle.std.specs.Prelude.{ℕ, ◌==◌, ◌&&◌, ◌||◌, Bool, false, Option, Some, None}
use Rattle.std.specs.List.{list_any}
use Rattle.std.specs.Str.{bytes_eq}
use Rattle.edge_kit.specs.declared.bytes.Root.{Root}
use Rattle.slash_defs.specs.declared.entry.BlockEntry.{BlockEntry}
use Rattle.slash_defs.specs.declared.entry.VoteEntry.{VoteEntry}
use Rattle.slash_defs.specs.declared.book.Book.{Book}
use Rattle.slash_defs.specs.declared.message.Message.{Message}
use Rattle.slash_defs.specs.declared.message.Message.TheVariants as message
use Rattle.protect_record.specs.Parts.{Parts}
use Rattle.protect_record.specs.Pasts.{Past, IsPastBlock, IsPastVote}
use Rattle.protect_record.specs.Changes.{IsKept}

-- a block as it is kept, with its root
abbrev pub block_entry : ℕ → Root → BlockEntry
block_entry slot root = record { slot = slot; root = Some root }

-- a vote as it is kept, with its root
abbrev pub vote_entry : ℕ → ℕ → Root → VoteEntry
vote_entry source target root = record { target = target; source = source; root = Some root }

-- the past has the message, root and all
abbrev pub IsRepeat : Past → Message → Type 0
IsRepeat past (message.Block slot root) = IsPastBlock past (block_entry slot root)
IsRepeat past (message.Vote source target root) = IsPastVote past (vote_entry source target root)

-- the record keeps the message, root and all
abbrev pub IsKeptIn : Parts → Message → Type 0
IsKeptIn parts m = IsKept parts m

-- the root is known, and is this one
abbrev pub is_root : Root → Option Root → Bool
is_root root None = false
is_root root (Some known) = bytes_eq known.0 root.0

-- the entry is of this block, root and all
abbrev pub is_block : ℕ → Root → BlockEntry → Bool
is_block slot root e = e.slot == slot && is_root root e.root

-- the entry is of this vote, root and all
abbrev pub is_vote : ℕ → ℕ → Root → VoteEntry → Bool
is_vote source target root e = e.target == target && (e.source == source && is_root root e.root)

-- the second message is the first
abbrev pub is_message : Message → Message → Bool
is_message (message.Block slot root) (message.Block other second) = other == slot && bytes_eq second.0 root.0
is_message (message.Vote s t r) (message.Vote u v q) = v == t && (u == s && bytes_eq q.0 r.0)
is_message (message.Block slot root) (message.Vote u v q) = false
is_message (message.Vote s t r) (message.Block slot root) = false

-- a book lists the message, root and all
abbrev pub lists_message : Message → Book → Bool
lists_message (message.Block slot root) b = list_any (is_block slot root) b.blocks
lists_message (message.Vote source target root) b = list_any (is_vote source target root) b.votes

-- the test of `IsRepeat`
abbrev pub repeats : Past → Message → Bool
repeats past m = list_any (lists_message m) past.books || list_any (is_message m) past.own
