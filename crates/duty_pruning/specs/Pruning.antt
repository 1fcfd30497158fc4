-- The file that forgets what is old of an exported file. Merging it raises each key's floors to the newest of its old
-- entries, by which all that are older are dead (EIP-3076, conditions 2, 4 and 5).
use Rattle.std.specs.Prelude.{ℕ, ◌-◌, ◌/◌, ◌||◌, Bool, true, false, nat_lt, List, [], ◌∷◌, map, filter, length, drop, if◌then◌else◌, ◌&&◌, max, Option, None, Some}
use Rattle.std.specs.Ordering.{is_lt}
use Rattle.edge_kit.specs.declared.bytes.PubKey.{PubKey}
use Rattle.slash_defs.specs.declared.book.Book.{Book}
use Rattle.slash_defs.specs.declared.book.File.{File}
use Rattle.slash_defs.specs.declared.entry.BlockEntry.{BlockEntry}
use Rattle.slash_defs.specs.declared.entry.VoteEntry.{VoteEntry}
use Rattle.record_join.specs.Keys.{key_cmp}

-- the first epoch of those of which all is kept: that many before this one
abbrev pub kept_from : ℕ → ℕ → ℕ
kept_from keep epoch = epoch - keep

-- a block is old whose slot is in an epoch before these, and so is a vote whose target is
abbrev pub is_old_block : ℕ → BlockEntry → Bool
is_old_block from entry = nat_lt (entry.slot / 32) from

abbrev pub is_old_vote : ℕ → VoteEntry → Bool
is_old_vote from entry = nat_lt entry.target from

-- how many old entries are left as they are, since a merge writes all that are not old once more: a quarter as many as the
-- epochs of which all is kept, and one at least
abbrev pub few_old : ℕ → ℕ
few_old keep = max 1 (keep / 4)

-- the newest of the old entries and all that are not old, of entries in file order; none where no more than a few are old
abbrev pub kept_from_old : {E : Type 0} → ℕ → ℕ → List E → List E
kept_from_old few old entries = if nat_lt few old then drop (old - 1) entries else []

abbrev pub pruning_book : ℕ → ℕ → Book → Book
pruning_book few from book = record {
  blocks = kept_from_old few (length (filter (is_old_block from) book.blocks)) book.blocks;
  votes = kept_from_old few (length (filter (is_old_vote from) book.votes)) book.votes;
}

-- whether a book has an entry
abbrev pub is_some_entry : {E : Type 0} → List E → Bool
is_some_entry [] = false
is_some_entry (e ∷ entries) = true

abbrev pub has_entries : PubKey × Book → Bool
has_entries listed = is_some_entry listed.1.blocks || is_some_entry listed.1.votes

-- the keys of which an entry is forgotten, each with what stands for it and all after it
abbrev pub pruning_books : ℕ → ℕ → List (PubKey × Book) → List (PubKey × Book)
pruning_books few from books = filter has_entries (map (λ listed. (listed.0, pruning_book few from listed.1)) books)

-- whether a key comes after the one before it, if there is one
abbrev pub is_after : Option PubKey → PubKey → Bool
is_after None key = true
is_after (Some before) key = is_lt (key_cmp before key)

-- whether each key comes after the one before it
abbrev pub are_in_order : {X : Type 0} → Option PubKey → List (PubKey × X) → Bool
are_in_order before [] = true
are_in_order before (one ∷ listed) = is_after before one.0 && are_in_order (Some one.0) listed

-- an export lists its keys in their order; of another file nothing is forgotten
abbrev pub pruning_file : ℕ → ℕ → File → File
pruning_file keep epoch file = record {
  genesis = file.genesis;
  books = if are_in_order None file.books then pruning_books (few_old keep) (kept_from keep epoch) file.books else [];
}
