-- How many bytes a key's snapshot takes in a file, and a bound on it that only counts.
use Rattle.std.specs.Prelude.{◌≡◌, ℕ, ◌+◌, ◌*◌, List, map, length, sum, IfSome}
use Rattle.std.specs.List.{AllByRecursion}
use Rattle.edge_kit.specs.declared.bytes.PubKey.{PubKey}
use Rattle.protect_record.specs.Parts.{Parts}
use Rattle.record_codec.specs.Spelling.{spelling}
use Rattle.record_codec.specs.declared.item.JournalItem.{JournalItem}

-- the bytes of batches in a file: of each batch its own and 5 of its frame
abbrev pub framed_size : List (List JournalItem) → ℕ
framed_size batches = sum (map (λ batch. length (spelling batch) + 5) batches)

-- the weight of a key's record in bytes, a frame of 5 with each part: 75 of its floors and 49 of its state, in two frames; 90 of a block; 98 of a vote
abbrev pub key_weight : Parts → ℕ
key_weight parts = 134 + 95 * length parts.blocks + 103 * length parts.votes

-- a key of 48 bytes, with entries whose roots have 32, as each of the program is
pub record IsSized (key : PubKey) (parts : Parts) : Type 0 where
  pub key_length : length key.0 ≡ 48
  pub block_roots : AllByRecursion (λ entry. IfSome entry.root (λ root. length root.0 ≡ 32)) parts.blocks
  pub vote_roots : AllByRecursion (λ entry. IfSome entry.root (λ root. length root.0 ≡ 32)) parts.votes
