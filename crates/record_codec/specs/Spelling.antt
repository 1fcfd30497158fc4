-- The one spelling of a batch: numbers are 8 bytes, the lowest first, and a flag is 0 or 1. And which items a version has.
use Rattle.std.specs.Prelude.{◌≡◌, ℕ, ◌^◌, ◌<◌, ◌≤◌, ◌++◌, Bool, true, false, List, [], ◌∷◌, length, slice_index, Option, Some, None}
use Rattle.std.specs.List.{flat_map, AllByRecursion}
use Rattle.std.specs.Int.{w64, to_le_bytes}
use Rattle.edge_kit.specs.declared.bytes.Root.{Root}
use Rattle.record_codec.specs.declared.item.JournalItem.{JournalItem}
use Rattle.record_codec.specs.declared.item.JournalItem.TheVariants.{Block, Vote, Floors, ActivateUndated, Activate, Answer, Close}
use Rattle.record_codec.specs.declared.version.JournalVersion.{JournalVersion}
use Rattle.record_codec.specs.declared.version.JournalVersion.TheVariants.{One, Two}
use Rattle.doppel_watch.specs.Moments.{moment_limit}

unfoldable pub number : ℕ → List ℕ
number n = to_le_bytes w64 n

abbrev pub flag_byte : Bool → List ℕ
flag_byte false = 0 ∷ []
flag_byte true = 1 ∷ []

-- a flag, and behind a 1 what there is
abbrev pub optional_root : Option Root → List ℕ
optional_root None = 0 ∷ []
optional_root (Some root) = 1 ∷ root.0

abbrev pub optional_number : Option ℕ → List ℕ
optional_number None = 0 ∷ []
optional_number (Some n) = 1 ∷ number n

abbrev pub optional_pair : Option (ℕ × ℕ) → List ℕ
optional_pair None = 0 ∷ []
optional_pair (Some pair) = 1 ∷ number pair.0 ++ number pair.1

-- an item: its tag, its key, and what it says of the key
abbrev pub item_bytes : JournalItem → List ℕ
item_bytes (Block key entry) = 1 ∷ key.0 ++ (number entry.slot ++ optional_root entry.root)
item_bytes (Vote key entry) = 2 ∷ key.0 ++ (number entry.source ++ (number entry.target ++ optional_root entry.root))
item_bytes (Floors key block vote) = 3 ∷ key.0 ++ (optional_number block ++ optional_pair vote)
item_bytes (ActivateUndated key) = 4 ∷ key.0
item_bytes (Activate key epoch) = 7 ∷ key.0 ++ number epoch
item_bytes (Answer key epoch live moment) = 8 ∷ key.0 ++ (number epoch ++ (flag_byte live ++ number moment))
item_bytes (Close key) = 5 ∷ key.0

abbrev pub spelling : List JournalItem → List ℕ
spelling items = flat_map item_bytes items

-- an item that stands with others: no state of a key, nor an answer
abbrev pub is_record : JournalItem → Bool
is_record (Block key entry) = true
is_record (Vote key entry) = true
is_record (Floors key block vote) = true
is_record (ActivateUndated key) = false
is_record (Activate key epoch) = false
is_record (Answer key epoch live moment) = false
is_record (Close key) = false

-- one batch: one or more records, or one other item alone
abbrev pub IsBatch : List JournalItem → Type 0
IsBatch [] = ⊥
IsBatch (item ∷ []) = Unit {0}
IsBatch (item ∷ other ∷ items) = AllByRecursion (λ i. is_record i ≡ true) (item ∷ other ∷ items)

-- the items that a version of a journal's file has
abbrev pub IsOf : JournalVersion → JournalItem → Type 0
IsOf version (Block key entry) = Unit {0}
IsOf version (Vote key entry) = Unit {0}
IsOf version (Floors key block vote) = Unit {0}
IsOf version (ActivateUndated key) = version ≡ One
IsOf version (Activate key epoch) = version ≡ Two
IsOf version (Answer key epoch live moment) = version ≡ Two
IsOf version (Close key) = Unit {0}

-- so many bytes
pub record IsBytes (n : ℕ) (bytes : List ℕ) : Type 0 where
  pub count : length bytes ≡ n
  pub each : (i : ℕ) → slice_index bytes i < 256

abbrev pub RootFits : Option Root → Type 0
RootFits None = Unit {0}
RootFits (Some root) = IsBytes 32 root.0

abbrev pub NumberFits : Option ℕ → Type 0
NumberFits None = Unit {0}
NumberFits (Some n) = n < 2 ^ 64

abbrev pub PairFits : Option (ℕ × ℕ) → Type 0
PairFits None = Unit {0}
PairFits (Some pair) = (pair.0 < 2 ^ 64) × (pair.1 < 2 ^ 64)

-- the epoch at which a key became active, and the moment at which an answer was told, are within the limit of moments
abbrev pub MomentFits : JournalItem → Type 0
MomentFits (Block key entry) = Unit {0}
MomentFits (Vote key entry) = Unit {0}
MomentFits (Floors key block vote) = Unit {0}
MomentFits (ActivateUndated key) = Unit {0}
MomentFits (Activate key epoch) = epoch ≤ moment_limit
MomentFits (Answer key epoch live moment) = moment ≤ moment_limit
MomentFits (Close key) = Unit {0}

-- an item of keys of 48 bytes, roots of 32 and numbers below 2^64, as each of the program is, and of moments within
-- their limit
abbrev pub Fits : JournalItem → Type 0
Fits (Block key entry) = IsBytes 48 key.0 × (entry.slot < 2 ^ 64) × RootFits entry.root
Fits (Vote key entry) = IsBytes 48 key.0 × (entry.source < 2 ^ 64) × (entry.target < 2 ^ 64) × RootFits entry.root
Fits (Floors key block vote) = IsBytes 48 key.0 × NumberFits block × PairFits vote
Fits (ActivateUndated key) = IsBytes 48 key.0
Fits (Activate key epoch) = IsBytes 48 key.0 × (epoch ≤ moment_limit)
Fits (Answer key epoch live moment) = IsBytes 48 key.0 × (epoch < 2 ^ 64) × (moment ≤ moment_limit)
Fits (Close key) = IsBytes 48 key.0

-- The first item of the bytes that can't be read in this version stands at this offset: before it stand records, and at
-- it no item of the version is spelled but one that has to stand alone and doesn't. At the end of the bytes only where
-- they are empty.
pub record IsFirstBad (version : JournalVersion) (bytes : List ℕ) (offset : ℕ) : Type 0 where
  pub before : List JournalItem
  pub rest : List ℕ
  pub split : bytes ≡ spelling before ++ rest
  pub place : offset ≡ length (spelling before)
  pub records : AllByRecursion (λ i. is_record i ≡ true) before
  pub fits : AllByRecursion Fits before
  pub within : (before ≡ [] → ⊥) → 0 < length rest
  pub unread : (item : JournalItem) (behind : List ℕ) → IsOf version item → Fits item → rest ≡ item_bytes item ++ behind → (is_record item ≡ false) × (before ≡ [] → behind ≡ [] → ⊥)
