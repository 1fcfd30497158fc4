-- What stands at the front of a payload's bytes, and what a payload is read as.
use Rattle.std.specs.Prelude.{ℕ, zero, suc, ◌+◌, ◌-◌, nat_lt, nat_eq, Bool, true, false, List, [], ◌∷◌, length, take, drop, Option, Some, None, Result, Ok, Err, option_and_then, if◌then◌else◌}
use Rattle.std.specs.Int.{w64, from_le_bytes}
use Rattle.edge_kit.specs.declared.bytes.PubKey.{PubKey}
use Rattle.edge_kit.specs.declared.bytes.Root.{Root}
use Rattle.record_codec.specs.declared.item.JournalItem.{JournalItem}
use Rattle.record_codec.specs.declared.item.JournalItem.TheVariants.{Block, Vote, Floors, ActivateUndated, Activate, Answer, Close}
use Rattle.record_codec.specs.declared.version.JournalVersion.{JournalVersion}
use Rattle.record_codec.specs.declared.version.JournalVersion.TheVariants.{One, Two}
use Rattle.doppel_watch.specs.Moments.{moment_limit}

infixl 10 ◌>>=◌
abbrev pub ◌>>=◌ : {A B : Type 0} → Option A → (A → Option B) → Option B
o >>= f = option_and_then f o

-- a field is a value and the bytes behind it
abbrev pub bytes_at : ℕ → List ℕ → Option (List ℕ × List ℕ)
bytes_at n bytes = if nat_lt (length bytes) n then None else Some (take n bytes, drop n bytes)

unfoldable pub number_at : List ℕ → Option (ℕ × List ℕ)
number_at bytes = do
  b ← bytes_at 8 bytes
  Some (from_le_bytes w64 b.0, b.1)

unfoldable pub root_at : List ℕ → Option (Root × List ℕ)
root_at bytes = do
  b ← bytes_at 32 bytes
  Some (record { 0 = b.0 }, b.1)

unfoldable pub key_at : List ℕ → Option (PubKey × List ℕ)
key_at bytes = do
  b ← bytes_at 48 bytes
  Some (record { 0 = b.0 }, b.1)

-- a moment is within the limit
unfoldable pub moment_at : List ℕ → Option (ℕ × List ℕ)
moment_at bytes = do
  moment ← number_at bytes
  if nat_lt moment_limit moment.0 then None else Some (moment.0, moment.1)

unfoldable pub flag_at : List ℕ → Option (Bool × List ℕ)
flag_at [] = None
flag_at (zero ∷ bytes) = Some (false, bytes)
flag_at (suc zero ∷ bytes) = Some (true, bytes)
flag_at (suc (suc flag) ∷ bytes) = None

-- a flag, and behind a 1 what there is
unfoldable pub optional_root_at : List ℕ → Option (Option Root × List ℕ)
optional_root_at [] = None
optional_root_at (zero ∷ bytes) = Some (None, bytes)
optional_root_at (suc zero ∷ bytes) = do
  root ← root_at bytes
  Some (Some root.0, root.1)
optional_root_at (suc (suc flag) ∷ bytes) = None

unfoldable pub optional_number_at : List ℕ → Option (Option ℕ × List ℕ)
optional_number_at [] = None
optional_number_at (zero ∷ bytes) = Some (None, bytes)
optional_number_at (suc zero ∷ bytes) = do
  n ← number_at bytes
  Some (Some n.0, n.1)
optional_number_at (suc (suc flag) ∷ bytes) = None

unfoldable pub optional_pair_at : List ℕ → Option (Option (ℕ × ℕ) × List ℕ)
optional_pair_at [] = None
optional_pair_at (zero ∷ bytes) = Some (None, bytes)
optional_pair_at (suc zero ∷ bytes) = do
  m ← number_at bytes
  n ← number_at m.1
  Some (Some (m.0, n.0), n.1)
optional_pair_at (suc (suc flag) ∷ bytes) = None

-- what an item says of its key
unfoldable pub block_at : PubKey → List ℕ → Option (JournalItem × List ℕ)
block_at key bytes = do
  slot ← number_at bytes
  root ← optional_root_at slot.1
  Some (Block key (record { slot = slot.0; root = root.0 }), root.1)

unfoldable pub vote_at : PubKey → List ℕ → Option (JournalItem × List ℕ)
vote_at key bytes = do
  source ← number_at bytes
  target ← number_at source.1
  root ← optional_root_at target.1
  Some (Vote key (record { target = target.0; source = source.0; root = root.0 }), root.1)

unfoldable pub floors_at : PubKey → List ℕ → Option (JournalItem × List ℕ)
floors_at key bytes = do
  block ← optional_number_at bytes
  vote ← optional_pair_at block.1
  Some (Floors key block.0 vote.0, vote.1)

unfoldable pub tagged_at : ℕ → PubKey → List ℕ → Option (JournalItem × List ℕ)
tagged_at tag key bytes = if nat_eq tag 1 then block_at key bytes else (if nat_eq tag 2 then vote_at key bytes else (if nat_eq tag 3 then floors_at key bytes else None))

-- a record at the front
unfoldable pub record_at : List ℕ → Option (JournalItem × List ℕ)
record_at [] = None
record_at (tag ∷ bytes) = do
  key ← key_at bytes
  tagged_at tag key.0 key.1

-- what an item that stands alone says of its key
unfoldable pub activate_at : PubKey → List ℕ → Option (JournalItem × List ℕ)
activate_at key bytes = do
  epoch ← moment_at bytes
  Some (Activate key epoch.0, epoch.1)

unfoldable pub answer_at : PubKey → List ℕ → Option (JournalItem × List ℕ)
answer_at key bytes = do
  epoch ← number_at bytes
  live ← flag_at epoch.1
  moment ← moment_at live.1
  Some (Answer key epoch.0 live.0 moment.0, moment.1)

-- by its tag, of the items of a version
unfoldable pub tagged_state_at : JournalVersion → ℕ → PubKey → List ℕ → Option (JournalItem × List ℕ)
tagged_state_at One tag key bytes = if nat_eq tag 4 then Some (ActivateUndated key, bytes) else (if nat_eq tag 5 then Some (Close key, bytes) else None)
tagged_state_at Two tag key bytes = if nat_eq tag 5 then Some (Close key, bytes) else (if nat_eq tag 7 then activate_at key bytes else (if nat_eq tag 8 then answer_at key bytes else None))

-- a state of a key or an answer, alone
unfoldable pub state_at : JournalVersion → List ℕ → Option JournalItem
state_at version [] = None
state_at version (tag ∷ bytes) = do
  key ← key_at bytes
  item ← tagged_state_at version tag key.0 key.1
  if nat_eq (length item.1) 0 then Some item.0 else None

abbrev pub prepend : JournalItem → Result (List JournalItem) ℕ → Result (List JournalItem) ℕ
prepend item (Ok items) = Ok (item ∷ items)
prepend item (Err offset) = Err offset

abbrev pub first_then : ℕ → Option (JournalItem × List ℕ) → Result (List JournalItem) ℕ → Result (List JournalItem) ℕ
first_then offset None others = Err offset
first_then offset (Some x) others = if nat_eq (length x.1) 0 then Ok (x.0 ∷ []) else prepend x.0 others

abbrev pub rest_of : Option (JournalItem × List ℕ) → List ℕ
rest_of None = []
rest_of (Some x) = x.1

-- records up to the end, from this offset on; or the offset of the first that can't be read. Fuel is above their number.
unfoldable pub records_at : ℕ → ℕ → List ℕ → Result (List JournalItem) ℕ
records_at zero offset bytes = Err offset
records_at (suc fuel) offset bytes = first_then offset (record_at bytes) (records_at fuel (offset + (length bytes - length (rest_of (record_at bytes)))) (rest_of (record_at bytes)))

abbrev pub state_or : Option JournalItem → Result (List JournalItem) ℕ → Result (List JournalItem) ℕ
state_or None others = others
state_or (Some item) others = Ok (item ∷ [])

-- the items of a payload in a file of this version, or the offset of the first that can't be read
unfoldable pub batch_of : JournalVersion → List ℕ → Result (List JournalItem) ℕ
batch_of version payload = state_or (state_at version payload) (records_at (suc (length payload)) 0 payload)

-- the offset of the first item that can't be read, if any
abbrev pub fault_in : Result (List JournalItem) ℕ → Option ℕ
fault_in (Ok items) = None
fault_in (Err offset) = Some offset

abbrev pub bad_at : JournalVersion → List ℕ → Option ℕ
bad_at version payload = fault_in (batch_of version payload)
