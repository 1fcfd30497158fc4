-- Which pasts the kept records stand for, and what each change makes of them.
use Rattle.std.specs.Prelude.{◌≡◌, ◌≢◌, ℕ, ◌+◌, ◌<◌, ◌≤◌, false, List, AllPairs, Contains, Option, None, Some, IsSomeAnd, is_some, not, count_by, fold, length}
use Rattle.std.specs.Map.{keys_of}
use Rattle.edge_kit.specs.declared.bytes.PubKey.{PubKey}
use Rattle.slash_defs.specs.declared.book.Book.{Book}
use Rattle.slash_defs.specs.declared.message.Message.{Message}
use Rattle.protect_record.specs.Parts.{Parts}
use Rattle.protect_record.specs.Pasts.{Past, no_past, with_own, with_book, then_past}
use Rattle.protect_record.specs.Passing.{Passes}
use Rattle.protect_record.specs.Standing.{Stands}
use Rattle.protect_record.specs.Verdicts.{IsVerdict}
use Rattle.protect_record.specs.declared.verdict.Verdict.{Verdict}
use Rattle.protect_record.specs.declared.verdict.Verdict.TheVariants as verdict
use Rattle.record_join.specs.Keys.{kept_of, with_key, with_kept, EachKey}
use Rattle.record_join.specs.Repeats.{repeats}
use Rattle.record_join.specs.declared.judgement.Judged.{Judged}
use Rattle.record_join.specs.declared.judgement.Judged.TheVariants as judged
use Rattle.record_join.specs.declared.fault.BeginFault.{BeginFault}
use Rattle.record_join.specs.declared.fault.BeginFault.TheVariants as begin_fault
use Rattle.record_join.specs.declared.fault.MergeFault.{MergeFault}
use Rattle.record_join.specs.declared.fault.MergeFault.TheVariants as merge_fault

-- how many keys are kept at most
abbrev pub key_limit : ℕ
key_limit = 65536

-- the records are of the same keys as the pasts, and each stands for its key's past
abbrev pub BooksStand : List (PubKey × Parts) → List (PubKey × Past) → Type 0
BooksStand kept pasts = EachKey Stands kept pasts

-- the past of a key of which none is kept is empty
abbrev pub known_past : Option Past → Past
known_past None = no_past
known_past (Some past) = past

-- with this past of the key, whether or not one was kept
abbrev pub put_past : List (PubKey × Past) → PubKey → Past → List (PubKey × Past)
put_past pasts key past = with_key pasts key past

-- the past of one key gains something; a key of which none is kept begins with no past
abbrev pub gain : {X : Type 0} → (Past → X → Past) → List (PubKey × Past) → PubKey × X → List (PubKey × Past)
gain gains pasts listed = put_past pasts listed.0 (gains (known_past (kept_of pasts listed.0)) listed.1)

-- with the book that a file lists for a key
abbrev pub with_file_book : List (PubKey × Past) → PubKey × Book → List (PubKey × Past)
with_file_book pasts listed = gain with_book pasts listed

-- the key is kept, and its past lets the message pass and does not have it yet
abbrev pub IsNewTo : List (PubKey × Past) → PubKey × Message → Type 0
IsNewTo pasts one = IsSomeAnd (kept_of pasts one.0) (λ past. Passes past one.1 × (repeats past one.1 ≡ false))

-- so it is with each of these
abbrev pub AreNew : List (PubKey × Past) → List (PubKey × Message) → Type 0
AreNew pasts listed = (one : PubKey × Message) → Contains listed one → IsNewTo pasts one

-- with each book of a file, in its order
abbrev pub with_file : List (PubKey × Past) → List (PubKey × Book) → List (PubKey × Past)
with_file pasts books = fold with_file_book pasts books

-- of each key of both the one past after the other, and of a key of one alone its past
abbrev pub joined : List (PubKey × Past) → List (PubKey × Past) → List (PubKey × Past)
joined pasts others = fold (gain then_past) pasts others

-- how many of the listed keys are not kept
abbrev pub new_keys : {X Y : Type 0} → List (PubKey × X) → List (PubKey × Y) → ℕ
new_keys kept listed = count_by (λ one. not (is_some (kept_of kept one.0))) listed

-- no key is listed twice
abbrev pub EachOnce : {X : Type 0} → List (PubKey × X) → Type 0
EachOnce listed = AllPairs (λ a b. a ≢ b) (keys_of listed)

-- what is kept of a key after something was listed for it, if anything was
abbrev pub gained : {X : Type 0} → (Past → X → Past) → Option Past → Option X → Option Past
gained gains past None = past
gained gains past (Some x) = Some (gains (known_past past) x)

-- the key is kept, and its past lets the message pass
abbrev pub PassesAt : List (PubKey × Past) → PubKey → Message → Type 0
PassesAt pasts key m = IsSomeAnd (kept_of pasts key) (λ past. Passes past m)

-- a key that is not listed has what it had
abbrev pub KeepsOthers : {X : Type 0} → List (PubKey × X) → List (PubKey × Parts) → List (PubKey × Parts) → Type 0
KeepsOthers listed old new = (key : PubKey) → kept_of listed key ≡ None → kept_of new key ≡ kept_of old key

-- the key's own messages gain one
abbrev pub own_grown_from : List (PubKey × Past) → PubKey → Message → Option Past → List (PubKey × Past)
own_grown_from pasts key m None = pasts
own_grown_from pasts key m (Some past) = with_kept pasts key (with_own past m)

-- where the key is kept, its own messages gain one
abbrev pub own_grown : List (PubKey × Past) → PubKey → Message → List (PubKey × Past)
own_grown pasts key m = own_grown_from pasts key m (kept_of pasts key)

-- and so those of each of these keys, one after another
abbrev pub with_messages : List (PubKey × Past) → List (PubKey × Message) → List (PubKey × Past)
with_messages pasts listed = fold (λ before one. own_grown before one.0 one.1) pasts listed

-- the past forbids the message by this verdict, the first of the table that holds
pub record IsRefusal (past : Past) (m : Message) (v : Verdict) : Type 0 where
  pub parts : Parts
  pub stands : Stands parts past
  pub is_verdict : IsVerdict parts m v
  pub is_no_pass : v ≢ verdict.Pass
  pub forbids : ¬ (Passes past m)

-- what the past of a key says of a message; of a key that is not kept there is none
abbrev pub JudgesPast : Option Past → Message → Judged → Type 0
JudgesPast past m judged.Unknown = past ≡ None
JudgesPast past m (judged.Refused v) = IsSomeAnd past (λ p. IsRefusal p m v)
JudgesPast past m judged.NoRoom = IsSomeAnd past (λ p. Passes p m)
JudgesPast past m (judged.Ready repeat) = IsSomeAnd past (λ p. Passes p m × (repeat ≡ repeats p m))

-- what the key's past says of the message
abbrev pub Judges : List (PubKey × Past) → PubKey → Message → Judged → Type 0
Judges pasts key m j = JudgesPast (kept_of pasts key) m j

-- a key begins nowhere but where it is not kept, and fails by its number only where the limit is reached
abbrev pub IsBeginFault : List (PubKey × Parts) → PubKey → BeginFault → Type 0
IsBeginFault kept key (begin_fault.TooManyKeys have new) = (kept_of kept key ≡ None) × (have ≡ length kept) × (new ≡ 1) × (key_limit < have + new)
IsBeginFault kept key begin_fault.OutOfMemory = (kept_of kept key ≡ None) × (length kept < key_limit)

-- so many keys and so many new ones are too many
abbrev pub IsOverLimit : ℕ → ℕ → MergeFault → Type 0
IsOverLimit kept more (merge_fault.TooManyKeys have new) = (have ≡ kept) × (new ≡ more) × (key_limit < have + new)
IsOverLimit kept more merge_fault.OutOfMemory = ⊥

-- so many keys are kept and so many new ones listed, and they are too many; or they are not
abbrev pub IsMergeFault : {X : Type 0} → List (PubKey × Parts) → List (PubKey × X) → MergeFault → Type 0
IsMergeFault kept listed (merge_fault.TooManyKeys have new) = (have ≡ length kept) × (new ≡ new_keys kept listed) × (key_limit < have + new)
IsMergeFault kept listed merge_fault.OutOfMemory = length kept + new_keys kept listed ≤ key_limit
