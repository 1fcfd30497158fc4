-- How the kept records judge a message.
use Rattle.std.specs.Prelude.{◌≡◌, ◌≢◌, ◌↔◌, Bool, List, Contains, Option, None, Some, IsTrue, IsSomeAnd}
use Rattle.edge_kit.specs.declared.bytes.PubKey.{PubKey}
use Rattle.slash_defs.specs.declared.message.Message.{Message}
use Rattle.protect_record.specs.Parts.{Parts, SameParts, HasRoom}
use Rattle.protect_record.specs.Pasts.{Past}
use Rattle.protect_record.specs.Standing.{Stands}
use Rattle.protect_record.specs.Verdicts.{IsVerdict}
use Rattle.protect_record.specs.Passing.{Passes}
use Rattle.protect_record.specs.declared.verdict.Verdict.{Verdict}
use Rattle.protect_record.specs.declared.verdict.Verdict.TheVariants as verdict
use Rattle.record_join.specs.Keys.{kept_of, with_kept}
use Rattle.record_join.specs.Repeats.{IsKeptIn}
use Rattle.record_join.specs.declared.judgement.Judged.{Judged}
use Rattle.record_join.specs.declared.judgement.Judged.TheVariants as judged

-- the key's record keeps what it kept, with more room maybe, and judges the message so
pub record HasJudged (old new : List (PubKey × Parts)) (key : PubKey) (m : Message) (v : Verdict) : Type 0 where
  pub parts : Parts
  pub is_kept : kept_of old key ≡ Some parts
  pub roomy : Parts
  pub same : SameParts parts roomy
  pub is_verdict : IsVerdict roomy m v
  pub passes : (past : Past) → Stands roomy past → ((v ≡ verdict.Pass → Passes past m) × (Passes past m → v ≡ verdict.Pass))
  pub others : new ≡ with_kept old key roomy

-- the key is kept, and its record lets the message pass and has room for it
abbrev pub IsReadyFor : List (PubKey × Parts) → PubKey → Message → Type 0
IsReadyFor kept key m = IsSomeAnd (kept_of kept key) (λ parts. IsVerdict parts m verdict.Pass × HasRoom parts m)

-- so it is with each of these
abbrev pub AreReadyFor : List (PubKey × Parts) → List (PubKey × Message) → Type 0
AreReadyFor kept listed = (one : PubKey × Message) → Contains listed one → IsReadyFor kept one.0 one.1

-- the record lets the message pass, has room for it, and keeps it already or not
pub record IsFoundReady (old new : List (PubKey × Parts)) (key : PubKey) (m : Message) (repeat : Bool) : Type 0 where
  pub is_judged : HasJudged old new key m verdict.Pass
  pub room : HasRoom is_judged.roomy m
  pub found : IsTrue repeat ↔ IsKeptIn is_judged.roomy m

-- the key's own record lets the message pass and does not keep it yet
abbrev pub IsNewIn : List (PubKey × Parts) → PubKey × Message → Type 0
IsNewIn kept one = IsSomeAnd (kept_of kept one.0) (λ parts. IsVerdict parts one.1 verdict.Pass × ¬ (IsKeptIn parts one.1))

-- so it is with each of these
abbrev pub AreNewIn : List (PubKey × Parts) → List (PubKey × Message) → Type 0
AreNewIn kept listed = (one : PubKey × Message) → Contains listed one → IsNewIn kept one

-- by how the message was judged
abbrev pub JudgesKept : List (PubKey × Parts) → List (PubKey × Parts) → PubKey → Message → Judged → Type 0
JudgesKept old new key m judged.Unknown = (kept_of old key ≡ None) × (new ≡ old)
JudgesKept old new key m (judged.Refused v) = (v ≢ verdict.Pass) × HasJudged old new key m v
JudgesKept old new key m judged.NoRoom = HasJudged old new key m verdict.Pass
JudgesKept old new key m (judged.Ready repeat) = IsFoundReady old new key m repeat

-- what the key's own record says of the message: the table's verdict (EIP-3076, conditions 1 to 5), and whether the message is kept; a key is unknown where it is not kept
abbrev pub JudgesBy : Option Parts → Message → Judged → Type 0
JudgesBy kept m judged.Unknown = kept ≡ None
JudgesBy kept m (judged.Refused v) = IsSomeAnd kept (λ parts. IsVerdict parts m v × (v ≢ verdict.Pass))
JudgesBy kept m judged.NoRoom = IsSomeAnd kept (λ parts. IsVerdict parts m verdict.Pass)
JudgesBy kept m (judged.Ready repeat) = IsSomeAnd kept (λ parts. IsVerdict parts m verdict.Pass × (IsTrue repeat ↔ IsKeptIn parts m))
