-- The open grants and their numbers.
use Rattle.std.specs.Prelude.{◌≡◌, ℕ, ◌+◌, ◌<◌, ◌==◌, if◌then◌else◌, List, [], ◌∷◌, ◌++◌, Contains, All, AllPairs, None, Some, count_by}
use Rattle.std.specs.BTreeMap.{is_at}
use Rattle.edge_kit.specs.declared.bytes.PubKey.{PubKey}
use Rattle.record_join.specs.Keys.{key_cmp}
use Rattle.desk_machine.specs.declared.open_grant.OpenGrant.{OpenGrant}
use Rattle.desk_machine.specs.declared.call.DeskCall.{DeskCall}
use Rattle.desk_machine.specs.declared.call.DeskCall.TheVariants as call
use Rattle.desk_machine.specs.declared.call.DeskReply.{DeskReply}
use Rattle.desk_machine.specs.declared.call.DeskReply.TheVariants as reply

-- how many grants of a key are open
abbrev pub open_grants : List OpenGrant → PubKey → ℕ
open_grants grants key = count_by (λ g. is_at (key_cmp key) g.key) grants

-- the open grants without the one of this number, of which there is one
abbrev pub without : List OpenGrant → ℕ → List OpenGrant
without [] number = []
without (g ∷ gs) number = if g.number == number then gs else g ∷ without gs number

-- a grant that was given is open
abbrev pub IsOpenIn : List OpenGrant → DeskReply → Type 0
IsOpenIn grants (reply.Granted grant) = Contains grants grant
IsOpenIn grants r = Unit {0}

-- a grant is of the key and the message that were proposed, or of the key alone, and comes for these two calls alone
abbrev pub IsGrantFor : DeskCall → DeskReply → Type 0
IsGrantFor (call.Propose key m now) (reply.Granted grant) = (grant.key ≡ key) × (grant.message ≡ Some m)
IsGrantFor (call.Allow key now) (reply.Granted grant) = (grant.key ≡ key) × (grant.message ≡ None)
IsGrantFor c (reply.Granted grant) = ⊥
IsGrantFor c r = Unit {0}

-- the open grants after a call
abbrev pub grants_after : List OpenGrant → DeskCall → DeskReply → List OpenGrant
grants_after grants (call.Propose key m now) (reply.Granted grant) = grants ++ grant ∷ []
grants_after grants (call.Allow key now) (reply.Granted grant) = grants ++ grant ∷ []
grants_after grants (call.Settle grant outcome) reply.Settled = without grants grant.number
grants_after grants c r = grants

-- the number of the next grant after a call
abbrev pub next_after : ℕ → DeskCall → DeskReply → ℕ
next_after next (call.Propose key m now) (reply.Granted grant) = next + 1
next_after next (call.Allow key now) (reply.Granted grant) = next + 1
next_after next c r = next

-- a grant that is given has the next number
abbrev pub IsNumbered : ℕ → DeskCall → DeskReply → Type 0
IsNumbered next (call.Propose key m now) (reply.Granted grant) = grant.number ≡ next
IsNumbered next (call.Allow key now) (reply.Granted grant) = grant.number ≡ next
IsNumbered next c r = Unit {0}

-- each open grant has a number below the next, and they ascend: no number is given twice
pub record AreNumbered (grants : List OpenGrant) (next : ℕ) : Type 0 where
  pub below : All (λ g. g.number < next) grants
  pub ascend : AllPairs (λ a b. a.number < b.number) grants

-- the open grants, the number of the next one, and room for so many more
pub record Ledger : Type 0 where
  pub grants : List OpenGrant
  pub next : ℕ
  pub room : ℕ

-- a key is closed where none of its grants is open, and otherwise it is told how many are
abbrev pub IsIdleOrBusy : List OpenGrant → DeskCall → DeskReply → Type 0
IsIdleOrBusy grants (call.FinishClose key) (reply.Closed book) = open_grants grants key ≡ 0
IsIdleOrBusy grants (call.FinishClose key) (reply.Busy n) = (n ≡ open_grants grants key) × (0 < n)
IsIdleOrBusy grants c r = Unit {0}
