-- Replies that give no grant, and a grant that is held over further calls.
use Rattle.std.proofs.Common.{◌≡◌, ◌≢◌, ℕ, ◌+◌, ◌<◌, List, [], ◌∷◌, ◌++◌, sym, ap, ◌∙◌, subst, Contains, arith}
use Rattle.std.proofs.lemmas.List.Elements.{Contains-append_left, Contains-push}
use Rattle.edge_kit.specs.declared.bytes.PubKey.{PubKey}
use Rattle.check_sign.specs.Calls.{Counted}
use Rattle.check_sign.specs.Contents.{Contents}
use Rattle.desk_machine.specs.Given.{MayMake}
use Rattle.desk_machine.specs.Grants.{IsGrantFor, IsNumbered, grants_after, next_after}
use Rattle.desk_machine.specs.HandLaws.{stays}
use Rattle.desk_machine.specs.Kinds.{IsKind}
use Rattle.desk_machine.specs.declared.open_grant.OpenGrant.{OpenGrant}
use Rattle.desk_machine.specs.declared.call.DeskCall.{DeskCall}
use Rattle.desk_machine.specs.declared.call.DeskCall.TheVariants as call
use Rattle.desk_machine.specs.declared.call.DeskReply.{DeskReply}
use Rattle.desk_machine.specs.declared.call.DeskReply.TheVariants as reply
use Rattle.desk_machine.specs.declared.call.Outcome.{Outcome}
use Rattle.journal_trials.specs.Replies.{IsNoGrant, IsHeld}

pub of_settle : (grant : OpenGrant) (outcome : Outcome) (r : DeskReply) → IsGrantFor (call.Settle grant outcome) r → IsNoGrant r
of_settle grant outcome (reply.Granted other) h = absurd h
of_settle grant outcome r h = tt

pub of_close : (key : PubKey) (r : DeskReply) → IsKind (call.FinishClose key) r → IsNoGrant r
of_close key (reply.Granted grant) h = absurd h
of_close key r h = tt

-- what is open among these, and was given before the next
abbrev IsBelow : List OpenGrant → ℕ → OpenGrant → Type 0
IsBelow grants next grant = Contains grants grant × (grant.number < next)

none_open : (A : Type 0) (grant : OpenGrant) → Contains [] grant → A
none_open A grant h = let lt = h.1 in absurd (omega arith)

stays_below : (grants : List OpenGrant) (next : ℕ) (c : DeskCall) (r : DeskReply) (grant : OpenGrant) → MayMake [] c → IsBelow grants next grant → IsBelow (grants_after grants c r) (next_after next c r) grant
stays_below grants next (call.Propose key m now) (reply.Granted given) grant free h = let lt = h.1 in (Contains-append_left grants (given ∷ []) grant h.0, omega arith)
stays_below grants next (call.Allow key now) (reply.Granted given) grant free h = let lt = h.1 in (Contains-append_left grants (given ∷ []) grant h.0, omega arith)
stays_below grants next (call.Settle other outcome) r grant free h = none_open _ other free
stays_below grants next c r grant free h = h

-- a call that settles nothing leaves a grant open
pub stays_held : (old new : Contents) (c : DeskCall) (r : DeskReply) (grant : OpenGrant) → MayMake [] c → Counted old c r new → IsHeld old grant → IsHeld new grant
stays_held old new c r grant free counted held =
    let after = stays_below old.grants old.next c r grant free held in
    (subst (λ gs. Contains gs grant) (sym counted.grants) after.0, subst (λ n. grant.number < n) (sym counted.next) after.1)

-- a grant that a call gives has the next number
other_number : (next : ℕ) (c : DeskCall) (given grant : OpenGrant) → IsGrantFor c (reply.Granted given) → IsNumbered next c (reply.Granted given) → grant.number < next → grant.number ≢ given.number
other_number next (call.Propose key m now) given grant for is lt = λ e. absurd (omega arith)
other_number next (call.Allow key now) given grant for is lt = λ e. absurd (omega arith)
other_number next c given grant for is lt = absurd for

-- and so does another grant that is given and settled at once
pub stays_beside : (old mid new : Contents) (c : DeskCall) (second grant : OpenGrant) (outcome : Outcome) → MayMake [] c → Counted old c (reply.Granted second) mid → Counted mid (call.Settle second outcome) reply.Settled new
    → IsHeld old grant → IsHeld new grant
stays_beside old mid new c second grant outcome free given settled held =
    let after = stays_held old mid c (reply.Granted second) grant free given held in
    let apart = other_number old.next c second grant given.granted given.number held.1 in
    (subst (λ gs. Contains gs grant) (sym settled.grants) (stays mid.grants second.number grant after.0 apart), subst (λ n. grant.number < n) (sym settled.next) after.1)

first_below : (grants : List OpenGrant) (next : ℕ) (c : DeskCall) (grant : OpenGrant) → IsGrantFor c (reply.Granted grant) → IsNumbered next c (reply.Granted grant)
    → IsBelow (grants_after grants c (reply.Granted grant)) (next_after next c (reply.Granted grant)) grant
first_below grants next (call.Propose key m now) grant for is = (Contains-push grants grant, omega arith)
first_below grants next (call.Allow key now) grant for is = (Contains-push grants grant, omega arith)
first_below grants next c grant for is = absurd for

-- a grant that a call gives is held
pub held_first : (old new : Contents) (c : DeskCall) (grant : OpenGrant) → Counted old c (reply.Granted grant) new → IsHeld new grant
held_first old new c grant counted =
    let after = first_below old.grants old.next c grant counted.granted counted.number in
    (subst (λ gs. Contains gs grant) (sym counted.grants) after.0, subst (λ n. grant.number < n) (sym counted.next) after.1)
