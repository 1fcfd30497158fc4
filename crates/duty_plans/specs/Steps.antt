-- What a duty calls of the desk, the signing service and the beacon nodes, step by step, and what these tell of that.
use Rattle.std.specs.Prelude.{◌≡◌, ℕ, zero, suc, Bool, true, false, List, [], ◌∷◌, flat_map, Option, Some, None, Result, Ok, Err, IfOk}
use Rattle.std.specs.List.{list_any}
use Rattle.slash_defs.specs.declared.message.Message.{Message}
use Rattle.desk_machine.specs.Grants.{IsGrantFor}
use Rattle.desk_machine.specs.Kinds.{IsKind}
use Rattle.desk_machine.specs.declared.open_grant.OpenGrant.{OpenGrant}
use Rattle.desk_machine.specs.declared.call.DeskCall.{DeskCall}
use Rattle.desk_machine.specs.declared.call.DeskReply.{DeskReply}
use Rattle.signer_link.specs.Outcomes.{sign_denied, sign_failed}
use Rattle.signer_link.specs.Signing.{asked, plainly_asked, told_plain, told_sign}
use Rattle.signer_link.specs.declared.request.SignRequest.{SignRequest}
use Rattle.signer_link.specs.declared.request.PlainRequest.{PlainRequest}
use Rattle.signer_link.specs.declared.reply.SignReply.{SignReply}
use Rattle.signer_link.specs.declared.reply.Told.{Told}
use Rattle.node_calls.specs.Asking.{posted, told_ask, told_post}
use Rattle.node_calls.specs.Fitting.{fits}
use Rattle.node_calls.specs.declared.ask.Ask.{Ask}
use Rattle.node_calls.specs.declared.answer.Answer.{Answer}
use Rattle.node_calls.specs.declared.answer.NodeFault.{NodeFault}
use Rattle.node_calls.specs.declared.answer.NodeFault.TheVariants as fault
use Rattle.node_calls.specs.declared.post.Post.{Post}
use Rattle.node_calls.specs.declared.told.NodeCall.{NodeCall}
use Rattle.node_fallback.specs.InOrder.{causes, given_by, told_turn}
use Rattle.node_fallback.specs.declared.no_node.NoAnswer.{NoAnswer}
use Rattle.node_fallback.specs.declared.no_node.NoAnswer.TheVariants as none
use Rattle.call_plans.specs.Plans.{Plan}

-- a call of the desk; under a grant, a call of the service to sign its message, or something else; a question to the nodes; and a
-- post of what was signed under a grant
pub data DutyCall : Type 0 where
  Calls : DeskCall → DutyCall
  Signs : OpenGrant → SignRequest → DutyCall
  Reveals : OpenGrant → PlainRequest → DutyCall
  Asks : Ask → DutyCall
  Posts : OpenGrant → Post → DutyCall

-- the nodes that were tried, in order, each with its reply, if it was not passed over; None: memory ran out before any was
abbrev pub Tried : Type 0 → Type 0
Tried A = Option (List (Option (Result A NodeFault)))

pub data DutyReply : Type 0 where
  Replies : DeskReply → DutyReply
  Signed : SignReply → DutyReply
  Answered : Tried Answer → DutyReply
  Taken : Tried (Unit {0}) → DutyReply

abbrev pub DutyStep : Type 0
DutyStep = DutyCall × DutyReply

abbrev pub DutyPlan : Type 0 → Type 0
DutyPlan X = Plan DutyCall DutyReply X

-- what comes of it: the first thing that a node gave, or why each gave none
abbrev pub came_of : {A : Type 0} → Tried A → Result A NoAnswer
came_of None = Err none.OutOfMemory
came_of (Some replies) = given_by (causes replies) replies

-- the reply is one that the call may have
abbrev pub Fits : DutyCall → DutyReply → Type 0
Fits (Calls c) (Replies r) = IsKind c r × IsGrantFor c r
Fits (Signs grant q) (Signed s) = Unit {0}
Fits (Reveals grant q) (Signed s) = Unit {0}
Fits (Asks a) (Answered tried) = IfOk (came_of tried) (λ answer. fits a answer ≡ true)
Fits (Posts grant p) (Taken tried) = Unit {0}
Fits c r = ⊥

-- ---- what is told of a step

-- the calls of the desk
abbrev pub step_calls : DutyStep → List (DeskCall × DeskReply)
step_calls (Calls c, Replies r) = (c, r) ∷ []
step_calls s = []

-- the service tells the grant's message, if it has one
abbrev pub told_message : OpenGrant → SignRequest → Option Message → SignReply → List Told
told_message grant q None s = []
told_message grant q (Some m) s = told_sign (asked grant.key m q) s

abbrev pub step_told : DutyStep → List Told
step_told (Signs grant q, Signed s) = told_message grant q grant.message s
step_told (Reveals grant q, Signed s) = told_plain (plainly_asked grant.key q) s
step_told s = []

-- the service failed, or refused
abbrev pub step_failed : DutyStep → Bool
step_failed (Signs grant q, Signed s) = sign_failed s
step_failed (Reveals grant q, Signed s) = sign_failed s
step_failed s = false

abbrev pub step_denied : DutyStep → Bool
step_denied (Signs grant q, Signed s) = sign_denied s
step_denied (Reveals grant q, Signed s) = sign_denied s
step_denied s = false

-- what the node at a place tells of its turn, if it had one
abbrev pub told_at : {A : Type 0} → (Result A NodeFault → List NodeCall) → List (Option (Result A NodeFault)) → ℕ → List NodeCall
told_at told [] place = []
told_at told (r ∷ rs) zero = told_turn told r
told_at told (r ∷ rs) (suc place) = told_at told rs place

abbrev pub told_of : {A : Type 0} → (Result A NodeFault → List NodeCall) → Tried A → ℕ → List NodeCall
told_of told None place = []
told_of told (Some replies) place = told_at told replies place

abbrev pub step_node : ℕ → DutyStep → List NodeCall
step_node place (Asks a, Answered tried) = told_of (told_ask a) tried place
step_node place (Posts grant p, Taken tried) = told_of (told_post (posted grant.key grant.message p)) tried place
step_node place s = []

-- whether that node failed
abbrev pub is_fault : {A : Type 0} → Option (Result A NodeFault) → Bool
is_fault None = false
is_fault (Some (Ok value)) = false
is_fault (Some (Err fault.Fault)) = true
is_fault (Some (Err (fault.Status status))) = false
is_fault (Some (Err (fault.Unreadable body))) = false
is_fault (Some (Err fault.OutOfMemory)) = false

abbrev pub failed_at : {A : Type 0} → List (Option (Result A NodeFault)) → ℕ → Bool
failed_at [] place = false
failed_at (r ∷ rs) zero = is_fault r
failed_at (r ∷ rs) (suc place) = failed_at rs place

abbrev pub failed_of : {A : Type 0} → Tried A → ℕ → Bool
failed_of None place = false
failed_of (Some replies) place = failed_at replies place

abbrev pub step_node_failed : ℕ → DutyStep → Bool
step_node_failed place (Asks a, Answered tried) = failed_of tried place
step_node_failed place (Posts grant p, Taken tried) = failed_of tried place
step_node_failed place s = false

-- ---- and of all steps

abbrev pub desk_calls : List DutyStep → List (DeskCall × DeskReply)
desk_calls steps = flat_map step_calls steps

abbrev pub told_in : List DutyStep → List Told
told_in steps = flat_map step_told steps

abbrev pub has_failed : List DutyStep → Bool
has_failed steps = list_any step_failed steps

abbrev pub has_denied : List DutyStep → Bool
has_denied steps = list_any step_denied steps

-- of the node at a place
abbrev pub node_told : List DutyStep → ℕ → List NodeCall
node_told steps place = flat_map (step_node place) steps

abbrev pub node_failed : List DutyStep → ℕ → Bool
node_failed steps place = list_any (step_node_failed place) steps
