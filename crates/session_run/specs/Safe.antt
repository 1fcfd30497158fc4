-- What every run keeps: nothing slashable is sent, and a proposal that passes is granted, where the key's watch allows it, the journal has room and its disk works.
use Rattle.std.specs.Prelude.{◌≡◌, ◌++◌, ◌⊎◌, List, [], ◌∷◌, All, Option, Some, None, IfSome, IsSome, Result, Ok, Err}
use Rattle.edge_kit.specs.declared.bytes.PubKey.{PubKey}
use Rattle.slash_defs.specs.declared.message.Message.{Message}
use Rattle.slash_defs.specs.Lists.{SafeList}
use Rattle.protect_record.specs.Pasts.{Past}
use Rattle.protect_record.specs.Passing.{Passes, Covers}
use Rattle.desk_machine.specs.States.{State, IsAllowed, active_past}
use Rattle.desk_machine.specs.Machine.{after}
use Rattle.desk_machine.specs.declared.call.DeskCall.{DeskCall}
use Rattle.desk_machine.specs.declared.call.DeskReply.{DeskReply}
use Rattle.client_calls.specs.Machines.{state_after}
use Rattle.client_calls.specs.Steps.{ClientStep, desk_calls, sent_in}
use Rattle.session_run.specs.Durable.{CoversKey}
use Rattle.session_run.specs.Turns.{Turn, calls_of}
use Rattle.session_format.specs.declared.answer.Answer.{Answer}
use Rattle.session_format.specs.declared.answer.Answer.TheVariants as answer
use Rattle.session_format.specs.declared.request.Op.{Op}
use Rattle.session_format.specs.declared.request.Op.TheVariants as op
use Rattle.session_format.specs.declared.request.Request.{Request}
use Rattle.session_format.specs.declared.member.Member.{Member}

-- where the key is active, its past covers the message
abbrev pub OnActive : State → PubKey × Message → Type 0
OnActive state sent = IfSome (active_past state sent.0) (λ past. Covers past sent.1)

-- the past covers the message now, or, where the key is not active yet, later
abbrev pub NowOrLater : Option Past → Message → Type 0 → Type 0
NowOrLater None m later = later
NowOrLater (Some past) m later = Covers past m

-- the past of the message's key covers it at the start, where the key is active, and else at its first activation of these calls
abbrev pub CoveredOnceActive : State → List (DeskCall × DeskReply) → PubKey × Message → Type 0
CoveredOnceActive state [] sent = OnActive state sent
CoveredOnceActive state (x ∷ made) sent = NowOrLater (active_past state sent.0) sent.1 (CoveredOnceActive (after state x.0 x.1) made sent)

-- the key was active at some point: at the start, or after a call
abbrev pub WasActive : State → List (DeskCall × DeskReply) → PubKey → Type 0
WasActive state [] key = IsSome (active_past state key)
WasActive state (x ∷ made) key = IsSome (active_past state key) ⊎ WasActive (after state x.0 x.1) made key

-- where the key of a message was active, a past is kept of it at the end that covers the message
abbrev pub CoveredInTheEnd : State → List (DeskCall × DeskReply) → PubKey × Message → Type 0
CoveredInTheEnd state made sent = WasActive state made sent.0 → CoversKey (state_after state made).keys sent.0 sent.1

-- Whatever was signed before, safe and covered, is safe beside what is sent in these steps; and each of these messages is covered in
-- the end where its key was active meanwhile, and so will be once the key is active again.
abbrev pub StaysSafe : State → List ClientStep → Type 0
StaysSafe state steps = (before : List (PubKey × Message)) → SafeList before → All (CoveredOnceActive state (desk_calls steps)) before
    → SafeList (before ++ sent_in steps) × All (CoveredInTheEnd state (desk_calls steps)) (before ++ sent_in steps)

-- a proposal of an active key that its past lets pass and its watch allows is granted, but where the journal is at a limit or the disk failed; and
-- what is granted has its signature, but where the signer lacks the key, refused, failed or answered with something else
abbrev pub IsCarriedOut : Answer → Type 0
IsCarriedOut (answer.Signed signature root) = Unit {0}
IsCarriedOut (answer.Unsigned c) = Unit {0}
IsCarriedOut (answer.Full size wanted) = Unit {0}
IsCarriedOut answer.Disk = Unit {0}
IsCarriedOut a = ⊥

abbrev pub CompleteOp : State → Op → Answer → Type 0
CompleteOp state (op.Propose key m object) a = (past : Past) → active_past state key ≡ Some past → Passes past m → IsAllowed state key → IsCarriedOut a
CompleteOp state o a = Unit {0}

abbrev pub IsComplete : State → Result Request Member → Answer → Type 0
IsComplete state (Err m) a = Unit {0}
IsComplete state (Ok q) a = CompleteOp state q.op a

abbrev pub AllComplete : State → List Turn → Type 0
AllComplete state [] = Unit {0}
AllComplete state (t ∷ ts) = IsComplete state t.request t.answer × AllComplete (state_after state (calls_of t)) ts
