-- One line of a session, and many.
use Rattle.std.specs.Prelude.{◌≡◌, ℕ, List, [], ◌∷◌, flat_map, map, Some, Result}
use Rattle.std.specs.Map.{keys_of}
use Rattle.edge_kit.specs.declared.bytes.PubKey.{PubKey}
use Rattle.slash_defs.specs.declared.message.Message.{Message}
use Rattle.session_format.specs.declared.chain.SessionChain.{SessionChain}
use Rattle.signer_link.specs.declared.reply.Told.{Told}
use Rattle.desk_machine.specs.States.{State}
use Rattle.desk_machine.specs.declared.call.DeskCall.{DeskCall}
use Rattle.desk_machine.specs.declared.call.DeskReply.{DeskReply}
use Rattle.call_plans.specs.Plans.{Follows}
use Rattle.client_calls.specs.Steps.{ClientStep, Fits, desk_calls, told_in, sent_in}
use Rattle.client_calls.specs.Machines.{state_after}
use Rattle.session_format.specs.Requests.{request_of}
use Rattle.session_format.specs.Answers.{answer_text}
use Rattle.session_format.specs.declared.request.Request.{Request}
use Rattle.session_format.specs.declared.member.Member.{Member}
use Rattle.session_format.specs.declared.answer.Answer.{Answer}
use Rattle.session_run.specs.Plans.{line_plan, moment_by}

-- a line with what it asks, the steps that were taken for it, and its answer
pub record Turn : Type 0 where
  pub line : List ℕ
  pub request : Result Request Member
  pub steps : List ClientStep
  pub answer : Answer

-- each turn's request is its line's
abbrev pub AskAsWritten : SessionChain → List Turn → Type 0
AskAsWritten chain ts = map (λ t. t.request) ts ≡ map (λ t. request_of chain t.line) ts

-- The steps are the plan's of what the line asks, and this is its answer: with these keys kept, where the latest moment that a
-- line named was this.
abbrev pub IsPlanned : SessionChain → List PubKey → ℕ → Turn → Type 0
IsPlanned chain kept latest t = Follows Fits (line_plan chain kept latest t.request) t.steps (Some t.answer)

abbrev pub calls_of : Turn → List (DeskCall × DeskReply)
calls_of t = desk_calls t.steps

-- each turn did what its line asks, one after another, from this state of the desk on
abbrev pub AllPlanned : SessionChain → ℕ → State → List Turn → Type 0
AllPlanned chain latest state [] = Unit {0}
AllPlanned chain latest state (t ∷ ts) = IsPlanned chain (keys_of state.keys) latest t × AllPlanned chain (moment_by latest t.request) (state_after state (calls_of t)) ts

-- the greatest moment that was named
abbrev pub moment_after : ℕ → List Turn → ℕ
moment_after moment [] = moment
moment_after moment (t ∷ ts) = moment_after (moment_by moment t.request) ts

abbrev pub line_of : Turn → List ℕ
line_of t = t.line

-- the bytes that are written
abbrev pub text_of : Turn → List ℕ
text_of t = answer_text t.answer

abbrev pub written : List Turn → List ℕ
written ts = flat_map text_of ts

-- all steps: the calls of the desk, the calls that the signer tells, and the messages whose signatures it gave are those in them
abbrev pub steps_in : Turn → List ClientStep
steps_in t = t.steps

abbrev pub steps_of : List Turn → List ClientStep
steps_of ts = flat_map steps_in ts

abbrev pub made : List Turn → List (DeskCall × DeskReply)
made ts = desk_calls (steps_of ts)

abbrev pub told : List Turn → List Told
told ts = told_in (steps_of ts)

abbrev pub sent : List Turn → List (PubKey × Message)
sent ts = sent_in (steps_of ts)
