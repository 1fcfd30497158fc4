-- What one line did at a bench: a desk with its disks, and a signer.
use Rattle.std.specs.Prelude.{◌≡◌, ℕ, List, [], ◌∷◌, ◌++◌, map, Option, None, Some, IsSome, IfSome, Result, Ok, Err}
use Rattle.std.specs.Map.{keys_of}
use Rattle.record_journal.specs.TwoDisks.{FaultsLater, EitherRose}
use Rattle.record_join.specs.BooksPasts.{EachOnce}
use Rattle.slash_defs.specs.declared.message.Message.{Message}
use Rattle.session_format.specs.declared.chain.SessionChain.{SessionChain}
use Rattle.signer_link.specs.declared.request.SignRequest.{SignRequest}
use Rattle.signer_link.specs.declared.reply.SignReply.{SignReply}
use Rattle.check_sign.specs.Contents.{Seen, disks_in}
use Rattle.check_sign.specs.Paths.{Path}
use Rattle.desk_machine.specs.Given.{given}
use Rattle.desk_machine.specs.declared.open_grant.OpenGrant.{OpenGrant}
use Rattle.desk_machine.specs.declared.call.DeskCall.TheVariants as call
use Rattle.desk_machine.specs.declared.call.DeskReply.TheVariants as reply
use Rattle.desk_machine.specs.declared.call.Outcome.TheVariants.{Dropped}
use Rattle.call_plans.specs.Plans.{Follows}
use Rattle.client_calls.specs.Steps.{ClientStep, ClientPlan, Calls, Signs, Replies, Signed, Fits, desk_calls}
use Rattle.client_calls.specs.Seats.{Seat, Makes}
use Rattle.session_format.specs.Answers.{answer_text}
use Rattle.session_format.specs.declared.answer.Answer.{Answer}
use Rattle.session_format.specs.declared.request.Op.{Op}
use Rattle.session_format.specs.declared.request.Op.TheVariants as op
use Rattle.session_format.specs.declared.request.Request.{Request}
use Rattle.session_format.specs.declared.member.Member.{Member}
use Rattle.session_run.specs.Plans.{line_plan, signs}
use Rattle.session_run.specs.Turns.{Turn, IsPlanned}

-- a bench: a desk with its disks, and a signer
abbrev pub AtBench : Type 0 → Type 0
AtBench D = Seat (Seen D)

-- How a desk with its disks fared: no count of faults has fallen, a desk that was up failed only where one rose, and the chain is the
-- same. Which disk is written and which file is current, each call says for itself.
pub record DeskFares {D : Type 0} (faults : D → ℕ) (old new : Seen D) : Type 0 where
  pub later : FaultsLater faults (disks_in old) (disks_in new)
  pub fails : old.contents.torn ≡ None → IsSome new.contents.torn → EitherRose faults (disks_in old) (disks_in new)
  pub genesis : new.contents.genesis ≡ old.contents.genesis

-- these steps led from the one bench to the other: the calls of its desk, each with all that holds of a call whether or not the desk
-- stands for a state, and what the signer tells and counts
abbrev pub MakesAt : {D : Type 0} → (D → ℕ) → (D → ℕ → List ℕ → Type 0) → (D → ℕ) → AtBench D → List ClientStep → AtBench D → Type 0
MakesAt {D} moment leaves faults before steps now = Makes (λ (d : Seen D) xs e. Path moment leaves faults d xs e) before steps now

-- what a line asks was done, and is answered
pub record Turned {D : Type 0} (moment : D → ℕ) (leaves : D → ℕ → List ℕ → Type 0) (faults : D → ℕ) (chain : SessionChain) (latest : ℕ) (t : Turn) (before now : AtBench D) : Type 0 where
  pub planned : IsPlanned chain (keys_of before.desk.contents.keys) latest t
  pub makes : MakesAt moment leaves faults before t.steps now

-- a grant is dropped
abbrev pub drop_of : OpenGrant → ClientStep
drop_of grant = (Calls (call.Settle grant Dropped), Replies reply.Settled)

-- The steps of a line that is not answered, since memory ran out: the first few of what it asks; and each grant that they gave and
-- did not settle is dropped.
pub record BreaksOff (plan : ClientPlan Answer) (steps : List ClientStep) : Type 0 where
  pub front : List ClientStep
  pub follows : Follows Fits plan front None
  pub steps_are : steps ≡ front ++ map drop_of (given [] (desk_calls front))

-- a plan was begun at a bench, and is not answered
pub record Broken {D : Type 0} (moment : D → ℕ) (leaves : D → ℕ → List ℕ → Type 0) (faults : D → ℕ) (plan : ClientPlan Answer) (before now : AtBench D) : Type 0 where
  pub steps : List ClientStep
  pub breaks_off : BreaksOff plan steps
  pub makes : MakesAt moment leaves faults before steps now

abbrev pub Unanswered : {D : Type 0} → (D → ℕ) → (D → ℕ → List ℕ → Type 0) → (D → ℕ) → SessionChain → ℕ → Result Request Member → AtBench D → AtBench D → Type 0
Unanswered moment leaves faults chain latest q before now = Broken moment leaves faults (line_plan chain (keys_of before.desk.contents.keys) latest q) before now

-- a plan was carried out at a bench, and this is the text of its answer
pub record Answered {D : Type 0} (moment : D → ℕ) (leaves : D → ℕ → List ℕ → Type 0) (faults : D → ℕ) (plan : ClientPlan Answer) (before now : AtBench D) (text : List ℕ) : Type 0 where
  pub steps : List ClientStep
  pub answer : Answer
  pub follows : Follows Fits plan steps (Some answer)
  pub makes : MakesAt moment leaves faults before steps now
  pub text_is : text ≡ answer_text answer

-- how a plan ends at a bench
abbrev pub PlanEnds : {D T E : Type 0} → (D → ℕ) → (D → ℕ → List ℕ → Type 0) → (D → ℕ) → (T → List ℕ) → ClientPlan Answer → AtBench D → AtBench D → Result T E → Type 0
PlanEnds moment leaves faults bytes plan before now (Ok text) = Answered moment leaves faults plan before now (bytes text)
PlanEnds moment leaves faults bytes plan before now (Err e) = Broken moment leaves faults plan before now

-- the text of an answer, where there is one
abbrev pub IsLineOf : {T E : Type 0} → (T → List ℕ) → Option Answer → Result T E → Type 0
IsLineOf bytes given (Ok text) = (a : Answer) × (given ≡ Some a) × (bytes text ≡ answer_text a)
IsLineOf bytes given (Err e) = Unit {0}

-- under a grant its message was signed, or not, and the grant is dropped
pub record SignDropped {D : Type 0} (moment : D → ℕ) (leaves : D → ℕ → List ℕ → Type 0) (faults : D → ℕ) (request : SignRequest) (grant : OpenGrant) (before now : AtBench D) : Type 0 where
  pub message : Message
  pub is_message : grant.message ≡ Some message
  pub signing : SignReply
  pub makes : MakesAt moment leaves faults before ((Signs grant request, Signed signing) ∷ drop_of grant ∷ []) now

-- how the signing under a grant ends
abbrev pub SignEnds : {D T E : Type 0} → (D → ℕ) → (D → ℕ → List ℕ → Type 0) → (D → ℕ) → (T → List ℕ) → SignRequest → OpenGrant → AtBench D → AtBench D → Result T E → Type 0
SignEnds moment leaves faults bytes request grant before now (Ok text) = Answered moment leaves faults (signs request grant grant.message) before now (bytes text)
SignEnds moment leaves faults bytes request grant before now (Err e) = SignDropped moment leaves faults request grant before now

-- a file that is to be merged lists each key once
abbrev pub ListsOnce : Op → Type 0
ListsOnce (op.Merge file) = EachOnce file.books
ListsOnce (op.Import file keystores) = IfSome file (λ f. EachOnce f.books)
ListsOnce o = Unit {0}
