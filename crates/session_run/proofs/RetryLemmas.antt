-- What custody says of plans that are carried out again, said of a session's lines.
use Rattle.std.proofs.Common.{◌≡◌, ℕ, List, [], ◌∷◌, Some, Result, refl, sym, ◌∙◌, ap, subst}
use Rattle.edge_kit.specs.declared.bytes.PubKey.{PubKey}
use Rattle.slash_defs.specs.declared.book.File.{File}
use Rattle.session_format.specs.declared.chain.SessionChain.{SessionChain}
use Rattle.desk_machine.specs.States.{State}
use Rattle.desk_machine.specs.Machine.{after}
use Rattle.desk_machine.specs.declared.call.DeskCall.{DeskCall}
use Rattle.desk_machine.specs.declared.call.DeskReply.{DeskReply}
use Rattle.call_plans.specs.Plans.{Plan, Done, Stop, Ask, bind, Follows}
use Rattle.client_calls.specs.Machines.{CanMake, state_after}
use Rattle.client_calls.specs.Steps.{Fits}
use Rattle.key_custody.specs.Once.{MachineRun, AreFine}
use Rattle.key_custody.specs.Plans.{import_plan, deletion_plan}
use Rattle.key_custody.specs.declared.import.ImportEnd.{ImportEnd}
use Rattle.key_custody.specs.declared.import.ImportEnd.TheVariants as ending
use Rattle.key_custody.specs.declared.status.DeskRefusal.{DeskRefusal}
use Rattle.key_custody.specs.declared.status.DeskRefusal.TheVariants as refusal
use Rattle.key_custody.specs.declared.status.KeyStatus.{KeyStatus}
use Rattle.key_custody.proofs.AgainLemmas.{deletes_once as again_deleted}
use Rattle.key_custody.proofs.ImportAgainLemmas.{imports_once as again_imported}
use Rattle.session_format.specs.declared.answer.Answer.{Answer}
use Rattle.session_format.specs.declared.answer.Answer.TheVariants as answer
use Rattle.session_format.specs.declared.request.Op.{Op}
use Rattle.session_format.specs.declared.request.Op.TheVariants as op
use Rattle.session_format.specs.Answers.{refusal_answer}
use Rattle.session_format.specs.declared.request.Request.{Request}
use Rattle.session_format.specs.declared.member.Member.{Member}
use Rattle.session_run.specs.Plans.{import_answer, line_plan, moment_at, op_plan}
use Rattle.session_run.specs.Retries.{AsksFor, DeletesOnce, ImportsOnce}
use Rattle.session_run.specs.Turns.{Turn, IsPlanned, calls_of}

-- ---- what a plan gave whose value was read off

given_of : {C R X Y : Type 0} (fits : C → R → Type 0) (p : Plan C R X) (f : X → Y) (steps : List (C × R)) (y : Y) → Follows fits (bind p (λ x. Done (f x))) steps (Some y) → (x : X) × Follows fits p steps (Some x) × (y ≡ f x)
given_of fits (Done x) f [] y h = (x, refl, h)
given_of fits (Done x) f (s ∷ steps) y h = absurd h
given_of fits Stop f [] y h = absurd h
given_of fits Stop f (s ∷ steps) y h = absurd h
given_of fits (Ask c k) f [] y h = absurd h
given_of fits (Ask c k) f (s ∷ steps) y h = let r = given_of fits (k s.1) f steps y h.2 in (r.0, (h.0, h.1, r.1), r.2)

machine_run : (a : State) (xs : List (DeskCall × DeskReply)) → CanMake a xs → MachineRun a xs (state_after a xs)
machine_run a [] can = refl
machine_run a (x ∷ xs) can = (after a x.0 x.1, (can.0, refl), machine_run (after a x.0 x.1) xs can.1)

-- the steps of a line are those of the plan of what it asks for
asked_steps : (chain : SessionChain) (kept : List PubKey) (latest : ℕ) (t : Turn) (asked : Op) → (asks : AsksFor t asked) → IsPlanned chain kept latest t → Follows Fits (op_plan chain kept (moment_at latest asks.0) asked) t.steps (Some t.answer)
asked_steps chain kept latest t asked asks planned =
    let L : Result Request Member → Type 0 = λ q. Follows Fits (line_plan chain kept latest q) t.steps (Some t.answer) in
    let O : Op → Type 0 = λ o. Follows Fits (op_plan chain kept (moment_at latest asks.0) o) t.steps (Some t.answer) in
    subst O asks.2 (subst L asks.1 planned)

-- ---- deletions

abbrev statuses_in : Answer → List KeyStatus → List KeyStatus
statuses_in (answer.Deleted statuses file) none = statuses
statuses_in a none = none

abbrev file_in : Answer → File → File
file_in (answer.Deleted statuses file) none = file
file_in a none = none

pub deletes_once : DeletesOnce
deletes_once chain later kept kept_then latest latest_then keys first second a c between statuses file asks planned answered fine whole up can way never asks_then planned_then can_then =
    let one = given_of Fits (deletion_plan keys) (λ d. answer.Deleted d.statuses d.file) first.steps first.answer (asked_steps chain kept latest first (op.Delete keys) asks planned) in
    let two = given_of Fits (deletion_plan keys) (λ d. answer.Deleted d.statuses d.file) second.steps second.answer (asked_steps later kept_then latest_then second (op.Delete keys) asks_then planned_then) in
    let same : answer.Deleted one.0.statuses one.0.file ≡ answer.Deleted statuses file = sym one.2 ∙ answered in
    let same_statuses : one.0.statuses ≡ statuses = ap (λ (x : Answer). statuses_in x []) same in
    let same_file : one.0.file ≡ file = ap (λ (x : Answer). file_in x file) same in
    let b = state_after a (calls_of first) in
    let d = state_after c (calls_of second) in
    let law = again_deleted keys a b c d first.steps second.steps between one.0 (Some two.0) whole up (machine_run a (calls_of first) can) one.1 (subst AreFine (sym same_statuses) fine) way never (machine_run c (calls_of second) can_then) two.1 in (
      law.0,
      law.1,
      λ quiet again file_again is.
          let there : two.0.file ≡ file_again = ap (λ (x : Answer). file_in x file_again) (sym two.2 ∙ is) in
          sym there ∙ law.2 quiet ∙ same_file,
    )

-- ---- imports

no_refusal : (d : DeskRefusal) (statuses : List KeyStatus) → refusal_answer d ≡ answer.Imported statuses → ⊥
no_refusal (refusal.GenesisDiffers kept given) statuses e = cc
no_refusal (refusal.TooManyKeys have more) statuses e = cc
no_refusal (refusal.Full size wanted) statuses e = cc
no_refusal refusal.Disk statuses e = cc
no_refusal refusal.Closing statuses e = cc
no_refusal refusal.Unknown statuses e = cc
no_refusal (refusal.NotClosing state) statuses e = cc
no_refusal (refusal.Busy grants) statuses e = cc

abbrev imported_in : Answer → List KeyStatus → List KeyStatus
imported_in (answer.Imported statuses) none = statuses
imported_in a none = none

treated_is : (e : ImportEnd) (statuses : List KeyStatus) → import_answer e ≡ answer.Imported statuses → e ≡ ending.Treated statuses
treated_is (ending.Treated s) statuses h = ap ending.Treated (ap (λ (x : Answer). imported_in x []) h)
treated_is (ending.MergeRefused d) statuses h = absurd (no_refusal d statuses h)

pub imports_once : ImportsOnce
imports_once chain later kept kept_then latest latest_then file keystores first second a c between statuses once asks planned answered fine whole up can way never asks_then planned_then can_then =
    let now = moment_at latest asks.0 in
    let then = moment_at latest_then asks_then.0 in
    let one = given_of Fits (import_plan file now keystores) import_answer first.steps first.answer (asked_steps chain kept latest first (op.Import file keystores) asks planned) in
    let two = given_of Fits (import_plan file then keystores) import_answer second.steps second.answer (asked_steps later kept_then latest_then second (op.Import file keystores) asks_then planned_then) in
    let treated = treated_is one.0 statuses (sym one.2 ∙ answered) in
    let F : ImportEnd → Type 0 = λ e. Follows Fits (import_plan file now keystores) first.steps (Some e) in
    again_imported file keystores now then a (state_after a (calls_of first)) c (state_after c (calls_of second)) first.steps second.steps between statuses (Some two.0) once whole up
    (machine_run a (calls_of first) can) (subst F treated one.1) fine way never (machine_run c (calls_of second) can_then) two.1
