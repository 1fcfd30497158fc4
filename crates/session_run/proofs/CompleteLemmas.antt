-- Nothing is refused without cause.
use Rattle.std.proofs.Common.{◌≡◌, inl, inr, ℕ, Bool, true, false, cond, List, [], ◌∷◌, Option, Some, None, Result, Ok, Err, refl, sym, ◌∙◌, subst}
use Rattle.std.specs.Prelude.{unwrap_or}
use Rattle.std.specs.Map.{keys_of}
use Rattle.edge_kit.specs.declared.bytes.PubKey.{PubKey}
use Rattle.slash_defs.specs.declared.message.Message.{Message}
use Rattle.protect_record.specs.Pasts.{Past}
use Rattle.protect_record.specs.Passing.{Passes}
use Rattle.session_format.specs.declared.chain.SessionChain.{SessionChain}
use Rattle.signer_link.specs.declared.request.SignRequest.{SignRequest}
use Rattle.record_join.specs.Keys.{kept_of}
use Rattle.record_join.specs.BooksPasts.{IsRefusal}
use Rattle.record_replay.specs.declared.state.KeyState.{KeyState}
use Rattle.record_replay.specs.declared.state.KeyState.TheVariants.{Known, Active, Closing, Closed}
use Rattle.doppel_watch.specs.declared.watch.WatchState.TheVariants as watch
use Rattle.desk_machine.specs.States.{State, past_of, key_state, is_active, active_past, IsAllowed}
use Rattle.desk_machine.specs.Machine.{Reply}
use Rattle.desk_machine.specs.declared.call.DeskCall.{DeskCall}
use Rattle.desk_machine.specs.declared.call.DeskCall.TheVariants as call
use Rattle.desk_machine.specs.declared.call.DeskReply.{DeskReply}
use Rattle.desk_machine.specs.declared.call.DeskReply.TheVariants as reply
use Rattle.call_plans.specs.Plans.{Follows}
use Rattle.client_calls.specs.Machines.{CanMake, state_after}
use Rattle.client_calls.specs.Steps.{ClientStep, Fits, desk_calls}
use Rattle.client_calls.proofs.MachineLemmas.{can_split}
use Rattle.session_format.specs.declared.answer.Answer.{Answer}
use Rattle.session_format.specs.declared.answer.Answer.TheVariants as answer
use Rattle.session_format.specs.declared.request.Op.{Op}
use Rattle.session_format.specs.declared.request.Op.TheVariants as op
use Rattle.session_format.specs.declared.request.Request.{Request}
use Rattle.session_format.specs.declared.member.Member.{Member}
use Rattle.session_run.specs.Plans.{op_plan, line_plan, moment_at, moment_by, answer_given, sign_request}
use Rattle.session_run.specs.Safe.{IsCarriedOut, CompleteOp, IsComplete, AllComplete}
use Rattle.session_run.specs.Turns.{Turn, AllPlanned, calls_of, made}
use Rattle.session_run.proofs.KeptLemmas.{none_some, some_inj, some_of}
use Rattle.session_run.proofs.SafeLemmas.{made_more}
use Rattle.session_run.proofs.ViewLemmas.{ProposalView, proposal_of}

active_if : (o : Option KeyState) → is_active (unwrap_or o Known) ≡ true → o ≡ Some Active
active_if None h = absurd (let bad : false ≡ true = h in cc)
active_if (Some Known) h = absurd (let bad : false ≡ true = h in cc)
active_if (Some Active) h = refl
active_if (Some Closing) h = absurd (let bad : false ≡ true = h in cc)
active_if (Some Closed) h = absurd (let bad : false ≡ true = h in cc)

active_some : (b : Bool) (o : Option Past) (p : Past) → cond b o None ≡ Some p → (b ≡ true) × (o ≡ Some p)
active_some true o p h = (refl, h)
active_some false o p h = absurd (none_some p h)

answer_inj : (a b : Answer) → Some a ≡ Some b → a ≡ b
answer_inj a b e = cc

no_answer : (a : Answer) → None ≡ Some a → ⊥
no_answer a e = cc

-- a reply that gives no grant is one of two that are allowed
proposes : (state : State) (key : PubKey) (m : Message) (now : ℕ) (r : DeskReply) (a : Answer) (past : Past) → Reply state (call.Propose key m now) r → answer_given r ≡ Some a
    → active_past state key ≡ Some past → Passes past m → IsAllowed state key → IsCarriedOut a
proposes state key m now (reply.Full size wanted) a past can ends is passes allowed = let P : Answer → Type 0 = IsCarriedOut in subst P (answer_inj (answer.Full size wanted) a ends) tt
proposes state key m now reply.Disk a past can ends is passes allowed = let P : Answer → Type 0 = IsCarriedOut in subst P (answer_inj answer.Disk a ends) tt
proposes state key m now (reply.Granted g) a past can ends is passes allowed = absurd (no_answer a ends)
proposes state key m now reply.OutOfMemory a past can ends is passes allowed = absurd (no_answer a ends)
proposes state key m now (reply.Refused v) a past can ends is passes allowed =
    let found = some_of (λ p. IsRefusal p m v) (past_of state key) can.1.1 in
    let here = active_some (is_active (key_state state.states key)) (past_of state key) past is in
    let P : Past → Type 0 = λ p. Passes p m in
    absurd (found.2.forbids (subst P (some_inj past found.0 (sym here.1 ∙ found.1)) passes))
proposes state key m now reply.Unknown a past can ends is passes allowed =
    let here = active_some (is_active (key_state state.states key)) (past_of state key) past is in
    absurd (none_some past (sym can.1 ∙ here.1))
proposes state key m now reply.NotActive a past can ends is passes allowed =
    let here = active_some (is_active (key_state state.states key)) (past_of state key) past is in
    absurd (can.2.0 (active_if (kept_of state.states key) here.0))
proposes state key m now reply.Closing a past can ends is passes allowed =
    let here = active_some (is_active (key_state state.states key)) (past_of state key) past is in
    absurd (let bad : Some Closing ≡ Some Active = sym can.2 ∙ active_if (kept_of state.states key) here.0 in cc)
proposes state key m now (reply.Live epoch) a past can ends is passes allowed = absurd (let bad : watch.Live epoch ≡ watch.Allowed = sym can.2 ∙ allowed in cc)
proposes state key m now (reply.Watching first second) a past can ends is passes allowed = absurd (let bad : watch.Missing first second ≡ watch.Allowed = sym can.2 ∙ allowed in cc)
proposes state key m now r a past can ends is passes allowed = absurd can

complete_proposal : (state : State) (request : SignRequest) (key : PubKey) (m : Message) (now : ℕ) (steps : List ClientStep) (a : Answer) → ProposalView request (call.Propose key m now) steps a → CanMake state (desk_calls steps)
    → (past : Past) → active_past state key ≡ Some past → Passes past m → IsAllowed state key → IsCarriedOut a
complete_proposal state request key m now steps a (inl plain) can past is passes allowed =
    let C : List ClientStep → Type 0 = λ l. CanMake state (desk_calls l) in
    proposes state key m now plain.reply a past (subst C plain.steps_are can).0 plain.ends is passes allowed
complete_proposal state request key m now steps a (inr g) can past is passes allowed = g.carried

complete_op : (state : State) (chain : SessionChain) (kept : List PubKey) (now : ℕ) (o : Op) (steps : List ClientStep) (a : Answer) → Follows Fits (op_plan chain kept now o) steps (Some a) → CanMake state (desk_calls steps) → CompleteOp state o a
complete_op state chain kept now (op.Propose key m object) steps a f can = complete_proposal state (sign_request chain object) key m now steps a (proposal_of (sign_request chain object) key m now a steps f) can
complete_op state chain kept now (op.Merge file) steps a f can = tt
complete_op state chain kept now (op.BadFile fault) steps a f can = tt
complete_op state chain kept now (op.Activate key) steps a f can = tt
complete_op state chain kept now (op.Export keys) steps a f can = tt
complete_op state chain kept now (op.Prune key) steps a f can = tt
complete_op state chain kept now (op.Live key epoch live) steps a f can = tt
complete_op state chain kept now (op.Import file keystores) steps a f can = tt
complete_op state chain kept now (op.Delete keys) steps a f can = tt
complete_op state chain kept now op.List steps a f can = tt
complete_op state chain kept now op.Compact steps a f can = tt

complete_turn : (state : State) (chain : SessionChain) (kept : List PubKey) (latest : ℕ) (q : Result Request Member) (steps : List ClientStep) (a : Answer) → Follows Fits (line_plan chain kept latest q) steps (Some a) → CanMake state (desk_calls steps) → IsComplete state q a
complete_turn state chain kept latest (Err m) steps a f can = tt
complete_turn state chain kept latest (Ok q) steps a f can = complete_op state chain kept (moment_at latest q) q.op steps a f can

pub complete_run : (chain : SessionChain) (latest : ℕ) (state : State) (ts : List Turn) → CanMake state (made ts) → AllPlanned chain latest state ts → AllComplete state ts
complete_run chain latest state [] can planned = tt
complete_run chain latest state (t ∷ ts) can planned =
    let C : List (DeskCall × DeskReply) → Type 0 = λ l. CanMake state l in
    let parts = can_split state (calls_of t) (made ts) (subst C (made_more t ts) can) in (
      complete_turn state chain (keys_of state.keys) latest t.request t.steps t.answer planned.0 parts.0,
      complete_run chain (moment_by latest t.request) (state_after state (calls_of t)) ts parts.1 planned.1,
    )
