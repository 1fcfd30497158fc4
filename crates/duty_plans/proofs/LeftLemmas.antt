-- What is left of a duty is its own, and the desk gave leave for it.
use Rattle.std.proofs.Common.{◌≡◌, ℕ, Bool, true, false, List, [], ◌∷◌, ◌++◌, Contains, Option, Some, None, refl, sym, ◌∙◌, ap, append_assoc, subst}
use Rattle.std.specs.Prelude.{IfSome, if◌then◌else◌}
use Rattle.std.proofs.lemmas.Grind.{flat_map-append}
use Rattle.std.proofs.lemmas.List.{append-nil}
use Rattle.std.proofs.lemmas.List.Elements.{Contains-append_left, Contains-append_right}
use Rattle.edge_kit.specs.declared.bytes.PubKey.{PubKey}
use Rattle.edge_kit.specs.declared.bytes.Sig.{Sig}
use Rattle.slash_defs.specs.declared.message.Message.{Message}
use Rattle.phase0_types.specs.declared.attestation.AttestationData.{AttestationData}
use Rattle.altair_blocks.specs.declared.any_block.AnyBlock.{AnyBlock}
use Rattle.duty_types.specs.declared.aggregate.AggregateAndProof.{AggregateAndProof}
use Rattle.desk_machine.specs.declared.open_grant.OpenGrant.{OpenGrant}
use Rattle.desk_machine.specs.declared.call.DeskCall.{DeskCall}
use Rattle.desk_machine.specs.declared.call.DeskCall.TheVariants as call
use Rattle.desk_machine.specs.declared.call.DeskReply.{DeskReply}
use Rattle.desk_machine.specs.declared.call.DeskReply.TheVariants as reply
use Rattle.desk_machine.specs.declared.call.Outcome.{Outcome}
use Rattle.desk_machine.specs.declared.call.Outcome.TheVariants as outcome
use Rattle.signer_link.specs.declared.request.SignRequest.{SignRequest}
use Rattle.node_calls.specs.declared.answer.AttesterRow.{AttesterRow}
use Rattle.node_calls.specs.declared.answer.ProposerRow.{ProposerRow}
use Rattle.node_calls.specs.declared.post.Post.{Post}
use Rattle.protect_record.proofs.MemberLemmas.{contains_first}
use Rattle.duty_schedule.specs.Checking.{block_members, data_members, first_that_differs}
use Rattle.duty_schedule.specs.declared.rows.Duty.{Duty}
use Rattle.duty_schedule.specs.declared.rows.Duty.TheVariants as duty
use Rattle.call_plans.specs.Plans.{Done, Stop, Ask as Step, Follows}
use Rattle.duty_plans.specs.declared.ended.Ended.{Ended}
use Rattle.duty_plans.specs.declared.ended.Unsent.{Unsent}
use Rattle.duty_plans.specs.declared.ended.Unsent.TheVariants as granted
use Rattle.duty_plans.specs.declared.got.Got.{Got}
use Rattle.duty_plans.specs.declared.got.Got.TheVariants as got
use Rattle.duty_plans.specs.declared.result.DutyResult.{DutyResult}
use Rattle.duty_plans.specs.declared.result.DutyResult.TheVariants as ended
use Rattle.duty_plans.specs.declared.task.Task.{Task}
use Rattle.duty_plans.specs.declared.task.Task.TheVariants as task
use Rattle.duty_plans.specs.declared.work.SlotWork.{SlotWork}
use Rattle.duty_plans.specs.Ends.{barred, is_repeated, left_by, over}
use Rattle.duty_plans.specs.Guards.{granted_by, granted_in}
use Rattle.duty_plans.specs.Messages.{aggregate_message, aggregate_post, block_message, block_post, block_request, vote_message, vote_post, vote_request}
use Rattle.duty_plans.specs.Reading.{aggregate_of, block_of, grant_of, posted_of, signature_of, vote_of}
use Rattle.duty_plans.specs.Steps.{DutyCall, DutyReply, DutyStep, DutyPlan, Calls, Replies, Signed, Answered, Taken, Fits, desk_calls, step_calls}
use Rattle.duty_plans.specs.Plans.{answer_reply, desk_reply, post_reply, sign_reply, aggregate_plan, aggregated_plan, allowed_plan, block_plan, choose_plan, chosen_by, data_plan, gathered_plan, granted_plan, made_plan, post_plan, proof_plan, publish_plan, revealed_plan, said, sent, settles, task_plan, under, vote_plan, voted_plan, with_got}
use Rattle.duty_plans.specs.Repeats.{HadLeave, IsLeft}
use Rattle.duty_plans.specs.Tasks.{IsOwnTask, IsOwnUnsent, duty_of, owner_of, unsent_message}
use Rattle.duty_plans.proofs.DutyLemmas.{block_got, grant_got, vote_got}

abbrev Given : Type 0
Given = List (PubKey × Message)

granted_joined : (xs ys : List (DeskCall × DeskReply)) → granted_in (xs ++ ys) ≡ granted_in xs ++ granted_in ys
granted_joined xs ys = flat_map-append granted_by xs ys

-- leave that was given was given still where more is
leave_more : (so more : Given) (key : PubKey) (o : Option Message) → HadLeave so key o → HadLeave (so ++ more) key o
leave_more so more key None h = tt
leave_more so more key (Some m) h = Contains-append_left so more (key, m) h

leave_for : (so : Given) (key : PubKey) (m : Message) (o : Option Message) → o ≡ Some m → Contains so (key, m) → HadLeave so key o
leave_for so key m o is h = subst (λ (x : Option Message). HadLeave so key x) (sym is) h

module _ (work : SlotWork) (d : Duty) where
  -- leave was given for it
  abbrev Had : Given → Unsent → Type 0
  Had so unsent = HadLeave so (owner_of d) (unsent_message work.domains unsent)

  abbrev LeftBy : Given → Ended → Type 0
  LeftBy so e = IfSome e.unsent (λ unsent. (is_repeated e.result ≡ true) × IsOwnUnsent work.altair d unsent × HadLeave so (owner_of d) (unsent_message work.domains unsent))

  -- where leave was given for these before it, the plan leaves only what leave was given for
  abbrev Leaves : Given → DutyPlan Ended → Type 0
  Leaves so (Done e) = LeftBy so e
  Leaves so Stop = Unit {0}
  Leaves so (Step c k) = (r : DutyReply) → Fits c r → Leaves (so ++ granted_in (step_calls (c, r))) (k r)

  leaves_follows : (so : Given) (plan : DutyPlan Ended) (steps : List DutyStep) (e : Ended) → Leaves so plan → Follows Fits plan steps (Some e) → LeftBy (so ++ granted_in (desk_calls steps)) e
  leaves_follows so (Done x) [] e g f = subst (λ (l : Given). LeftBy l e) (sym (append-nil so)) (subst (λ (y : Ended). LeftBy so y) (sym f) g)
  leaves_follows so (Done x) (s ∷ steps) e g f = absurd f
  leaves_follows so Stop [] e g f = absurd f
  leaves_follows so Stop (s ∷ steps) e g f = absurd f
  leaves_follows so (Step c k) [] e g f = absurd f
  leaves_follows so (Step c k) (s ∷ steps) e g f =
      let rest = leaves_follows (so ++ granted_in (step_calls (c, s.1))) (k s.1) steps e (g s.1 f.1) f.2 in
      let same : granted_in (step_calls (c, s.1)) ++ granted_in (desk_calls steps) ≡ granted_in (desk_calls (s ∷ steps)) =
      ap (λ (x : DutyCall). granted_in (step_calls (x, s.1)) ++ granted_in (desk_calls steps)) (sym f.0) ∙ sym (granted_joined (step_calls s) (desk_calls steps)) in
      subst (λ (l : Given). LeftBy l e) (append_assoc so (granted_in (step_calls (c, s.1))) (granted_in (desk_calls steps)) ∙ ap (λ (l : Given). so ++ l) same) rest

  -- ---- under a grant

  had_more : (so more : Given) (unsent : Unsent) → Had so unsent → Had (so ++ more) unsent
  had_more so more unsent h = leave_more so more (owner_of d) (unsent_message work.domains unsent) h

  left_if : (so : Given) (unsent : Unsent) (by : DutyResult) (b : Bool) → is_repeated by ≡ b → IsOwnUnsent work.altair d unsent → Had so unsent
      → IfSome (if b then Some unsent else None) (λ u. (is_repeated by ≡ true) × IsOwnUnsent work.altair d u × HadLeave so (owner_of d) (unsent_message work.domains u))
  left_if so unsent by true is own h = (is, own, h)
  left_if so unsent by false is own h = tt

  leaves_end : (so : Given) (unsent : Unsent) (by : DutyResult) → IsOwnUnsent work.altair d unsent → Had so unsent → LeftBy so (left_by unsent by)
  leaves_end so unsent by own h = left_if so unsent by (is_repeated by) refl own h

  settled_end : (so : Given) (unsent : Unsent) (grant : OpenGrant) (o : Outcome) (by : DutyResult) → IsOwnUnsent work.altair d unsent → Had so unsent → Leaves so (settles grant o (Done (left_by unsent by)))
  settled_end so unsent grant o by own h r f =
      let more = granted_in (step_calls (Calls (call.Settle grant o), r)) in
      leaves_end (so ++ more) unsent by own (had_more so more unsent h)

  leaves_posted : (so : Given) (unsent : Unsent) (g : Got (Unit {0})) → IsOwnUnsent work.altair d unsent → Had so unsent → Leaves so (with_got (left_by unsent) g (sent (left_by unsent)))
  leaves_posted so unsent (got.Given x) own h = leaves_end so unsent ended.Sent own h
  leaves_posted so unsent (got.Failed by) own h = leaves_end so unsent by own h
  leaves_posted so unsent got.Nothing own h = tt

  leaves_post : (so : Given) (unsent : Unsent) (grant : OpenGrant) (p : Post) → IsOwnUnsent work.altair d unsent → Had so unsent → Leaves so (post_plan (left_by unsent) grant p)
  leaves_post so unsent grant p own h r f r2 f2 =
      let one = so ++ granted_in [] in
      let more = granted_in (step_calls (Calls (call.Settle grant outcome.Sent), r2)) in
      leaves_posted (one ++ more) unsent (posted_of (post_reply r)) own (had_more one more unsent (had_more so (granted_in []) unsent h))

  leaves_signed : (so : Given) (unsent : Unsent) (grant : OpenGrant) (g : Got Sig) (made : Sig → Post) → IsOwnUnsent work.altair d unsent → Had so unsent → Leaves so (under (left_by unsent) grant g (λ signature. post_plan (left_by unsent) grant (made signature)))
  leaves_signed so unsent grant (got.Given x) made own h = leaves_post so unsent grant (made x) own h
  leaves_signed so unsent grant (got.Failed by) made own h = settled_end so unsent grant outcome.Dropped by own h
  leaves_signed so unsent grant got.Nothing made own h = λ r f. tt

  leaves_granted : (so : Given) (unsent : Unsent) (q : SignRequest) (made : Sig → Post) (grant : OpenGrant) → IsOwnUnsent work.altair d unsent → Had so unsent → Leaves so (granted_plan unsent q made grant)
  leaves_granted so unsent q made grant own h r f = leaves_signed (so ++ granted_in []) unsent grant (signature_of (sign_reply r)) made own (had_more so (granted_in []) unsent h)

  -- ---- where nothing is left

  -- an end by this leaves nothing
  abbrev LeavesNone : (DutyResult → Ended) → Type 0
  LeavesNone ends = (by : DutyResult) → (ends by).unsent ≡ None

  left_none : (so : Given) (e : Ended) → e.unsent ≡ None → LeftBy so e
  left_none so e is = subst (λ (o : Option Unsent). IfSome o (λ unsent. (is_repeated e.result ≡ true) × IsOwnUnsent work.altair d unsent × HadLeave so (owner_of d) (unsent_message work.domains unsent))) (sym is) tt

  leaves_got : {T : Type 0} (so : Given) (ends : DutyResult → Ended) (g : Got T) (k : T → DutyPlan Ended) → LeavesNone ends → ((x : T) → g ≡ got.Given x → Leaves so (k x)) → Leaves so (with_got ends g k)
  leaves_got so ends (got.Given x) k none h = h x refl
  leaves_got so ends (got.Failed by) k none h = left_none so (ends by) (none by)
  leaves_got so ends got.Nothing k none h = tt

  over_none : LeavesNone over
  over_none by = refl

  barred_none : (unsent : Unsent) → LeavesNone (barred unsent)
  barred_none unsent by = refl

  leaves_under : {T : Type 0} (so : Given) (unsent : Unsent) (grant : OpenGrant) (g : Got T) (k : T → DutyPlan Ended) → IsOwnUnsent work.altair d unsent → Had so unsent → ((x : T) → Leaves so (k x)) → Leaves so (under (left_by unsent) grant g k)
  leaves_under so unsent grant (got.Given x) k own had h = h x
  leaves_under so unsent grant (got.Failed by) k own had h = settled_end so unsent grant outcome.Dropped by own had
  leaves_under so unsent grant got.Nothing k own had h = λ r f. tt

  -- ---- leave is given

  granted_now : (key : PubKey) (m : Message) (now : ℕ) (r : DutyReply) (grant : OpenGrant) → Fits (Calls (call.Propose key m now)) r → grant_of (desk_reply r) ≡ got.Given grant
      → Contains (granted_in (step_calls (Calls (call.Propose key m now), r))) (key, m)
  granted_now key m now (Replies x) grant f e =
      subst (λ (y : DeskReply). Contains (granted_in (step_calls (Calls (call.Propose key m now), Replies y))) (key, m)) (sym (grant_got x grant e)) (contains_first (key, m) [])
  granted_now key m now (Signed s) grant f e = absurd f
  granted_now key m now (Answered tried) grant f e = absurd f
  granted_now key m now (Taken tried) grant f e = absurd f

  leaves_publish : (so : Given) (m : Message) (now : ℕ) (unsent : Unsent) (q : SignRequest) (made : Sig → Post) → unsent_message work.domains unsent ≡ Some m → IsOwnUnsent work.altair d unsent → Leaves so (publish_plan (owner_of d) m now unsent q made)
  leaves_publish so m now unsent q made is own r f =
      let key = owner_of d in
      let more = granted_in (step_calls (Calls (call.Propose key m now), r)) in
      leaves_got (so ++ more) (barred unsent) (grant_of (desk_reply r)) (λ grant. granted_plan unsent q made grant) (barred_none unsent) (λ grant e.
      leaves_granted (so ++ more) unsent q made grant own (leave_for (so ++ more) key m (unsent_message work.domains unsent) is (Contains-append_right so more (key, m) (granted_now key m now r grant f e))))

leaves_voted : (work : SlotWork) (row : AttesterRow) (details : AttestationData) (so : Given) → first_that_differs (data_members row details) ≡ None → Leaves work (duty.Vote row) so (voted_plan work row details)
leaves_voted work row details so own = leaves_publish work (duty.Vote row) so (vote_message work.domains details) work.moment (granted.Vote details) (vote_request work details) (vote_post row details) refl own

leaves_made : (work : SlotWork) (row : ProposerRow) (block : AnyBlock) (so : Given) → first_that_differs (block_members row.slot work.altair block) ≡ None → Leaves work (duty.Block row) so (made_plan work row block)
leaves_made work row block so own = leaves_publish work (duty.Block row) so (block_message work.domains block) work.moment (granted.Block block) (block_request work block) (block_post block) refl own

leaves_vote : (work : SlotWork) (row : AttesterRow) (so : Given) → Leaves work (duty.Vote row) so (vote_plan work row)
leaves_vote work row so r f =
    leaves_got work (duty.Vote row) (so ++ granted_in []) over (vote_of row (answer_reply r)) (λ details. voted_plan work row details) (over_none work (duty.Vote row)) (λ details e. leaves_voted work row details (so ++ granted_in []) (vote_got row (answer_reply r) details e))

leaves_block : (work : SlotWork) (row : ProposerRow) (so : Given) → Leaves work (duty.Block row) so (block_plan work row)
leaves_block work row so r f =
    let D : Duty = duty.Block row in
    let one = so ++ granted_in (step_calls (Calls (call.Allow row.pubkey work.moment), r)) in
    let two = one ++ granted_in [] in
    leaves_got work D one over (grant_of (desk_reply r)) (λ grant. allowed_plan work row grant) (over_none work D) (λ grant e s f2.
    leaves_under work D two granted.Reveal grant (signature_of (sign_reply s)) (λ reveal. revealed_plan work row grant reveal) tt tt (λ reveal a f3 t f4.
    let three = (two ++ granted_in []) ++ granted_in (step_calls (Calls (call.Settle grant outcome.Sent), t)) in
    leaves_got work D three over (block_of work.altair row (answer_reply a)) (λ block. made_plan work row block) (over_none work D) (λ block is. leaves_made work row block three (block_got work.altair row (answer_reply a) block is))))

-- of a question nothing is left
leaves_data : (work : SlotWork) (row : AttesterRow) (so : Given) → Leaves work (duty.Vote row) so (data_plan work row)
leaves_data work row so r f = leaves_got work (duty.Vote row) (so ++ granted_in []) over (vote_of row (answer_reply r)) (λ details. Done (said details)) (over_none work (duty.Vote row)) (λ details e. tt)

-- nor of an aggregate
leaves_choose : (work : SlotWork) (row : AttesterRow) (details : AttestationData) (so : Given) → Leaves work (duty.Vote row) so (choose_plan work row details)
leaves_choose work row details so r f =
    let D : Duty = duty.Vote row in
    let one = so ++ granted_in (step_calls (Calls (call.Allow row.pubkey work.moment), r)) in
    leaves_got work D one over (grant_of (desk_reply r)) (λ grant. proof_plan work row details grant) (over_none work D) (λ grant e s f2 t f3.
    let two = (one ++ granted_in []) ++ granted_in (step_calls (Calls (call.Settle grant outcome.Dropped), t)) in
    leaves_got work D two over (signature_of (sign_reply s)) (λ proof. Done (chosen_by row details proof)) (over_none work D) (λ proof is. tt))

leaves_dropped : (work : SlotWork) (d : Duty) (so : Given) (grant : OpenGrant) (g : Got Sig) (k : Sig → DutyPlan Ended) → ((x : Sig) → Leaves work d so (k x)) → Leaves work d so (under over grant g k)
leaves_dropped work d so grant (got.Given x) k h = h x
leaves_dropped work d so grant (got.Failed by) k h = λ r f. tt
leaves_dropped work d so grant got.Nothing k h = λ r f. tt

leaves_spread : (work : SlotWork) (d : Duty) (so : Given) (grant : OpenGrant) (p : Post) → Leaves work d so (post_plan over grant p)
leaves_spread work d so grant p r f t f2 =
    let two = (so ++ granted_in []) ++ granted_in (step_calls (Calls (call.Settle grant outcome.Sent), t)) in
    leaves_got work d two over (posted_of (post_reply r)) (sent over) (over_none work d) (λ x is. tt)

leaves_gathered : (work : SlotWork) (row : AttesterRow) (given : AggregateAndProof) (so : Given) → Leaves work (duty.Vote row) so (gathered_plan work row given)
leaves_gathered work row given so r f =
    let D : Duty = duty.Vote row in
    let one = so ++ granted_in (step_calls (Calls (call.Allow row.pubkey work.moment), r)) in
    leaves_got work D one over (grant_of (desk_reply r)) (λ grant. aggregated_plan work given grant) (over_none work D) (λ grant e s f2.
    leaves_dropped work D (one ++ granted_in []) grant (signature_of (sign_reply s)) (λ signature. post_plan over grant (aggregate_post given signature)) (λ signature. leaves_spread work D (one ++ granted_in []) grant (aggregate_post given signature)))

leaves_aggregate : (work : SlotWork) (row : AttesterRow) (details : AttestationData) (proof : Sig) (so : Given) → Leaves work (duty.Vote row) so (aggregate_plan work row details proof)
leaves_aggregate work row details proof so r f =
    let D : Duty = duty.Vote row in
    leaves_got work D (so ++ granted_in []) over (aggregate_of details (answer_reply r)) (λ aggregate. gathered_plan work row (aggregate_message row proof aggregate)) (over_none work D) (λ aggregate e.
    leaves_gathered work row (aggregate_message row proof aggregate) (so ++ granted_in []))

pub task_left : (work : SlotWork) (t : Task) (steps : List DutyStep) (e : Ended) → IsOwnTask work.altair t → Follows Fits (task_plan work t) steps (Some e) → IsLeft work t steps e
task_left work (task.Fresh (duty.Vote row)) steps e own f = leaves_follows work (duty.Vote row) [] (vote_plan work row) steps e (leaves_vote work row []) f
task_left work (task.Fresh (duty.Block row)) steps e own f = leaves_follows work (duty.Block row) [] (block_plan work row) steps e (leaves_block work row []) f
task_left work (task.Again (duty.Vote row) (granted.Vote details)) steps e own f = leaves_follows work (duty.Vote row) [] (voted_plan work row details) steps e (leaves_voted work row details [] own) f
task_left work (task.Again (duty.Block row) (granted.Block block)) steps e own f = leaves_follows work (duty.Block row) [] (made_plan work row block) steps e (leaves_made work row block [] own) f
task_left work (task.Again (duty.Block row) granted.Reveal) steps e own f = leaves_follows work (duty.Block row) [] (block_plan work row) steps e (leaves_block work row []) f
task_left work (task.Again (duty.Vote row) granted.Reveal) steps e own f = absurd own
task_left work (task.Again (duty.Vote row) (granted.Block block)) steps e own f = absurd own
task_left work (task.Again (duty.Block row) (granted.Vote details)) steps e own f = absurd own
task_left work (task.Data row) steps e own f = leaves_follows work (duty.Vote row) [] (data_plan work row) steps e (leaves_data work row []) f
task_left work (task.Vote row details) steps e own f = leaves_follows work (duty.Vote row) [] (voted_plan work row details) steps e (leaves_voted work row details [] own) f
task_left work (task.Choose row details) steps e own f = leaves_follows work (duty.Vote row) [] (choose_plan work row details) steps e (leaves_choose work row details []) f
task_left work (task.Aggregate row details proof) steps e own f = leaves_follows work (duty.Vote row) [] (aggregate_plan work row details proof) steps e (leaves_aggregate work row details proof []) f
