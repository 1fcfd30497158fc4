-- What a duty's plan may call, and what it gives.
use Rattle.std.proofs.Common.{◌≡◌, ℕ, Bool, true, false, List, [], ◌∷◌, Option, Some, None, unwrap_or, Result, Ok, Err, refl, sym, ◌∙◌, ap, subst}
use Rattle.std.specs.Prelude.{if◌then◌else◌}
use Rattle.std.specs.Str.{bytes_eq}
use Rattle.std.proofs.lemmas.Slice.Eq.{bytes_eq-Decides}
use Rattle.edge_kit.specs.declared.bytes.PubKey.{PubKey}
use Rattle.edge_kit.specs.declared.bytes.Sig.{Sig}
use Rattle.slash_defs.specs.declared.message.Message.{Message}
use Rattle.phase0_types.specs.declared.attestation.AttestationData.{AttestationData}
use Rattle.phase0_blocks.specs.declared.vote.Attestation.{Attestation}
use Rattle.altair_blocks.specs.declared.any_block.AnyBlock.{AnyBlock}
use Rattle.duty_types.specs.declared.aggregate.AggregateAndProof.{AggregateAndProof}
use Rattle.protect_record.specs.declared.verdict.Verdict.{Verdict}
use Rattle.protect_record.specs.declared.verdict.Verdict.TheVariants as verdict
use Rattle.desk_machine.specs.Grants.{IsGrantFor}
use Rattle.desk_machine.specs.declared.open_grant.OpenGrant.{OpenGrant}
use Rattle.desk_machine.specs.declared.call.DeskCall.{DeskCall}
use Rattle.desk_machine.specs.declared.call.DeskCall.TheVariants as call
use Rattle.desk_machine.specs.declared.call.DeskReply.{DeskReply}
use Rattle.desk_machine.specs.declared.call.DeskReply.TheVariants as reply
use Rattle.desk_machine.specs.declared.call.Outcome.{Outcome}
use Rattle.desk_machine.specs.declared.call.Outcome.TheVariants as outcome
use Rattle.signer_link.specs.declared.request.SignRequest.{SignRequest}
use Rattle.signer_link.specs.declared.request.PlainRequest.{PlainRequest}
use Rattle.node_calls.specs.declared.ask.Ask.{Ask}
use Rattle.node_calls.specs.declared.ask.Ask.TheVariants as ask
use Rattle.node_calls.specs.declared.answer.Answer.{Answer}
use Rattle.node_calls.specs.declared.answer.Answer.TheVariants as answer
use Rattle.node_calls.specs.declared.answer.AttesterRow.{AttesterRow}
use Rattle.node_calls.specs.declared.answer.ProposerRow.{ProposerRow}
use Rattle.node_calls.specs.declared.post.Post.{Post}
use Rattle.node_fallback.specs.declared.no_node.NoAnswer.{NoAnswer}
use Rattle.node_fallback.specs.declared.no_node.NoAnswer.TheVariants as none
use Rattle.duty_schedule.specs.Checking.{block_members, data_members, first_that_differs}
use Rattle.duty_schedule.specs.declared.checks.DataDiffers.{DataDiffers}
use Rattle.duty_schedule.specs.declared.rows.Duty.{Duty}
use Rattle.duty_schedule.specs.declared.rows.Duty.TheVariants as duty
use Rattle.call_plans.specs.Plans.{Done, Stop, Ask as Step, Follows}
use Rattle.duty_plans.specs.declared.got.Got.{Got}
use Rattle.duty_plans.specs.declared.got.Got.TheVariants as got
use Rattle.duty_plans.specs.declared.ended.Ended.{Ended}
use Rattle.duty_plans.specs.declared.ended.Unsent.{Unsent}
use Rattle.duty_plans.specs.declared.ended.Unsent.TheVariants as granted
use Rattle.duty_plans.specs.declared.result.DutyResult.{DutyResult}
use Rattle.duty_plans.specs.declared.result.DutyResult.TheVariants as ended
use Rattle.duty_plans.specs.declared.task.Task.{Task}
use Rattle.duty_plans.specs.declared.task.Task.TheVariants as task
use Rattle.duty_plans.specs.declared.work.SlotWork.{SlotWork}
use Rattle.duty_plans.specs.Ends.{barred, left_by, over}
use Rattle.duty_plans.specs.Messages.{aggregate_message, aggregate_post, aggregate_request, block_message, block_post, block_request, details_root, reveal_request, slot_request, vote_message, vote_post, vote_request}
use Rattle.duty_plans.specs.Reading.{aggregate_of, block_of, grant_of, judged, matching, nothing_of, posted_of, signature_of, vote_of}
use Rattle.duty_plans.specs.Steps.{DutyCall, DutyReply, DutyStep, DutyPlan, Calls, Signs, Reveals, Asks, Posts, Replies, Signed, Answered, Taken, Fits}
use Rattle.duty_plans.specs.Plans.{answer_reply, desk_reply, post_reply, sign_reply, aggregate_plan, aggregated_plan, allowed_plan, block_plan, choose_plan, chosen_by, data_plan, gathered_plan, granted_plan, made_plan, post_plan, proof_plan, publish_plan, revealed_plan, said, sent, settles, task_plan, under, vote_plan, voted_plan, with_got}
use Rattle.duty_plans.specs.Results.{failed_answer, failed_duty, failed_in, failure_of, first_failure, first_of, result_by}
use Rattle.duty_plans.specs.Owning.{AllCall, AllOwn, IsGrantOf, IsOfAggregate, IsOfChoice, IsOfData, IsOfDuty, IsOwn, IsOwnAggregate, IsOwnBlock, IsOwnVote, IsPlainGrantOf, SignsOwn, PostsOwn, RevealsOwn}
use Rattle.duty_plans.specs.Repeats.{AllPropose, Proposes}
use Rattle.duty_plans.specs.Tasks.{IsOwnTask, duty_of, owner_of, unsent_message}

-- ---- what was got

matched : {T : Type 0} (d : Option DataDiffers) (value x : T) → matching d value ≡ got.Given x → (d ≡ None) × (value ≡ x)
matched None value x e = (refl, cc)
matched (Some differs) value x e = absurd cc

no_nothing : {P T : Type 0} (why : NoAnswer) (x : T) → nothing_of why ≡ got.Given x → P
no_nothing (none.NoNode causes) x e = absurd cc
no_nothing none.OutOfMemory x e = absurd cc

pub vote_got : (row : AttesterRow) (a : Result Answer NoAnswer) (details : AttestationData) → vote_of row a ≡ got.Given details → first_that_differs (data_members row details) ≡ None
vote_got row (Ok (answer.Data given)) details e =
    let m = matched (first_that_differs (data_members row given)) given details e in
    subst (λ (x : AttestationData). first_that_differs (data_members row x) ≡ None) m.1 m.0
vote_got row (Ok a) details e = absurd cc
vote_got row (Err why) details e = no_nothing why details e

pub block_got : (altair : Option ℕ) (row : ProposerRow) (a : Result Answer NoAnswer) (block : AnyBlock) → block_of altair row a ≡ got.Given block → first_that_differs (block_members row.slot altair block) ≡ None
block_got altair row (Ok (answer.Block given)) block e =
    let m = matched (first_that_differs (block_members row.slot altair given)) given block e in
    subst (λ (x : AnyBlock). first_that_differs (block_members row.slot altair x) ≡ None) m.1 m.0
block_got altair row (Ok a) block e = absurd cc
block_got altair row (Err why) block e = no_nothing why block e

same_data : (b : Bool) (given x : Attestation) → (if b then got.Given given else got.Failed ended.DataDiffers) ≡ got.Given x → (b ≡ true) × (given ≡ x)
same_data true given x e = (refl, cc)
same_data false given x e = absurd cc

pub aggregate_got : (details : AttestationData) (a : Result Answer NoAnswer) (aggregate : Attestation) → aggregate_of details a ≡ got.Given aggregate → details_root aggregate.details ≡ details_root details
aggregate_got details (Ok (answer.Aggregate given)) aggregate e =
    let m = same_data (bytes_eq (details_root given.details) (details_root details)) given aggregate e in
    subst (λ (x : Attestation). details_root x.details ≡ details_root details) m.1 ((bytes_eq-Decides (details_root given.details) (details_root details)).0 m.0)
aggregate_got details (Ok a) aggregate e = absurd cc
aggregate_got details (Err why) aggregate e = no_nothing why aggregate e

no_judged : {P : Type 0} (v : Verdict) (grant : OpenGrant) → judged v ≡ got.Given grant → P
no_judged verdict.Pass grant e = absurd cc
no_judged (verdict.SlotBelow floor) grant e = absurd cc
no_judged (verdict.DoubleBlock kept) grant e = absurd cc
no_judged (verdict.SourceBelow floor) grant e = absurd cc
no_judged (verdict.TargetBelow floor) grant e = absurd cc
no_judged (verdict.DoubleVote kept) grant e = absurd cc
no_judged (verdict.Surrounds kept) grant e = absurd cc
no_judged (verdict.Surrounded kept) grant e = absurd cc

pub grant_got : (r : DeskReply) (grant : OpenGrant) → grant_of r ≡ got.Given grant → r ≡ reply.Granted grant
grant_got (reply.Granted g) grant e = (let same : g ≡ grant = cc in ap (λ x. reply.Granted x) same)
grant_got (reply.Refused v) grant e = no_judged v grant e
grant_got r grant e = absurd cc

-- leave was given for what was proposed, or allowed
pub got_for : (c : DeskCall) (r : DutyReply) (grant : OpenGrant) → Fits (Calls c) r → grant_of (desk_reply r) ≡ got.Given grant → IsGrantFor c (reply.Granted grant)
got_for c (Replies r) grant f e = subst (λ (x : DeskReply). IsGrantFor c x) (grant_got r grant e) f.1
got_for c (Signed s) grant f e = absurd f
got_for c (Answered tried) grant f e = absurd f
got_for c (Taken tried) grant f e = absurd f

proposed_got : (key : PubKey) (m : Message) (grant : OpenGrant) → (grant.key ≡ key) × (grant.message ≡ Some m) → IsGrantOf grant key m
proposed_got key m grant g = record { key = g.0; message = g.1 }

allowed_got : (key : PubKey) (grant : OpenGrant) → (grant.key ≡ key) × (grant.message ≡ None) → IsPlainGrantOf grant key
allowed_got key grant g = record { key = g.0; message = g.1 }

-- ---- all that a plan may call is such

abbrev pub Only : {X : Type 0} → (DutyCall → Type 0) → DutyPlan X → Type 0
Only P (Done x) = Unit {0}
Only P Stop = Unit {0}
Only P (Step c k) = P c × ((r : DutyReply) → Fits c r → Only P (k r))

own_follows : {X : Type 0} (P : DutyCall → Type 0) (plan : DutyPlan X) (steps : List DutyStep) (v : Option X) → Only P plan → Follows Fits plan steps v → AllCall P steps
own_follows P plan [] v o f = tt
own_follows P (Done x) (s ∷ steps) v o f = absurd f
own_follows P Stop (s ∷ steps) v o f = absurd f
own_follows P (Step c k) (s ∷ steps) v o f = (subst P (sym f.0) o.0, own_follows P (k s.1) steps v (o.1 s.1 f.1) f.2)

propose_follows : {X : Type 0} (key : PubKey) (m : Message) (plan : DutyPlan X) (steps : List DutyStep) (v : Option X) → Only (Proposes key m) plan → Follows Fits plan steps v → AllPropose key m steps
propose_follows key m plan [] v o f = tt
propose_follows key m (Done x) (s ∷ steps) v o f = absurd f
propose_follows key m Stop (s ∷ steps) v o f = absurd f
propose_follows key m (Step c k) (s ∷ steps) v o f = (subst (λ (x : DutyCall). Proposes key m x) (sym f.0) o.0, propose_follows key m (k s.1) steps v (o.1 s.1 f.1) f.2)

only_got : {T : Type 0} (P : DutyCall → Type 0) (ends : DutyResult → Ended) (g : Got T) (k : T → DutyPlan Ended) → ((x : T) → g ≡ got.Given x → Only P (k x)) → Only P (with_got ends g k)
only_got P ends (got.Given x) k h = h x refl
only_got P ends (got.Failed by) k h = tt
only_got P ends got.Nothing k h = tt

-- a grant may be settled
abbrev MaySettle : (DutyCall → Type 0) → Type 0
MaySettle P = (grant : OpenGrant) (o : Outcome) → P (Calls (call.Settle grant o))

only_settles : (P : DutyCall → Type 0) (grant : OpenGrant) (o : Outcome) (next : DutyPlan Ended) → MaySettle P → Only P next → Only P (settles grant o next)
only_settles P grant o next may h = (may grant o, λ r f. h)

only_under : {T : Type 0} (P : DutyCall → Type 0) (ends : DutyResult → Ended) (grant : OpenGrant) (g : Got T) (k : T → DutyPlan Ended) → MaySettle P → ((x : T) → Only P (k x)) → Only P (under ends grant g k)
only_under P ends grant (got.Given x) k may h = h x
only_under P ends grant (got.Failed by) k may h = only_settles P grant outcome.Dropped (Done (ends by)) may tt
only_under P ends grant got.Nothing k may h = only_settles P grant outcome.Dropped Stop may tt

only_post : (P : DutyCall → Type 0) (ends : DutyResult → Ended) (grant : OpenGrant) (p : Post) → MaySettle P → P (Posts grant p) → Only P (post_plan ends grant p)
only_post P ends grant p may posts = (posts, λ r f. only_settles P grant outcome.Sent (with_got ends (posted_of (post_reply r)) (sent ends)) may (only_got P ends (posted_of (post_reply r)) (sent ends) (λ x e. tt)))

only_publish : (P : DutyCall → Type 0) (key : PubKey) (m : Message) (now : ℕ) (unsent : Unsent) (q : SignRequest) (made : Sig → Post) → P (Calls (call.Propose key m now)) → MaySettle P
    → ((grant : OpenGrant) → IsGrantOf grant key m → P (Signs grant q) × ((s : Sig) → P (Posts grant (made s)))) → Only P (publish_plan key m now unsent q made)
only_publish P key m now unsent q made proposes may h = (
  proposes,
  λ r f. only_got P (barred unsent) (grant_of (desk_reply r)) (λ grant. granted_plan unsent q made grant) (λ grant e.
      let of = proposed_got key m grant (got_for (call.Propose key m now) r grant f e) in
      ((h grant of).0, λ s f2. only_under P (left_by unsent) grant (signature_of (sign_reply s)) (λ signature. post_plan (left_by unsent) grant (made signature)) may (λ signature. only_post P (left_by unsent) grant (made signature) may ((h grant of).1 signature)))),
)

voted_own : (work : SlotWork) (row : AttesterRow) (details : AttestationData) (grant : OpenGrant) → first_that_differs (data_members row details) ≡ None
    → IsGrantOf grant row.pubkey (vote_message work.domains details) → IsOwnVote work row grant details
voted_own work row details grant same of = record { same = same; leave = of }

only_voted : (work : SlotWork) (row : AttesterRow) (details : AttestationData) → first_that_differs (data_members row details) ≡ None → Only (IsOfDuty work (duty.Vote row)) (voted_plan work row details)
only_voted work row details same =
    only_publish (IsOfDuty work (duty.Vote row)) row.pubkey (vote_message work.domains details) work.moment (granted.Vote details) (vote_request work details) (vote_post row details) tt (λ grant o. tt)
    (λ grant of. ((details, refl, voted_own work row details grant same of), λ s. (voted_own work row details grant same of, refl)))

only_vote : (work : SlotWork) (row : AttesterRow) → Only (IsOfDuty work (duty.Vote row)) (vote_plan work row)
only_vote work row = (
  tt,
  λ r f. only_got (IsOfDuty work (duty.Vote row)) over (vote_of row (answer_reply r)) (λ details. voted_plan work row details) (λ details e. only_voted work row details (vote_got row (answer_reply r) details e)),
)

only_data : (work : SlotWork) (row : AttesterRow) → Only (IsOfData work row) (data_plan work row)
only_data work row = (
  refl,
  λ r f. only_got (IsOfData work row) over (vote_of row (answer_reply r)) (λ details. Done (said details)) (λ details e. tt),
)

made_own : (work : SlotWork) (row : ProposerRow) (block : AnyBlock) (grant : OpenGrant) → first_that_differs (block_members row.slot work.altair block) ≡ None
    → IsGrantOf grant row.pubkey (block_message work.domains block) → IsOwnBlock work row grant block
made_own work row block grant same of = record { same = same; leave = of }

only_made : (work : SlotWork) (row : ProposerRow) (block : AnyBlock) → first_that_differs (block_members row.slot work.altair block) ≡ None → Only (IsOfDuty work (duty.Block row)) (made_plan work row block)
only_made work row block same =
    only_publish (IsOfDuty work (duty.Block row)) row.pubkey (block_message work.domains block) work.moment (granted.Block block) (block_request work block) (block_post block) tt (λ grant o. tt)
    (λ given of. ((block, refl, made_own work row block given same of), λ s. made_own work row block given same of))

only_revealed : (work : SlotWork) (row : ProposerRow) (grant : OpenGrant) (reveal : Sig) → Only (IsOfDuty work (duty.Block row)) (revealed_plan work row grant reveal)
only_revealed work row grant reveal =
    let P : DutyCall → Type 0 = IsOfDuty work (duty.Block row) in (
      tt,
      λ r f. only_settles P grant outcome.Sent (with_got over (block_of work.altair row (answer_reply r)) (λ block. made_plan work row block)) (λ given o. tt)
          (only_got P over (block_of work.altair row (answer_reply r)) (λ block. made_plan work row block) (λ block e. only_made work row block (block_got work.altair row (answer_reply r) block e))),
    )

only_block : (work : SlotWork) (row : ProposerRow) → Only (IsOfDuty work (duty.Block row)) (block_plan work row)
only_block work row =
    let P : DutyCall → Type 0 = IsOfDuty work (duty.Block row) in (
      tt,
      λ r f. only_got P over (grant_of (desk_reply r)) (λ grant. allowed_plan work row grant) (λ grant e.
          let of = got_for (call.Allow row.pubkey work.moment) r grant f e in
          ((refl, allowed_got row.pubkey grant of), λ s f2. only_under P (left_by granted.Reveal) grant (signature_of (sign_reply s)) (λ reveal. revealed_plan work row grant reveal) (λ given o. tt) (λ reveal. only_revealed work row grant reveal))),
    )

-- ---- of an aggregate

only_chosen : (work : SlotWork) (row : AttesterRow) (details : AttestationData) (grant : OpenGrant) (s : DutyReply)
    → Only (IsOfChoice work row) (settles grant outcome.Dropped (with_got over (signature_of (sign_reply s)) (λ proof. Done (chosen_by row details proof))))
only_chosen work row details grant s =
    let P : DutyCall → Type 0 = IsOfChoice work row in
    only_settles P grant outcome.Dropped (with_got over (signature_of (sign_reply s)) (λ proof. Done (chosen_by row details proof))) (λ given o. tt)
    (only_got P over (signature_of (sign_reply s)) (λ proof. Done (chosen_by row details proof)) (λ proof e. tt))

only_choose : (work : SlotWork) (row : AttesterRow) (details : AttestationData) → Only (IsOfChoice work row) (choose_plan work row details)
only_choose work row details = (
  tt,
  λ r f. only_got (IsOfChoice work row) over (grant_of (desk_reply r)) (λ grant. proof_plan work row details grant) (λ grant e.
      let of = got_for (call.Allow row.pubkey work.moment) r grant f e in
      ((refl, allowed_got row.pubkey grant of), λ s f2. only_chosen work row details grant s)),
)

only_aggregated : (work : SlotWork) (row : AttesterRow) (details : AttestationData) (proof : Sig) (given : AggregateAndProof) (grant : OpenGrant)
    → IsOwnAggregate row details proof given → IsPlainGrantOf grant row.pubkey → Only (IsOfAggregate work row details proof) (aggregated_plan work given grant)
only_aggregated work row details proof given grant own of =
    let P : DutyCall → Type 0 = IsOfAggregate work row details proof in (
      (given, refl, own, of),
      λ s f. only_under P over grant (signature_of (sign_reply s)) (λ signature. post_plan over grant (aggregate_post given signature)) (λ g o. tt)
          (λ signature. only_post P over grant (aggregate_post given signature) (λ g o. tt) (own, of)),
    )

only_gathered : (work : SlotWork) (row : AttesterRow) (details : AttestationData) (proof : Sig) (given : AggregateAndProof)
    → IsOwnAggregate row details proof given → Only (IsOfAggregate work row details proof) (gathered_plan work row given)
only_gathered work row details proof given own = (
  tt,
  λ r f. only_got (IsOfAggregate work row details proof) over (grant_of (desk_reply r)) (λ grant. aggregated_plan work given grant) (λ grant e.
      only_aggregated work row details proof given grant own (allowed_got row.pubkey grant (got_for (call.Allow row.pubkey work.moment) r grant f e))),
)

gathered_own : (row : AttesterRow) (details : AttestationData) (proof : Sig) (aggregate : Attestation) → details_root aggregate.details ≡ details_root details → IsOwnAggregate row details proof (aggregate_message row proof aggregate)
gathered_own row details proof aggregate e = record { index = refl; proof_is = refl; root = e }

only_aggregate : (work : SlotWork) (row : AttesterRow) (details : AttestationData) (proof : Sig) → Only (IsOfAggregate work row details proof) (aggregate_plan work row details proof)
only_aggregate work row details proof = (
  tt,
  λ r f. only_got (IsOfAggregate work row details proof) over (aggregate_of details (answer_reply r)) (λ aggregate. gathered_plan work row (aggregate_message row proof aggregate)) (λ aggregate e.
      only_gathered work row details proof (aggregate_message row proof aggregate) (gathered_own row details proof aggregate (aggregate_got details (answer_reply r) aggregate e))),
)

pub task_own : (work : SlotWork) (t : Task) (steps : List DutyStep) (v : Option Ended) → IsOwnTask work.altair t → Follows Fits (task_plan work t) steps v → AllOwn work t steps
task_own work (task.Fresh (duty.Vote row)) steps v own f = own_follows (IsOfDuty work (duty.Vote row)) (vote_plan work row) steps v (only_vote work row) f
task_own work (task.Fresh (duty.Block row)) steps v own f = own_follows (IsOfDuty work (duty.Block row)) (block_plan work row) steps v (only_block work row) f
task_own work (task.Again (duty.Vote row) (granted.Vote details)) steps v own f = own_follows (IsOfDuty work (duty.Vote row)) (voted_plan work row details) steps v (only_voted work row details own) f
task_own work (task.Again (duty.Block row) (granted.Block block)) steps v own f = own_follows (IsOfDuty work (duty.Block row)) (made_plan work row block) steps v (only_made work row block own) f
task_own work (task.Again (duty.Block row) granted.Reveal) steps v own f = own_follows (IsOfDuty work (duty.Block row)) (block_plan work row) steps v (only_block work row) f
task_own work (task.Again (duty.Vote row) granted.Reveal) steps v own f = absurd own
task_own work (task.Again (duty.Vote row) (granted.Block block)) steps v own f = absurd own
task_own work (task.Again (duty.Block row) (granted.Vote details)) steps v own f = absurd own
task_own work (task.Data row) steps v own f = own_follows (IsOfData work row) (data_plan work row) steps v (only_data work row) f
task_own work (task.Vote row details) steps v own f = own_follows (IsOfDuty work (duty.Vote row)) (voted_plan work row details) steps v (only_voted work row details own) f
task_own work (task.Choose row details) steps v own f = own_follows (IsOfChoice work row) (choose_plan work row details) steps v (only_choose work row details) f
task_own work (task.Aggregate row details proof) steps v own f = own_follows (IsOfAggregate work row details proof) (aggregate_plan work row details proof) steps v (only_aggregate work row details proof) f

-- ---- what is proposed once more

only_proposes : (key : PubKey) (m : Message) (now : ℕ) (unsent : Unsent) (q : SignRequest) (made : Sig → Post) → Only (Proposes key m) (publish_plan key m now unsent q made)
only_proposes key m now unsent q made = only_publish (Proposes key m) key m now unsent q made (refl, refl) (λ grant o. tt) (λ grant of. (tt, λ s. tt))

same_message : {m n : Message} → Some m ≡ Some n → m ≡ n
same_message e = cc

propose_of : (key : PubKey) (m n : Message) (plan : DutyPlan Ended) (steps : List DutyStep) (v : Option Ended) → Some m ≡ Some n → Only (Proposes key m) plan → Follows Fits plan steps v → AllPropose key n steps
propose_of key m n plan steps v is o f = subst (λ (x : Message). AllPropose key x steps) (same_message is) (propose_follows key m plan steps v o f)

pub again_proposes : (work : SlotWork) (d : Duty) (unsent : Unsent) (m : Message) (steps : List DutyStep) (v : Option Ended) → unsent_message work.domains unsent ≡ Some m
    → Follows Fits (task_plan work (task.Again d unsent)) steps v → AllPropose (owner_of d) m steps
again_proposes work (duty.Vote row) (granted.Vote details) m steps v is f = propose_of row.pubkey (vote_message work.domains details) m (voted_plan work row details) steps v is
    (only_proposes row.pubkey (vote_message work.domains details) work.moment (granted.Vote details) (vote_request work details) (vote_post row details)) f
again_proposes work (duty.Block row) (granted.Block block) m steps v is f = propose_of row.pubkey (block_message work.domains block) m (made_plan work row block) steps v is
    (only_proposes row.pubkey (block_message work.domains block) work.moment (granted.Block block) (block_request work block) (block_post block)) f
again_proposes work d granted.Reveal m steps v is f = absurd cc
again_proposes work (duty.Vote row) (granted.Block block) m steps v is f = propose_follows row.pubkey m Stop steps v tt f
again_proposes work (duty.Block row) (granted.Vote details) m steps v is f = propose_follows row.pubkey m Stop steps v tt f

pub cast_proposes : (work : SlotWork) (row : AttesterRow) (details : AttestationData) (steps : List DutyStep) (v : Option Ended) → Follows Fits (task_plan work (task.Vote row details)) steps v
    → AllPropose row.pubkey (vote_message work.domains details) steps
cast_proposes work row details steps v f = propose_follows row.pubkey (vote_message work.domains details) (voted_plan work row details) steps v
    (only_proposes row.pubkey (vote_message work.domains details) work.moment (granted.Vote details) (vote_request work details) (vote_post row details)) f

-- ---- what it gives

first_none : {A : Type 0} (a : Option A) → first_of a None ≡ a
first_none None = refl
first_none (Some x) = refl

first_on : {A : Type 0} (a b c : Option A) → first_of (first_of a b) c ≡ first_of a (first_of b c)
first_on None b c = refl
first_on (Some x) b c = refl

-- after steps of which the first failure is this, the plan ends as the first failure of all says
abbrev pub Gives : Option ℕ → Task → Option DutyResult → DutyPlan Ended → Type 0
Gives altair t so (Done x) = x.result ≡ unwrap_or so ended.Sent
Gives altair t so Stop = Unit {0}
Gives altair t so (Step c k) = (r : DutyReply) → Fits c r → Gives altair t (first_of so (failure_of altair t (c, r))) (k r)

abbrev GivesBy : Option ℕ → Task → Option DutyResult → List DutyStep → Ended → Type 0
GivesBy altair t so steps e = e.result ≡ unwrap_or (first_of so (first_failure altair t steps)) ended.Sent

gives_follows : (altair : Option ℕ) (t : Task) (so : Option DutyResult) (plan : DutyPlan Ended) (steps : List DutyStep) (e : Ended) → Gives altair t so plan → Follows Fits plan steps (Some e) → GivesBy altair t so steps e
gives_follows altair t so (Done x) [] e g f = ap (λ (y : Ended). y.result) f ∙ g ∙ ap (λ o. unwrap_or o ended.Sent) (sym (first_none so))
gives_follows altair t so (Done x) (s ∷ steps) e g f = absurd f
gives_follows altair t so Stop [] e g f = absurd f
gives_follows altair t so Stop (s ∷ steps) e g f = absurd f
gives_follows altair t so (Step c k) [] e g f = absurd f
gives_follows altair t so (Step c k) (s ∷ steps) e g f =
    let rest = gives_follows altair t (first_of so (failure_of altair t (c, s.1))) (k s.1) steps e (g s.1 f.1) f.2 in
    let same : failure_of altair t (c, s.1) ≡ failure_of altair t s = ap (λ (x : DutyCall). failure_of altair t (x, s.1)) (sym f.0) in
    rest ∙ ap (λ o. unwrap_or o ended.Sent) (first_on so (failure_of altair t (c, s.1)) (first_failure altair t steps) ∙ ap (λ o. first_of so (first_of o (first_failure altair t steps))) same)

-- an end by this is one
abbrev EndsSo : (DutyResult → Ended) → Type 0
EndsSo ends = (by : DutyResult) → (ends by).result ≡ by

gives_got : {T : Type 0} (altair : Option ℕ) (t : Task) (so : Option DutyResult) (ends : DutyResult → Ended) (g : Got T) (k : T → DutyPlan Ended) → EndsSo ends → so ≡ failed_in g → ((x : T) → Gives altair t None (k x)) → Gives altair t so (with_got ends g k)
gives_got altair t so ends (got.Given x) k is e h = subst (λ (o : Option DutyResult). Gives altair t o (k x)) (sym e) (h x)
gives_got altair t so ends (got.Failed by) k is e h = is by ∙ ap (λ o. unwrap_or o ended.Sent) (sym e)
gives_got altair t so ends got.Nothing k is e h = tt

settled_none : (c : DeskReply) (grant : OpenGrant) (o : Outcome) → Fits (Calls (call.Settle grant o)) (Replies c) → failed_in (grant_of c) ≡ None
settled_none reply.Settled grant o f = refl
settled_none c grant o f = absurd f.0

settle_none : (altair : Option ℕ) (t : Task) (r : DutyReply) (grant : OpenGrant) (o : Outcome) → Fits (Calls (call.Settle grant o)) r → failure_of altair t (Calls (call.Settle grant o), r) ≡ None
settle_none altair t (Replies c) grant o f = settled_none c grant o f
settle_none altair t (Signed s) grant o f = absurd f
settle_none altair t (Answered tried) grant o f = absurd f
settle_none altair t (Taken tried) grant o f = absurd f

gives_settles : (altair : Option ℕ) (t : Task) (so : Option DutyResult) (grant : OpenGrant) (o : Outcome) (next : DutyPlan Ended) → Gives altair t so next → Gives altair t so (settles grant o next)
gives_settles altair t so grant o next g r f =
    subst (λ (x : Option DutyResult). Gives altair t x next) (sym (ap (λ x. first_of so x) (settle_none altair t r grant o f) ∙ first_none so)) g

gives_under : {T : Type 0} (altair : Option ℕ) (t : Task) (so : Option DutyResult) (ends : DutyResult → Ended) (grant : OpenGrant) (g : Got T) (k : T → DutyPlan Ended) → EndsSo ends → so ≡ failed_in g → ((x : T) → Gives altair t None (k x)) → Gives altair t so (under ends grant g k)
gives_under altair t so ends grant (got.Given x) k is e h = subst (λ (o : Option DutyResult). Gives altair t o (k x)) (sym e) (h x)
gives_under altair t so ends grant (got.Failed by) k is e h = gives_settles altair t so grant outcome.Dropped (Done (ends by)) (is by ∙ ap (λ o. unwrap_or o ended.Sent) (sym e))
gives_under altair t so ends grant got.Nothing k is e h = gives_settles altair t so grant outcome.Dropped Stop tt

-- the failure of a reply is that of what was read of it
sign_failure : (altair : Option ℕ) (t : Task) (grant : OpenGrant) (q : SignRequest) (r : DutyReply) → Fits (Signs grant q) r → failure_of altair t (Signs grant q, r) ≡ failed_in (signature_of (sign_reply r))
sign_failure altair t grant q (Signed s) f = refl
sign_failure altair t grant q (Replies c) f = absurd f
sign_failure altair t grant q (Answered tried) f = absurd f
sign_failure altair t grant q (Taken tried) f = absurd f

reveal_failure : (altair : Option ℕ) (t : Task) (grant : OpenGrant) (q : PlainRequest) (r : DutyReply) → Fits (Reveals grant q) r → failure_of altair t (Reveals grant q, r) ≡ failed_in (signature_of (sign_reply r))
reveal_failure altair t grant q (Signed s) f = refl
reveal_failure altair t grant q (Replies c) f = absurd f
reveal_failure altair t grant q (Answered tried) f = absurd f
reveal_failure altair t grant q (Taken tried) f = absurd f

post_failure : (altair : Option ℕ) (t : Task) (grant : OpenGrant) (p : Post) (r : DutyReply) → Fits (Posts grant p) r → failure_of altair t (Posts grant p, r) ≡ failed_in (posted_of (post_reply r))
post_failure altair t grant p (Taken tried) f = refl
post_failure altair t grant p (Replies c) f = absurd f
post_failure altair t grant p (Signed s) f = absurd f
post_failure altair t grant p (Answered tried) f = absurd f

call_failure : (altair : Option ℕ) (t : Task) (c : DeskCall) (r : DutyReply) → Fits (Calls c) r → failure_of altair t (Calls c, r) ≡ failed_in (grant_of (desk_reply r))
call_failure altair t c (Replies x) f = refl
call_failure altair t c (Signed s) f = absurd f
call_failure altair t c (Answered tried) f = absurd f
call_failure altair t c (Taken tried) f = absurd f

ask_failure : (altair : Option ℕ) (t : Task) (a : Ask) (r : DutyReply) → Fits (Asks a) r → failure_of altair t (Asks a, r) ≡ failed_answer altair t (answer_reply r)
ask_failure altair t a (Answered tried) f = refl
ask_failure altair t a (Replies c) f = absurd f
ask_failure altair t a (Signed s) f = absurd f
ask_failure altair t a (Taken tried) f = absurd f

over_so : EndsSo over
over_so by = refl

left_so : (unsent : Unsent) → EndsSo (left_by unsent)
left_so unsent by = refl

barred_so : (unsent : Unsent) → EndsSo (barred unsent)
barred_so unsent by = refl

gives_post : (altair : Option ℕ) (t : Task) (ends : DutyResult → Ended) (grant : OpenGrant) (p : Post) → EndsSo ends → Gives altair t None (post_plan ends grant p)
gives_post altair t ends grant p so r f = gives_settles altair t (failure_of altair t (Posts grant p, r)) grant outcome.Sent (with_got ends (posted_of (post_reply r)) (sent ends))
    (gives_got altair t (failure_of altair t (Posts grant p, r)) ends (posted_of (post_reply r)) (sent ends) so (post_failure altair t grant p r f) (λ x. so ended.Sent))

gives_publish : (altair : Option ℕ) (t : Task) (key : PubKey) (m : Message) (now : ℕ) (unsent : Unsent) (q : SignRequest) (made : Sig → Post) → Gives altair t None (publish_plan key m now unsent q made)
gives_publish altair t key m now unsent q made r f = gives_got altair t (failure_of altair t (Calls (call.Propose key m now), r)) (barred unsent) (grant_of (desk_reply r)) (λ grant. granted_plan unsent q made grant) (barred_so unsent) (call_failure altair t (call.Propose key m now) r f)
    (λ grant s f2. gives_under altair t (failure_of altair t (Signs grant q, s)) (left_by unsent) grant (signature_of (sign_reply s)) (λ signature. post_plan (left_by unsent) grant (made signature)) (left_so unsent) (sign_failure altair t grant q s f2)
    (λ signature. gives_post altair t (left_by unsent) grant (made signature) (left_so unsent)))

gives_voted : (work : SlotWork) (t : Task) (row : AttesterRow) (details : AttestationData) → Gives work.altair t None (voted_plan work row details)
gives_voted work t row details = gives_publish work.altair t row.pubkey (vote_message work.domains details) work.moment (granted.Vote details) (vote_request work details) (vote_post row details)

gives_vote : (work : SlotWork) (row : AttesterRow) → Gives work.altair (task.Fresh (duty.Vote row)) None (vote_plan work row)
gives_vote work row r f =
    let t : Task = task.Fresh (duty.Vote row) in
    gives_got work.altair t (failure_of work.altair t (Asks (ask.Data work.slot row.committee_index), r)) over (vote_of row (answer_reply r)) (λ details. voted_plan work row details) over_so (ask_failure work.altair t (ask.Data work.slot row.committee_index) r f) (gives_voted work t row)

gives_data : (work : SlotWork) (row : AttesterRow) → Gives work.altair (task.Data row) None (data_plan work row)
gives_data work row r f =
    let t : Task = task.Data row in
    gives_got work.altair t (failure_of work.altair t (Asks (ask.Data work.slot row.committee_index), r)) over (vote_of row (answer_reply r)) (λ details. Done (said details)) over_so (ask_failure work.altair t (ask.Data work.slot row.committee_index) r f) (λ details. refl)

gives_made : (work : SlotWork) (t : Task) (row : ProposerRow) (block : AnyBlock) → Gives work.altair t None (made_plan work row block)
gives_made work t row block = gives_publish work.altair t row.pubkey (block_message work.domains block) work.moment (granted.Block block) (block_request work block) (block_post block)

-- an answer that is no block of this duty fails it
abbrev FailsAs : SlotWork → ProposerRow → Task → Type 0
FailsAs work row t = (a : Result Answer NoAnswer) → failed_answer work.altair t a ≡ failed_in (block_of work.altair row a)

gives_revealed : (work : SlotWork) (t : Task) (row : ProposerRow) (grant : OpenGrant) (reveal : Sig) → FailsAs work row t → Gives work.altair t None (revealed_plan work row grant reveal)
gives_revealed work t row grant reveal fails r f =
    let so : Option DutyResult = failure_of work.altair t (Asks (ask.Block work.slot reveal), r) in
    gives_settles work.altair t so grant outcome.Sent (with_got over (block_of work.altair row (answer_reply r)) (λ block. made_plan work row block))
    (gives_got work.altair t so over (block_of work.altair row (answer_reply r)) (λ block. made_plan work row block) over_so (ask_failure work.altair t (ask.Block work.slot reveal) r f ∙ fails (answer_reply r)) (gives_made work t row))

gives_block : (work : SlotWork) (t : Task) (row : ProposerRow) → FailsAs work row t → Gives work.altair t None (block_plan work row)
gives_block work t row fails r f = gives_got work.altair t (failure_of work.altair t (Calls (call.Allow row.pubkey work.moment), r)) over (grant_of (desk_reply r)) (λ grant. allowed_plan work row grant) over_so (call_failure work.altair t (call.Allow row.pubkey work.moment) r f)
    (λ grant s f2. gives_under work.altair t (failure_of work.altair t (Reveals grant (reveal_request work), s)) (left_by granted.Reveal) grant (signature_of (sign_reply s)) (λ reveal. revealed_plan work row grant reveal) (left_so granted.Reveal) (reveal_failure work.altair t grant (reveal_request work) s f2) (λ reveal. gives_revealed work t row grant reveal fails))

gives_choose : (work : SlotWork) (row : AttesterRow) (details : AttestationData) → Gives work.altair (task.Choose row details) None (choose_plan work row details)
gives_choose work row details r f =
    let t : Task = task.Choose row details in
    gives_got work.altair t (failure_of work.altair t (Calls (call.Allow row.pubkey work.moment), r)) over (grant_of (desk_reply r)) (λ grant. proof_plan work row details grant) over_so (call_failure work.altair t (call.Allow row.pubkey work.moment) r f)
    (λ grant s f2.
    let so : Option DutyResult = failure_of work.altair t (Reveals grant (slot_request work), s) in
    gives_settles work.altair t so grant outcome.Dropped (with_got over (signature_of (sign_reply s)) (λ proof. Done (chosen_by row details proof)))
    (gives_got work.altair t so over (signature_of (sign_reply s)) (λ proof. Done (chosen_by row details proof)) over_so (reveal_failure work.altair t grant (slot_request work) s f2) (λ proof. refl)))

gives_aggregated : (work : SlotWork) (t : Task) (given : AggregateAndProof) (grant : OpenGrant) → Gives work.altair t None (aggregated_plan work given grant)
gives_aggregated work t given grant s f = gives_under work.altair t (failure_of work.altair t (Reveals grant (aggregate_request work given), s)) over grant (signature_of (sign_reply s)) (λ signature. post_plan over grant (aggregate_post given signature)) over_so
    (reveal_failure work.altair t grant (aggregate_request work given) s f) (λ signature. gives_post work.altair t over grant (aggregate_post given signature) over_so)

gives_gathered : (work : SlotWork) (t : Task) (row : AttesterRow) (given : AggregateAndProof) → Gives work.altair t None (gathered_plan work row given)
gives_gathered work t row given r f = gives_got work.altair t (failure_of work.altair t (Calls (call.Allow row.pubkey work.moment), r)) over (grant_of (desk_reply r)) (λ grant. aggregated_plan work given grant) over_so (call_failure work.altair t (call.Allow row.pubkey work.moment) r f) (gives_aggregated work t given)

gives_aggregate : (work : SlotWork) (row : AttesterRow) (details : AttestationData) (proof : Sig) → Gives work.altair (task.Aggregate row details proof) None (aggregate_plan work row details proof)
gives_aggregate work row details proof r f =
    let t : Task = task.Aggregate row details proof in
    let a : Ask = ask.Aggregate (record { 0 = details_root details }) work.slot in
    gives_got work.altair t (failure_of work.altair t (Asks a, r)) over (aggregate_of details (answer_reply r)) (λ aggregate. gathered_plan work row (aggregate_message row proof aggregate)) over_so (ask_failure work.altair t a r f)
    (λ aggregate. gives_gathered work t row (aggregate_message row proof aggregate))

pub task_result : (work : SlotWork) (t : Task) (steps : List DutyStep) (e : Ended) → Follows Fits (task_plan work t) steps (Some e) → e.result ≡ result_by work.altair t steps
task_result work (task.Fresh (duty.Vote row)) steps e f = gives_follows work.altair (task.Fresh (duty.Vote row)) None (vote_plan work row) steps e (gives_vote work row) f
task_result work (task.Fresh (duty.Block row)) steps e f = let t : Task = task.Fresh (duty.Block row) in gives_follows work.altair t None (block_plan work row) steps e (gives_block work t row (λ a. refl)) f
task_result work (task.Again (duty.Vote row) (granted.Vote details)) steps e f = let t : Task = task.Again (duty.Vote row) (granted.Vote details) in gives_follows work.altair t None (voted_plan work row details) steps e (gives_voted work t row details) f
task_result work (task.Again (duty.Block row) (granted.Block block)) steps e f = let t : Task = task.Again (duty.Block row) (granted.Block block) in gives_follows work.altair t None (made_plan work row block) steps e (gives_made work t row block) f
task_result work (task.Again (duty.Block row) granted.Reveal) steps e f = let t : Task = task.Again (duty.Block row) granted.Reveal in gives_follows work.altair t None (block_plan work row) steps e (gives_block work t row (λ a. refl)) f
task_result work (task.Again (duty.Vote row) granted.Reveal) steps e f = gives_follows work.altair (task.Again (duty.Vote row) granted.Reveal) None Stop steps e tt f
task_result work (task.Again (duty.Vote row) (granted.Block block)) steps e f = gives_follows work.altair (task.Again (duty.Vote row) (granted.Block block)) None Stop steps e tt f
task_result work (task.Again (duty.Block row) (granted.Vote details)) steps e f = gives_follows work.altair (task.Again (duty.Block row) (granted.Vote details)) None Stop steps e tt f
task_result work (task.Data row) steps e f = gives_follows work.altair (task.Data row) None (data_plan work row) steps e (gives_data work row) f
task_result work (task.Vote row details) steps e f = let t : Task = task.Vote row details in gives_follows work.altair t None (voted_plan work row details) steps e (gives_voted work t row details) f
task_result work (task.Choose row details) steps e f = gives_follows work.altair (task.Choose row details) None (choose_plan work row details) steps e (gives_choose work row details) f
task_result work (task.Aggregate row details proof) steps e f = gives_follows work.altair (task.Aggregate row details proof) None (aggregate_plan work row details proof) steps e (gives_aggregate work row details proof) f
