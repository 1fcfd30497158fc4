-- A duty's calls, one before others.
use Rattle.std.proofs.Common.{◌≡◌, ◌⊎◌, inl, inr, ⊎_elim, ℕ, List, [], ◌∷◌, Option, Some, None, Result, Ok, Err, refl, sym, ◌∙◌, ap, subst}
use Rattle.std.specs.Prelude.{◌≤◌, true, IfOk, IsSome, IfSome}
use Rattle.edge_kit.specs.Causes.{Rose}
use Rattle.edge_kit.specs.Tellings.{Tells}
use Rattle.edge_kit.specs.declared.bytes.PubKey.{PubKey}
use Rattle.edge_kit.specs.declared.bytes.Sig.{Sig}
use Rattle.slash_defs.specs.declared.message.Message.{Message}
use Rattle.altair_blocks.specs.declared.any_block.AnyBlock.{AnyBlock}
use Rattle.signer_link.specs.declared.request.SignObject.TheVariants as made_of
use Rattle.duty_plans.specs.Messages.{block_post, block_request}
use Rattle.duty_plans.specs.declared.work.SlotWork.{SlotWork}
use Rattle.protect_record.specs.declared.verdict.Verdict.{Verdict}
use Rattle.protect_record.specs.declared.verdict.Verdict.TheVariants as verdict
use Rattle.desk_machine.specs.Grants.{IsGrantFor}
use Rattle.desk_machine.specs.Kinds.{IsKind}
use Rattle.desk_machine.specs.Making.{MaySettle}
use Rattle.desk_machine.specs.declared.open_grant.OpenGrant.{OpenGrant}
use Rattle.desk_machine.specs.declared.call.DeskCall.{DeskCall}
use Rattle.desk_machine.specs.declared.call.DeskCall.TheVariants as call
use Rattle.desk_machine.specs.declared.call.DeskReply.{DeskReply}
use Rattle.desk_machine.specs.declared.call.DeskReply.TheVariants as reply
use Rattle.desk_machine.specs.declared.call.Outcome.{Outcome}
use Rattle.desk_machine.specs.declared.call.Outcome.TheVariants as outcome
use Rattle.signer_link.specs.Outcomes.{CountsDenial, sign_denied}
use Rattle.signer_link.specs.Signing.{asked, plainly_asked, told_plain, told_sign}
use Rattle.signer_link.specs.declared.request.SignRequest.{SignRequest}
use Rattle.signer_link.specs.declared.request.PlainRequest.{PlainRequest}
use Rattle.signer_link.specs.declared.reply.SignReply.{SignReply}
use Rattle.signer_link.specs.declared.reply.SignReply.TheVariants as signing
use Rattle.signer_link.specs.declared.reply.Told.{Told}
use Rattle.client_calls.specs.Seats.{SignerSeen, SignerTells}
use Rattle.client_calls.proofs.SeatLemmas.{Leads, NoneLed, signer_none, sign_fault}
use Rattle.node_calls.specs.Asking.{posted, told_ask, told_post}
use Rattle.node_calls.specs.Fitting.{fits}
use Rattle.node_calls.specs.declared.ask.Ask.{Ask}
use Rattle.node_calls.specs.declared.answer.Answer.{Answer}
use Rattle.node_calls.specs.declared.answer.NodeFault.{NodeFault}
use Rattle.node_calls.specs.declared.post.Post.{Post}
use Rattle.node_calls.specs.declared.told.NodeCall.{NodeCall}
use Rattle.node_fallback.specs.InOrder.{Tries}
use Rattle.node_fallback.specs.Seen.{Seen}
use Rattle.node_fallback.specs.declared.no_node.NoAnswer.{NoAnswer}
use Rattle.call_plans.specs.Plans.{Plan, Done, Stop, Follows}
use Rattle.call_plans.specs.Paths.{Carries}
use Rattle.call_plans.proofs.PathLemmas.{carries_step, carries_end, carries_cut}
use Rattle.duty_plans.specs.declared.got.Got.{Got}
use Rattle.duty_plans.specs.declared.got.Got.TheVariants as got
use Rattle.duty_plans.specs.declared.ended.Ended.{Ended}
use Rattle.duty_plans.specs.declared.ended.Unsent.{Unsent}
use Rattle.duty_plans.specs.declared.ended.Unsent.TheVariants as granted
use Rattle.duty_plans.specs.declared.result.DutyResult.{DutyResult}
use Rattle.duty_plans.specs.Ends.{left_by, over}
use Rattle.duty_plans.specs.Reading.{grant_of, judged, posted_of}
use Rattle.duty_plans.specs.Steps.{DutyPlan, DutyStep, Tried, Calls, Signs, Reveals, Asks, Posts, Replies, Signed, Answered, Taken, Fits, came_of, told_message}
use Rattle.duty_plans.specs.Hands.{Hand, Free, Holds, Sends, MayAsk, MayDo, begun, hand_called, hand_given, hand_of}
use Rattle.duty_plans.specs.Seats.{AreTriedIn, Does, Seat, at_seat}
use Rattle.duty_plans.specs.Plans.{asks, calls, post_plan, posts, reveals, sent, settles, signs, under, with_got}
use Rattle.duty_sends.specs.Hands.{HasMessage, MayEnd, given_hand}

-- ---- the nodes

record TriedSo {A : Type 0} (told : Result A NodeFault → List NodeCall) (old new : List Seen) (result : Result A NoAnswer) : Type 0 where
  tried : Tried A
  does : AreTriedIn told old tried new
  came : result ≡ came_of tried

tried_so : {A : Type 0} (told : Result A NodeFault → List NodeCall) (old new : List Seen) (result : Result A NoAnswer) → Tries told old new result → TriedSo told old new result
tried_so told old new result t = ⊎_elim
    (λ in_order. record { tried = Some in_order.replies; does = (in_order.tried, in_order.whole); came = in_order.given })
    (λ none. record { tried = None; does = none.1; came = none.0 }) t

module _ {K : Type 0} (leads : Leads K) (none : NoneLed leads) where
  -- a question, before what follows by its answer
  pub runs_ask : (d : K) (h : Hand) (s : SignerSeen) (ns ms : List Seen) (now : Seat K) (a : Ask) (result : Result Answer NoAnswer) (k : Result Answer NoAnswer → DutyPlan Ended) (v : Option Ended)
      → MayAsk h a → Tries (told_ask a) ns ms result → IfOk result (λ answer. fits a answer ≡ true)
      → Carries Fits (Does leads) (k result) (at_seat d (begun h) s ms) now v → Carries Fits (Does leads) (asks a k) (at_seat d h s ns) now v
  runs_ask d h s ns ms now a result k v may tries fit rest =
      let t = tried_so (told_ask a) ns ms result tries in
      carries_step Fits (Does leads) (Asks a) (Answered t.tried) _ (at_seat d h s ns) (at_seat d (begun h) s ms) now v
      (record { desk = none d; may = may; hand = refl; signer = signer_none s; nodes = t.does })
      (subst (λ (r : Result Answer NoAnswer). IfOk r (λ answer. fits a answer ≡ true)) t.came fit)
      (subst (λ (r : Result Answer NoAnswer). Carries Fits (Does leads) (k r) (at_seat d (begun h) s ms) now v) t.came rest)

  -- a post, before what follows by what became of it
  pub runs_post : (d : K) (s : SignerSeen) (ns ms : List Seen) (now : Seat K) (grant : OpenGrant) (p : Post) (result : Result (Unit {0}) NoAnswer) (k : Result (Unit {0}) NoAnswer → DutyPlan Ended) (v : Option Ended)
      → Tries (told_post (posted grant.key grant.message p)) ns ms result
      → Carries Fits (Does leads) (k result) (at_seat d (Sends grant) s ms) now v → Carries Fits (Does leads) (posts grant p k) (at_seat d (Holds grant) s ns) now v
  runs_post d s ns ms now grant p result k v tries rest =
      let t = tried_so (told_post (posted grant.key grant.message p)) ns ms result tries in
      carries_step Fits (Does leads) (Posts grant p) (Taken t.tried) _ (at_seat d (Holds grant) s ns) (at_seat d (Sends grant) s ms) now v
      (record { desk = none d; may = refl; hand = refl; signer = signer_none s; nodes = t.does })
      tt
      (subst (λ (r : Result (Unit {0}) NoAnswer). Carries Fits (Does leads) (k r) (at_seat d (Sends grant) s ms) now v) t.came rest)

  -- a call of the desk
  pub runs_call : (d e : K) (h : Hand) (s : SignerSeen) (ns : List Seen) (now : Seat K) (c : DeskCall) (r : DeskReply) (k : DeskReply → DutyPlan Ended) (v : Option Ended)
      → leads d ((c, r) ∷ []) e → MayDo h (Calls c) → IsKind c r → IsGrantFor c r
      → Carries Fits (Does leads) (k r) (at_seat e (hand_called h c r) s ns) now v → Carries Fits (Does leads) (calls c k) (at_seat d h s ns) now v
  runs_call d e h s ns now c r k v led may kind for rest =
      carries_step Fits (Does leads) (Calls c) (Replies r) _ (at_seat d h s ns) (at_seat e (hand_called h c r) s ns) now v
      (record { desk = led; may = may; hand = refl; signer = signer_none s; nodes = refl }) (kind, for) rest

  -- a grant is settled
  pub runs_settle : (d e : K) (s : SignerSeen) (ns : List Seen) (now : Seat K) (grant : OpenGrant) (o : Outcome) (next : DutyPlan Ended) (v : Option Ended)
      → MayDo (hand_of grant o) (Calls (call.Settle grant o))
      → (r : DeskReply) × IsKind (call.Settle grant o) r × IsGrantFor (call.Settle grant o) r × leads d ((call.Settle grant o, r) ∷ []) e
      → Carries Fits (Does leads) next (at_seat e Free s ns) now v → Carries Fits (Does leads) (settles grant o next) (at_seat d (hand_of grant o) s ns) now v
  runs_settle d e s ns now grant o next v may led rest = runs_call d e (hand_of grant o) s ns now (call.Settle grant o) led.0 (λ r. next) v led.3 may led.1 led.2 rest

  -- and nothing follows
  pub runs_spent : (d e : K) (s : SignerSeen) (ns : List Seen) (grant : OpenGrant) (o : Outcome) (next : DutyPlan Ended) (v : Option Ended)
      → MayDo (hand_of grant o) (Calls (call.Settle grant o))
      → (r : DeskReply) × IsKind (call.Settle grant o) r × IsGrantFor (call.Settle grant o) r × leads d ((call.Settle grant o, r) ∷ []) e
      → Follows Fits next [] v → Carries Fits (Does leads) (settles grant o next) (at_seat d (hand_of grant o) s ns) (at_seat e Free s ns) v
  runs_spent d e s ns grant o next v may led f = runs_settle d e s ns (at_seat e Free s ns) grant o next v may led (carries_end Fits (Does leads) next (at_seat e Free s ns) v f)

  -- what was read is gone on with
  pub got_is : {T : Type 0} (g h : Got T) (k : T → DutyPlan Ended) (a b : Seat K) (v : Option Ended) → g ≡ h → Carries Fits (Does leads) (with_got over g k) a b v → Carries Fits (Does leads) (with_got over h k) a b v
  got_is g h k a b v e run = subst (λ x. Carries Fits (Does leads) (with_got over x k) a b v) e run

  pub under_is : {T : Type 0} (ends : DutyResult → Ended) (grant : OpenGrant) (g h : Got T) (k : T → DutyPlan Ended) (a b : Seat K) (v : Option Ended) → g ≡ h
      → Carries Fits (Does leads) (under ends grant g k) a b v → Carries Fits (Does leads) (under ends grant h k) a b v
  under_is ends grant g h k a b v e run = subst (λ x. Carries Fits (Does leads) (under ends grant x k) a b v) e run

  -- what was given is this
  pub ends_as : (p : DutyPlan Ended) (a b : Seat K) (v w : Option Ended) → v ≡ w → Carries Fits (Does leads) p a b w → Carries Fits (Does leads) p a b v
  ends_as p a b v w e run = subst (λ x. Carries Fits (Does leads) p a b x) (sym e) run

  -- what was signed is posted, and its grant settled
  pub runs_sent : (ends : DutyResult → Ended) (d e : K) (s : SignerSeen) (ns ms : List Seen) (grant : OpenGrant) (p : Post) (result : Result (Unit {0}) NoAnswer) (x : Got (Unit {0})) (v : Option Ended)
      → Tries (told_post (posted grant.key grant.message p)) ns ms result
      → (r : DeskReply) × IsKind (call.Settle grant outcome.Sent) r × IsGrantFor (call.Settle grant outcome.Sent) r × leads d ((call.Settle grant outcome.Sent, r) ∷ []) e
      → x ≡ posted_of result → Follows Fits (with_got ends x (sent ends)) [] v
      → Carries Fits (Does leads) (post_plan ends grant p) (at_seat d (Holds grant) s ns) (at_seat e Free s ms) v
  runs_sent ends d e s ns ms grant p result x v tries led is f =
      let next = λ (y : Got (Unit {0})). with_got ends y (sent ends) in
      runs_post d s ns ms (at_seat e Free s ms) grant p result (λ t. settles grant outcome.Sent (next (posted_of t))) v tries
      (runs_spent d e s ms grant outcome.Sent (next (posted_of result)) v refl led (subst (λ y. Follows Fits (next y) [] v) is f))

  -- the block that goes with a request is the one that it was made of
  block_same : (work : SlotWork) (block b : AnyBlock) (q : SignRequest) → q ≡ block_request work block → q.object ≡ Some (made_of.Block b) → b ≡ block
  block_same work block b q e h = cc

  pub block_is : (work : SlotWork) (grant : OpenGrant) (block b : AnyBlock) (q : SignRequest) (x : Got Sig) (a c : Seat K) (v : Option Ended) → q ≡ block_request work block → q.object ≡ Some (made_of.Block b)
      → Carries Fits (Does leads) (under (left_by (granted.Block b)) grant x (λ s. post_plan (left_by (granted.Block b)) grant (block_post b s))) a c v
      → Carries Fits (Does leads) (under (left_by (granted.Block block)) grant x (λ s. post_plan (left_by (granted.Block block)) grant (block_post block s))) a c v
  block_is work grant block b q x a c v e h run =
      subst (λ (y : AnyBlock). Carries Fits (Does leads) (under (left_by (granted.Block y)) grant x (λ s. post_plan (left_by (granted.Block y)) grant (block_post y s))) a c v) (block_same work block b q e h) run

  -- nothing was got under a grant
  pub runs_dropped : (d e : K) (s : SignerSeen) (ns : List Seen) (grant : OpenGrant) (next : DutyPlan Ended) (v : Option Ended)
      → (r : DeskReply) × IsKind (call.Settle grant outcome.Dropped) r × IsGrantFor (call.Settle grant outcome.Dropped) r × leads d ((call.Settle grant outcome.Dropped, r) ∷ []) e
      → Follows Fits next [] v → Carries Fits (Does leads) (settles grant outcome.Dropped next) (at_seat d (Holds grant) s ns) (at_seat e Free s ns) v
  runs_dropped d e s ns grant next v led f = runs_spent d e s ns grant outcome.Dropped next v refl led f

  -- ---- the signing service

  message_told : (t u : Option (List Told)) (grant : OpenGrant) (q : SignRequest) (s : SignReply) (m : Option Message)
      → IsSome m → IfSome m (λ message. Tells t u (told_sign (asked grant.key message q) s)) → Tells t u (told_message grant q m s)
  message_told t u grant q s None some h = absurd cc
  message_told t u grant q s (Some m) some h = h

  pub runs_sign : (d : K) (s t : SignerSeen) (ns : List Seen) (now : Seat K) (grant : OpenGrant) (q : SignRequest) (r : SignReply) (k : SignReply → DutyPlan Ended) (v : Option Ended)
      → IsSome grant.message → IfSome grant.message (λ message. Tells s.told t.told (told_sign (asked grant.key message q) r))
      → s.faults ≤ t.faults → (r ≡ signing.Fault → Rose s.faults t.faults) → s.denials ≤ t.denials → CountsDenial (sign_denied r) s.denials t.denials
      → Carries Fits (Does leads) (k r) (at_seat d (Holds grant) t ns) now v → Carries Fits (Does leads) (signs grant q k) (at_seat d (Holds grant) s ns) now v
  runs_sign d s t ns now grant q r k v some told later fault denials denied rest =
      carries_step Fits (Does leads) (Signs grant q) (Signed r) _ (at_seat d (Holds grant) s ns) (at_seat d (Holds grant) t ns) now v
      (record {
        desk = none d;
        may = refl;
        hand = refl;
        signer = record { told = message_told s.told t.told grant q r grant.message some told; later = later; fault = sign_fault r s.faults t.faults fault; denials = denials; denied = denied };
        nodes = refl;
      }) tt rest

  pub runs_reveal : (d : K) (s t : SignerSeen) (ns : List Seen) (now : Seat K) (grant : OpenGrant) (q : PlainRequest) (r : SignReply) (k : SignReply → DutyPlan Ended) (v : Option Ended)
      → Tells s.told t.told (told_plain (plainly_asked grant.key q) r)
      → s.faults ≤ t.faults → (r ≡ signing.Fault → Rose s.faults t.faults) → s.denials ≤ t.denials → CountsDenial (sign_denied r) s.denials t.denials
      → Carries Fits (Does leads) (k r) (at_seat d (Holds grant) t ns) now v → Carries Fits (Does leads) (reveals grant q k) (at_seat d (Holds grant) s ns) now v
  runs_reveal d s t ns now grant q r k v told later fault denials denied rest =
      carries_step Fits (Does leads) (Reveals grant q) (Signed r) _ (at_seat d (Holds grant) s ns) (at_seat d (Holds grant) t ns) now v
      (record {
        desk = none d;
        may = refl;
        hand = refl;
        signer = record { told = told; later = later; fault = sign_fault r s.faults t.faults fault; denials = denials; denied = denied };
        nodes = refl;
      }) tt rest

-- ---- leave

judged_free : (v : Verdict) → given_hand (judged v) ≡ Free
judged_free verdict.Pass = refl
judged_free (verdict.SlotBelow floor) = refl
judged_free (verdict.DoubleBlock kept) = refl
judged_free (verdict.SourceBelow floor) = refl
judged_free (verdict.TargetBelow floor) = refl
judged_free (verdict.DoubleVote kept) = refl
judged_free (verdict.Surrounds kept) = refl
judged_free (verdict.Surrounded kept) = refl

-- the grant in hand is the one that was read
given_leave : (r : DeskReply) → given_hand (grant_of r) ≡ hand_given Free r
given_leave (reply.Granted grant) = refl
given_leave (reply.Refused v) = judged_free v
given_leave r = refl

judged_ends : (allows : DeskCall → Type 0) (v : Verdict) → MayEnd allows (judged v)
judged_ends allows verdict.Pass = tt
judged_ends allows (verdict.SlotBelow floor) = tt
judged_ends allows (verdict.DoubleBlock kept) = tt
judged_ends allows (verdict.SourceBelow floor) = tt
judged_ends allows (verdict.TargetBelow floor) = tt
judged_ends allows (verdict.DoubleVote kept) = tt
judged_ends allows (verdict.Surrounds kept) = tt
judged_ends allows (verdict.Surrounded kept) = tt

may_end_of : (allows : DeskCall → Type 0) (r : DeskReply) → MaySettle allows r → MayEnd allows (grant_of r)
may_end_of allows (reply.Granted grant) h = h
may_end_of allows (reply.Refused v) h = judged_ends allows v
may_end_of allows r h = tt

pub may_end : (allows : DeskCall → Type 0) (r : DeskReply) (g : Got OpenGrant) → g ≡ grant_of r → MaySettle allows r → MayEnd allows g
may_end allows r g e h = subst (λ (x : Got OpenGrant). MayEnd allows x) (sym e) (may_end_of allows r h)

judged_message : (v : Verdict) → HasMessage (judged v)
judged_message verdict.Pass = tt
judged_message (verdict.SlotBelow floor) = tt
judged_message (verdict.DoubleBlock kept) = tt
judged_message (verdict.SourceBelow floor) = tt
judged_message (verdict.TargetBelow floor) = tt
judged_message (verdict.DoubleVote kept) = tt
judged_message (verdict.Surrounds kept) = tt
judged_message (verdict.Surrounded kept) = tt

some_message : (o : Option Message) (m : Message) → o ≡ Some m → IsSome o
some_message o m e = subst (λ (x : Option Message). IsSome x) (sym e) refl

has_message_of : (key : PubKey) (m : Message) (now : ℕ) (r : DeskReply) → IsGrantFor (call.Propose key m now) r → HasMessage (grant_of r)
has_message_of key m now (reply.Granted grant) h = some_message grant.message m h.1
has_message_of key m now (reply.Refused v) h = judged_message v
has_message_of key m now r h = tt

pub has_message : (key : PubKey) (m : Message) (now : ℕ) (r : DeskReply) (g : Got OpenGrant) → g ≡ grant_of r → IsGrantFor (call.Propose key m now) r → HasMessage g
has_message key m now r g e h = subst (λ (x : Got OpenGrant). HasMessage x) (sym e) (has_message_of key m now r h)

-- a call that asks for leave
pub runs_leave : {K : Type 0} (leads : Leads K) (none : NoneLed leads) (d e : K) (s : SignerSeen) (ns : List Seen) (now : Seat K) (ends : DutyResult → Ended) (c : DeskCall) (r : DeskReply) (g : Got OpenGrant) (k : OpenGrant → DutyPlan Ended) (v : Option Ended)
    → leads d ((c, r) ∷ []) e → MayDo Free (Calls c) → hand_called Free c r ≡ hand_given Free r → IsKind c r → IsGrantFor c r → g ≡ grant_of r
    → Carries Fits (Does leads) (with_got ends g k) (at_seat e (given_hand g) s ns) now v
    → Carries Fits (Does leads) (calls c (λ x. with_got ends (grant_of x) k)) (at_seat d Free s ns) now v
runs_leave leads none d e s ns now ends c r g k v led may called kind for is rest =
    let at : Carries Fits (Does leads) (with_got ends (grant_of r) k) (at_seat e (given_hand (grant_of r)) s ns) now v =
    subst (λ (x : Got OpenGrant). Carries Fits (Does leads) (with_got ends x k) (at_seat e (given_hand x) s ns) now v) is rest in
    runs_call leads none d e Free s ns now c r (λ x. with_got ends (grant_of x) k) v led may kind for
    (subst (λ (h : Hand). Carries Fits (Does leads) (with_got ends (grant_of r) k) (at_seat e h s ns) now v) (given_leave r ∙ sym called) at)
