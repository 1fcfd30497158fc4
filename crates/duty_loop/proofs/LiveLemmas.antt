-- What is noted of liveness.
use Rattle.std.proofs.Common.{◌≡◌, ◌==◌, ℕ, ◌+◌, ◌<◌, ◌≤◌, ◌∙◌, List, [], ◌∷◌, length, drop, get_or, Option, Some, None, Result, Ok, Bool, true, false, refl, sym, ap, subst, arith}
use Rattle.std.proofs.lemmas.Bool.{eqb-true}
use Rattle.std.proofs.lemmas.List.{at_drop_more, at_drop_all}
use Rattle.edge_kit.specs.declared.bytes.PubKey.{PubKey}
use Rattle.desk_machine.specs.declared.call.DeskCall.TheVariants as call
use Rattle.desk_machine.specs.declared.call.DeskCall.{DeskCall}
use Rattle.desk_machine.specs.declared.call.DeskReply.{DeskReply}
use Rattle.desk_machine.specs.declared.call.DeskReply.TheVariants as reply
use Rattle.desk_machine.specs.declared.call.KeyStanding.{KeyStanding}
use Rattle.desk_machine.specs.Grants.{IsGrantFor}
use Rattle.desk_machine.specs.Kinds.{IsKind}
use Rattle.client_calls.proofs.SeatLemmas.{Leads, NoneLed}
use Rattle.node_calls.specs.declared.ask.Ask.{Ask}
use Rattle.node_calls.specs.declared.ask.Ask.TheVariants as ask
use Rattle.node_calls.specs.declared.answer.Answer.{Answer}
use Rattle.node_calls.specs.declared.answer.Answer.TheVariants as answer
use Rattle.node_calls.specs.declared.answer.LivenessRow.{LivenessRow}
use Rattle.node_fallback.specs.declared.no_node.NoAnswer.{NoAnswer}
use Rattle.call_plans.specs.Plans.{Done}
use Rattle.call_plans.specs.Paths.{Carries, Comes}
use Rattle.call_plans.proofs.PathLemmas.{comes_run, comes_end, comes_none, comes_on, comes_cut, carries_cut, carries_end}
use Rattle.duty_turns.specs.Standing.{Standing, indices_of}
use Rattle.duty_turns.specs.Times.{epoch_of}
use Rattle.duty_turns.specs.Turns.{PartPlan, asks, calls, epoch_plan, epochs_plan, lived_plan, liveness_plan, missing_epochs, missing_keys, noted, notes_of, notes_plan, on_standing, watch_plan}
use Rattle.duty_turns.specs.TurnSteps.{Does, Fits, House, SinkSeen}
use Rattle.node_fallback.specs.Seen.{Seen}
use Rattle.duty_asks.specs.Quiet.{CameSo, Outside, TellsNone, done_value, stop_value}
use Rattle.duty_asks.specs.declared.ask.Asked.{Asked}
use Rattle.duty_asks.specs.declared.ask.Asked.TheVariants as asked
use Rattle.duty_asks.specs.declared.ask.Stop.{Stop}
use Rattle.duty_asks.specs.declared.ask.Stop.TheVariants as stop
use Rattle.duty_plans.specs.Hands.{Free, hand_given}
use Rattle.duty_plans.specs.Seats.{Seat}
use Rattle.duty_work.specs.Houses.{house}
use Rattle.duty_loop.specs.Missing.{some_misses, missing_from}
use Rattle.duty_loop.proofs.MissingLemmas.{missing_all, missing_here, missing_skip}
use Rattle.duty_loop.specs.Noting.{IsNoted, NotedOn, NotedSo, noted_by}
use Rattle.duty_work.proofs.HouseLemmas.{comes_more, quiet_comes, quiet_runs, turn_calls, turn_comes}

pub lived_tells : (epoch now : ℕ) (keys : List PubKey) (s : Standing) → TellsNone (lived_plan epoch now keys s) s
lived_tells epoch now keys s = λ causes. refl

pub kind_noted : (key : PubKey) (epoch : ℕ) (live : Bool) (now : ℕ) (r : DeskReply) → IsKind (call.Answer key epoch live now) r → IsNoted r
kind_noted key epoch live now reply.Noted h = tt
kind_noted key epoch live now reply.Unknown h = tt
kind_noted key epoch live now reply.NotActive h = tt
kind_noted key epoch live now reply.OutOfMemory h = tt
kind_noted key epoch live now r h = absurd h

-- no grant comes of it
same_hand : (r : DeskReply) → IsNoted r → hand_given Free r ≡ Free
same_hand reply.Noted h = refl
same_hand reply.Unknown h = refl
same_hand reply.NotActive h = refl
same_hand reply.OutOfMemory h = refl
same_hand r h = absurd h

module _ {K : Type 0} (leads : Leads K) (none : NoneLed leads) (start : Option ℕ) where
  -- a question outside the desk, and then what is noted of what came of it
  pub asked_noted : (q : Ask) (k : Result Answer NoAnswer → PartPlan) (s : Standing) (d e : K) (ls : List (Seat K)) (x y : Outside) (came : Asked) (result : Result (Unit {0}) Stop)
      → CameSo q k s x y came → NotedSo leads start k s came (house d ls y.nodes y.out) (house e ls y.nodes y.out) result
      → Carries Fits (Does leads start) (asks q k) (house d ls x.nodes x.out) (house e ls y.nodes y.out) (done_value s result)
  asked_noted q k s d e ls x y (asked.Given a) result c n =
      comes_run Fits (Does leads start) (house d ls x.nodes x.out) (house d ls y.nodes y.out) (house e ls y.nodes y.out) (asks q k) (k (Ok a)) (done_value s result) (quiet_comes leads none start d ls x y (asks q k) (k (Ok a)) c.1) n
  asked_noted q k s d e ls x y asked.Nothing result c n =
      let run = quiet_runs leads none start d ls x y (asks q k) (Some (Some s)) c in
      subst (λ (r : Result (Unit {0}) Stop). Carries Fits (Does leads start) (asks q k) (house d ls x.nodes x.out) (house e ls y.nodes y.out) (done_value s r)) (sym n.1)
      (subst (λ (h : House K). Carries Fits (Does leads start) (asks q k) (house d ls x.nodes x.out) h (Some (Some s))) (sym n.0) run)
  asked_noted q k s d e ls x y (asked.Stopped why) result c n =
      let run = quiet_runs leads none start d ls x y (asks q k) (stop_value why) c in
      subst (λ (r : Result (Unit {0}) Stop). Carries Fits (Does leads start) (asks q k) (house d ls x.nodes x.out) (house e ls y.nodes y.out) (done_value s r)) (sym n.1)
      (subst (λ (h : House K). Carries Fits (Does leads start) (asks q k) (house d ls x.nodes x.out) h (stop_value why)) (sym n.0) run)

  -- ---- note by note

  told_so : (c : DeskCall) (r : DeskReply) (next : PartPlan) (a b : House K) → Carries Fits (Does leads start) (calls c (λ x. noted x next)) a b None → Comes Fits (Does leads start) (calls c (λ x. noted x next)) (noted r next) a b
      → IsNoted r → NotedOn leads start (calls c (λ x. noted x next)) next a b (noted_by r)
  told_so c reply.Noted next a b cut on is = on
  told_so c reply.Unknown next a b cut on is = on
  told_so c reply.NotActive next a b cut on is = on
  told_so c reply.OutOfMemory next a b cut on is = cut
  told_so c r next a b cut on is = absurd is

  pub told : (d e : K) (ls : List (Seat K)) (nodes : List Seen) (out : SinkSeen) (key : PubKey) (epoch : ℕ) (live : Bool) (now : ℕ) (r : DeskReply) (next : PartPlan) (result : Result (Unit {0}) Stop)
      → leads d ((call.Answer key epoch live now, r) ∷ []) e → IsKind (call.Answer key epoch live now) r → IsGrantFor (call.Answer key epoch live now) r → result ≡ noted_by r
      → NotedOn leads start (calls (call.Answer key epoch live now) (λ x. noted x next)) next (house d ls nodes out) (house e ls nodes out) result
  told d e ls nodes out key epoch live now r next result led kind for is =
      let c : DeskCall = call.Answer key epoch live now in
      let hand = same_hand r (kind_noted key epoch live now r kind) in
      let cut = turn_calls leads start d e ls nodes out (house e ls nodes out) c r (λ x. noted x next) None refl hand led kind for (carries_cut Fits (Does leads start) (noted r next) (house e ls nodes out)) in
      let on = turn_comes leads start d e ls nodes out c r (λ x. noted x next) refl hand led kind for in
      subst (λ (x : Result (Unit {0}) Stop). NotedOn leads start (calls c (λ y. noted y next)) next (house d ls nodes out) (house e ls nodes out) x) (sym is) (told_so c r next (house d ls nodes out) (house e ls nodes out) cut on (kind_noted key epoch live now r kind))

  pub note_step : (epoch now : ℕ) (s : Standing) (p : PartPlan) (a b c : House K) (notes : List (PubKey × Bool)) (i : ℕ) (d : PubKey × Bool) → i < length notes
      → Comes Fits (Does leads start) p (notes_plan epoch now (drop i notes) s) a b
      → Comes Fits (Does leads start) (calls (call.Answer (get_or notes i d).0 epoch (get_or notes i d).1 now) (λ r. noted r (notes_plan epoch now (drop (i + 1) notes) s))) (notes_plan epoch now (drop (i + 1) notes) s) b c
      → Comes Fits (Does leads start) p (notes_plan epoch now (drop (i + 1) notes) s) a c
  note_step epoch now s p a b c notes i d h g run =
      comes_more Fits (Does leads start) a b c p (notes_plan epoch now (drop i notes) s) (notes_plan epoch now (drop (i + 1) notes) s) g
      (subst (λ (l : List (PubKey × Bool)). Comes Fits (Does leads start) (notes_plan epoch now l s) (notes_plan epoch now (drop (i + 1) notes) s) b c) (sym (at_drop_more (λ l. l) notes i d h)) run)

  pub note_stop : (epoch now : ℕ) (s : Standing) (p : PartPlan) (a b c : House K) (notes : List (PubKey × Bool)) (i : ℕ) (d : PubKey × Bool) (v : Option (Option Standing)) → i < length notes
      → Comes Fits (Does leads start) p (notes_plan epoch now (drop i notes) s) a b
      → Carries Fits (Does leads start) (calls (call.Answer (get_or notes i d).0 epoch (get_or notes i d).1 now) (λ r. noted r (notes_plan epoch now (drop (i + 1) notes) s))) b c v
      → Carries Fits (Does leads start) p a c v
  note_stop epoch now s p a b c notes i d v h g run =
      comes_run Fits (Does leads start) a b c p (notes_plan epoch now (drop i notes) s) v g
      (subst (λ (l : List (PubKey × Bool)). Carries Fits (Does leads start) (notes_plan epoch now l s) b c v) (sym (at_drop_more (λ l. l) notes i d h)) run)

  pub note_done : (epoch now : ℕ) (s : Standing) (p : PartPlan) (a b : House K) (notes : List (PubKey × Bool)) (i : ℕ) → length notes ≤ i
      → Comes Fits (Does leads start) p (notes_plan epoch now (drop i notes) s) a b → Carries Fits (Does leads start) p a b (Some (Some s))
  note_done epoch now s p a b notes i h g =
      comes_end Fits (Does leads start) a b p (Done (Some s)) (Some (Some s))
      (subst (λ (l : List (PubKey × Bool)). Comes Fits (Does leads start) p (notes_plan epoch now l s) a b) (at_drop_all (λ l. l) notes i h) g) refl

  -- ---- epoch by epoch

  pub epoch_step : (now epoch : ℕ) (listed : List (PubKey × KeyStanding)) (s : Standing) (p : PartPlan) (a b c : House K) (left more : List ℕ) → left ≡ epoch ∷ more
      → Comes Fits (Does leads start) p (epochs_plan now listed left s) a b → Carries Fits (Does leads start) (epoch_plan now listed epoch s) b c (Some (Some s))
      → Comes Fits (Does leads start) p (epochs_plan now listed more s) a c
  epoch_step now epoch listed s p a b c left more e g run =
      comes_on Fits (Does leads start) a b c p (epoch_plan now listed epoch s) (on_standing (epochs_plan now listed more)) (Some s)
      (subst (λ (l : List ℕ). Comes Fits (Does leads start) p (epochs_plan now listed l s) a b) e g) run

  pub epoch_stop : (now epoch : ℕ) (listed : List (PubKey × KeyStanding)) (s : Standing) (p : PartPlan) (a b c : House K) (left more : List ℕ) (why : Stop) → left ≡ epoch ∷ more
      → Comes Fits (Does leads start) p (epochs_plan now listed left s) a b → Carries Fits (Does leads start) (epoch_plan now listed epoch s) b c (stop_value why)
      → Carries Fits (Does leads start) p a c (stop_value why)
  epoch_stop now epoch listed s p a b c left more stop.Write e g run =
      comes_end Fits (Does leads start) a c p (Done None) (Some None)
      (comes_on Fits (Does leads start) a b c p (epoch_plan now listed epoch s) (on_standing (epochs_plan now listed more)) None
      (subst (λ (l : List ℕ). Comes Fits (Does leads start) p (epochs_plan now listed l s) a b) e g) run) refl
  epoch_stop now epoch listed s p a b c left more stop.OutOfMemory e g run =
      comes_cut Fits (Does leads start) a b c p (epoch_plan now listed epoch s) (on_standing (epochs_plan now listed more))
      (subst (λ (l : List ℕ). Comes Fits (Does leads start) p (epochs_plan now listed l s) a b) e g) run

  pub epoch_done : (now : ℕ) (listed : List (PubKey × KeyStanding)) (s : Standing) (p : PartPlan) (a b : House K) (left : List ℕ) → left ≡ []
      → Comes Fits (Does leads start) p (epochs_plan now listed left s) a b → Carries Fits (Does leads start) p a b (Some (Some s))
  epoch_done now listed s p a b left e g =
      comes_end Fits (Does leads start) a b p (Done (Some s)) (Some (Some s)) (subst (λ (l : List ℕ). Comes Fits (Does leads start) p (epochs_plan now listed l s) a b) e g) refl

  -- ---- what was answered, and of whom it was asked

  pub lived_by : (epoch now : ℕ) (keys : List PubKey) (s : Standing) (a b : House K) (v : Option (Option Standing)) (entries : List (PubKey × ℕ)) (given : Answer) (rows : List LivenessRow) (notes : List (PubKey × Bool))
      → given ≡ answer.Liveness rows → entries ≡ s.indices → notes ≡ notes_of entries keys rows
      → Carries Fits (Does leads start) (notes_plan epoch now notes s) a b v → Carries Fits (Does leads start) (lived_plan epoch now keys s (Ok given)) a b v
  lived_by epoch now keys s a b v entries given rows notes is held of run =
      let all : notes ≡ notes_of s.indices keys rows = of ∙ ap (λ (l : List (PubKey × ℕ)). notes_of l keys rows) held in
      subst (λ (x : Answer). Carries Fits (Does leads start) (lived_plan epoch now keys s (Ok x)) a b v) (sym is)
      (subst (λ (l : List (PubKey × Bool)). Carries Fits (Does leads start) (notes_plan epoch now l s) a b v) all run)

  pub lived_none : (epoch now : ℕ) (keys : List PubKey) (indices : List ℕ) (s : Standing) (a : House K) → (length indices == 0) ≡ true → Carries Fits (Does leads start) (liveness_plan epoch now keys indices s) a a (Some (Some s))
  lived_none epoch now keys [] s a h = carries_end Fits (Does leads start) (Done (Some s)) a (Some (Some s)) refl
  lived_none epoch now keys (i ∷ indices) s a h = let zero_long = eqb-true (length (i ∷ indices)) 0 h in absurd (omega (arith, zero_long))

  pub lived_some : (epoch now : ℕ) (keys : List PubKey) (indices : List ℕ) (s : Standing) (a b : House K) (v : Option (Option Standing)) → (length indices == 0) ≡ false
      → Carries Fits (Does leads start) (asks (ask.Liveness epoch indices) (lived_plan epoch now keys s)) a b v → Carries Fits (Does leads start) (liveness_plan epoch now keys indices s) a b v
  lived_some epoch now keys [] s a b v h run = absurd (let bad : true ≡ false = h in cc)
  lived_some epoch now keys (i ∷ indices) s a b v h run = run

  pub epoch_by : (now epoch : ℕ) (listed : List (PubKey × KeyStanding)) (s : Standing) (a b : House K) (v : Option (Option Standing)) (entries : List (PubKey × ℕ)) (keys first second : List PubKey) (indices : List ℕ)
      → keys ≡ missing_keys epoch listed → first ≡ keys → second ≡ keys → indices ≡ indices_of entries first → entries ≡ s.indices
      → Carries Fits (Does leads start) (liveness_plan epoch now second indices s) a b v → Carries Fits (Does leads start) (epoch_plan now listed epoch s) a b v
  epoch_by now epoch listed s a b v entries keys first second indices of one two found held run =
      let all : indices ≡ indices_of s.indices (missing_keys epoch listed) = found ∙ ap (λ (l : List PubKey). indices_of entries l) (one ∙ of) ∙ ap (λ (l : List (PubKey × ℕ)). indices_of l (missing_keys epoch listed)) held in
      subst (λ (l : List ℕ). Carries Fits (Does leads start) (liveness_plan epoch now (missing_keys epoch listed) l s) a b v) all
      (subst (λ (l : List PubKey). Carries Fits (Does leads start) (liveness_plan epoch now l indices s) a b v) (two ∙ of) run)

  pub watched : (watches : Bool) (listed : List (PubKey × KeyStanding)) (s : Standing) (a b : House K) (v : Option (Option Standing)) → watches ≡ true
      → Carries Fits (Does leads start) (epochs_plan (epoch_of s.slot) listed (missing_epochs (epoch_of s.slot) listed) s) a b v → Carries Fits (Does leads start) (watch_plan watches listed s) a b v
  watched watches listed s a b v on run = subst (λ (t : Bool). Carries Fits (Does leads start) (watch_plan t listed s) a b v) (sym on) run

  pub unwatched : (watches : Bool) (listed : List (PubKey × KeyStanding)) (s : Standing) (a : House K) → watches ≡ false → Carries Fits (Does leads start) (watch_plan watches listed s) a a (Some (Some s))
  unwatched watches listed s a off = subst (λ (t : Bool). Carries Fits (Does leads start) (watch_plan t listed s) a a (Some (Some s))) (sym off) (carries_end Fits (Does leads start) (Done (Some s)) a (Some (Some s)) refl)

  pub epochs_begun : (now first : ℕ) (listed : List (PubKey × KeyStanding)) (s : Standing) (a : House K) → first ≤ now → ((epoch : ℕ) → 0 ≤ epoch → epoch < first → some_misses epoch listed ≡ false)
      → Comes Fits (Does leads start) (epochs_plan now listed (missing_epochs now listed) s) (epochs_plan now listed (missing_from first now listed) s) a a
  epochs_begun now first listed s a within before =
      subst (λ (l : List ℕ). Comes Fits (Does leads start) (epochs_plan now listed (missing_epochs now listed) s) (epochs_plan now listed l s) a a) (missing_all listed now ∙ missing_skip listed 0 first now (omega arith) within before)
      (comes_none Fits (Does leads start) (epochs_plan now listed (missing_epochs now listed) s) a)

  pub epochs_next : (now epoch next : ℕ) (listed : List (PubKey × KeyStanding)) (s : Standing) (p : PartPlan) (a b c : House K) → epoch < now → some_misses epoch listed ≡ true → epoch + 1 ≤ next → next ≤ now → ((e : ℕ) → epoch + 1 ≤ e → e < next → some_misses e listed ≡ false)
      → Comes Fits (Does leads start) p (epochs_plan now listed (missing_from epoch now listed) s) a b → Carries Fits (Does leads start) (epoch_plan now listed epoch s) b c (Some (Some s))
      → Comes Fits (Does leads start) p (epochs_plan now listed (missing_from next now listed) s) a c
  epochs_next now epoch next listed s p a b c lt present begun within before g run =
      subst (λ (l : List ℕ). Comes Fits (Does leads start) p (epochs_plan now listed l s) a c) (missing_skip listed (epoch + 1) next now begun within before)
      (epoch_step now epoch listed s p a b c (missing_from epoch now listed) (missing_from (epoch + 1) now listed) (missing_here listed epoch now lt present) g run)

  pub epochs_at : (now slot : ℕ) (listed : List (PubKey × KeyStanding)) (s : Standing) (a b : House K) (v : Option (Option Standing)) → now ≡ epoch_of slot → slot ≡ s.slot
      → Carries Fits (Does leads start) (epochs_plan now listed (missing_epochs now listed) s) a b v → Carries Fits (Does leads start) (epochs_plan (epoch_of s.slot) listed (missing_epochs (epoch_of s.slot) listed) s) a b v
  epochs_at now slot listed s a b v is at run =
      let same : now ≡ epoch_of s.slot = is ∙ ap (λ n. epoch_of n) at in
      subst (λ n. Carries Fits (Does leads start) (epochs_plan n listed (missing_epochs n listed) s) a b v) same run
