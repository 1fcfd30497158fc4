-- What is asked and told, one step before others.
use Rattle.std.proofs.Common.{◌≡◌, ◌⊎◌, ℕ, ⊎_elim, List, [], ◌∷◌, Option, Some, None, Result, Ok, Err, true, false, refl, sym, ◌∙◌, ap, subst}
use Rattle.std.specs.Prelude.{◌==◌, length, IfOk, OnOk}
use Rattle.node_calls.specs.Asking.{told_ask}
use Rattle.node_calls.specs.Fitting.{fits}
use Rattle.node_calls.specs.declared.ask.Ask.{Ask}
use Rattle.node_calls.specs.declared.ask.Ask.TheVariants as ask
use Rattle.node_calls.specs.declared.answer.Answer.{Answer}
use Rattle.node_calls.specs.declared.answer.NodeFault.{NodeFault}
use Rattle.node_calls.specs.declared.told.NodeCall.{NodeCall}
use Rattle.node_fallback.specs.InOrder.{Tries}
use Rattle.node_fallback.specs.Seen.{Seen}
use Rattle.node_fallback.specs.declared.no_node.Cause.{Cause}
use Rattle.node_fallback.specs.declared.no_node.NoAnswer.{NoAnswer}
use Rattle.node_fallback.specs.declared.no_node.NoAnswer.TheVariants as none
use Rattle.call_plans.specs.Plans.{Plan, Done, Stop as Cut, Ask as Step, Follows}
use Rattle.call_plans.specs.Paths.{Carries, Comes}
use Rattle.call_plans.proofs.PathLemmas.{carries_step, carries_end, carries_on, carries_short, carries_cut, comes_end}
use Rattle.duty_plans.specs.Hands.{Free, MayAsk}
use Rattle.duty_plans.specs.Seats.{AreTriedIn}
use Rattle.duty_plans.specs.Steps.{Tried, Asks, Answered, came_of}
use Rattle.duty_turns.specs.Lines.{none_line}
use Rattle.duty_turns.specs.Standing.{Standing, with_attesters}
use Rattle.duty_turns.specs.Turns.{PartPlan, answered_plan, ask_plan, asks, attesters_plan, on_standing, then_on, writes}
use Rattle.duty_turns.specs.TurnSteps.{Fits, HasTaken, Own, Owned, SinkSeen, Writes, Wrote}
use Rattle.duty_asks.specs.Quiet.{CameFit, CameSo, Outside, Parts, QuietDoes, TellsNone, Took, WritesText, done_value, outside, part_value, stop_value}
use Rattle.duty_asks.specs.declared.ask.Asked.{Asked}
use Rattle.duty_asks.specs.declared.ask.Asked.TheVariants as asked
use Rattle.duty_asks.specs.declared.ask.Stop.{Stop}
use Rattle.duty_asks.specs.declared.ask.Stop.TheVariants as stop

record TriedSo {A : Type 0} (told : Result A NodeFault → List NodeCall) (old new : List Seen) (result : Result A NoAnswer) : Type 0 where
  tried : Tried A
  does : AreTriedIn told old tried new
  came : result ≡ came_of tried

tried_so : {A : Type 0} (told : Result A NodeFault → List NodeCall) (old new : List Seen) (result : Result A NoAnswer) → Tries told old new result → TriedSo told old new result
tried_so told old new result t = ⊎_elim
    (λ in_order. record { tried = Some in_order.replies; does = (in_order.tried, in_order.whole); came = in_order.given })
    (λ none. record { tried = None; does = none.1; came = none.0 }) t

-- a question, before what follows by its answer
pub quiet_asks : (q : Ask) (ns ms : List Seen) (o : SinkSeen) (b : Outside) (r : Result Answer NoAnswer) (k : Result Answer NoAnswer → PartPlan) (v : Option (Option Standing))
    → MayAsk Free q → Tries (told_ask q) ns ms r → IfOk r (λ a. fits q a ≡ true)
    → Carries Fits QuietDoes (k r) (outside ms o) b v → Carries Fits QuietDoes (asks q k) (outside ns o) b v
quiet_asks q ns ms o b r k v may tries fit rest =
    let t = tried_so (told_ask q) ns ms r tries in
    carries_step Fits QuietDoes (Own (Asks q)) (Owned (Answered t.tried)) _ (outside ns o) (outside ms o) b v (may, t.does, refl)
    (subst (λ (x : Result Answer NoAnswer). IfOk x (λ a. fits q a ≡ true)) t.came fit)
    (subst (λ (x : Result Answer NoAnswer). Carries Fits QuietDoes (k x) (outside ms o) b v) t.came rest)

-- a question, up to what follows by its answer
pub came_given : (q : Ask) (ns ms : List Seen) (o : SinkSeen) (r : Result Answer NoAnswer) (k : Result Answer NoAnswer → PartPlan) (a : Answer) → r ≡ Ok a
    → MayAsk Free q → Tries (told_ask q) ns ms r → IfOk r (λ x. fits q x ≡ true)
    → (fits q a ≡ true) × Comes Fits QuietDoes (asks q k) (k (Ok a)) (outside ns o) (outside ms o)
came_given q ns ms o r k a e may tries fit =
    let t = tried_so (told_ask q) ns ms r tries in
    let own : IfOk (came_of t.tried) (λ x. fits q x ≡ true) = subst (λ (x : Result Answer NoAnswer). IfOk x (λ y. fits q y ≡ true)) t.came fit in
    let same : Ok a ≡ came_of t.tried = sym e ∙ t.came in
    let given : fits q a ≡ true = subst (λ (x : Result Answer NoAnswer). IfOk x (λ y. fits q y ≡ true)) e fit in (
      given,
      record {
        steps = (Own (Asks q), Owned (Answered t.tried)) ∷ [];
        path = (outside ms o, (may, t.does, refl), refl);
        reaches = λ more y f. (refl, own, subst (λ (x : Result Answer NoAnswer). Follows Fits (k x) more y) same f);
      },
    )

-- no node gave an answer, and a line says so
pub came_none : (q : Ask) (ns ms : List Seen) (o : SinkSeen) (b : Outside) (r : Result Answer NoAnswer) (k : Result Answer NoAnswer → PartPlan) (s : Standing) (causes : List Cause) (v : Option (Option Standing))
    → r ≡ Err (none.NoNode causes) → MayAsk Free q → Tries (told_ask q) ns ms r → IfOk r (λ x. fits q x ≡ true) → TellsNone k s
    → Carries Fits QuietDoes (writes (none_line s.slot) (Done (Some s))) (outside ms o) b v → Carries Fits QuietDoes (asks q k) (outside ns o) b v
came_none q ns ms o b r k s causes v e may tries fit tells rest =
    quiet_asks q ns ms o b r k v may tries fit
    (subst (λ (x : Result Answer NoAnswer). Carries Fits QuietDoes (k x) (outside ms o) b v) (sym e)
    (subst (λ (p : PartPlan). Carries Fits QuietDoes p (outside ms o) b v) (sym (tells causes)) rest))

-- memory ran out at a node, or before the first
pub came_cut : (q : Ask) (ns ms : List Seen) (o : SinkSeen) (r : Result Answer NoAnswer) (k : Result Answer NoAnswer → PartPlan)
    → MayAsk Free q → Tries (told_ask q) ns ms r → IfOk r (λ x. fits q x ≡ true) → Carries Fits QuietDoes (asks q k) (outside ns o) (outside ms o) None
came_cut q ns ms o r k may tries fit = quiet_asks q ns ms o (outside ms o) r k None may tries fit (carries_cut Fits QuietDoes (k r) (outside ms o))

-- the same of an equal question
pub came_at : (q r : Ask) (k : Result Answer NoAnswer → PartPlan) (s : Standing) (a b : Outside) (came : Asked) → q ≡ r → CameSo q k s a b came → CameSo r k s a b came
came_at q r k s a b came e c = subst (λ (x : Ask). CameSo x k s a b came) e c

-- an answer that is taken in
pub tells_none : (take_in : Answer → Standing → Standing) (without s : Standing) → s.slot ≡ without.slot → TellsNone (answered_plan take_in without s) without
tells_none take_in without s e = λ causes. ap (λ (n : ℕ). writes (none_line n) (Done (Some without))) e

pub came_fit : (q : Ask) (k : Result Answer NoAnswer → PartPlan) (s : Standing) (a b : Outside) (came : Asked) → CameSo q k s a b came → CameFit q came
came_fit q k s a b (asked.Given x) c = c.0
came_fit q k s a b asked.Nothing c = tt
came_fit q k s a b (asked.Stopped why) c = tt

came_value : (q : Ask) (take_in : Answer → Standing → Standing) (without s : Standing) (a b : Outside) (came : Asked) → CameSo q (answered_plan take_in without s) without a b came
    → Carries Fits QuietDoes (ask_plan q take_in without s) a b (part_value take_in without s came)
came_value q take_in without s a b (asked.Given x) c = comes_end Fits QuietDoes a b (ask_plan q take_in without s) (Done (Some (take_in x s))) (Some (Some (take_in x s))) c.1 refl
came_value q take_in without s a b asked.Nothing c = c
came_value q take_in without s a b (asked.Stopped why) c = c

-- ---- a text

pub writes_on : (ns : List Seen) (o p : SinkSeen) (b : Outside) (text : List ℕ) (next : PartPlan) (v : Option (Option Standing))
    → HasTaken o p true text → Carries Fits QuietDoes next (outside ns p) b v → Carries Fits QuietDoes (writes text next) (outside ns o) b v
writes_on ns o p b text next v taken rest = carries_step Fits QuietDoes (Writes text) (Wrote true text) _ (outside ns o) (outside ns p) b v (taken, refl) refl rest

pub writes_cut : (ns : List Seen) (o p : SinkSeen) (text : List ℕ) (next : PartPlan) → WritesText o p text (Err stop.Write) → Carries Fits QuietDoes (writes text next) (outside ns o) (outside ns p) (Some None)
writes_cut ns o p text next w =
    carries_step Fits QuietDoes (Writes text) (Wrote false w.0) _ (outside ns o) (outside ns p) (outside ns p) (Some None) (w.2, refl) w.1
    (carries_end Fits QuietDoes (Done None) (outside ns p) (Some None) refl)

tell_line : (ns : List Seen) (o p : SinkSeen) (s : Standing) (result : Result (Unit {0}) Stop) → WritesText o p (none_line s.slot) result
    → Carries Fits QuietDoes (writes (none_line s.slot) (Done (Some s))) (outside ns o) (outside ns p) (done_value s result)
tell_line ns o p s (Ok done) w = writes_on ns o p (outside ns p) (none_line s.slot) (Done (Some s)) (Some (Some s)) w (carries_end Fits QuietDoes (Done (Some s)) (outside ns p) (Some (Some s)) refl)
tell_line ns o p s (Err stop.Write) w = writes_cut ns o p (none_line s.slot) (Done (Some s)) w
tell_line ns o p s (Err stop.OutOfMemory) w = absurd w

pub tells_so : (ns : List Seen) (o p : SinkSeen) (s : Standing) (slot : ℕ) (text : List ℕ) (result so : Result (Unit {0}) Stop) → s.slot ≡ slot → text ≡ none_line slot → result ≡ so → WritesText o p text result
    → Carries Fits QuietDoes (writes (none_line s.slot) (Done (Some s))) (outside ns o) (outside ns p) (done_value s so)
tells_so ns o p s slot text result so at is e w =
    subst (λ (r : Result (Unit {0}) Stop). Carries Fits QuietDoes (writes (none_line s.slot) (Done (Some s))) (outside ns o) (outside ns p) (done_value s r)) e
    (tell_line ns o p s result (subst (λ (t : List ℕ). WritesText o p t result) (is ∙ ap (λ n. none_line n) (sym at)) w))

-- ---- parts of a turn

-- a question was asked, and what came of it was taken in
pub parts_asked : (P : Standing → Type 0) (q : Ask) (take_in : Answer → Standing → Standing) (without s : Standing) (a b : Outside) (came : Asked) (result : Result (Unit {0}) Stop)
    → CameSo q (answered_plan take_in without s) without a b came → Took take_in without s P came result → Parts P (ask_plan q take_in without s) a b result
parts_asked P q take_in without s a b came result c t = record {
  after = t.after;
  held = t.held;
  runs = subst (λ (v : Option (Option Standing)). Carries Fits QuietDoes (ask_plan q take_in without s) a b v) t.value (came_value q take_in without s a b came c);
}

follows_none : {C R X : Type 0} (fit : C → R → Type 0) (plan : Plan C R X) (steps : List (C × R)) (v : Option X) → Follows fit plan steps v → Follows fit plan steps None
follows_none fit (Done x) [] v f = tt
follows_none fit (Done x) (s ∷ steps) v f = absurd f
follows_none fit Cut [] v f = tt
follows_none fit Cut (s ∷ steps) v f = absurd f
follows_none fit (Step c k) [] v f = tt
follows_none fit (Step c k) (s ∷ steps) v f = (f.0, f.1, follows_none fit (k s.1) steps v f.2)

-- or memory ran out while it was taken in
pub parts_asked_or_cut : (P : Standing → Type 0) (q : Ask) (take_in : Answer → Standing → Standing) (without s : Standing) (a b : Outside) (came : Asked) (result : Result (Unit {0}) Stop)
    → CameSo q (answered_plan take_in without s) without a b came → (result ≡ Err stop.OutOfMemory) ⊎ Took take_in without s P came result → Parts P (ask_plan q take_in without s) a b result
parts_asked_or_cut P q take_in without s a b came result c x =
    let run = came_value q take_in without s a b came c in
    ⊎_elim
    (λ e. subst (λ (r : Result (Unit {0}) Stop). Parts P (ask_plan q take_in without s) a b r) (sym e)
    (record { after = s; held = tt; runs = record { steps = run.steps; path = run.path; follows = follows_none Fits (ask_plan q take_in without s) run.steps (part_value take_in without s came) run.follows } }))
    (λ t. parts_asked P q take_in without s a b came result c t) x

-- nothing is done, or memory ran out before anything
pub parts_none : (P : Standing → Type 0) (s : Standing) (a : Outside) → P s → Parts P (Done (Some s)) a a (Ok tt)
parts_none P s a h = record { after = s; held = h; runs = carries_end Fits QuietDoes (Done (Some s)) a (Some (Some s)) refl }

pub parts_cut : (P : Standing → Type 0) (s : Standing) (plan : PartPlan) (a : Outside) → Carries Fits QuietDoes plan a a None → Parts P plan a a (Err stop.OutOfMemory)
parts_cut P s plan a run = record { after = s; held = tt; runs = run }

-- one part and then another
pub parts_then : (P Q : Standing → Type 0) (p : PartPlan) (next : Standing → PartPlan) (a b c : Outside) (first second : Result (Unit {0}) Stop) → first ≡ Ok tt → (one : Parts P p a b first)
    → ((s : Standing) → P s → Parts Q (next s) b c second) → Parts Q (then_on p next) a c second
parts_then P Q p next a b c first second e one two =
    let held : P one.after = subst (λ (r : Result (Unit {0}) Stop). OnOk r (P one.after)) e one.held in
    let run : Carries Fits QuietDoes p a b (Some (Some one.after)) = subst (λ (r : Result (Unit {0}) Stop). Carries Fits QuietDoes p a b (done_value one.after r)) e one.runs in
    let rest = two one.after held in
    record {
      after = rest.after;
      held = rest.held;
      runs = carries_on Fits QuietDoes a b c p (on_standing next) (Some one.after) (done_value rest.after second) run rest.runs;
    }

pub stopped_runs : (p : PartPlan) (next : Standing → PartPlan) (a b : Outside) (why : Stop) → Carries Fits QuietDoes p a b (stop_value why) → Carries Fits QuietDoes (then_on p next) a b (stop_value why)
stopped_runs p next a b stop.Write run = carries_on Fits QuietDoes a b b p (on_standing next) None (Some None) run (carries_end Fits QuietDoes (Done None) b (Some None) refl)
stopped_runs p next a b stop.OutOfMemory run = carries_short Fits QuietDoes a b p (on_standing next) run

-- the first goes no further
pub parts_stop : (P Q : Standing → Type 0) (p : PartPlan) (next : Standing → PartPlan) (a b : Outside) (first : Result (Unit {0}) Stop) (why : Stop) → first ≡ Err why → (one : Parts P p a b first)
    → Parts Q (then_on p next) a b (Err why)
parts_stop P Q p next a b first why e one =
    let run : Carries Fits QuietDoes p a b (stop_value why) = subst (λ (r : Result (Unit {0}) Stop). Carries Fits QuietDoes p a b (done_value one.after r)) e one.runs in
    record { after = one.after; held = tt; runs = stopped_runs p next a b why run }

-- the same at an equal number
pub parts_at : (P : Standing → Type 0) (plan : ℕ → PartPlan) (a b : Outside) (result : Result (Unit {0}) Stop) (m n : ℕ) → m ≡ n → Parts P (plan m) a b result → Parts P (plan n) a b result
parts_at P plan a b result m n e p = subst (λ (k : ℕ). Parts P (plan k) a b result) e p

-- where some index is held, attesters are asked for
pub attesters_asked : (P : Standing → Type 0) (epoch : ℕ) (indices : List ℕ) (s : Standing) (a b : Outside) (result : Result (Unit {0}) Stop) → (length indices == 0) ≡ false
    → Parts P (ask_plan (ask.Attester epoch indices) (with_attesters epoch indices) s s) a b result → Parts P (attesters_plan epoch indices s) a b result
attesters_asked P epoch [] s a b result h p = absurd cc
attesters_asked P epoch (i ∷ indices) s a b result h p = p
