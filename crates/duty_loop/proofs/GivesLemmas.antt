-- What holds of the value that a plan of turns gives and of all steps up to it.
use Rattle.std.proofs.Common.{ℕ, Bool, true, false, List, [], ◌∷◌, ◌++◌, Some, Result, sym, append_assoc, subst}
use Rattle.std.specs.Prelude.{if◌then◌else◌}
use Rattle.std.proofs.lemmas.List.{append-nil}
use Rattle.edge_kit.specs.declared.bytes.PubKey.{PubKey}
use Rattle.desk_machine.specs.declared.call.DeskCall.{DeskCall}
use Rattle.desk_machine.specs.declared.call.DeskReply.{DeskReply}
use Rattle.node_calls.specs.declared.ask.Ask.{Ask}
use Rattle.node_calls.specs.declared.answer.Answer.{Answer}
use Rattle.node_fallback.specs.declared.no_node.NoAnswer.{NoAnswer}
use Rattle.duty_schedule.specs.Answers.{TakenAnswer}
use Rattle.duty_schedule.specs.declared.rows.Duty.{Duty}
use Rattle.call_plans.specs.Plans.{Done, Stop, Ask as Step, bind, Follows}
use Rattle.call_plans.proofs.PlanLemmas.{follows_split}
use Rattle.duty_plans.specs.Steps.{Asks, Calls}
use Rattle.duty_plans.specs.declared.ended.Ended.{Ended}
use Rattle.duty_plans.specs.declared.task.Task.{Task}
use Rattle.duty_plans.specs.declared.work.SlotWork.{SlotWork}
use Rattle.duty_turns.specs.TurnSteps.{TurnCall, TurnPlan, TurnReply, TurnStep, Fits, Waits, Refreshes, RefreshesLanes, Own, LooksUp, Works, Woke, Refreshed, LanesRefreshed, Due, Worked}
use Rattle.duty_turns.specs.Turns.{asks, calls, found, lanes_refreshed, looks_up, own_answer, own_reply, refreshed, refreshes, refreshes_lanes, waits, woken, worked, works}

-- what is said of a value and of all steps up to it
abbrev pub Said : Type 0 → Type 1
Said X = List TurnStep → X → Type 0

-- behind these steps it holds of whatever the plan gives
abbrev pub Gives : {X : Type 0} → Said X → List TurnStep → TurnPlan X → Type 0
Gives {X} W front p = (steps : List TurnStep) (x : X) → Follows Fits p steps (Some x) → W (front ++ steps) x

-- so behind any steps
abbrev pub Always : {X : Type 0} → Said X → TurnPlan X → Type 0
Always W p = (front : List TurnStep) → Gives W front p

pub gives_done : {X : Type 0} (W : Said X) (front : List TurnStep) (x : X) → W front x → Gives W front (Done x)
gives_done {X} W front x w [] y f =
    let P : X → Type 0 = λ z. W front z in
    let Q : List TurnStep → Type 0 = λ l. W l y in
    subst Q (sym (append-nil front)) (subst P (sym f) w)
gives_done W front x w (s ∷ steps) y f = absurd f

pub gives_ask : {X : Type 0} (W : Said X) (front : List TurnStep) (c : TurnCall) (k : TurnReply → TurnPlan X)
    → ((r : TurnReply) → Fits c r → Gives W (front ++ (c, r) ∷ []) (k r)) → Gives W front (Step c k)
gives_ask W front c k on [] x f = absurd f
gives_ask W front c k on ((d, r) ∷ steps) x f =
    let P : TurnCall → Type 0 = λ e. W (front ++ (e, r) ∷ steps) x in
    let Q : List TurnStep → Type 0 = λ l. W l x in
    subst P (sym f.0) (subst Q (append_assoc front ((c, r) ∷ []) steps) (on r f.1 steps x f.2))

pub gives_bind : {X Y : Type 0} (W : Said X) (V : Said Y) (front : List TurnStep) (p : TurnPlan X) (next : X → TurnPlan Y)
    → Gives W front p → ((mid : List TurnStep) (x : X) → W mid x → Gives V mid (next x)) → Gives V front (bind p next)
gives_bind W V front p next one on steps y f =
    let parts = follows_split Fits p next steps y f in
    let later = on (front ++ parts.0) parts.2 (one parts.0 parts.2 parts.4) parts.1 y parts.5 in
    let P : List TurnStep → Type 0 = λ l. V (front ++ l) y in
    let Q : List TurnStep → Type 0 = λ l. V l y in
    subst P (sym parts.3) (subst Q (append_assoc front parts.0 parts.1) later)

-- ---- behind any steps

pub stop_always : {X : Type 0} (W : Said X) → Always W Stop
stop_always W front [] x f = absurd f
stop_always W front (s ∷ steps) x f = absurd f

ask_always : {X : Type 0} (W : Said X) (c : TurnCall) (k : TurnReply → TurnPlan X) → ((r : TurnReply) → Always W (k r)) → Always W (Step c k)
ask_always W c k on front = gives_ask W front c k (λ r fit. on r (front ++ (c, r) ∷ []))

pub if_always : {X : Type 0} (W : Said X) (b : Bool) (p q : TurnPlan X) → Always W p → Always W q → Always W (if b then p else q)
if_always W true p q h k = h
if_always W false p q h k = k

woken_always : {X : Type 0} (W : Said X) (next : ℕ → TurnPlan X) → ((reached : ℕ) → Always W (next reached)) → (r : TurnReply) → Always W (woken r next)
woken_always W next h (Woke reached) = h reached
woken_always W next h r = stop_always W

refreshed_always : {X : Type 0} (W : Said X) (next : TurnPlan X) → Always W next → (r : TurnReply) → Always W (refreshed r next)
refreshed_always W next h (Refreshed true replies) = h
refreshed_always W next h r = stop_always W

lanes_refreshed_always : {X : Type 0} (W : Said X) (next : TurnPlan X) → Always W next → (r : TurnReply) → Always W (lanes_refreshed r next)
lanes_refreshed_always W next h (LanesRefreshed true replies) = h
lanes_refreshed_always W next h r = stop_always W

found_always : {X : Type 0} (W : Said X) (next : List Duty → TurnPlan X) → ((ds : List Duty) → Always W (next ds)) → (r : TurnReply) → Always W (found r next)
found_always W next h (Due ds) = h ds
found_always W next h r = stop_always W

worked_always : {X : Type 0} (W : Said X) (next : List Ended → TurnPlan X) → ((ends : List Ended) → Always W (next ends)) → (r : TurnReply) → Always W (worked r next)
worked_always W next h (Worked lanes (Some ends)) = h ends
worked_always W next h r = stop_always W

pub waits_always : {X : Type 0} (W : Said X) (moment : ℕ) (next : ℕ → TurnPlan X) → ((reached : ℕ) → Always W (next reached)) → Always W (waits moment next)
waits_always W moment next h = ask_always W (Waits moment) (λ r. woken r next) (woken_always W next h)

pub refreshes_always : {X : Type 0} (W : Said X) (next : TurnPlan X) → Always W next → Always W (refreshes next)
refreshes_always W next h = ask_always W Refreshes (λ r. refreshed r next) (refreshed_always W next h)

pub refreshes_lanes_always : {X : Type 0} (W : Said X) (next : TurnPlan X) → Always W next → Always W (refreshes_lanes next)
refreshes_lanes_always W next h = ask_always W RefreshesLanes (λ r. lanes_refreshed r next) (lanes_refreshed_always W next h)

pub asks_always : {X : Type 0} (W : Said X) (a : Ask) (next : Result Answer NoAnswer → TurnPlan X) → ((r : Result Answer NoAnswer) → Always W (next r)) → Always W (asks a next)
asks_always W a next h = ask_always W (Own (Asks a)) (λ r. next (own_answer r)) (λ r. h (own_answer r))

pub calls_always : {X : Type 0} (W : Said X) (c : DeskCall) (next : DeskReply → TurnPlan X) → ((r : DeskReply) → Always W (next r)) → Always W (calls c next)
calls_always W c next h = ask_always W (Own (Calls c)) (λ r. next (own_reply r)) (λ r. h (own_reply r))

pub looks_up_always : {X : Type 0} (W : Said X) (answers : List TakenAnswer) (slot : ℕ) (active : List PubKey) (next : List Duty → TurnPlan X)
    → ((ds : List Duty) → Always W (next ds)) → Always W (looks_up answers slot active next)
looks_up_always W answers slot active next h = ask_always W (LooksUp answers slot active) (λ r. found r next) (found_always W next h)

pub works_always : {X : Type 0} (W : Said X) (work : SlotWork) (place : ℕ) (tasks : List Task) (next : List Ended → TurnPlan X)
    → ((ends : List Ended) → Always W (next ends)) → Always W (works work place tasks next)
works_always W work place tasks next h = ask_always W (Works work place tasks) (λ r. worked r next) (worked_always W next h)
