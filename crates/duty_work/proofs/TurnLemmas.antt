-- Late, or in time; and turn after turn.
use Rattle.std.proofs.Common.{◌≡◌, ℕ, suc, ◌+◌, ◌-◌, ◌<◌, ◌≤◌, Bool, true, false, List, [], ◌∷◌, ◌++◌, length, Option, Some, None, Result, Ok, Err, refl, sym, ◌∙◌, ap, subst, arith}
use Rattle.std.specs.Prelude.{nat_lt}
use Rattle.std.proofs.lemmas.Bool.{le-ltb, lt-ltb}
use Rattle.client_calls.proofs.SeatLemmas.{Leads}
use Rattle.edge_clock.specs.Clocks.{IsHalted, IsNow}
use Rattle.desk_machine.specs.declared.call.DeskCall.TheVariants as call
use Rattle.call_plans.specs.Plans.{Done, bind}
use Rattle.call_plans.specs.Paths.{Carries, Comes}
use Rattle.call_plans.proofs.PathLemmas.{comes_on, comes_cut, comes_end, comes_none}
use Rattle.duty_schedule.specs.declared.rows.Duty.{Duty}
use Rattle.duty_plans.specs.declared.ended.Ended.{Ended}
use Rattle.duty_plans.specs.declared.task.Task.{Task}
use Rattle.duty_plans.specs.Choices.{aggregate_tasks, reports}
use Rattle.duty_plans.specs.Ends.{merged, results_of}
use Rattle.duty_plans.specs.Tasks.{again_tasks, fresh}
use Rattle.duty_plans.specs.declared.setup.DutySetup.{DutySetup}
use Rattle.duty_turns.specs.Standing.{Standing}
use Rattle.duty_turns.specs.Times.{again_start, aggregates_start, is_missed, next_slot, slot_start, votes_start}
use Rattle.duty_turns.specs.Turns.{after_wait, again_plan, aggregates_plan, at_moment, at_slot, blocks_in, calls, casts, chooses_plan, close_plan, finish_plan, first_standing, gathers_plan, left_plan, listed_plan, next_turn, refreshes, refreshes_lanes, report_plan, shortens, told_plan, tried_plan, turn_plan, turns_plan, votes_in, votes_plan, waits, woken_plan, work_of, works}
use Rattle.duty_turns.specs.TurnSteps.{Does, Fits, House, TurnPlan}
use Rattle.duty_turns.specs.declared.held.DutyEnd.{DutyEnd}
use Rattle.duty_turns.specs.declared.held.DutyEnd.TheVariants as end
use Rattle.duty_work.specs.Houses.{AreTaken, RunsFrom, Turns, end_value, next_value}

-- whether a wait was over at another moment is said of the slot and the moment that are held
pub missed_so : (genesis slot moment held reached : ℕ) (start : ℕ → ℕ → ℕ) (said is : Bool) → said ≡ is_missed genesis slot moment reached → said ≡ is → moment ≡ start genesis slot → slot ≡ held → is_missed genesis held (start genesis held) reached ≡ is
missed_so genesis slot moment held reached start said is says e of at =
    subst (λ n. is_missed genesis n (start genesis n) reached ≡ is) at (subst (λ n. is_missed genesis slot n reached ≡ is) of (sym says ∙ e))

-- what stands at another moment is said of the slot and the moment that are held
pub moved_so : (Holds : Standing → Type 0) (genesis slot moment reached : ℕ) (s : Standing) (start : ℕ → ℕ → ℕ) → moment ≡ start genesis slot → slot ≡ s.slot → Holds (at_moment genesis moment reached s) → Holds (at_moment genesis (start genesis s.slot) reached s)
moved_so Holds genesis slot moment reached s start of at h =
    subst (λ n. Holds (at_moment genesis (start genesis n) reached s)) at (subst (λ m. Holds (at_moment genesis m reached s)) of h)

pub woken_late : (setup : DutySetup) (s : Standing) (reached : ℕ) → is_missed setup.genesis_time s.slot (slot_start setup.genesis_time s.slot) reached ≡ true
    → woken_plan setup s reached ≡ close_plan setup s.slot [] [] (at_moment setup.genesis_time (slot_start setup.genesis_time s.slot) reached s)
woken_late setup s reached late = rw late refl

pub woken_now : (setup : DutySetup) (s : Standing) (reached : ℕ) → is_missed setup.genesis_time s.slot (slot_start setup.genesis_time s.slot) reached ≡ false
    → woken_plan setup s reached ≡ refreshes (refreshes_lanes (shortens s (calls call.Keys (listed_plan setup s))))
woken_now setup s reached now = rw now refl

pub votes_late : (setup : DutySetup) (s : Standing) (ds : List Duty) (ends : List Ended) (reached : ℕ) → is_missed setup.genesis_time s.slot (votes_start setup.genesis_time s.slot) reached ≡ true
    → votes_plan setup s ds ends reached ≡ close_plan setup s.slot (blocks_in ds) (results_of ends) (at_moment setup.genesis_time (votes_start setup.genesis_time s.slot) reached s)
votes_late setup s ds ends reached late = rw late refl

pub votes_now : (setup : DutySetup) (s : Standing) (ds : List Duty) (ends : List Ended) (reached : ℕ) → is_missed setup.genesis_time s.slot (votes_start setup.genesis_time s.slot) reached ≡ false
    → votes_plan setup s ds ends reached ≡ casts (work_of setup s) (length (blocks_in ds)) (votes_in ds) (λ cast. again_plan setup s (blocks_in ds ++ votes_in ds) (ends ++ cast))
votes_now setup s ds ends reached now = rw now refl

-- nothing is left of the duties, or something
pub left_none : (setup : DutySetup) (s : Standing) (ds : List Duty) (ends : List Ended) (tasks : List Task) → tasks ≡ again_tasks ds ends → length tasks ≡ 0
    → again_plan setup s ds ends ≡ told_plan setup s ds ends (results_of ends)
left_none setup s ds ends [] is none = ap (λ (l : List Task). left_plan setup s ds ends l) (sym is)
left_none setup s ds ends (t ∷ tasks) is none = absurd (omega arith)

pub left_some : (setup : DutySetup) (s : Standing) (ds : List Duty) (ends : List Ended) (tasks : List Task) → tasks ≡ again_tasks ds ends → (length tasks ≡ 0 → ⊥)
    → again_plan setup s ds ends ≡ waits (again_start setup.genesis_time s.slot) (tried_plan setup s ds ends tasks)
left_some setup s ds ends [] is some = absurd (some refl)
left_some setup s ds ends (t ∷ tasks) is some = ap (λ (l : List Task). left_plan setup s ds ends l) (sym is)

pub tried_late : (setup : DutySetup) (s : Standing) (ds : List Duty) (ends : List Ended) (tasks : List Task) (reached : ℕ) → is_missed setup.genesis_time s.slot (again_start setup.genesis_time s.slot) reached ≡ true
    → tried_plan setup s ds ends tasks reached ≡ close_plan setup s.slot ds (results_of ends) (after_wait setup.genesis_time (again_start setup.genesis_time s.slot) reached s)
tried_late setup s ds ends tasks reached late = rw late refl

pub tried_now : (setup : DutySetup) (s : Standing) (ds : List Duty) (ends : List Ended) (tasks : List Task) (reached : ℕ) → is_missed setup.genesis_time s.slot (again_start setup.genesis_time s.slot) reached ≡ false
    → tried_plan setup s ds ends tasks reached ≡ works (work_of setup s) 0 tasks (λ again. told_plan setup s ds ends (merged ends again))
tried_now setup s ds ends tasks reached now = rw now refl

-- what stands after a wait, by the moment that was waited for
pub after_next : (genesis moment reached : ℕ) (s : Standing) → moment ≤ reached → after_wait genesis moment reached s ≡ at_slot (next_slot s.slot) s
after_next genesis moment reached s past =
    let on : nat_lt reached moment ≡ false = le-ltb reached moment past in
    rw on refl

pub after_back : (genesis moment reached : ℕ) (s : Standing) → reached < moment → after_wait genesis moment reached s ≡ at_moment genesis moment reached s
after_back genesis moment reached s before =
    let back : nat_lt reached moment ≡ true = lt-ltb reached moment before in
    rw back refl

-- that is said of the slot that is held
pub after_so : (Holds : Standing → Type 0) (genesis slot moment reached : ℕ) (s : Standing) (start : ℕ → ℕ → ℕ) → moment ≡ start genesis slot → slot ≡ s.slot → Holds (after_wait genesis moment reached s) → Holds (after_wait genesis (start genesis s.slot) reached s)
after_so Holds genesis slot moment reached s start of at h =
    subst (λ n. Holds (after_wait genesis (start genesis n) reached s)) at (subst (λ m. Holds (after_wait genesis m reached s)) of h)

-- ---- aggregates

pub choices_none : (setup : DutySetup) (s : Standing) (choices : List Task) → length choices ≡ 0 → chooses_plan setup s choices ≡ finish_plan setup s.slot (at_slot (next_slot s.slot) s)
choices_none setup s [] none = refl
choices_none setup s (t ∷ choices) none = absurd (omega arith)

pub choices_some : (setup : DutySetup) (s : Standing) (choices : List Task) → (length choices ≡ 0 → ⊥)
    → chooses_plan setup s choices ≡ works (work_of setup s) 0 choices (λ chosen. gathers_plan setup s choices chosen (aggregate_tasks choices chosen))
choices_some setup s [] some = absurd (some refl)
choices_some setup s (t ∷ choices) some = refl

pub gathers_none : (setup : DutySetup) (s : Standing) (choices : List Task) (chosen : List Ended) (tasks wanted : List Task) → tasks ≡ wanted → length tasks ≡ 0
    → gathers_plan setup s choices chosen wanted ≡ report_plan setup s.slot choices (reports chosen []) (at_slot (next_slot s.slot) s)
gathers_none setup s choices chosen [] wanted is none = ap (λ (l : List Task). gathers_plan setup s choices chosen l) (sym is)
gathers_none setup s choices chosen (t ∷ tasks) wanted is none = absurd (omega arith)

pub gathers_some : (setup : DutySetup) (s : Standing) (choices : List Task) (chosen : List Ended) (tasks wanted : List Task) → tasks ≡ wanted → (length tasks ≡ 0 → ⊥)
    → gathers_plan setup s choices chosen wanted ≡ waits (aggregates_start setup.genesis_time s.slot) (aggregates_plan setup s choices chosen tasks)
gathers_some setup s choices chosen [] wanted is some = absurd (some refl)
gathers_some setup s choices chosen (t ∷ tasks) wanted is some = ap (λ (l : List Task). gathers_plan setup s choices chosen l) (sym is)

pub aggregates_late : (setup : DutySetup) (s : Standing) (choices : List Task) (chosen : List Ended) (tasks : List Task) (reached : ℕ) → is_missed setup.genesis_time s.slot (aggregates_start setup.genesis_time s.slot) reached ≡ true
    → aggregates_plan setup s choices chosen tasks reached ≡ report_plan setup s.slot choices (reports chosen []) (after_wait setup.genesis_time (aggregates_start setup.genesis_time s.slot) reached s)
aggregates_late setup s choices chosen tasks reached late = rw late refl

pub aggregates_now : (setup : DutySetup) (s : Standing) (choices : List Task) (chosen : List Ended) (tasks : List Task) (reached : ℕ) → is_missed setup.genesis_time s.slot (aggregates_start setup.genesis_time s.slot) reached ≡ false
    → aggregates_plan setup s choices chosen tasks reached ≡ works (work_of setup s) 0 tasks (λ ends. report_plan setup s.slot choices (reports chosen ends) (at_slot (next_slot s.slot) s))
aggregates_now setup s choices chosen tasks reached now = rw now refl

-- ---- turn after turn

turns_next : (setup : DutySetup) (n i : ℕ) (s : Standing) → i < n → turns_plan setup (n - i) s ≡ bind (turn_plan setup s) (next_turn (turns_plan setup (n - (i + 1))))
turns_next setup n i s h =
    let e : n - i ≡ suc (n - (i + 1)) = omega arith in
    ap (λ k. turns_plan setup k s) e

module _ {K : Type 0} (leads : Leads K) (start : Option ℕ) (setup : DutySetup) where
  pub turn_goes : (p : TurnPlan (Result (Unit {0}) DutyEnd)) (n i : ℕ) (s t : Standing) (a b c : House K) → i < n
      → Comes Fits (Does leads start) p (turns_plan setup (n - i) s) a b → Carries Fits (Does leads start) (turn_plan setup s) b c (Some (Ok t))
      → Comes Fits (Does leads start) p (turns_plan setup (n - (i + 1)) t) a c
  turn_goes p n i s t a b c h g r =
      comes_on Fits (Does leads start) a b c p (turn_plan setup s) (next_turn (turns_plan setup (n - (i + 1)))) (Ok t)
      (subst (λ (q : TurnPlan (Result (Unit {0}) DutyEnd)). Comes Fits (Does leads start) p q a b) (turns_next setup n i s h) g) r

  ended : (p : TurnPlan (Result (Unit {0}) DutyEnd)) (n i : ℕ) (s : Standing) (a b c : House K) (e : DutyEnd) → i < n
      → Comes Fits (Does leads start) p (turns_plan setup (n - i) s) a b → Carries Fits (Does leads start) (turn_plan setup s) b c (Some (Err e)) → Carries Fits (Does leads start) p a c (Some (Err e))
  ended p n i s a b c e h g r =
      comes_end Fits (Does leads start) a c p (Done (Err e)) (Some (Err e))
      (comes_on Fits (Does leads start) a b c p (turn_plan setup s) (next_turn (turns_plan setup (n - (i + 1)))) (Err e)
      (subst (λ (q : TurnPlan (Result (Unit {0}) DutyEnd)). Comes Fits (Does leads start) p q a b) (turns_next setup n i s h) g) r) refl

  pub turn_ends : (p : TurnPlan (Result (Unit {0}) DutyEnd)) (n i : ℕ) (s t : Standing) (a b c : House K) (e : DutyEnd) → i < n
      → Comes Fits (Does leads start) p (turns_plan setup (n - i) s) a b → Carries Fits (Does leads start) (turn_plan setup s) b c (next_value t (Err e)) → Carries Fits (Does leads start) p a c (end_value (Err e))
  turn_ends p n i s t a b c end.Disk h g r = ended p n i s a b c end.Disk h g r
  turn_ends p n i s t a b c end.Write h g r = ended p n i s a b c end.Write h g r
  turn_ends p n i s t a b c end.OutOfMemory h g r =
      comes_cut Fits (Does leads start) a b c p (turn_plan setup s) (next_turn (turns_plan setup (n - (i + 1))))
      (subst (λ (q : TurnPlan (Result (Unit {0}) DutyEnd)). Comes Fits (Does leads start) p q a b) (turns_next setup n i s h) g) r

  pub turns_done : (p : TurnPlan (Result (Unit {0}) DutyEnd)) (n i : ℕ) (s : Standing) (a b : House K) → n ≤ i
      → Comes Fits (Does leads start) p (turns_plan setup (n - i) s) a b → Carries Fits (Does leads start) p a b (Some (Ok tt))
  turns_done p n i s a b h g =
      let e : n - i ≡ 0 = omega arith in
      comes_end Fits (Does leads start) a b p (Done (Ok tt)) (Some (Ok tt)) (subst (λ k. Comes Fits (Does leads start) p (turns_plan setup k s) a b) e g) refl

-- so many turns were carried out, from the clock's moment on, and this stands then, whatever number of turns is wanted
pub record TurnsSoFar {K : Type 0} (leads : Leads K) (start : Option ℕ) (setup : DutySetup) (Holds : Standing → Type 0) (taken : ℕ) (a b : House K) : Type 0 where
  pub now : ℕ
  pub is_now : IsNow start now
  pub after : Standing
  pub held : Holds after
  pub comes : (n : ℕ) → taken ≤ n → Comes Fits (Does leads start) (turns_plan setup n (first_standing setup now)) (turns_plan setup (n - taken) after) a b

all_taken : (start : Option ℕ) (wanted : ℕ) → AreTaken start wanted wanted
all_taken None wanted = omega arith
all_taken (Some first) wanted = refl

-- a clock that is told on time is never halted
few_taken : (start : Option ℕ) (wanted turns : ℕ) (halted : Bool) → IsHalted start halted → halted ≡ true → turns ≤ wanted → AreTaken start wanted turns
few_taken None wanted turns halted is e h = h
few_taken (Some first) wanted turns halted is e h = absurd cc

module _ {K : Type 0} (leads : Leads K) (start : Option ℕ) (setup : DutySetup) where
  pub turns_begun : (Holds : Standing → Type 0) (a : House K) (now : ℕ) → IsNow start now → Holds (first_standing setup now) → TurnsSoFar leads start setup Holds 0 a a
  turns_begun Holds a now is held = record {
    now = now;
    is_now = is;
    after = first_standing setup now;
    held = held;
    comes = λ n h.
        let e : n ≡ n - 0 = omega arith in
        subst (λ k. Comes Fits (Does leads start) (turns_plan setup n (first_standing setup now)) (turns_plan setup k (first_standing setup now)) a a) e (comes_none Fits (Does leads start) (turns_plan setup n (first_standing setup now)) a);
  }

  pub turns_go : (P Q : Standing → Type 0) (a b c : House K) (i : ℕ) → (w : TurnsSoFar leads start setup P i a b) → Turns leads start Q (turn_plan setup w.after) b c (Ok tt) → TurnsSoFar leads start setup Q (i + 1) a c
  turns_go P Q a b c i w t = record {
    now = w.now;
    is_now = w.is_now;
    after = t.after;
    held = t.held;
    comes = λ n h.
        let below : i < n = omega arith in
        let within : i ≤ n = omega arith in
        turn_goes leads start setup (turns_plan setup n (first_standing setup w.now)) n i w.after t.after a b c below (w.comes n within) t.runs;
  }

  pub turns_end : (P Q : Standing → Type 0) (a b c : House K) (i : ℕ) → i < setup.slots → (e : DutyEnd) → (w : TurnsSoFar leads start setup P i a b) → Turns leads start Q (turn_plan setup w.after) b c (Err e) → RunsFrom leads start setup a c (end_value (Err e))
  turns_end P Q a b c i h e w t =
      let within : i ≤ setup.slots = omega arith in
      record {
        now = w.now;
        is_now = w.is_now;
        turns = setup.slots;
        taken = all_taken start setup.slots;
        runs = turn_ends leads start setup (turns_plan setup setup.slots (first_standing setup w.now)) setup.slots i w.after t.after a b c e h (w.comes setup.slots within) t.runs;
      }

  taken_runs : (P : Standing → Type 0) (a b : House K) (i : ℕ) → (w : TurnsSoFar leads start setup P i a b) → Carries Fits (Does leads start) (turns_plan setup i (first_standing setup w.now)) a b (Some (Ok tt))
  taken_runs P a b i w =
      let same : i ≤ i = omega arith in
      turns_done leads start setup (turns_plan setup i (first_standing setup w.now)) i i w.after a b same (w.comes i same)

  -- all turns that were wanted
  pub turns_over : (P : Standing → Type 0) (a b : House K) (i : ℕ) → i ≡ setup.slots → (w : TurnsSoFar leads start setup P i a b) → RunsFrom leads start setup a b (Some (Ok tt))
  turns_over P a b i h w = record {
    now = w.now;
    is_now = w.is_now;
    turns = i;
    taken = subst (λ n. AreTaken start n i) h (all_taken start i);
    runs = taken_runs P a b i w;
  }

  -- or fewer, where the clock is halted
  pub turns_halted : (P : Standing → Type 0) (a b : House K) (i : ℕ) (halted : Bool) → i < setup.slots → IsHalted start halted → halted ≡ true → (w : TurnsSoFar leads start setup P i a b) → RunsFrom leads start setup a b (Some (Ok tt))
  turns_halted P a b i halted h is e w =
      let within : i ≤ setup.slots = omega arith in
      record {
        now = w.now;
        is_now = w.is_now;
        turns = i;
        taken = few_taken start setup.slots i halted is e within;
        runs = taken_runs P a b i w;
      }
