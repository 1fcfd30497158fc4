-- What the turns of duties come to, in lanes.
use Rattle.std.proofs.Common.{◌≡◌, ◌<◌, ◌≤◌, ◌^◌, ℕ, List, [], ◌∷◌, Option, Some, Result, Err, refl, subst, arith}
use Rattle.edge_kit.specs.Causes.{Rose}
use Rattle.desk_machine.specs.declared.call.DeskCall.{DeskCall}
use Rattle.desk_machine.specs.declared.call.DeskReply.{DeskReply}
use Rattle.node_calls.specs.declared.told.NodeCall.{NodeCall}
use Rattle.signer_link.specs.declared.reply.Told.{Told}
use Rattle.node_fallback.specs.Seen.{Seen}
use Rattle.edge_clock.specs.Clocks.{IsNow}
use Rattle.call_plans.specs.Paths.{Path}
use Rattle.call_plans.specs.Plans.{Follows}
use Rattle.duty_plans.specs.declared.setup.DutySetup.{DutySetup}
use Rattle.duty_turns.specs.declared.held.DutyEnd.{DutyEnd}
use Rattle.duty_turns.specs.declared.held.DutyEnd.TheVariants as duty_end
use Rattle.duty_turns.specs.Standing.{Standing}
use Rattle.duty_turns.specs.TurnSteps.{Does, Fits, House, SinkSeen, TurnPlan, TurnStep}
use Rattle.duty_turns.specs.Times.{slot_of}
use Rattle.duty_turns.specs.Turns.{first_standing, turns_plan}
use Rattle.duty_workers.specs.Working.{lanes_seen}
use Rattle.duty_workers.specs.declared.lane.Lane.{Lane}
use Rattle.duty_loop.specs.Guarding.{AllFree, Guarded, IsFree, loop_steps}
use Rattle.duty_work.specs.Houses.{AreTaken, RunsFrom, end_value, house}
use Rattle.duty_loop.specs.Ends.{EndAtFailedDisk}
use Rattle.duty_safety.specs.OnTime.{on_time_turns}
use Rattle.serve_run.specs.Serving.{DutiesRan}

module _ {K S N : Type 0} (told : S → Option (List Told)) (faults denials : S → ℕ) (node_told : N → Option (List NodeCall)) (node_faults : N → ℕ) where
  lanes_free : (lanes : List (Lane K S N)) → AllFree (lanes_seen told faults denials node_told node_faults lanes)
  lanes_free [] = tt
  lanes_free (l ∷ ls) = (refl, lanes_free ls)

  -- no lane has a grant in hand between turns
  pub house_free : (desk : K) (lanes : List (Lane K S N)) (nodes : List Seen) (out : SinkSeen) → IsFree (house desk (lanes_seen told faults denials node_told node_faults lanes) nodes out)
  house_free desk lanes nodes out = record { own = refl; lanes = lanes_free lanes }

abbrev Turns : Type 0
Turns = TurnPlan (Result (Unit {0}) DutyEnd)

module _ {K : Type 0} (leads : K → List (DeskCall × DeskReply) → K → Type 0) (clock : Option ℕ) (setup : DutySetup)
    (guards : (plan : Turns) (a b : House K) (steps : List TurnStep) (v : Option (Result (Unit {0}) DutyEnd)) → IsFree a → IsFree b → Path (Does leads clock) a steps b → Follows Fits plan steps v → Guarded leads a b steps)
    (write : (setup : DutySetup) (n : ℕ) (s : Standing) (a b : House K) (steps : List TurnStep) → Path (Does leads clock) a steps b → Follows Fits (turns_plan setup n s) steps (Some (Err duty_end.Write)) → Rose a.out.faults b.out.faults)
    (disk : (setup : DutySetup) (n : ℕ) (s : Standing) (steps : List TurnStep) → Follows Fits (turns_plan setup n s) steps (Some (Err duty_end.Disk)) → EndAtFailedDisk (loop_steps steps))
    (later : (a b : House K) (steps : List TurnStep) → Path (Does leads clock) a steps b → a.out.faults ≤ b.out.faults)
    (on_time : (first n : ℕ) (setup : DutySetup) (s : Standing) (a b : House K) (steps : List TurnStep) (v : Option (Result (Unit {0}) DutyEnd))
    → first < 2 ^ 64 → slot_of setup.genesis_time first ≤ s.slot → Path (Does leads (Some first)) a steps b → Follows Fits (turns_plan setup n s) steps v → Follows Fits (on_time_turns setup n s) steps v) where
  pub duties_ran : (a b : House K) (ended : Result (Unit {0}) DutyEnd) → IsFree a → IsFree b → RunsFrom leads clock setup a b (end_value ended) → DutiesRan leads clock setup a b ended
  duties_ran a b ended free_a free_b runs =
      let first : Standing = first_standing setup runs.now in
      let plan : Turns = turns_plan setup runs.turns first in
      let steps : List TurnStep = runs.runs.steps in
      let Came : Result (Unit {0}) DutyEnd → Type 0 = λ r. Follows Fits plan steps (end_value r) in
      record {
        runs = runs;
        guarded = guards plan a b steps (end_value ended) free_a free_b runs.runs.path runs.runs.follows;
        later = later a b steps runs.runs.path;
        write = λ e. write setup runs.turns first a b steps runs.runs.path (subst Came e runs.runs.follows);
        disk = λ e. disk setup runs.turns first steps (subst Came e runs.runs.follows);
        on_time = λ moment e lt.
            let Ran : Option ℕ → Type 0 = λ c. Path (Does leads c) a steps b in
            let Shown : Option ℕ → Type 0 = λ c. IsNow c runs.now in
            let shown : runs.now ≡ moment = subst Shown e runs.is_now in
            let Taken : Option ℕ → Type 0 = λ c. AreTaken c setup.slots runs.turns in
            let all : runs.turns ≡ setup.slots = subst Taken e runs.taken in
            let Followed : ℕ → Type 0 = λ n. Follows Fits (turns_plan setup n first) steps (end_value ended) in
            on_time moment setup.slots setup first a b steps (end_value ended) lt (subst (λ (m : ℕ). slot_of setup.genesis_time m ≤ first.slot) shown (omega arith)) (subst Ran e runs.runs.path) (subst Followed all runs.runs.follows);
      }
