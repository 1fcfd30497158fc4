-- What the last step shows: the output's count of faults rose, or the desk said that its disk failed.
use Rattle.std.proofs.Common.{◌≡◌, ℕ, ◌≤◌, true, false, List, [], ◌∷◌, ◌++◌, Option, Some, Err, refl, ◌∙◌, ap, subst, arith}
use Rattle.std.proofs.lemmas.Grind.{flat_map-append}
use Rattle.edge_kit.specs.Causes.{Rose}
use Rattle.desk_machine.specs.declared.call.DeskCall.{DeskCall}
use Rattle.desk_machine.specs.declared.call.DeskCall.TheVariants as call
use Rattle.desk_machine.specs.declared.call.DeskReply.{DeskReply}
use Rattle.desk_machine.specs.declared.call.DeskReply.TheVariants as reply
use Rattle.call_plans.specs.Paths.{Path}
use Rattle.call_plans.specs.Plans.{Follows}
use Rattle.call_plans.proofs.PathLemmas.{path_split}
use Rattle.duty_plans.specs.Steps.{Calls, Replies}
use Rattle.duty_plans.specs.declared.setup.DutySetup.{DutySetup}
use Rattle.duty_turns.specs.declared.held.DutyEnd.TheVariants as end
use Rattle.duty_turns.specs.Standing.{Standing}
use Rattle.duty_turns.specs.TurnSteps.{Does, Fits, House, TurnStep, Waits, Refreshes, RefreshesLanes, Own, LooksUp, Works, Writes, Woke, Refreshed, LanesRefreshed, Owned, Due, Worked, Wrote}
use Rattle.duty_turns.specs.Turns.{turns_plan}
use Rattle.duty_loop.specs.Guarding.{loop_steps, own_steps}
use Rattle.duty_loop.specs.Ends.{EndAtFailedDisk}
use Rattle.duty_loop.proofs.TurnEndLemmas.{why_end}

pub disk_end : (setup : DutySetup) (n : ℕ) (s : Standing) (steps : List TurnStep) → Follows Fits (turns_plan setup n s) steps (Some (Err end.Disk)) → EndAtFailedDisk (loop_steps steps)
disk_end setup n s steps f =
    let why = why_end setup n s steps end.Disk f in
    let last : List TurnStep = (Own (Calls call.HasFailed), Owned (Replies (reply.HasFailed true))) ∷ [] in
    (loop_steps why.0, ap loop_steps why.1 ∙ flat_map-append own_steps why.0 last)

pub no_memory_end : (setup : DutySetup) (n : ℕ) (s : Standing) (steps : List TurnStep) → Follows Fits (turns_plan setup n s) steps (Some (Err end.OutOfMemory)) → ⊥
no_memory_end setup n s steps f = why_end setup n s steps end.OutOfMemory f

module _ {K : Type 0} (leads : K → List (DeskCall × DeskReply) → K → Type 0) (start : Option ℕ) where
  same_later : (a b : House K) → b.out ≡ a.out → a.out.faults ≤ b.out.faults
  same_later a b e = let same : b.out.faults ≡ a.out.faults = ap (λ o. o.faults) e in omega arith

  step_later : (a b : House K) (s : TurnStep) → Does leads start a s b → a.out.faults ≤ b.out.faults
  step_later a b (Waits moment, Woke reached) d = same_later a b (ap (λ (h : House K). h.out) d.1)
  step_later a b (Refreshes, Refreshed whole replies) d = same_later a b (ap (λ (h : House K). h.out) d.1)
  step_later a b (RefreshesLanes, LanesRefreshed whole replies) d = same_later a b (ap (λ (h : House K). h.out) d.1)
  step_later a b (Own c, Owned r) d = same_later a b (ap (λ (h : House K). h.out) d.1)
  step_later a b (LooksUp answers slot active, Due found) d = same_later a b (ap (λ (h : House K). h.out) d)
  step_later a b (Works work place found, Worked lanes results) d = same_later a b (ap (λ (h : House K). h.out) d.1)
  step_later a b (Writes text, Wrote whole piece) d = d.0.later
  step_later a b s d = absurd d

  pub path_later : (a b : House K) (steps : List TurnStep) → Path (Does leads start) a steps b → a.out.faults ≤ b.out.faults
  path_later a b [] p = same_later a b (ap (λ (h : House K). h.out) p)
  path_later a b (s ∷ steps) p =
      let first : a.out.faults ≤ p.0.out.faults = step_later a p.0 s p.1 in
      let rest : p.0.out.faults ≤ b.out.faults = path_later p.0 b steps p.2 in
      omega arith

  -- a text was cut short at the last step
  cut_rose : (a b : House K) (front : List TurnStep) (text piece : List ℕ) → Path (Does leads start) a (front ++ (Writes text, Wrote false piece) ∷ []) b → Rose a.out.faults b.out.faults
  cut_rose a b front text piece path =
      let parts = path_split (Does leads start) a b front ((Writes text, Wrote false piece) ∷ []) path in
      let last = parts.2 in
      let later : a.out.faults ≤ parts.0.out.faults = path_later a parts.0 front parts.1 in
      let rose : Rose parts.0.out.faults last.0.out.faults = last.1.0.fault refl in
      let same : b.out.faults ≡ last.0.out.faults = ap (λ (h : House K). h.out.faults) last.2 in
      omega arith

  pub write_end : (setup : DutySetup) (n : ℕ) (s : Standing) (a b : House K) (steps : List TurnStep) → Path (Does leads start) a steps b
      → Follows Fits (turns_plan setup n s) steps (Some (Err end.Write)) → Rose a.out.faults b.out.faults
  write_end setup n s a b steps path f =
      let why = why_end setup n s steps end.Write f in
      let P : List TurnStep → Type 0 = λ l. Path (Does leads start) a l b in
      cut_rose a b why.0 why.1 why.2 (subst P why.3 path)
