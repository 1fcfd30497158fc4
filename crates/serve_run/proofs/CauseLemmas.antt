-- What each status of serving tells.
use Rattle.std.proofs.Common.{◌≡◌, ◌⊎◌, inl, inr, ◌≤◌, ℕ, List, [], ◌∷◌, ◌++◌, Contains, Option, true, Result, Ok, Err, refl, sym, subst, ap, ◌∙◌, append-nil, append_assoc, arith}
use Rattle.std.proofs.lemmas.Grind.{flat_map-append}
use Rattle.std.proofs.lemmas.List.Elements.{Contains-push}
use Rattle.edge_kit.specs.Causes.{Rose}
use Rattle.call_plans.specs.Paths.{Path}
use Rattle.call_plans.proofs.PathLemmas.{path_split}
use Rattle.desk_machine.specs.declared.call.DeskCall.{DeskCall}
use Rattle.desk_machine.specs.declared.call.DeskCall.TheVariants as call
use Rattle.desk_machine.specs.declared.call.DeskReply.{DeskReply}
use Rattle.desk_machine.specs.declared.call.DeskReply.TheVariants as reply
use Rattle.client_calls.specs.Steps.{desk_calls as client_calls}
use Rattle.program_end.specs.Closing.{TakesMemory, closing_status}
use Rattle.program_end.specs.Endings.{Closes}
use Rattle.program_end.specs.declared.closing.ClosingLine.{ClosingLine}
use Rattle.program_end.specs.declared.closing.ClosingLine.TheVariants as closing
use Rattle.program_end.specs.declared.status.Status.{Status}
use Rattle.program_end.proofs.ClosingLemmas.{closed_by}
use Rattle.duty_plans.specs.Steps.{DutyStep, Calls, Replies, desk_calls, step_calls}
use Rattle.duty_turns.specs.declared.held.DutyEnd.{DutyEnd}
use Rattle.duty_turns.specs.declared.held.DutyEnd.TheVariants as duty_end
use Rattle.duty_loop.specs.Guarding.{loop_steps}
use Rattle.duty_loop.specs.Ends.{EndAtFailedDisk}
use Rattle.keymanager_api.specs.Serving.{LinkSeen}
use Rattle.keymanager_api.specs.Doors.{Hall}
use Rattle.keymanager_api.specs.Visits.{EndsAt, FailedAtLast, Visit, Visits, asks_failed, calls_in}
use Rattle.keymanager_api.specs.declared.connections.ConnectionsEnd.{ConnectionsEnd}
use Rattle.keymanager_api.specs.declared.connections.ConnectionsEnd.TheVariants as connections_end
use Rattle.command_line.specs.declared.serve_options.ServeOptions.{ServeOptions}
use Rattle.journal_commands.specs.Views.{Output}
use Rattle.serve_run.specs.Views.{Calls as Made, Grew}
use Rattle.serve_run.specs.Clients.{Parts, hall_of}
use Rattle.serve_run.specs.Ends.{Because}
use Rattle.serve_run.specs.Serving.{ClosesBoth, ClosesConnections, ClosesMemory, Serves}
use Rattle.serve_run.specs.declared.start.Start.{Start}

-- a desk was asked whether its disk had failed, and it had
abbrev pub said : DeskCall × DeskReply
said = (call.HasFailed, reply.HasFailed true)

-- with the last of these calls
abbrev SaysFailed : Made → Type 0
SaysFailed made = (front : Made) × (made ≡ front ++ said ∷ [])

rose_on : (x y z : ℕ) → x ≤ y → Rose y z → Rose x z
rose_on x y z le rose = omega (arith, le, rose)

says_on : (xs ys : Made) → SaysFailed ys → SaysFailed (xs ++ ys)
says_on xs ys says = (xs ++ says.0, ap (λ l. xs ++ l) says.1 ∙ sym (append_assoc xs says.0 (said ∷ [])))

-- so it is among them, and among what grew by them
said_among : (made all : Made) → SaysFailed made → Grew [] made all → Contains all said
said_among made all says grew = subst (λ (l : Made). Contains l said) (sym (grew ∙ says.1)) (Contains-push says.0 said)

says_steps : (steps : List DutyStep) → EndAtFailedDisk steps → SaysFailed (desk_calls steps)
says_steps steps says = (desk_calls says.0, ap (λ l. desk_calls l) says.1 ∙ flat_map-append step_calls says.0 ((Calls call.HasFailed, Replies (reply.HasFailed true)) ∷ []))

module _ {K C : Type 0} (leads : K → List (DeskCall × DeskReply) → K → Type 0) (see : C → LinkSeen) (clock : Option ℕ) (token : List ℕ) (genesis_time : ℕ) where
  abbrev Visiting : Hall K C → Visit C → Hall K C → Type 0
  Visiting = Visits leads see clock token genesis_time

  -- no visit makes the door's count of faults fall
  door_later : (a b : Hall K C) (visits : List (Visit C)) → Path Visiting a visits b → a.door.faults ≤ b.door.faults
  door_later a b [] same = let P : Hall K C → Type 0 = λ x. a.door.faults ≤ x.door.faults in subst P (sym same) (omega arith)
  door_later a b (v ∷ visits) p = let rest = door_later p.0 b visits p.2 in omega (arith, p.1.later, rest)

  last_says : (v : Visit C) (a b : Hall K C) → Visiting a v b → v.failed ≡ true → SaysFailed v.made
  last_says v a b visit failed = (client_calls visit.serves.ran.steps, visit.made_are ∙ ap (λ f. client_calls visit.serves.ran.steps ++ asks_failed f) failed)

  visits_say : (a b : Hall K C) (visits : List (Visit C)) → Path Visiting a visits b → FailedAtLast visits → SaysFailed (calls_in visits)
  visits_say a b visits path said =
      let P : List (Visit C) → Type 0 = λ vs. Path Visiting a vs b in
      let parts = path_split Visiting a b said.front (said.last ∷ []) (subst P said.are path) in
      let last = last_says said.last parts.0 parts.2.0 parts.2.1 said.failed in
      let S : List (DeskCall × DeskReply) → Type 0 = SaysFailed in
      let made : calls_in visits ≡ calls_in said.front ++ said.last.made =
      ap (λ vs. calls_in vs) said.are ∙ flat_map-append (λ (v : Visit C). v.made) said.front (said.last ∷ []) ∙ ap (λ l. calls_in said.front ++ l) (append-nil said.last.made) in
      subst S (sym made) (says_on (calls_in said.front) said.last.made last)

-- why a client that served ended: its output or its door failed in that, or the desk said to one of its loops that its disk had failed
module _ {C : Type 0} (see : C → LinkSeen) (clock : Option ℕ) (options : ServeOptions) (start : Start) (before now : Parts C) (loop answered : Made) (lanes : List Made) (result : Status) where
  abbrev Then : Status → Type 0
  Then st = Because (Rose before.out.failed now.out.failed) (Contains loop said ⊎ Contains answered said) (Rose before.door.faults now.door.faults) st

  module _ (out : Output) (le : before.out.failed ≤ out.failed) where
    -- the line was written, or a front of it, where the output failed
    closed_because : (line : ClosingLine) → (TakesMemory line → ⊥) → Closes line out.held now.out.held out.failed now.out.failed result → Then (closing_status line) → Then result
    closed_because line none closes whole =
        closed_by Then line result out.held now.out.held out.failed now.out.failed closes (λ _. whole)
        (λ part. rose_on before.out.failed out.failed now.out.failed le part.rose) (λ takes _ _. absurd (none takes))

    module _ (visits : List (Visit C)) (last : Hall Made C) (path : Path (Visits Grew see clock options.token start.genesis_time) (hall_of [] before) visits last) (grew : Grew [] (calls_in visits) answered) where
      said_there : FailedAtLast visits → Contains answered said
      said_there at = said_among (calls_in visits) answered (visits_say Grew see clock options.token start.genesis_time (hall_of [] before) last visits path at) grew

      connected_because : (end : Result (Unit {0}) ConnectionsEnd) → EndsAt options.connections visits last (hall_of answered now) end → ClosesConnections end out now.out result → Then result
      connected_because (Ok done) ends closes = subst Then (sym closes.0) tt
      connected_because (Err connections_end.Door) ends closes = closed_because closing.DoorFault (λ takes. takes) closes
          (rose_on before.door.faults last.door.faults now.door.faults (door_later Grew see clock options.token start.genesis_time (hall_of [] before) last visits path) ends.2.rose)
      connected_because (Err connections_end.Disk) ends closes = closed_because closing.DiskFault (λ takes. takes) closes (inr (said_there ends.0))

      memory_because : (end : Result (Unit {0}) ConnectionsEnd) → EndsAt options.connections visits last (hall_of answered now) end → ClosesMemory end out now.out result → Then result
      memory_because (Ok done) ends closes = subst Then (sym closes.0) tt
      memory_because (Err connections_end.Door) ends closes = subst Then (sym closes.0) tt
      memory_because (Err connections_end.Disk) ends closes = closed_because closing.DiskFault (λ takes. takes) closes (inr (said_there ends.0))

      both_because : (duties : Result (Unit {0}) DutyEnd) (end : Result (Unit {0}) ConnectionsEnd) → EndsAt options.connections visits last (hall_of answered now) end
          → (duties ≡ Err duty_end.Write → Rose before.out.failed out.failed) → (duties ≡ Err duty_end.Disk → Contains loop said) → ClosesBoth duties end out now.out result → Then result
      both_because (Ok done) end ends write disk closes = connected_because end ends closes
      both_because (Err duty_end.Disk) end ends write disk closes = closed_because closing.DiskFault (λ takes. takes) closes (inl (disk refl))
      both_because (Err duty_end.Write) end ends write disk closes =
          let F : Output → Type 0 = λ o. Rose before.out.failed o.failed in subst Then (sym closes.0) (subst F (sym closes.1) (write refl))
      both_because (Err duty_end.OutOfMemory) end ends write disk closes = memory_because end ends closes

  pub serves_because : Serves see clock options start before now loop answered lanes result → Then result
  serves_because s =
      let ran = s.beside.duties in
      let c = s.beside.connections in
      both_because s.out ran.later c.visits c.last c.path c.desk s.duties_end s.connections_end c.ends ran.write
      (λ e. said_among (desk_calls (loop_steps ran.runs.runs.steps)) loop (says_steps (loop_steps ran.runs.runs.steps) (ran.disk e)) ran.guarded.own.desk) s.closes
