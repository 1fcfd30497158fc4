-- What serving in lanes comes to over the desk of a journal.
use Rattle.std.proofs.Common.{◌≡◌, inl, inr, ℕ, All, Bool, List, [], ◌∷◌, ◌++◌, Contains, Option, None, false, map, Result, Ok, Err, refl, sym, ap, ◌∙◌, subst}
use Rattle.std.specs.Prelude.{slice_index_or}
use Rattle.edge_kit.specs.Causes.{Rose}
use Rattle.edge_kit.specs.declared.bytes.PubKey.{PubKey}
use Rattle.edge_kit.specs.declared.disk.Disks.{Disks}
use Rattle.slash_defs.specs.declared.book.Book.{Book}
use Rattle.slash_defs.specs.declared.message.Message.{Message}
use Rattle.slash_defs.specs.Lists.{SafeList}
use Rattle.record_journal.specs.TwoDisks.{EitherRose, FaultsLater}
use Rattle.desk_machine.specs.States.{State}
use Rattle.desk_machine.specs.Given.{MayMake}
use Rattle.desk_machine.specs.declared.call.DeskCall.{DeskCall}
use Rattle.desk_machine.specs.declared.call.DeskCall.TheVariants as call
use Rattle.desk_machine.specs.declared.call.DeskReply.{DeskReply}
use Rattle.desk_machine.specs.declared.call.DeskReply.TheVariants as reply
use Rattle.desk_machine.specs.declared.call.Outcome.{Outcome}
use Rattle.desk_machine.specs.declared.open_grant.OpenGrant.{OpenGrant}
use Rattle.desk_machine.specs.declared.event.DeskEvent.{DeskEvent}
use Rattle.desk_lock.specs.declared.types.Entry.{Entry}
use Rattle.desk_lock.specs.Histories.{Legal, entry, own}
use Rattle.client_calls.specs.Machines.{CanMake}
use Rattle.check_sign.specs.Calls.{LeavesDesk}
use Rattle.check_sign.specs.Contents.{Seen, disks_in}
use Rattle.check_sign.specs.Opening.{Opening}
use Rattle.check_sign.proofs.FaultLemmas.{either_back}
use Rattle.desk_seat.specs.Steps.{DeskStep}
use Rattle.desk_seat.specs.Turns.{calls_of}
use Rattle.desk_seat.specs.Spans.{History, NoneInHand, Spans}
use Rattle.program_end.specs.Closing.{TakesMemory, closing_status}
use Rattle.program_end.specs.Endings.{Closes}
use Rattle.program_end.specs.declared.closing.ClosingLine.{ClosingLine}
use Rattle.program_end.specs.declared.closing.ClosingLine.TheVariants as closing
use Rattle.program_end.specs.declared.status.Status.{Status}
use Rattle.program_end.proofs.ClosingLemmas.{closed_by}
use Rattle.duty_plans.specs.Guards.{granted_in}
use Rattle.keymanager_api.specs.Serving.{LinkSeen}
use Rattle.session_run.specs.Safe.{CoveredOnceActive}
use Rattle.session_run.proofs.MomentLemmas.{images_of}
use Rattle.session_run.proofs.PathLemmas.{path_fares, path_machine}
use Rattle.command_line.specs.declared.proxy_options.ProxyOptions.{ProxyOptions}
use Rattle.journal_commands.specs.Openings.{HadDeskAt}
use Rattle.journal_commands.proofs.OpeningLemmas.{Handed, had_desk}
use Rattle.serve_run.specs.Ends.{Because, ClosesIdleKeys}
use Rattle.serve_run.proofs.DeskLemmas.{because_disk, failed_rose}
use Rattle.door_lanes.specs.Runs.{Served as DoorServed}
use Rattle.door_lanes.specs.declared.lanes.LoopEnd.{LoopEnd}
use Rattle.door_lanes.specs.declared.lanes.LoopEnd.TheVariants as loop
use Rattle.proxy_api.specs.Signing.{outcome_of}
use Rattle.proxy_lanes.specs.Lanes.{AttendsBy, LaneSeen, idle_lanes}
use Rattle.proxy_run.specs.Ends.{ClosesLanes, ServesDesk, Shares, signatures, terms_in}
use Rattle.proxy_run.specs.Parts.{Parts}
use Rattle.proxy_run.proofs.BegunLemmas.{lanes_said, said, settled}
use Rattle.proxy_run.proofs.HandLemmas.{settled_spans}
use Rattle.proxy_run.proofs.LaneLemmas.{in_settled, messages_granted}

module _ {D C : Type 0} (moment : D → ℕ) (leaves : D → ℕ → List ℕ → Type 0) (faults : D → ℕ)
    (spans : (opened closed : Seen D) (log : History) (k : ℕ) (xs ys zs : List (DeskCall × DeskReply)) (c : DeskCall) (r : DeskReply) (grant : OpenGrant) (o : Outcome)
    → Legal (DeskStep moment leaves faults) MayMake [] opened log closed → own k log ≡ xs ++ (c, reply.Granted grant) ∷ (ys ++ (call.Settle grant o, r) ∷ zs) → Spans log k grant o)
    (closes : (opened closed : Seen D) (log before later : History) (n : ℕ) (key : PubKey) (book : Book)
    → Legal (DeskStep moment leaves faults) MayMake [] opened log closed → log ≡ before ++ entry n (call.FinishClose key) (reply.Closed book) ∷ later → NoneInHand before key)
    (among : (log : History) (k : ℕ) (x : DeskCall × DeskReply) → Contains (own k log) x → Contains (calls_of log) x)
    (granted_safe : (state : State) (calls : List (DeskCall × DeskReply)) (signed : List (PubKey × Message)) → CanMake state calls → SafeList signed
    → All (CoveredOnceActive state calls) signed → SafeList (signed ++ granted_in calls))
    (safe : (state : State) (calls : List (DeskCall × DeskReply)) (posted signed : List (PubKey × Message)) → CanMake state calls
    → ((x : PubKey × Message) → Contains posted x → Contains (granted_in calls) x) → SafeList signed → All (CoveredOnceActive state calls) signed → SafeList (signed ++ posted))
    (see : C → LinkSeen) (clock : Option ℕ) (options : ProxyOptions) (opened ended : Seen D) (before now : Parts C) (result : Status)
    (s : Shares moment leaves faults see clock options opened ended before now result) where
  abbrev log : History
  log = s.ran.shared.log

  abbrev made : List (DeskCall × DeskReply)
  made = calls_of s.ran.shared.log

  spans_all : (lane : ℕ) (grant : OpenGrant) (begun : Bool) → Contains (slice_index_or (signatures s) lane []) (grant, begun) → Spans s.ran.shared.log lane grant (outcome_of begun)
  spans_all lane grant begun h =
      let there : Contains (slice_index_or (map (λ (l : LaneSeen). l.desk) s.ran.lanes) lane []) (settled (grant, begun)) =
      in_settled see (terms_in clock options) options.connections before.door now.door (idle_lanes before.lanes) s.ran.lanes s.lanes_end s.ran.served lane (grant, begun) h in
      settled_spans moment leaves faults ended lane grant (outcome_of begun) reply.Settled
      (λ xs ys zs c from turns legal e. spans from ended turns lane xs ys zs c reply.Settled grant (outcome_of begun) legal e) opened s.ran.shared.log s.ran.shared.history
      (subst (λ (l : List (DeskCall × DeskReply)). Contains l (settled (grant, begun))) (sym (s.ran.shared.own_is lane)) there)

  closings : ClosesIdleKeys s.ran.shared.log
  closings front later key turn e closing =
      let same : turn ≡ entry turn.by (call.FinishClose key) (reply.Closed closing.book) =
      ap (λ (c : DeskCall). entry turn.by c turn.reply) closing.call_is ∙ ap (λ (r : DeskReply). entry turn.by (call.FinishClose key) r) closing.reply_is in
      closes opened ended s.ran.shared.log front later turn.by key closing.book s.ran.shared.history (e ∙ ap (λ (t : Entry DeskCall DeskReply). front ++ t ∷ later) same)

  pub serves_desk : LeavesDesk moment leaves (disks_in opened) opened.contents → ServesDesk moment leaves faults see clock options opened ended before now result
  serves_desk left = record {
    shares = s;
    images = images_of moment leaves faults opened.contents.genesis ended made opened s.ran.shared.path refl left;
    machine = λ state stands. path_machine moment leaves faults opened ended made s.ran.shared.path state stands;
    spans = spans_all;
    closings = closings;
    granted_safe = λ state signed stands are covered.
        granted_safe state made signed (path_machine moment leaves faults opened ended made s.ran.shared.path state stands).0 are covered;
    safe = λ state signed stands are covered.
        safe state made _ signed (path_machine moment leaves faults opened ended made s.ran.shared.path state stands).0 (messages_granted s.ran.shared.log (signatures s) spans_all) are covered;
  }

  -- ---- why it ended

  abbrev Then : Status → Type 0
  Then st = Because (Rose before.out.failed now.out.failed) (Contains made said) (Rose before.door.faults now.door.faults) st

  closed_because : (line : ClosingLine) → (TakesMemory line → ⊥) → Closes line before.out.held now.out.held before.out.failed now.out.failed result → Then (closing_status line) → Then result
  closed_because line none closes whole =
      closed_by Then line result before.out.held now.out.held before.out.failed now.out.failed closes (λ _. whole) (λ part. part.rose) (λ takes _ _. absurd (none takes))

  abbrev DoorEnds : Result (Unit {0}) LoopEnd → Type 0
  DoorEnds e = DoorServed (AttendsBy see (terms_in clock options)) options.connections before.door now.door (idle_lanes before.lanes) s.ran.lanes e

  door_rose : DoorEnds (Err loop.Door) → Rose before.door.faults now.door.faults
  door_rose (inl none) = let bad : Err loop.Door ≡ Err loop.Memory = none.0 in absurd cc
  door_rose (inr ran) = subst (λ (n : ℕ). Rose before.door.faults n) (sym ran.faults) ran.ends.2

  disk_said : DoorEnds (Err loop.Disk) → Contains made said
  disk_said (inl none) = let bad : Err loop.Disk ≡ Err loop.Memory = none.0 in absurd cc
  disk_said (inr ran) =
      let at = lanes_said see (terms_in clock options) (idle_lanes before.lanes) ran.visits s.ran.lanes ran.served ran.ends in
      among s.ran.shared.log at.0 said (subst (λ (l : List (DeskCall × DeskReply)). Contains l said) (sym (s.ran.shared.own_is at.0)) at.1)

  lanes_because : (e : Result (Unit {0}) LoopEnd) → DoorEnds e → ClosesLanes e before.out now.out result → Then result
  lanes_because (Ok done) ends closes = subst Then (sym closes.0) tt
  lanes_because (Err loop.Door) ends closes = closed_because closing.DoorFault (λ takes. takes) closes (door_rose ends)
  lanes_because (Err loop.Disk) ends closes = closed_because closing.DiskFault (λ takes. takes) closes (disk_said ends)
  lanes_because (Err loop.Memory) ends closes = subst Then (sym closes.0) tt

  shares_because : opened.contents.torn ≡ None → Because (Rose before.out.failed now.out.failed) (EitherRose faults (disks_in opened) (disks_in ended)) (Rose before.door.faults now.door.faults) result
  shares_because up =
      because_disk moment leaves faults (Rose before.out.failed now.out.failed) (Rose before.door.faults now.door.faults) (Contains made said) (EitherRose faults (disks_in opened) (disks_in ended))
      (λ h. failed_rose moment leaves faults opened ended made s.ran.shared.path h up) result
      (lanes_because s.lanes_end s.ran.served s.closes)

  module _ (shows : D → List ℕ → Type 0) (epoch : ℕ) (first last : Disks D) (events : List DeskEvent) where
    -- a desk that was opened and served with
    pub had_proxy : Opening shows moment leaves faults first options.genesis false epoch opened → Handed ended last events
        → HadDeskAt shows moment leaves faults options.genesis false epoch first last events (λ a b. ServesDesk moment leaves faults see clock options a b before now result)
    had_proxy opening handed =
        let served = serves_desk opening.left in
        let fares = path_fares moment leaves faults opened ended made s.ran.shared.path in
        had_desk moment leaves faults shows options.genesis false epoch first last events (λ a b. ServesDesk moment leaves faults see clock options a b before now result) opened ended
        opening served (record { genesis = fares.genesis; later = fares.later; fails = fares.fails }) served.images.left handed

    pub journal_because : opened.contents.torn ≡ None → FaultsLater faults first (disks_in opened) → last ≡ disks_in ended
        → Because (Rose before.out.failed now.out.failed) (EitherRose faults first last) (Rose before.door.faults now.door.faults) result
    journal_because up later handed =
        let R : Disks D → Type 0 = λ disks. EitherRose faults first disks in
        because_disk moment leaves faults (Rose before.out.failed now.out.failed) (Rose before.door.faults now.door.faults) (EitherRose faults (disks_in opened) (disks_in ended)) (EitherRose faults first last)
        (λ rose. subst R (sym handed) (either_back faults first (disks_in opened) (disks_in ended) later rose)) result (shares_because up)
