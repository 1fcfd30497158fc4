-- What serving comes to over the desk of a journal.
use Rattle.std.proofs.Common.{◌≡◌, ◌⊎◌, inl, inr, ⊎_elim, ◌<◌, ℕ, zero, suc, All, List, [], ◌∷◌, ◌++◌, Contains, Option, None, Some, true, length, get_or, slice_get, refl, sym, ap, ◌∙◌, subst, arith}
use Rattle.std.specs.Prelude.{is_some}
use Rattle.std.proofs.lemmas.List.Elements.{Contains-append_cases, Contains-push_cases}
use Rattle.edge_kit.specs.Causes.{Rose}
use Rattle.edge_kit.specs.declared.bytes.PubKey.{PubKey}
use Rattle.edge_kit.specs.declared.disk.Disks.{Disks}
use Rattle.slash_defs.specs.declared.book.Book.{Book}
use Rattle.slash_defs.specs.declared.message.Message.{Message}
use Rattle.slash_defs.specs.Lists.{SafeList}
use Rattle.record_journal.specs.TwoDisks.{EitherRose, FaultsLater}
use Rattle.desk_machine.specs.States.{State}
use Rattle.desk_machine.specs.Given.{MayMake}
use Rattle.desk_machine.specs.declared.call.DeskCall.{DeskCall}
use Rattle.desk_machine.specs.declared.call.DeskCall.TheVariants as call
use Rattle.desk_machine.specs.declared.call.DeskReply.{DeskReply}
use Rattle.desk_machine.specs.declared.call.DeskReply.TheVariants as reply
use Rattle.desk_machine.specs.declared.call.Outcome.{Outcome}
use Rattle.desk_machine.specs.declared.open_grant.OpenGrant.{OpenGrant}
use Rattle.desk_machine.specs.declared.event.DeskEvent.{DeskEvent}
use Rattle.desk_lock.specs.declared.types.Entry.{Entry}
use Rattle.desk_lock.specs.Histories.{Legal, entry, own}
use Rattle.client_calls.specs.Machines.{CanMake}
use Rattle.check_sign.specs.Calls.{LeavesDesk}
use Rattle.check_sign.specs.Contents.{Seen, disks_in}
use Rattle.check_sign.specs.Opening.{Opening}
use Rattle.check_sign.specs.Paths.{Path}
use Rattle.check_sign.proofs.FaultLemmas.{either_back, either_on}
use Rattle.desk_seat.specs.Steps.{DeskStep}
use Rattle.desk_seat.specs.Turns.{calls_of}
use Rattle.desk_seat.specs.Spans.{History, NoneInHand, Spans}
use Rattle.program_end.specs.declared.limit.Limit.TheVariants as limit
use Rattle.program_end.specs.declared.status.Status.{Status}
use Rattle.program_end.specs.declared.status.Status.TheVariants as status
use Rattle.duty_plans.specs.Guards.{granted_in}
use Rattle.duty_plans.specs.Steps.{desk_calls}
use Rattle.duty_loop.specs.Guarding.{GuardedAt, lane_steps}
use Rattle.keymanager_api.specs.Serving.{LinkSeen}
use Rattle.session_run.specs.Safe.{CoveredOnceActive}
use Rattle.session_run.proofs.MomentLemmas.{images_of}
use Rattle.session_run.proofs.PathLemmas.{path_fares, path_machine}
use Rattle.command_line.specs.declared.serve_options.ServeOptions.{ServeOptions}
use Rattle.journal_commands.specs.Openings.{HadDeskAt}
use Rattle.journal_commands.proofs.OpeningLemmas.{Handed, fares_same, had_desk}
use Rattle.serve_run.specs.Views.{Calls, Grew}
use Rattle.serve_run.specs.Clients.{LaneSeen, Parts, idle_seats, lane_seat, lane_seats}
use Rattle.serve_run.specs.Ends.{Because, ClosesIdleKeys, LaneSpans, ServesDesk, Shares, Unserved, lane_number, posted_in_lanes}
use Rattle.serve_run.specs.Serving.{steps_in}
use Rattle.serve_run.specs.declared.start.Start.{Start}
use Rattle.serve_run.proofs.CauseLemmas.{said, serves_because}
use Rattle.serve_run.proofs.HistoryLemmas.{lane_spans, posted_among}

module _ {D : Type 0} (moment : D → ℕ) (leaves : D → ℕ → List ℕ → Type 0) (faults : D → ℕ) where
  -- the desk before one of these calls that said that the disk had failed
  said_in : (a b : Seen D) (made : List (DeskCall × DeskReply)) → Path moment leaves faults a made b → Contains made said
      → (m : Seen D) × (front : List (DeskCall × DeskReply)) × Path moment leaves faults a front m × (true ≡ is_some m.contents.torn) × FaultsLater faults (disks_in m) (disks_in b)
  said_in a b [] p h = let lt = h.1 in absurd (omega (arith, lt))
  said_in a b (x ∷ made) p h = ⊎_elim
      (λ one. ⊎_elim (λ none. (let lt = none.1 in absurd (omega (arith, lt))))
      (λ same. let at = subst (λ (y : DeskCall × DeskReply). Path moment leaves faults a (y ∷ made) b) same p in (a, [], refl, at.1.own, (path_fares moment leaves faults a b (said ∷ made) at).later))
      (Contains-push_cases [] x said one))
      (λ later. let rest = said_in p.0 b made p.2 later in (rest.0, x ∷ rest.1, (p.0, p.1, rest.2), rest.3, rest.4))
      (Contains-append_cases (x ∷ []) made said h)

  pub failed_rose : (opened ended : Seen D) (made : List (DeskCall × DeskReply)) → Path moment leaves faults opened made ended → Contains made said → opened.contents.torn ≡ None → EitherRose faults (disks_in opened) (disks_in ended)
  failed_rose opened ended made path h up =
      let at = said_in opened ended made path h in
      either_on faults (disks_in opened) (disks_in at.0) (disks_in ended) ((path_fares moment leaves faults opened at.0 at.1 at.2).fails up (sym at.3)) at.4

  pub because_disk : (Writes Door Said Disk : Type 0) → (Said → Disk) → (s : Status) → Because Writes Said Door s → Because Writes Disk Door s
  because_disk Writes Door Said Disk says status.WriteFault h = h
  because_disk Writes Door Said Disk says status.DiskFault h = says h
  because_disk Writes Door Said Disk says status.DoorFault h = h
  because_disk Writes Door Said Disk says status.Done h = tt
  because_disk Writes Door Said Disk says status.OutOfMemory h = tt
  because_disk Writes Door Said Disk says status.NoNode h = tt
  because_disk Writes Door Said Disk says status.Damaged h = tt
  because_disk Writes Door Said Disk says status.GenesisDiffers h = tt
  because_disk Writes Door Said Disk says (status.InputTooLong limit.Keys) h = tt
  because_disk Writes Door Said Disk says s h = absurd h

-- ---- lanes, by the calls that they made

-- a lane that made its calls
seat_places : (lanes : List LaneSeen) (calls : List Calls) (k : ℕ) → length calls ≡ length lanes → k < length calls → (l : LaneSeen) × (slice_get (lane_seats lanes calls) k ≡ Some (lane_seat l (get_or calls k [])))
seat_places [] calls k long lt = absurd (omega (arith, long, lt))
seat_places (l ∷ ls) [] k long lt = absurd (omega (arith, lt))
seat_places (l ∷ ls) (c ∷ cs) zero long lt = (l, refl)
seat_places (l ∷ ls) (c ∷ cs) (suc k) long lt = seat_places ls cs k (omega (arith, long)) (omega (arith, lt))

-- a lane that made none yet
idle_places : (lanes : List LaneSeen) (k : ℕ) → k < length lanes → (l : LaneSeen) × (slice_get (idle_seats lanes) k ≡ Some (lane_seat l []))
idle_places [] k lt = absurd (omega (arith, lt))
idle_places (l ∷ ls) zero lt = (l, refl)
idle_places (l ∷ ls) (suc k) lt = idle_places ls k (omega (arith, lt))

module _ {D C : Type 0} (moment : D → ℕ) (leaves : D → ℕ → List ℕ → Type 0) (faults : D → ℕ)
    (spans : (opened closed : Seen D) (log : History) (k : ℕ) (xs ys zs : List (DeskCall × DeskReply)) (c : DeskCall) (r : DeskReply) (grant : OpenGrant) (o : Outcome)
    → Legal (DeskStep moment leaves faults) MayMake [] opened log closed → own k log ≡ xs ++ (c, reply.Granted grant) ∷ (ys ++ (call.Settle grant o, r) ∷ zs) → Spans log k grant o)
    (closes : (opened closed : Seen D) (log before later : History) (n : ℕ) (key : PubKey) (book : Book)
    → Legal (DeskStep moment leaves faults) MayMake [] opened log closed → log ≡ before ++ entry n (call.FinishClose key) (reply.Closed book) ∷ later → NoneInHand before key)
    (among : (log : History) (k : ℕ) (x : DeskCall × DeskReply) → Contains (own k log) x → Contains (calls_of log) x)
    (granted_safe : (state : State) (calls : List (DeskCall × DeskReply)) (signed : List (PubKey × Message)) → CanMake state calls → SafeList signed
    → All (CoveredOnceActive state calls) signed → SafeList (signed ++ granted_in calls))
    (safe : (state : State) (calls : List (DeskCall × DeskReply)) (posted signed : List (PubKey × Message)) → CanMake state calls
    → ((x : PubKey × Message) → Contains posted x → Contains (granted_in calls) x) → SafeList signed → All (CoveredOnceActive state calls) signed → SafeList (signed ++ posted))
    (see : C → LinkSeen) (clock : Option ℕ) (options : ServeOptions) (start : Start) (opened ended : Seen D) (before now : Parts C) (result : Status)
    (s : Shares moment leaves faults see clock options start opened ended before now result) where
  -- what a lane called is its own in the history
  lane_guarded : (k : ℕ) → k < length s.lanes → GuardedAt Grew [] (get_or s.lanes k []) (lane_steps k (steps_in s.serves))
  lane_guarded k lt =
      let b = s.serves.beside in
      let as_many = b.lanes_are in
      let same = b.same_lanes in
      let to = seat_places now.lanes s.lanes k as_many lt in
      let at = idle_places before.lanes k (omega (arith, lt, as_many, same)) in
      b.duties.guarded.lanes k (lane_seat at.0 []) (lane_seat to.0 (get_or s.lanes k [])) at.1 to.1

  own_same : (k : ℕ) → k < length s.lanes → own (lane_number k) s.shared.log ≡ desk_calls (lane_steps k (steps_in s.serves))
  own_same k lt = s.shared.own_is (lane_number k) ∙ (lane_guarded k lt).desk

  spans_all : (k : ℕ) → k < length s.lanes → LaneSpans s.shared.log k (lane_steps k (steps_in s.serves))
  spans_all k lt =
      let g = lane_guarded k lt in
      lane_spans s.shared.log k (λ xs ys zs c r grant o e. spans opened ended s.shared.log (lane_number k) xs ys zs c r grant o s.shared.history e) (lane_steps k (steps_in s.serves)) (own_same k lt) g.posts g.signs

  closings : ClosesIdleKeys s.shared.log
  closings front later key turn e closing =
      let same : turn ≡ entry turn.by (call.FinishClose key) (reply.Closed closing.book) =
      ap (λ (c : DeskCall). entry turn.by c turn.reply) closing.call_is ∙ ap (λ (r : DeskReply). entry turn.by (call.FinishClose key) r) closing.reply_is in
      closes opened ended s.shared.log front later turn.by key closing.book s.shared.history (e ∙ ap (λ (t : Entry DeskCall DeskReply). front ++ t ∷ later) same)

  granted_all : (m : PubKey × Message) → Contains (posted_in_lanes (length s.lanes) (steps_in s.serves)) m → Contains (granted_in (calls_of s.shared.log)) m
  granted_all m h = posted_among s.shared.log (steps_in s.serves) (λ k x c. among s.shared.log k x c) 0 (length s.lanes)
      (λ k ge lt. (let below : k < length s.lanes = omega (arith, lt) in (own_same k below, (lane_guarded k below).granted))) m h

  pub serves_desk : LeavesDesk moment leaves (disks_in opened) opened.contents → ServesDesk moment leaves faults see clock options start opened ended before now result
  serves_desk left =
      let calls : List (DeskCall × DeskReply) = calls_of s.shared.log in
      record {
        loop = s.loop;
        answered = s.answered;
        lanes = s.lanes;
        serves = s.serves;
        shared = s.shared;
        images = images_of moment leaves faults opened.contents.genesis ended calls opened s.shared.path refl left;
        machine = λ state stands. path_machine moment leaves faults opened ended calls s.shared.path state stands;
        spans = spans_all;
        closings = closings;
        granted_safe = λ state signed stands are covered.
            granted_safe state calls signed (path_machine moment leaves faults opened ended calls s.shared.path state stands).0 are covered;
        safe = λ state signed stands are covered.
            safe state calls (posted_in_lanes (length s.lanes) (steps_in s.serves)) signed (path_machine moment leaves faults opened ended calls s.shared.path state stands).0 granted_all are covered;
      }

  -- what its threads were told is in the history
  said_to : Contains s.loop said ⊎ Contains s.answered said → Contains (calls_of s.shared.log) said
  said_to h = ⊎_elim
      (λ one. among s.shared.log 0 said (subst (λ (l : List (DeskCall × DeskReply)). Contains l said) (sym (s.shared.own_is 0)) one))
      (λ other. among s.shared.log 1 said (subst (λ (l : List (DeskCall × DeskReply)). Contains l said) (sym (s.shared.own_is 1)) other))
      h

  pub shares_because : opened.contents.torn ≡ None → Because (Rose before.out.failed now.out.failed) (EitherRose faults (disks_in opened) (disks_in ended)) (Rose before.door.faults now.door.faults) result
  shares_because up =
      because_disk moment leaves faults (Rose before.out.failed now.out.failed) (Rose before.door.faults now.door.faults) (Contains s.loop said ⊎ Contains s.answered said) (EitherRose faults (disks_in opened) (disks_in ended))
      (λ h. failed_rose moment leaves faults opened ended (calls_of s.shared.log) s.shared.path (said_to h) up) result
      (serves_because see clock options start before now s.loop s.answered s.lanes result s.serves)

  module _ (shows : D → List ℕ → Type 0) (epoch : ℕ) (first last : Disks D) (events : List DeskEvent) where
    -- a desk that was opened and served with
    pub had_client : Opening shows moment leaves faults first options.genesis options.watch epoch opened → Handed ended last events
        → HadDeskAt shows moment leaves faults options.genesis options.watch epoch first last events
        (λ a b. ServesDesk moment leaves faults see clock options start a b before now result ⊎ Unserved a b before now result)
    had_client opening handed =
        let served = serves_desk opening.left in
        let fares = path_fares moment leaves faults opened ended (calls_of s.shared.log) s.shared.path in
        had_desk moment leaves faults shows options.genesis options.watch epoch first last events (λ a b. ServesDesk moment leaves faults see clock options start a b before now result ⊎ Unserved a b before now result) opened ended
        opening (inl served) (record { genesis = fares.genesis; later = fares.later; fails = fares.fails }) served.images.left handed

    pub journal_because : opened.contents.torn ≡ None → FaultsLater faults first (disks_in opened) → last ≡ disks_in ended
        → Because (Rose before.out.failed now.out.failed) (EitherRose faults first last) (Rose before.door.faults now.door.faults) result
    journal_because up later handed =
        let R : Disks D → Type 0 = λ disks. EitherRose faults first disks in
        because_disk moment leaves faults (Rose before.out.failed now.out.failed) (Rose before.door.faults now.door.faults) (EitherRose faults (disks_in opened) (disks_in ended)) (EitherRose faults first last)
        (λ rose. subst R (sym handed) (either_back faults first (disks_in opened) (disks_in ended) later rose)) result (shares_because up)

-- a desk that was opened, and not called
pub had_unserved : {D C : Type 0} (moment : D → ℕ) (leaves : D → ℕ → List ℕ → Type 0) (faults : D → ℕ) (shows : D → List ℕ → Type 0) (see : C → LinkSeen) (clock : Option ℕ) (options : ServeOptions) (start : Start)
    (opened ended : Seen D) (before now : Parts C) (result : Status) (epoch : ℕ) (first last : Disks D) (events : List DeskEvent) → Unserved opened ended before now result
    → Opening shows moment leaves faults first options.genesis options.watch epoch opened → Handed ended last events
    → HadDeskAt shows moment leaves faults options.genesis options.watch epoch first last events
    (λ a b. ServesDesk moment leaves faults see clock options start a b before now result ⊎ Unserved a b before now result)
had_unserved {D} moment leaves faults shows see clock options start opened ended before now result epoch first last events u opening handed =
    let L : Seen D → Type 0 = λ d. LeavesDesk moment leaves (disks_in d) d.contents in
    had_desk moment leaves faults shows options.genesis options.watch epoch first last events (λ a b. ServesDesk moment leaves faults see clock options start a b before now result ⊎ Unserved a b before now result) opened ended
    opening (inr u) (fares_same faults opened ended u.desk) (subst L (sym u.desk) opening.left) handed

pub unserved_because : {D C : Type 0} (Writes Disk Door : Type 0) (opened ended : Seen D) (before now : Parts C) (result : Status) → Unserved opened ended before now result → Because Writes Disk Door result
unserved_because Writes Disk Door opened ended before now result u = subst (λ (st : Status). Because Writes Disk Door st) (sym u.is) tt
