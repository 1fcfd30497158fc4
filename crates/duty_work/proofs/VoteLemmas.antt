-- How the votes of a slot are cast, and how the desk keeps their messages together.
use Rattle.std.proofs.Common.{◌≡◌, ℕ, Bool, true, false, List, [], ◌∷◌, length, Option, Some, None, Result, Ok, Err, refl, sym, ◌∙◌, ap, subst, arith}
use Rattle.std.specs.Prelude.{◌==◌, ◌&&◌, filter, if◌then◌else◌, map, IfOk}
use Rattle.std.specs.Option.{option_map}
use Rattle.std.specs.Result.{result_ok}
use Rattle.std.specs.declared.alloc.AllocError.{AllocError}
use Rattle.std.proofs.lemmas.Bool.{eqb-true}
use Rattle.client_calls.proofs.SeatLemmas.{Leads}
use Rattle.edge_kit.specs.declared.bytes.PubKey.{PubKey}
use Rattle.slash_defs.specs.declared.message.Message.{Message}
use Rattle.sign_roots.specs.declared.domains.Domains.{Domains}
use Rattle.record_join.specs.BooksPasts.{EachOnce}
use Rattle.desk_machine.specs.Grants.{IsGrantFor}
use Rattle.desk_machine.specs.Kinds.{IsKind}
use Rattle.desk_machine.specs.declared.call.DeskCall.TheVariants as call
use Rattle.desk_machine.specs.declared.call.DeskReply.{DeskReply}
use Rattle.desk_machine.specs.declared.call.DeskReply.TheVariants as reply
use Rattle.desk_machine.specs.declared.call.KeyStanding.{KeyStanding}
use Rattle.node_fallback.specs.Seen.{Seen}
use Rattle.call_plans.specs.Paths.{Carries, Comes}
use Rattle.call_plans.proofs.PathLemmas.{carries_cut, comes_none, comes_run}
use Rattle.duty_plans.specs.Hands.{Free, hand_given}
use Rattle.duty_plans.specs.Seats.{Seat}
use Rattle.duty_schedule.specs.declared.rows.Duty.{Duty}
use Rattle.duty_plans.specs.declared.ended.Ended.{Ended}
use Rattle.duty_plans.specs.declared.setup.DutySetup.{DutySetup}
use Rattle.duty_plans.specs.declared.task.Task.{Task}
use Rattle.duty_plans.specs.declared.work.SlotWork.{SlotWork}
use Rattle.duty_plans.specs.Votes.{answer_of, data_tasks, messages_of, vote_answers, vote_ends}
use Rattle.duty_pruning.specs.Pruning.{are_in_order, is_after}
use Rattle.duty_pruning.proofs.OnceLemmas.{in_order_once}
use Rattle.duty_turns.specs.Recording.{first_of_each, allowed_of, is_allowed, recorded}
use Rattle.duty_turns.specs.Standing.{Standing}
use Rattle.duty_turns.specs.Times.{epoch_of}
use Rattle.duty_turns.specs.Turns.{NextPlan, calls, casts_for, records, records_allowed, records_votes, unless_short, work_of, works}
use Rattle.duty_turns.specs.TurnSteps.{Does, Fits, House, SinkSeen, Worked, Works}
use Rattle.duty_turns.specs.declared.held.Held.{Held}
use Rattle.duty_asks.specs.Placed.{HoldsPlaced}
use Rattle.duty_workers.specs.Working.{WorksDone}
use Rattle.duty_work.specs.Houses.{CalledOn, CastOn, IsRecorded, house, short_by}
use Rattle.duty_work.proofs.HouseLemmas.{comes_more, turn_calls, turn_comes, turn_works_cut}
use Rattle.duty_work.proofs.PruneLemmas.{called_last, called_more, none_called}

-- ---- which messages are kept together

one_in_order : (before : Option PubKey) (m : PubKey × Message) (taken left : List (PubKey × Message)) (b : Bool) → is_after before m.0 ≡ b → are_in_order (Some m.0) taken ≡ true → are_in_order before left ≡ true
    → are_in_order before (if b then m ∷ taken else left) ≡ true
one_in_order before m taken left true is one two = ap (λ (x : Bool). x && are_in_order (Some m.0) taken) is ∙ one
one_in_order before m taken left false is one two = two

first_in_order : (before : Option PubKey) (ms : List (PubKey × Message)) → are_in_order before (first_of_each before ms) ≡ true
first_in_order before [] = refl
first_in_order before (m ∷ ms) = one_in_order before m (first_of_each (Some m.0) ms) (first_of_each before ms) (is_after before m.0) refl (first_in_order (Some m.0) ms) (first_in_order before ms)

-- no key twice
pub first_once : (ms : List (PubKey × Message)) → EachOnce (first_of_each None ms)
first_once ms = in_order_once (first_of_each None ms) (first_in_order None ms)

-- ---- the calls

pub kind_recorded : (ms : List (PubKey × Message)) (now : ℕ) (r : DeskReply) → IsKind (call.Record ms now) r → IsRecorded r
kind_recorded ms now reply.Recorded h = tt
kind_recorded ms now reply.Unfit h = tt
kind_recorded ms now reply.Disk h = tt
kind_recorded ms now reply.OutOfMemory h = tt
kind_recorded ms now (reply.Full size wanted) h = tt
kind_recorded ms now r h = absurd h

recorded_hand : (r : DeskReply) → IsRecorded r → hand_given Free r ≡ Free
recorded_hand reply.Recorded h = refl
recorded_hand reply.Unfit h = refl
recorded_hand reply.Disk h = refl
recorded_hand reply.OutOfMemory h = refl
recorded_hand (reply.Full size wanted) h = refl
recorded_hand r h = absurd h

module _ {K : Type 0} (leads : Leads K) (start : Option ℕ) where
  pub none_recorded : (now : ℕ) (ms : List (PubKey × Message)) (next : NextPlan) (a : House K) → (length ms == 0) ≡ true → CalledOn leads start (records now ms next) next a a (Ok tt)
  none_recorded now [] next a h = none_called leads start next a
  none_recorded now (m ∷ ms) next a h = absurd (let e : length (m ∷ ms) ≡ 0 = eqb-true (length (m ∷ ms)) 0 h in omega arith)

  pub all_recorded : (now : ℕ) (ms : List (PubKey × Message)) (next : NextPlan) (d e : K) (ls : List (Seat K)) (nodes : List Seen) (out : SinkSeen) (r : DeskReply) (result : Result (Unit {0}) AllocError) → (length ms == 0) ≡ false
      → leads d ((call.Record ms now, r) ∷ []) e → IsKind (call.Record ms now) r → IsGrantFor (call.Record ms now) r → result ≡ short_by r
      → CalledOn leads start (records now ms next) next (house d ls nodes out) (house e ls nodes out) result
  all_recorded now [] next d e ls nodes out r result h led kind for is = absurd (let bad : true ≡ false = h in cc)
  all_recorded now (m ∷ ms) next d e ls nodes out r result h led kind for is =
      called_last leads start (call.Record (m ∷ ms) now) next d e ls nodes out r result refl (recorded_hand r (kind_recorded (m ∷ ms) now r kind)) led kind for is

  -- the messages, and the moment, are those that were meant
  pub recorded_as : (work : SlotWork) (tasks : List Task) (listed : List (PubKey × KeyStanding)) (domains : Domains) (moment : ℕ) (ms : List (PubKey × Message)) (next : NextPlan) (a b : House K) (result : Result (Unit {0}) AllocError)
      → work.domains ≡ domains → work.moment ≡ moment → ms ≡ recorded domains (allowed_of listed) tasks
      → CalledOn leads start (records moment ms next) next a b result → CalledOn leads start (records_allowed work tasks (reply.Keys listed) next) next a b result
  recorded_as work tasks listed domains moment ms next a b result by at of called =
      let P : ℕ → List (PubKey × Message) → Type 0 = λ now l. CalledOn leads start (records now l next) next a b result in
      subst (λ n. P n (recorded work.domains (allowed_of listed) tasks)) (sym at) (subst (λ l. P moment l) (of ∙ ap (λ (x : Domains). recorded x (allowed_of listed) tasks) (sym by)) called)

  pub none_voted : (work : SlotWork) (tasks : List Task) (next : NextPlan) (a : House K) → (length tasks == 0) ≡ true → CalledOn leads start (records_votes work tasks next) next a a (Ok tt)
  none_voted work [] next a h = none_called leads start next a
  none_voted work (t ∷ tasks) next a h = absurd (let e : length (t ∷ tasks) ≡ 0 = eqb-true (length (t ∷ tasks)) 0 h in omega arith)

  -- the desk told how its keys stand
  pub votes_listed : (work : SlotWork) (tasks : List Task) (next : NextPlan) (d e : K) (ls : List (Seat K)) (nodes : List Seen) (out : SinkSeen) (c : House K) (r : DeskReply) (listed : List (PubKey × KeyStanding)) (result : Result (Unit {0}) AllocError)
      → (length tasks == 0) ≡ false → leads d ((call.Keys, r) ∷ []) e → IsKind call.Keys r → IsGrantFor call.Keys r → r ≡ reply.Keys listed
      → CalledOn leads start (records_allowed work tasks (reply.Keys listed) next) next (house e ls nodes out) c result → CalledOn leads start (records_votes work tasks next) next (house d ls nodes out) c result
  votes_listed work [] next d e ls nodes out c r listed result h led kind for is rest = absurd (let bad : true ≡ false = h in cc)
  votes_listed work (t ∷ tasks) next d e ls nodes out c r listed result h led kind for is rest =
      let hand : hand_given Free r ≡ Free = ap (λ (x : DeskReply). hand_given Free x) is in
      called_more leads start (calls call.Keys (λ x. records_allowed work (t ∷ tasks) x next)) (records_allowed work (t ∷ tasks) r next) next (house d ls nodes out) (house e ls nodes out) c result
      (turn_comes leads start d e ls nodes out call.Keys r (λ x. records_allowed work (t ∷ tasks) x next) refl hand led kind for)
      (subst (λ (x : DeskReply). CalledOn leads start (records_allowed work (t ∷ tasks) x next) next (house e ls nodes out) c result) (sym is) rest)

  pub votes_unlisted : (work : SlotWork) (tasks : List Task) (next : NextPlan) (d e : K) (ls : List (Seat K)) (nodes : List Seen) (out : SinkSeen) (r : DeskReply) → (length tasks == 0) ≡ false
      → leads d ((call.Keys, r) ∷ []) e → IsKind call.Keys r → IsGrantFor call.Keys r → r ≡ reply.OutOfMemory → CalledOn leads start (records_votes work tasks next) next (house d ls nodes out) (house e ls nodes out) (Err (record {}))
  votes_unlisted work [] next d e ls nodes out r h led kind for is = absurd (let bad : true ≡ false = h in cc)
  votes_unlisted work (t ∷ tasks) next d e ls nodes out r h led kind for is =
      let hand : hand_given Free r ≡ Free = ap (λ (x : DeskReply). hand_given Free x) is in
      turn_calls leads start d e ls nodes out (house e ls nodes out) call.Keys r (λ x. records_allowed work (t ∷ tasks) x next) None refl hand led kind for
      (carries_cut Fits (Does leads start) (records_allowed work (t ∷ tasks) r next) (house e ls nodes out))

  -- ---- the votes

  works_comes : (d : K) (ls ks : List (Seat K)) (ns : List Seen) (o : SinkSeen) (work : SlotWork) (place : ℕ) (ts : List Task) (ends : List Ended) (next_by : List Ended → NextPlan)
      → WorksDone leads work place ts ls ks (Some ends) → Comes Fits (Does leads start) (works work place ts next_by) (next_by ends) (house d ls ns o) (house d ks ns o)
  works_comes d ls ks ns o work place ts ends next_by w = record {
    steps = (Works work place ts, Worked w.steps (Some ends)) ∷ [];
    path = (house d ks ns o, (w.each, refl), refl);
    reaches = λ more y f. (refl, (w.shares, w.has, w.some), f);
  }

  -- nothing was done yet
  pub none_cast : (plan : NextPlan) (next_by : List Ended → NextPlan) (a : House K) → CastOn leads start plan next_by a a None
  none_cast plan next_by a = carries_cut Fits (Does leads start) plan a

  -- some of it, and then the rest
  cast_more : (p q : NextPlan) (next_by : List Ended → NextPlan) (a b c : House K) (v : Option (List Ended)) → Comes Fits (Does leads start) p q a b → CastOn leads start q next_by b c v → CastOn leads start p next_by a c v
  cast_more p q next_by a b c (Some ends) g h = comes_more Fits (Does leads start) a b c p q (next_by ends) g h
  cast_more p q next_by a b c None g h = comes_run Fits (Does leads start) a b c p q None g h

  -- tasks were done in the lanes, and then the rest
  pub tasks_cast : (d : K) (ls ks : List (Seat K)) (ns : List Seen) (o : SinkSeen) (c : House K) (work : SlotWork) (place : ℕ) (tasks ts : List Task) (ends given : List Ended) (q : List Ended → NextPlan) (next_by : List Ended → NextPlan) (v : Option (List Ended)) → tasks ≡ ts → given ≡ ends
      → WorksDone leads work place tasks ls ks (Some ends) → CastOn leads start (q given) next_by (house d ks ns o) c v → CastOn leads start (works work place ts q) next_by (house d ls ns o) c v
  tasks_cast d ls ks ns o c work place tasks ts ends given q next_by v is of w rest =
      let meant = subst (λ (l : List Task). WorksDone leads work place l ls ks (Some ends)) is w in
      cast_more (works work place ts q) (q given) next_by (house d ls ns o) (house d ks ns o) c v
      (works_comes d ls ks ns o work place ts given q (subst (λ (l : List Ended). WorksDone leads work place ts ls ks (Some l)) (sym of) meant)) rest

  -- what the ends of the questions are for each vote
  pub answers_cast : (a b : House K) (work : SlotWork) (place : ℕ) (votes : List Duty) (tasks : List Task) (ends asked : List Ended) (next_by : List Ended → NextPlan) (v : Option (List Ended)) → tasks ≡ data_tasks votes
      → asked ≡ map (answer_of tasks ends) votes → CastOn leads start (casts_for work place votes next_by asked) next_by a b v
      → CastOn leads start (casts_for work place votes next_by (vote_answers votes ends)) next_by a b v
  answers_cast a b work place votes tasks ends asked next_by v is of h =
      subst (λ (l : List Ended). CastOn leads start (casts_for work place votes next_by l) next_by a b v) (of ∙ ap (λ (ts : List Task). map (answer_of ts ends) votes) is) h

  -- tasks were done in the lanes, and no more
  pub tasks_done : (d : K) (ls ks : List (Seat K)) (ns : List Seen) (o : SinkSeen) (work : SlotWork) (place : ℕ) (tasks ts : List Task) (ends : List Ended) (q : List Ended → NextPlan) (next_by : List Ended → NextPlan) → tasks ≡ ts
      → WorksDone leads work place tasks ls ks (Some ends) → CastOn leads start (works work place ts q) next_by (house d ls ns o) (house d ks ns o) None
  tasks_done d ls ks ns o work place tasks ts ends q next_by is w =
      tasks_cast d ls ks ns o (house d ks ns o) work place tasks ts ends ends q next_by None is refl w (none_cast (q ends) next_by (house d ks ns o))

  -- memory ran out in a lane
  pub tasks_cut : (d : K) (ls ks : List (Seat K)) (ns : List Seen) (o : SinkSeen) (work : SlotWork) (place : ℕ) (tasks ts : List Task) (q : List Ended → NextPlan) (next_by : List Ended → NextPlan) → tasks ≡ ts
      → WorksDone leads work place tasks ls ks None → CastOn leads start (works work place ts q) next_by (house d ls ns o) (house d ks ns o) None
  tasks_cut d ls ks ns o work place tasks ts q next_by is w = turn_works_cut leads start d ls ks ns o work place ts q (subst (λ (l : List Task). WorksDone leads work place l ls ks None) is w)

  -- the messages of the votes were kept together, and then the rest
  pub kept_cast : (a b c : House K) (work : SlotWork) (tasks ts : List Task) (next : List Task → NextPlan) (next_by : List Ended → NextPlan) (v : Option (List Ended)) → tasks ≡ ts
      → CalledOn leads start (records_votes work tasks (next ts)) (next ts) a b (Ok tt) → CastOn leads start (next ts) next_by b c v → CastOn leads start (records_votes work ts (next ts)) next_by a c v
  kept_cast a b c work tasks ts next next_by v is called rest =
      cast_more (records_votes work ts (next ts)) (next ts) next_by a b c v (subst (λ (l : List Task). CalledOn leads start (records_votes work l (next ts)) (next ts) a b (Ok tt)) is called) rest

  pub kept_cut : (a b : House K) (work : SlotWork) (tasks ts : List Task) (next : NextPlan) (next_by : List Ended → NextPlan) → tasks ≡ ts
      → CalledOn leads start (records_votes work tasks next) next a b (Err (record {})) → CastOn leads start (records_votes work ts next) next_by a b None
  kept_cut a b work tasks ts next next_by is called = subst (λ (l : List Task). CalledOn leads start (records_votes work l next) next a b (Err (record {}))) is called

  -- how all ended
  pub ends_cast : {V E : Type 0} (items : V → List Ended) (r : Result V E) (asked cast : List Ended) (next_by : List Ended → NextPlan) (a : House K) → IfOk r (λ v. items v ≡ vote_ends asked cast)
      → CastOn leads start (next_by (vote_ends asked cast)) next_by a a (option_map items (result_ok r))
  ends_cast items (Ok v) asked cast next_by a is = subst (λ (l : List Ended). Comes Fits (Does leads start) (next_by (vote_ends asked cast)) (next_by l) a a) (sym is) (comes_none Fits (Does leads start) (next_by (vote_ends asked cast)) a)
  ends_cast items (Err e) asked cast next_by a is = carries_cut Fits (Does leads start) (next_by (vote_ends asked cast)) a

-- ---- what the votes share

pub work_domains : (setup : DutySetup) (held : Held) (s : Standing) (domains : Domains) → HoldsPlaced held s → domains ≡ record { fork = held.fork; genesis = setup.genesis } → (work_of setup s).domains ≡ domains
work_domains setup held s domains h by =
    let same : ◌≡◌ {A = Domains} (record { fork = held.fork; genesis = setup.genesis }) (record { fork = s.fork; genesis = setup.genesis }) = rw h.is.fork refl in
    sym (by ∙ same)

pub work_moment : (setup : DutySetup) (held : Held) (s : Standing) (moment : ℕ) → HoldsPlaced held s → moment ≡ epoch_of held.slot → (work_of setup s).moment ≡ moment
work_moment setup held s moment h at = sym (at ∙ ap (λ (n : ℕ). epoch_of n) h.is.slot)
