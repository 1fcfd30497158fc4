-- A turn, part behind part.
use Rattle.std.proofs.Common.{◌≡◌, ℕ, suc, ◌+◌, ◌<◌, ◌++◌, List, [], ◌∷◌, length, map, Option, Some, None, Result, Ok, Err, true, false, refl, sym, ◌∙◌, ap, subst, arith}
use Rattle.std.proofs.lemmas.List.{length-map}
use Rattle.std.specs.Prelude.{OnOk}
use Rattle.edge_kit.specs.declared.bytes.PubKey.{PubKey}
use Rattle.sign_roots.specs.declared.domains.Domains.{Domains}
use Rattle.edge_clock.specs.Clocks.{IsWaited}
use Rattle.desk_machine.specs.Grants.{IsGrantFor}
use Rattle.desk_machine.specs.Kinds.{IsKind}
use Rattle.desk_machine.specs.declared.call.DeskCall.TheVariants as call
use Rattle.desk_machine.specs.declared.call.DeskReply.{DeskReply}
use Rattle.desk_machine.specs.declared.call.DeskReply.TheVariants as reply
use Rattle.desk_machine.specs.declared.call.KeyStanding.{KeyStanding}
use Rattle.client_calls.proofs.SeatLemmas.{Leads}
use Rattle.node_fallback.specs.Refreshing.{AreAskedFirst, AreFlagged, WithReplies}
use Rattle.node_fallback.specs.Seen.{Seen}
use Rattle.call_plans.specs.Plans.{Done, bind}
use Rattle.call_plans.proofs.PlanLemmas.{cut_now}
use Rattle.call_plans.specs.Paths.{Carries, Comes}
use Rattle.call_plans.proofs.PathLemmas.{carries_cut, carries_end, carries_on, carries_short, comes_run}
use Rattle.duty_schedule.specs.Due.{IsDue}
use Rattle.duty_schedule.specs.declared.rows.Duty.{Duty}
use Rattle.duty_plans.specs.Hands.{Free, hand_given}
use Rattle.duty_plans.specs.Plans.{slot_plan, slot_work}
use Rattle.duty_plans.specs.Steps as duties
use Rattle.duty_plans.specs.Steps.{DutyStep}
use Rattle.duty_turns.specs.Lanes.{DidShares, EachDoes, dealt}
use Rattle.duty_plans.specs.Seats.{Seat}
use Rattle.duty_plans.specs.declared.ended.Ended.{Ended}
use Rattle.duty_plans.specs.declared.result.DutyResult.{DutyResult}
use Rattle.duty_plans.specs.declared.task.Task.{Task}
use Rattle.duty_plans.specs.Tasks.{fresh}
use Rattle.duty_plans.specs.declared.setup.DutySetup.{DutySetup}
use Rattle.duty_plans.specs.declared.work.SlotWork.{SlotWork}
use Rattle.duty_turns.specs.Standing.{Standing}
use Rattle.duty_turns.specs.Times.{epoch_of, slot_start, votes_start}
use Rattle.duty_turns.specs.Turns.{Next, NextPlan, PartPlan, active_of, again_plan, asked_plan, at_slot, blocks_in, calls, casts, close_plan, due_plan, failed_plan, finish_plan, listed_plan, prunes, puts, ready_plan, refreshes, refreshes_lanes, report_plan, shortens, told_plan, turn_plan, votes_in, votes_plan, waits, with_active, woken_plan, work_of, works, wrote}
use Rattle.duty_turns.specs.TurnSteps.{Does, Fits, House, SinkSeen}
use Rattle.duty_turns.specs.declared.held.DutyEnd.{DutyEnd}
use Rattle.duty_turns.specs.declared.held.DutyEnd.TheVariants as end
use Rattle.duty_turns.specs.declared.held.Held.{Held}
use Rattle.duty_asks.specs.Placed.{HoldsPlaced}
use Rattle.duty_asks.specs.Quiet.{WritesText, done_value}
use Rattle.duty_asks.specs.declared.ask.Stop.{Stop}
use Rattle.duty_asks.specs.declared.ask.Stop.TheVariants as stop
use Rattle.duty_workers.specs.Working.{WereRefreshed, WorksDone}
use Rattle.duty_work.specs.Houses.{IsFailed, PartTurns, Turns, end_by, end_of, house, next_value}
use Rattle.duty_work.proofs.HouseLemmas.{turn_calls, turn_looks, turn_refresh_cut, turn_refresh_lanes_cut, turn_refreshes, turn_refreshes_lanes, turn_waits, turn_works, turn_works_cut, turn_write_fails, turn_writes}

pub kept : {E P : Type 0} (r : Result (Unit {0}) E) → P → OnOk r P
kept (Ok x) p = p
kept (Err e) p = tt

-- what stands is held by whatever name
pub held_as : {held : Held} {a b : Standing} → a ≡ b → HoldsPlaced held a → HoldsPlaced held b
held_as {held} e h = subst (λ (x : Standing). HoldsPlaced held x) e h

-- what stands is held with another slot, or other active keys
pub holds_at : (before now : Held) (s : Standing) (slot : ℕ) → HoldsPlaced before s → now.slot ≡ slot → now.fork ≡ before.fork → now.indices ≡ before.indices → now.schedule ≡ before.schedule → now.active ≡ before.active → now.renewed ≡ before.renewed
    → HoldsPlaced now (at_slot slot s)
holds_at before now s slot h at fork indices schedule active renewed = record {
  is = record {
    slot = at;
    fork = fork ∙ h.is.fork;
    indices = ap (λ m. m.entries) indices ∙ h.is.indices;
    schedule = rw schedule h.is.schedule;
    active = active ∙ h.is.active;
    renewed = renewed ∙ h.is.renewed;
  };
  places = h.places;
}

pub kind_failed : (r : DeskReply) → IsKind call.HasFailed r → IsFailed r
kind_failed (reply.HasFailed failed) h = tt
kind_failed r h = absurd h

pub keys_hand : (r : DeskReply) → IsKind call.Keys r → hand_given Free r ≡ Free
keys_hand (reply.Keys listed) h = refl
keys_hand reply.OutOfMemory h = refl
keys_hand r h = absurd h

failed_hand : (r : DeskReply) → IsFailed r → hand_given Free r ≡ Free
failed_hand (reply.HasFailed failed) h = refl
failed_hand r h = absurd h

module _ {K : Type 0} (leads : Leads K) (start : Option ℕ) where
  -- ---- the end of a turn

  failed_by : (s : Standing) (r : DeskReply) (a : House K) → IsFailed r → Carries Fits (Does leads start) (failed_plan s r) a a (next_value s (end_by r))
  failed_by s (reply.HasFailed true) a h = carries_end Fits (Does leads start) (Done (Err end.Disk)) a (Some (Err end.Disk)) refl
  failed_by s (reply.HasFailed false) a h = carries_end Fits (Does leads start) (Done (Ok s)) a (Some (Ok s)) refl
  failed_by s r a h = absurd h

  pub asked_failed : (d e : K) (ls : List (Seat K)) (nodes : List Seen) (out : SinkSeen) (s : Standing) (r : DeskReply) (result : Result (Unit {0}) DutyEnd) → leads d ((call.HasFailed, r) ∷ []) e → IsKind call.HasFailed r → IsGrantFor call.HasFailed r → result ≡ end_by r
      → Carries Fits (Does leads start) (calls call.HasFailed (failed_plan s)) (house d ls nodes out) (house e ls nodes out) (next_value s result)
  asked_failed d e ls nodes out s r result led kind for is =
      subst (λ (x : Result (Unit {0}) DutyEnd). Carries Fits (Does leads start) (calls call.HasFailed (failed_plan s)) (house d ls nodes out) (house e ls nodes out) (next_value s x)) (sym is)
      (turn_calls leads start d e ls nodes out (house e ls nodes out) call.HasFailed r (failed_plan s) (next_value s (end_by r)) refl (failed_hand r (kind_failed r kind)) led kind for (failed_by s r (house e ls nodes out) (kind_failed r kind)))

  -- a text was written, and it goes on; or the output failed
  pub put_on : (d : K) (ls : List (Seat K)) (nodes : List Seen) (o p : SinkSeen) (b : House K) (text bytes wanted : List ℕ) (done : Result (Unit {0}) Stop) (next : NextPlan) (v : Option (Result Standing DutyEnd))
      → text ≡ wanted → bytes ≡ text → done ≡ Ok tt → WritesText o p bytes done
      → Carries Fits (Does leads start) next (house d ls nodes p) b v → Carries Fits (Does leads start) (puts wanted next) (house d ls nodes o) b v
  put_on d ls nodes o p b text bytes wanted done next v of same ok writes run =
      let all : bytes ≡ wanted = same ∙ of in
      let taken = subst (λ (w : Result (Unit {0}) Stop). WritesText o p bytes w) ok writes in
      turn_writes leads start d ls nodes o p b wanted (λ r. wrote r next) v (subst (λ (l : List ℕ). WritesText o p l (Ok tt)) all taken) run

  pub put_fails : (d : K) (ls : List (Seat K)) (nodes : List Seen) (o p : SinkSeen) (text bytes wanted : List ℕ) (done : Result (Unit {0}) Stop) (why : Stop) (next : NextPlan)
      → text ≡ wanted → bytes ≡ text → done ≡ Err why → WritesText o p bytes done
      → Carries Fits (Does leads start) (puts wanted next) (house d ls nodes o) (house d ls nodes p) (Some (Err end.Write))
  put_fails d ls nodes o p text bytes wanted done stop.Write next of same err writes =
      let all : bytes ≡ wanted = same ∙ of in
      let failed = subst (λ (w : Result (Unit {0}) Stop). WritesText o p bytes w) err writes in
      let cut = subst (λ (l : List ℕ). WritesText o p l (Err stop.Write)) all failed in
      turn_write_fails leads start d ls nodes o p (house d ls nodes p) wanted cut.0 (λ r. wrote r next) (Some (Err end.Write)) cut.1 cut.2 (carries_end Fits (Does leads start) (Done (Err end.Write)) (house d ls nodes p) (Some (Err end.Write)) refl)
  put_fails d ls nodes o p text bytes wanted done stop.OutOfMemory next of same err writes =
      absurd (subst (λ (w : Result (Unit {0}) Stop). WritesText o p bytes w) err writes)

  pub told_on : (Holds : Standing → Type 0) (d : K) (ls : List (Seat K)) (nodes : List Seen) (o p : SinkSeen) (b : House K) (text bytes wanted : List ℕ) (done : Result (Unit {0}) Stop) (next : NextPlan) (result : Result (Unit {0}) DutyEnd)
      → text ≡ wanted → bytes ≡ text → done ≡ Ok tt → WritesText o p bytes done
      → Turns leads start Holds next (house d ls nodes p) b result → Turns leads start Holds (puts wanted next) (house d ls nodes o) b result
  told_on Holds d ls nodes o p b text bytes wanted done next result of same ok writes t =
      record { after = t.after; held = t.held; runs = put_on d ls nodes o p b text bytes wanted done next (next_value t.after result) of same ok writes t.runs }

  pub told_fails : (Holds : Standing → Type 0) (s : Standing) (d : K) (ls : List (Seat K)) (nodes : List Seen) (o p : SinkSeen) (text bytes wanted : List ℕ) (done : Result (Unit {0}) Stop) (why : Stop) (next : NextPlan)
      → text ≡ wanted → bytes ≡ text → done ≡ Err why → WritesText o p bytes done
      → Turns leads start Holds (puts wanted next) (house d ls nodes o) (house d ls nodes p) (Err end.Write)
  told_fails Holds s d ls nodes o p text bytes wanted done why next of same err writes =
      record { after = s; held = tt; runs = put_fails d ls nodes o p text bytes wanted done why next of same err writes }

  -- memory ran out after a text was written
  pub told_short : (Holds : Standing → Type 0) (s : Standing) (d : K) (ls : List (Seat K)) (nodes : List Seen) (o p : SinkSeen) (text bytes wanted : List ℕ) (done : Result (Unit {0}) Stop) (next : NextPlan)
      → text ≡ wanted → bytes ≡ text → done ≡ Ok tt → WritesText o p bytes done
      → Turns leads start Holds (puts wanted next) (house d ls nodes o) (house d ls nodes p) (Err end.OutOfMemory)
  told_short Holds s d ls nodes o p text bytes wanted done next of same ok writes =
      told_on Holds d ls nodes o p (house d ls nodes p) text bytes wanted done next (Err end.OutOfMemory) of same ok writes (record { after = s; held = tt; runs = carries_cut Fits (Does leads start) next (house d ls nodes p) })

  pub pruned_goes : (setup : DutySetup) (s : Standing) (slot : ℕ) (active : Option (List PubKey)) (a b c : House K) (result : Result (Unit {0}) DutyEnd) → active ≡ s.active
      → Comes Fits (Does leads start) (prunes setup.keep_epochs slot active (calls call.HasFailed (failed_plan s))) (calls call.HasFailed (failed_plan s)) a b
      → Carries Fits (Does leads start) (calls call.HasFailed (failed_plan s)) b c (next_value s result)
      → Carries Fits (Does leads start) (finish_plan setup slot s) a c (next_value s result)
  pruned_goes setup s slot active a b c result of called run =
      let asks : NextPlan = calls call.HasFailed (failed_plan s) in
      subst (λ (l : Option (List PubKey)). Carries Fits (Does leads start) (prunes setup.keep_epochs slot l asks) a c (next_value s result)) of
      (comes_run Fits (Does leads start) a b c (prunes setup.keep_epochs slot active asks) asks (next_value s result) called run)

  pub pruned_short : (setup : DutySetup) (s : Standing) (slot : ℕ) (active : Option (List PubKey)) (a b : House K) → active ≡ s.active
      → Carries Fits (Does leads start) (prunes setup.keep_epochs slot active (calls call.HasFailed (failed_plan s))) a b None
      → Carries Fits (Does leads start) (finish_plan setup slot s) a b None
  pruned_short setup s slot active a b of called =
      subst (λ (l : Option (List PubKey)). Carries Fits (Does leads start) (prunes setup.keep_epochs slot l (calls call.HasFailed (failed_plan s))) a b None) of called

  -- the lines of these duties are those that were meant
  pub closed_as : (Holds : Standing → Type 0) (setup : DutySetup) (plan : NextPlan) (s t : Standing) (a b : House K) (slot : ℕ) (ds es : List Duty) (rs qs : List DutyResult) (result : Result (Unit {0}) DutyEnd)
      → plan ≡ close_plan setup s.slot es qs t → slot ≡ s.slot → ds ≡ es → rs ≡ qs → Holds t → Carries Fits (Does leads start) (close_plan setup slot ds rs t) a b (next_value t result) → Turns leads start Holds plan a b result
  closed_as Holds setup plan s t a b slot ds es rs qs result is at of by h run =
      let at_slot_run = subst (λ (n : ℕ). Carries Fits (Does leads start) (close_plan setup n ds rs t) a b (next_value t result)) at run in
      let of_run = subst (λ (l : List Duty). Carries Fits (Does leads start) (close_plan setup s.slot l rs t) a b (next_value t result)) of at_slot_run in
      let by_run = subst (λ (l : List DutyResult). Carries Fits (Does leads start) (close_plan setup s.slot es l t) a b (next_value t result)) by of_run in
      record { after = t; held = kept result h; runs = subst (λ (q : NextPlan). Carries Fits (Does leads start) q a b (next_value t result)) (sym is) by_run }

  -- the slot is the one that was meant
  pub ends_as : (Holds : Standing → Type 0) (plan : NextPlan) (ends : ℕ → NextPlan) (s t : Standing) (a b : House K) (slot : ℕ) (result : Result (Unit {0}) DutyEnd)
      → plan ≡ ends s.slot → slot ≡ s.slot → Holds t → Carries Fits (Does leads start) (ends slot) a b (next_value t result) → Turns leads start Holds plan a b result
  ends_as Holds plan ends s t a b slot result is at h run =
      let there = subst (λ (n : ℕ). Carries Fits (Does leads start) (ends n) a b (next_value t result)) at run in
      record { after = t; held = kept result h; runs = subst (λ (q : NextPlan). Carries Fits (Does leads start) q a b (next_value t result)) (sym is) there }

  pub closing : (setup : DutySetup) (s : Standing) (a b : House K) (slot : ℕ) (ds es : List Duty) (rs qs : List DutyResult) (v : Option (Result Standing DutyEnd)) → ds ≡ es → rs ≡ qs
      → Carries Fits (Does leads start) (close_plan setup slot ds rs s) a b v → Carries Fits (Does leads start) (close_plan setup slot es qs s) a b v
  closing setup s a b slot ds es rs qs v of by run =
      subst (λ (l : List DutyResult). Carries Fits (Does leads start) (close_plan setup slot es l s) a b v) by (subst (λ (l : List Duty). Carries Fits (Does leads start) (close_plan setup slot l rs s) a b v) of run)

  -- ---- part behind part

  pub short : (Holds : Standing → Type 0) (plan : NextPlan) (s : Standing) (a : House K) → Turns leads start Holds plan a a (Err end.OutOfMemory)
  short Holds plan s a = record { after = s; held = tt; runs = carries_cut Fits (Does leads start) plan a }

  pub waited : (Holds : Standing → Type 0) (setup : DutySetup) (s : Standing) (a b : House K) (moment slot reached : ℕ) (result : Result (Unit {0}) DutyEnd) → moment ≡ slot_start setup.genesis_time slot → slot ≡ s.slot → IsWaited start moment reached
      → Turns leads start Holds (woken_plan setup s reached) a b result → Turns leads start Holds (turn_plan setup s) a b result
  waited Holds setup s a b moment slot reached result is at timed t =
      let same : moment ≡ slot_start setup.genesis_time s.slot = is ∙ ap (λ n. slot_start setup.genesis_time n) at in
      record {
        after = t.after;
        held = t.held;
        runs = turn_waits leads start a b (slot_start setup.genesis_time s.slot) reached (woken_plan setup s) (next_value t.after result) (subst (λ n. IsWaited start n reached) same timed) t.runs;
      }

  module _ (Holds : Standing → Type 0) (setup : DutySetup) (s : Standing) (d : K) (ls : List (Seat K)) (ns ms : List Seen) (o : SinkSeen) (reached : ℕ)
      (is : woken_plan setup s reached ≡ refreshes (refreshes_lanes (shortens s (calls call.Keys (listed_plan setup s))))) where
    pub refreshed : (ks : List (Seat K)) (b : House K) (result : Result (Unit {0}) DutyEnd) → WithReplies (λ replies. AreFlagged ns replies ms) → WereRefreshed true ls ks
        → Turns leads start Holds (shortens s (calls call.Keys (listed_plan setup s))) (house d ks ms o) b result → Turns leads start Holds (woken_plan setup s reached) (house d ls ns o) b result
    refreshed ks b result flagged asked t =
        let rest = turn_refreshes_lanes leads start d ls ks ms o b asked.0 (shortens s (calls call.Keys (listed_plan setup s))) (next_value t.after result) asked.1 t.runs in
        let run = turn_refreshes leads start d ls ns ms o b flagged.0 (refreshes_lanes (shortens s (calls call.Keys (listed_plan setup s)))) (next_value t.after result) flagged.1 rest in
        record { after = t.after; held = t.held; runs = subst (λ (q : NextPlan). Carries Fits (Does leads start) q (house d ls ns o) b (next_value t.after result)) (sym is) run }

    -- memory ran out at the loop's own nodes
    pub refreshed_short : WithReplies (λ replies. AreAskedFirst ns replies ms) → Turns leads start Holds (woken_plan setup s reached) (house d ls ns o) (house d ls ms o) (Err end.OutOfMemory)
    refreshed_short asked =
        let run = turn_refresh_cut leads start d ls ns ms o asked.0 (refreshes_lanes (shortens s (calls call.Keys (listed_plan setup s)))) asked.1 in
        record { after = s; held = tt; runs = subst (λ (q : NextPlan). Carries Fits (Does leads start) q (house d ls ns o) (house d ls ms o) None) (sym is) run }

    -- or at those of a lane
    pub lanes_short : (ks : List (Seat K)) → WithReplies (λ replies. AreFlagged ns replies ms) → WereRefreshed false ls ks → Turns leads start Holds (woken_plan setup s reached) (house d ls ns o) (house d ks ms o) (Err end.OutOfMemory)
    lanes_short ks flagged asked =
        let rest = turn_refresh_lanes_cut leads start d ls ks ms o asked.0 (shortens s (calls call.Keys (listed_plan setup s))) asked.1 in
        let run = turn_refreshes leads start d ls ns ms o (house d ks ms o) flagged.0 (refreshes_lanes (shortens s (calls call.Keys (listed_plan setup s)))) None flagged.1 rest in
        record { after = s; held = tt; runs = subst (λ (q : NextPlan). Carries Fits (Does leads start) q (house d ls ns o) (house d ks ms o) None) (sym is) run }

  pub listed_goes : (Holds : Standing → Type 0) (setup : DutySetup) (s : Standing) (d e : K) (ls : List (Seat K)) (ns : List Seen) (o : SinkSeen) (b : House K) (r : DeskReply) (listed slice : List (PubKey × KeyStanding)) (result : Result (Unit {0}) DutyEnd)
      → leads d ((call.Keys, r) ∷ []) e → IsKind call.Keys r → IsGrantFor call.Keys r → r ≡ reply.Keys listed → slice ≡ listed
      → Turns leads start Holds (listed_plan setup s (reply.Keys slice)) (house e ls ns o) b result → Turns leads start Holds (calls call.Keys (listed_plan setup s)) (house d ls ns o) b result
  listed_goes Holds setup s d e ls ns o b r listed slice result led kind for is same t =
      let reply_is : reply.Keys slice ≡ r = ap reply.Keys same ∙ sym is in
      record {
        after = t.after;
        held = t.held;
        runs = turn_calls leads start d e ls ns o b call.Keys r (listed_plan setup s) (next_value t.after result) refl (keys_hand r kind) led kind for
            (subst (λ (x : DeskReply). Carries Fits (Does leads start) (listed_plan setup s x) (house e ls ns o) b (next_value t.after result)) reply_is t.runs);
      }

  pub listed_short : (Holds : Standing → Type 0) (setup : DutySetup) (s : Standing) (d e : K) (ls : List (Seat K)) (ns : List Seen) (o : SinkSeen) (r : DeskReply)
      → leads d ((call.Keys, r) ∷ []) e → IsKind call.Keys r → IsGrantFor call.Keys r → Turns leads start Holds (calls call.Keys (listed_plan setup s)) (house d ls ns o) (house e ls ns o) (Err end.OutOfMemory)
  listed_short Holds setup s d e ls ns o r led kind for = record {
    after = s;
    held = tt;
    runs = turn_calls leads start d e ls ns o (house e ls ns o) call.Keys r (listed_plan setup s) None refl (keys_hand r kind) led kind for (carries_cut Fits (Does leads start) (listed_plan setup s r) (house e ls ns o));
  }

  -- what the nodes were asked, and then what is due
  pub slot_goes : (P Holds : Standing → Type 0) (setup : DutySetup) (listed : List (PubKey × KeyStanding)) (active slice : List PubKey) (s : Standing) (a b c : House K) (first : Result (Unit {0}) Stop) (result : Result (Unit {0}) DutyEnd)
      → active ≡ active_of listed → slice ≡ active → first ≡ Ok tt → PartTurns leads start P (asked_plan setup listed slice s) a b first
      → ((t : Standing) → P t → Turns leads start Holds (ready_plan setup active (Some t)) b c result) → Turns leads start Holds (listed_plan setup s (reply.Keys listed)) a c result
  slot_goes P Holds setup listed active slice s a b c first result of same ok part next =
      let one = subst (λ (l : List PubKey). PartTurns leads start P (asked_plan setup listed l s) a b first) (same ∙ of) part in
      let held : P one.after = subst (λ (r : Result (Unit {0}) Stop). OnOk r (P one.after)) ok one.held in
      let run = subst (λ (r : Result (Unit {0}) Stop). Carries Fits (Does leads start) (asked_plan setup listed (active_of listed) s) a b (done_value one.after r)) ok one.runs in
      let rest = subst (λ (l : List PubKey). Turns leads start Holds (ready_plan setup l (Some one.after)) b c result) of (next one.after held) in
      record {
        after = rest.after;
        held = rest.held;
        runs = carries_on Fits (Does leads start) a b c (asked_plan setup listed (active_of listed) s) (ready_plan setup (active_of listed)) (Some one.after) (next_value rest.after result) run rest.runs;
      }

  stopped_by : (setup : DutySetup) (active : List PubKey) (p : PartPlan) (s : Standing) (a b : House K) (why : Stop) → Carries Fits (Does leads start) p a b (done_value s (Err why))
      → Carries Fits (Does leads start) (bind p (ready_plan setup active)) a b (next_value s (Err (end_of why)))
  stopped_by setup active p s a b stop.Write run = carries_on Fits (Does leads start) a b b p (ready_plan setup active) None (Some (Err end.Write)) run (carries_end Fits (Does leads start) (Done (Err end.Write)) b (Some (Err end.Write)) refl)
  stopped_by setup active p s a b stop.OutOfMemory run = carries_short Fits (Does leads start) a b p (ready_plan setup active) run

  pub slot_stops : (P Holds : Standing → Type 0) (setup : DutySetup) (listed : List (PubKey × KeyStanding)) (active slice : List PubKey) (s : Standing) (a b : House K) (first : Result (Unit {0}) Stop) (why : Stop) (ended : DutyEnd)
      → active ≡ active_of listed → slice ≡ active → first ≡ Err why → ended ≡ end_of why → PartTurns leads start P (asked_plan setup listed slice s) a b first → Turns leads start Holds (listed_plan setup s (reply.Keys listed)) a b (Err ended)
  slot_stops P Holds setup listed active slice s a b first why ended of same err is part =
      let one = subst (λ (l : List PubKey). PartTurns leads start P (asked_plan setup listed l s) a b first) (same ∙ of) part in
      let run = subst (λ (r : Result (Unit {0}) Stop). Carries Fits (Does leads start) (asked_plan setup listed (active_of listed) s) a b (done_value one.after r)) err one.runs in
      record {
        after = one.after;
        held = tt;
        runs = subst (λ (x : DutyEnd). Carries Fits (Does leads start) (listed_plan setup s (reply.Keys listed)) a b (next_value one.after (Err x))) (sym is)
            (stopped_by setup (active_of listed) (asked_plan setup listed (active_of listed) s) one.after a b why run);
      }

  pub looked : (Holds : Standing → Type 0) (setup : DutySetup) (s : Standing) (a b : House K) (slot : ℕ) (active slice : List PubKey) (ds es : List Duty) (result : Result (Unit {0}) DutyEnd) → slot ≡ s.slot → slice ≡ active → es ≡ ds → IsDue s.answers slot slice ds
      → Turns leads start Holds (due_plan setup (with_active active s) es) a b result → Turns leads start Holds (ready_plan setup active (Some s)) a b result
  looked Holds setup s a b slot active slice ds es result at same all due t =
      let due_at = subst (λ n. IsDue s.answers n slice ds) at due in
      let due_of = subst (λ (l : List PubKey). IsDue s.answers s.slot l ds) same due_at in
      record {
        after = t.after;
        held = t.held;
        runs = turn_looks leads start a b s.answers s.slot active ds (due_plan setup (with_active active s)) (next_value t.after result) due_of
            (subst (λ (l : List Duty). Carries Fits (Does leads start) (due_plan setup (with_active active s) l) a b (next_value t.after result)) all t.runs);
      }

  -- ---- what is due

  -- one plan is another
  pub turns_as : (Holds : Standing → Type 0) (p q : NextPlan) (a b : House K) (result : Result (Unit {0}) DutyEnd) → p ≡ q → Turns leads start Holds q a b result → Turns leads start Holds p a b result
  turns_as Holds p q a b result is t = record {
    after = t.after;
    held = t.held;
    runs = subst (λ (x : NextPlan). Carries Fits (Does leads start) x a b (next_value t.after result)) (sym is) t.runs;
  }

  -- these tasks were done, and by their ends it goes on; or memory ran out in them
  pub tasks_done : (Holds : Standing → Type 0) (work : SlotWork) (place : ℕ) (tasks : List Task) (next : List Ended → NextPlan) (d : K) (ls ks : List (Seat K)) (ns : List Seen) (o : SinkSeen) (b : House K) (ends : List Ended) (result : Result (Unit {0}) DutyEnd)
      → WorksDone leads work place tasks ls ks (Some ends) → Turns leads start Holds (next ends) (house d ks ns o) b result → Turns leads start Holds (works work place tasks next) (house d ls ns o) b result
  tasks_done Holds work place tasks next d ls ks ns o b ends result done rest = record {
    after = rest.after;
    held = rest.held;
    runs = turn_works leads start d ls ks ns o b work place tasks ends next (next_value rest.after result) done rest.runs;
  }

  pub tasks_short : (Holds : Standing → Type 0) (s : Standing) (work : SlotWork) (place : ℕ) (tasks : List Task) (next : List Ended → NextPlan) (d : K) (ls ks : List (Seat K)) (ns : List Seen) (o : SinkSeen)
      → WorksDone leads work place tasks ls ks None → Turns leads start Holds (works work place tasks next) (house d ls ns o) (house d ks ns o) (Err end.OutOfMemory)
  tasks_short Holds s work place tasks next d ls ks ns o done = record {
    after = s;
    held = tt;
    runs = turn_works_cut leads start d ls ks ns o work place tasks next done;
  }

  -- a moment was waited for
  pub looked_at : (Holds : Standing → Type 0) (begins : ℕ → ℕ → ℕ) (genesis : ℕ) (next : ℕ → NextPlan) (a b : House K) (moment slot held reached : ℕ) (result : Result (Unit {0}) DutyEnd) → moment ≡ begins genesis slot → slot ≡ held → IsWaited start moment reached
      → Turns leads start Holds (next reached) a b result → Turns leads start Holds (waits (begins genesis held) next) a b result
  looked_at Holds begins genesis next a b moment slot held reached result is at timed t =
      let same : moment ≡ begins genesis held = is ∙ ap (λ n. begins genesis n) at in
      record {
        after = t.after;
        held = t.held;
        runs = turn_waits leads start a b (begins genesis held) reached next (next_value t.after result) (subst (λ n. IsWaited start n reached) same timed) t.runs;
      }

  pub blocks_done : (Holds : Standing → Type 0) (setup : DutySetup) (s : Standing) (d : K) (ls ks : List (Seat K)) (ns : List Seen) (o : SinkSeen) (b : House K) (ds blocks : List Duty) (ends : List Ended) (moment slot reached : ℕ) (result : Result (Unit {0}) DutyEnd)
      → blocks ≡ blocks_in ds → WorksDone leads (work_of setup s) 0 (fresh blocks) ls ks (Some ends) → moment ≡ votes_start setup.genesis_time slot → slot ≡ s.slot → IsWaited start moment reached
      → Turns leads start Holds (votes_plan setup s ds ends reached) (house d ks ns o) b result → Turns leads start Holds (due_plan setup s ds) (house d ls ns o) b result
  blocks_done Holds setup s d ls ks ns o b ds blocks ends moment slot reached result of work is at timed rest =
      tasks_done Holds (work_of setup s) 0 (fresh (blocks_in ds)) (λ proposed. waits (votes_start setup.genesis_time s.slot) (votes_plan setup s ds proposed)) d ls ks ns o b ends result
      (subst (λ (l : List Duty). WorksDone leads (work_of setup s) 0 (fresh l) ls ks (Some ends)) of work)
      (looked_at Holds votes_start setup.genesis_time (votes_plan setup s ds ends) (house d ks ns o) b moment slot s.slot reached result is at timed rest)

  pub blocks_short : (Holds : Standing → Type 0) (setup : DutySetup) (s : Standing) (d : K) (ls ks : List (Seat K)) (ns : List Seen) (o : SinkSeen) (ds blocks : List Duty)
      → blocks ≡ blocks_in ds → WorksDone leads (work_of setup s) 0 (fresh blocks) ls ks None → Turns leads start Holds (due_plan setup s ds) (house d ls ns o) (house d ks ns o) (Err end.OutOfMemory)
  blocks_short Holds setup s d ls ks ns o ds blocks of work =
      tasks_short Holds s (work_of setup s) 0 (fresh (blocks_in ds)) (λ proposed. waits (votes_start setup.genesis_time s.slot) (votes_plan setup s ds proposed)) d ls ks ns o
      (subst (λ (l : List Duty). WorksDone leads (work_of setup s) 0 (fresh l) ls ks None) of work)

  module _ (Holds : Standing → Type 0) (setup : DutySetup) (s : Standing) (a m : House K) (ds blocks votes : List Duty) (ends : List Ended) (first : blocks ≡ blocks_in ds) (of : votes ≡ votes_in ds) where
    abbrev pub Cast : List Ended → NextPlan
    Cast cast = again_plan setup s (blocks_in ds ++ votes_in ds) (ends ++ cast)

    casts_are : casts (work_of setup s) (length blocks) votes Cast ≡ casts (work_of setup s) (length (blocks_in ds)) (votes_in ds) Cast
    casts_are = ap (λ (l : List Duty). casts (work_of setup s) (length l) votes Cast) first ∙ ap (λ (l : List Duty). casts (work_of setup s) (length (blocks_in ds)) l Cast) of

    pub votes_short : Carries Fits (Does leads start) (casts (work_of setup s) (length blocks) votes Cast) a m None
        → Turns leads start Holds (casts (work_of setup s) (length (blocks_in ds)) (votes_in ds) (λ cast. again_plan setup s (blocks_in ds ++ votes_in ds) (ends ++ cast))) a m (Err end.OutOfMemory)
    votes_short run = record { after = s; held = tt; runs = subst (λ (p : NextPlan). Carries Fits (Does leads start) p a m None) casts_are run }

    pub votes_done : (b : House K) (cast : List Ended) (result : Result (Unit {0}) DutyEnd) → Comes Fits (Does leads start) (casts (work_of setup s) (length blocks) votes Cast) (Cast cast) a m
        → Turns leads start Holds (again_plan setup s (blocks ++ votes) (ends ++ cast)) m b result
        → Turns leads start Holds (casts (work_of setup s) (length (blocks_in ds)) (votes_in ds) (λ cast. again_plan setup s (blocks_in ds ++ votes_in ds) (ends ++ cast))) a b result
    votes_done b cast result come rest =
        let all : blocks ++ votes ≡ blocks_in ds ++ votes_in ds = ap (λ (l : List Duty). l ++ votes) first ∙ ap (λ (l : List Duty). blocks_in ds ++ l) of in
        let meant = subst (λ (l : List Duty). Turns leads start Holds (again_plan setup s l (ends ++ cast)) m b result) all rest in
        let whole = casts (work_of setup s) (length (blocks_in ds)) (votes_in ds) Cast in
        record {
          after = meant.after;
          held = meant.held;
          runs = comes_run Fits (Does leads start) a m b whole (Cast cast) (next_value meant.after result) (subst (λ (p : NextPlan). Comes Fits (Does leads start) p (Cast cast) a m) casts_are come) meant.runs;
        }

  -- the duties and their ends are those that were meant
  pub ended_as : (Holds : Standing → Type 0) (setup : DutySetup) (s : Standing) (a b : House K) (ds es : List Duty) (ends fs : List Ended) (result : Result (Unit {0}) DutyEnd) → ds ≡ es → ends ≡ fs
      → Turns leads start Holds (again_plan setup s ds ends) a b result → Turns leads start Holds (again_plan setup s es fs) a b result
  ended_as Holds setup s a b ds es ends fs result of by t =
      subst (λ (l : List Ended). Turns leads start Holds (again_plan setup s es l) a b result) by (subst (λ (l : List Duty). Turns leads start Holds (again_plan setup s l ends) a b result) of t)

  -- and what was written of them
  pub results_as : (Holds : Standing → Type 0) (setup : DutySetup) (s : Standing) (a b : House K) (ds : List Duty) (ends : List Ended) (rs qs : List DutyResult) (result : Result (Unit {0}) DutyEnd) → rs ≡ qs
      → Turns leads start Holds (told_plan setup s ds ends rs) a b result → Turns leads start Holds (told_plan setup s ds ends qs) a b result
  results_as Holds setup s a b ds ends rs qs result of t = subst (λ (l : List DutyResult). Turns leads start Holds (told_plan setup s ds ends l) a b result) of t

  pub works_done : (setup : DutySetup) (held : Held) (s : Standing) (ls ks : List (Seat K)) (domains : Domains) (moment place : ℕ) (tasks : List Task) (v : Option (List Ended)) → HoldsPlaced held s → domains ≡ record { fork = held.fork; genesis = setup.genesis } → moment ≡ epoch_of held.slot
      → WorksDone leads (slot_work setup domains held.slot moment) place tasks ls ks v → WorksDone leads (work_of setup s) place tasks ls ks v
  works_done setup held s ls ks domains moment place tasks v h by epoch work =
      let P : SlotWork → Type 0 = λ w. WorksDone leads w place tasks ls ks v in
      let same : ◌≡◌ {A = Domains} (record { fork = held.fork; genesis = setup.genesis }) (record { fork = s.fork; genesis = setup.genesis }) = rw h.is.fork refl in
      let one : P (slot_work setup (record { fork = s.fork; genesis = setup.genesis }) held.slot moment) = subst (λ (x : Domains). P (slot_work setup x held.slot moment)) (by ∙ same) work in
      let two : P (slot_work setup (record { fork = s.fork; genesis = setup.genesis }) held.slot (epoch_of held.slot)) = subst (λ n. P (slot_work setup (record { fork = s.fork; genesis = setup.genesis }) held.slot n)) epoch one in
      subst (λ n. P (slot_work setup (record { fork = s.fork; genesis = setup.genesis }) n (epoch_of n))) h.is.slot two

  -- ---- duties done for the first time

  abbrev no_steps : List (Seat K) → List (List DutyStep)
  no_steps [] = []
  no_steps (l ∷ ls) = [] ∷ no_steps ls

  no_paths : (ls : List (Seat K)) → EachDoes leads ls (no_steps ls) ls
  no_paths [] = tt
  no_paths (l ∷ ls) = (refl, no_paths ls)

  no_shares : (work : SlotWork) (place : ℕ) (tasks : List Task) (lanes lane : ℕ) (ls : List (Seat K)) → DidShares work place tasks None lanes lane (no_steps ls)
  no_shares work place tasks lanes lane [] = tt
  no_shares work place tasks lanes lane (l ∷ ls) = ((None, cut_now duties.Fits (slot_plan work (dealt lanes lane place tasks))), no_shares work place tasks lanes (lane + 1) ls)

  as_many : (ls : List (Seat K)) → length (no_steps ls) ≡ length ls
  as_many [] = refl
  as_many (l ∷ ls) = ap suc (as_many ls)

  -- nothing was done yet
  none_done : (work : SlotWork) (place : ℕ) (tasks : List Task) (ls : List (Seat K)) → 0 < length ls → WorksDone leads work place tasks ls ls None
  none_done work place tasks ls some = record {
    steps = no_steps ls;
    each = no_paths ls;
    shares = no_shares work place tasks (length (no_steps ls)) 0 ls;
    has = tt;
    some = (let counted = as_many ls in omega arith);
  }

  pub fresh_short : {L : Type 0} (work : SlotWork) (place : ℕ) (ds : List Duty) (ls : List L) (seen : L → Seat K) → 0 < length ls → WorksDone leads work place (fresh ds) (map seen ls) (map seen ls) None
  fresh_short work place ds ls seen some = none_done work place (fresh ds) (map seen ls) (let mapped = length-map ls seen in omega arith)

  pub fresh_done : (work : SlotWork) (place : ℕ) (tasks fs : List Task) (ls ks : List (Seat K)) (v : Option (List Ended)) → tasks ≡ fs → WorksDone leads work place tasks ls ks v → WorksDone leads work place fs ls ks v
  fresh_done work place tasks fs ls ks v is work_done = subst (λ (l : List Task). WorksDone leads work place l ls ks v) is work_done

-- lines are written of results by whatever name
pub reports_as : {K : Type 0} (leads : Leads K) (start : Option ℕ) (setup : DutySetup) (slot : ℕ) (choices : List Task) (s : Standing) (found results : List (Option DutyResult)) (before after : House K) (next : Option Next) → found ≡ results
    → Carries Fits (Does leads start) (report_plan setup slot choices found s) before after next → Carries Fits (Does leads start) (report_plan setup slot choices results s) before after next
reports_as {K} leads start setup slot choices s found results before after next e c = subst (λ (l : List (Option DutyResult)). Carries Fits (Does leads start) (report_plan setup slot choices l s) before after next) e c
