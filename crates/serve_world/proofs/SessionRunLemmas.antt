-- That a run of the program goes on from where a stop left its client.
use Rattle.std.proofs.Common.{◌≡◌, ◌⊎◌, inl, inr, ⊎_elim, ℕ, Bool, false, List, [], ◌∷◌, ◌++◌, Option, refl, sym, ◌∙◌, ap, subst, append_assoc, arith}
use Rattle.edge_kit.specs.declared.bytes.Root.{Root}
use Rattle.edge_kit.specs.declared.disk.Disks.{Disks}
use Rattle.phase0_types.specs.declared.fork.Fork.{Fork}
use Rattle.desk_machine.specs.States.{State, no_state}
use Rattle.desk_machine.specs.declared.call.DeskCall.{DeskCall}
use Rattle.desk_machine.specs.declared.call.DeskCall.TheVariants as call
use Rattle.desk_machine.specs.declared.call.DeskReply.{DeskReply}
use Rattle.desk_machine.specs.declared.event.DeskEvent.{DeskEvent}
use Rattle.check_sign.specs.Contents.{Seen, disks_in}
use Rattle.check_sign.specs.Crashes.{Files, LeftAt, Moments, now_of}
use Rattle.check_sign.specs.Opening.{Opening}
use Rattle.check_sign.specs.Paths.{Path}
use Rattle.check_sign.specs.Standing.{DeskStands}
use Rattle.world_law.specs.Worlds.{Event}
use Rattle.world_law.specs.Clients.{RunsFrom, state_over}
use Rattle.program_end.specs.declared.status.Status.{Status}
use Rattle.journal_commands.specs.Views.{View}
use Rattle.journal_commands.specs.Openings.{DeskEnded, HadDesk}
use Rattle.journal_commands.specs.Merging.{DeskMergeEnds}
use Rattle.command_line.specs.Plans.{session, serve, proxy, merge, show, rehearse, shown, nothing}
use Rattle.session_format.specs.declared.chain.SessionChain.{SessionChain}
use Rattle.session_run.specs.Ends.{Ends}
use Rattle.validator_cli.specs.Endings.{Outside, RunEnds, bench_at, session_chain, wires_of}
use Rattle.serve_world.specs.Events.{calls_of, session_events, turn_events}
use Rattle.serve_world.specs.Starting.{Show}
use Rattle.serve_world.specs.Stopping.{StopsIn, StopsBehind}
use Rattle.serve_world.specs.SessionRunning.{Called, CommandGoesOn, Idle, LeftBy, RunGoesOn, Served, StaysSo, started}
use Rattle.serve_world.proofs.ListLemmas.{runs_both, over_both}
use Rattle.serve_world.proofs.SessionEvents.{calls_run, session_runs}
use Rattle.serve_world.proofs.SessionStops.{calls_stop, later, past_stays, session_stops}
use Rattle.serve_world.proofs.SessionStarts.{starts_again, starts_keep}
use Rattle.serve_world.proofs.WholeLemmas.{whole_over}

-- a stop after more events, where these come first
pub further : (genesis : Root) (client : ℕ) (state : State) (front first events : List Event) (c : Files) → RunsFrom state front → StopsBehind genesis client (state_over state front) first events c → StopsBehind genesis client state (front ++ first) (front ++ events) c
unfolding later
further genesis client state front first events c runs s = record {
  stop = later genesis client state front events c runs s.stop;
  more = s.more;
  front_is = ap (λ (l : List Event). front ++ l) s.front_is ∙ sym (append_assoc front first s.more);
}

-- nothing was done
pub idle : {D : Type 0} (moment : D → ℕ) (leaves : D → ℕ → List ℕ → Type 0) (genesis : Root) (disks_before disks_now : Disks D) (client : ℕ) (past : List Event) → disks_now ≡ disks_before → LeftBy leaves genesis client past disks_before (now_of moment disks_before)
    → StaysSo moment leaves genesis client past disks_before disks_now
idle {D} moment leaves genesis disks_before disks_now client past same left =
    let S : Disks D → Type 0 = λ d. StaysSo moment leaves genesis client past disks_before d in
    let here : StaysSo moment leaves genesis client past disks_before disks_before = λ k low high c l.
    let at : k.0 ≡ moment disks_before.first = omega (arith, low.0, high.0) in
    let at_too : k.1 ≡ moment disks_before.second = omega (arith, low.1, high.1) in
    let A : ℕ → Type 0 = λ n. leaves disks_before.first n c.0 in
    let B : ℕ → Type 0 = λ n. leaves disks_before.second n c.1 in
    left c (subst A at l.0, subst B at_too l.1) in
    subst S (sym same) here

module _ {D : Type 0} (shows : D → List ℕ → Type 0) (moment : D → ℕ) (leaves : D → ℕ → List ℕ → Type 0) (faults : D → ℕ) (genesis : Root) (fork : Fork) (altair : Option ℕ) (watch : Bool) (disks_before disks_now : Disks D) (before now : Outside)
    (client : ℕ) (past : List Event) (files : Files) where
  served : (noted : List DeskEvent) (ended : Status)
      → HadDesk shows moment leaves faults genesis watch disks_before disks_now noted (λ desk_before desk_now. Ends moment leaves faults (session_chain genesis fork altair) (bench_at desk_before before) (bench_at desk_now now) (wires_of before.view) (wires_of now.view) ended)
      → Show shows disks_before files → (stop : StopsIn genesis client (no_state genesis) past files) → LeftBy leaves genesis client past disks_before (now_of moment disks_before)
      → Served moment leaves faults genesis fork altair watch before now noted ended client past files stop disks_before disks_now
  served noted ended had visible stop left =
      let chain : SessionChain = session_chain genesis fork altair in
      let first = bench_at had.opened before in
      let last = bench_at had.ended now in
      let front = started genesis client past files stop watch in
      let state = state_over (no_state genesis) front in
      let stands : DeskStands had.opened.contents state =
      starts_again shows moment leaves faults disks_before genesis watch 0 had.opened had.opening client (no_state genesis) past files refl visible stop in
      let events = session_events moment leaves faults chain first last (wires_of before.view) (wires_of now.view) ended had.ends client in
      let are = session_runs moment leaves faults chain first last (wires_of before.view) (wires_of now.view) ended had.ends client state stands in
      let runs : RunsFrom (no_state genesis) front = stop.runs 0 watch in
      let images = had.ends.images had.opening.left in
      let E : State → Type 0 = λ s. DeskStands had.ended.contents s in
      let L : Moments → Files → Disks D → Type 0 = λ k c d. LeftAt leaves d k c in
      record {
        opened = had.opened;
        closed = had.ended;
        noted_is = had.desk.noted;
        last_is = had.desk.disks;
        ends = had.ends;
        state = state;
        state_is = refl;
        whole = whole_over genesis front runs;
        events = events;
        events_are = refl;
        at_client = are.at_client;
        runs = runs_both (no_state genesis) front events runs are.runs;
        sends = are.sends;
        stands = subst E (sym (over_both (no_state genesis) front events)) are.stands;
        opening = λ k low high c l.
            let end = subst (L k c) had.desk.disks l in
            let stays = images.follows state stands in
            starts_keep shows moment leaves disks_before (disks_in had.opened) genesis had.opening.moments client (no_state genesis) past left files visible stop k c low high
            (stays.first_stays k.0 c.0 high.0 end.0, stays.second_stays k.1 c.1 high.1 end.1);
        stops = λ over rest here both run_over run_rest path k c during l.
            let end = subst (L k c) had.desk.disks l in
            let s = session_stops moment leaves faults chain first last (wires_of before.view) (wires_of now.view) ended had.ends over rest here both run_over run_rest client state stands had.opening.left path k c during end in
            let G : Root → Type 0 = λ g. StopsBehind g client state (turn_events client over) events c in
            further genesis client (no_state genesis) front (turn_events client over) events c runs (subst G had.opening.opened.genesis_is s);
      }

module _ {D : Type 0} (shows : D → List ℕ → Type 0) (moment : D → ℕ) (leaves : D → ℕ → List ℕ → Type 0) (faults : D → ℕ) (genesis : Root) (disks_before disks_now : Disks D) (client : ℕ) (past : List Event) (files : Files) where
  -- a desk was opened and called
  called : (noted : List DeskEvent) (opened ended : Seen D) (made : List (DeskCall × DeskReply)) → Opening shows moment leaves faults disks_before genesis false 0 opened → Path moment leaves faults opened made ended
      → DeskEnded moment leaves faults genesis disks_before disks_now ended noted → Show shows disks_before files → (stop : StopsIn genesis client (no_state genesis) past files) → LeftBy leaves genesis client past disks_before (now_of moment disks_before)
      → Called moment leaves faults genesis noted client past files stop disks_before disks_now
  called noted opened ended made opening path desk visible stop left =
      let front = started genesis client past files stop false in
      let state = state_over (no_state genesis) front in
      let stands : DeskStands opened.contents state =
      starts_again shows moment leaves faults disks_before genesis false 0 opened opening client (no_state genesis) past files refl visible stop in
      let are = calls_run moment leaves faults opened ended made path client state stands in
      let events = calls_of client made in
      let runs : RunsFrom (no_state genesis) front = stop.runs 0 false in
      let E : State → Type 0 = λ s. DeskStands ended.contents s in
      let L : Moments → Files → Disks D → Type 0 = λ k c d. LeftAt leaves d k c in
      record {
        opened = opened;
        closed = ended;
        noted_is = desk.noted;
        last_is = desk.disks;
        made = made;
        path = path;
        at_client = are.at_client;
        runs = runs_both (no_state genesis) front events runs are.runs;
        sends = are.sends;
        stands = subst E (sym (over_both (no_state genesis) front events)) are.stands;
        opening = λ k low high c l.
            let here = past_stays moment leaves faults client opened ended made path state stands k c high (subst (L k c) desk.disks l) in
            starts_keep shows moment leaves disks_before (disks_in opened) genesis opening.moments client (no_state genesis) past left files visible stop k c low high here;
        stops = λ over rest here both path_over path_rest k c during l.
            let end = subst (L k c) desk.disks l in
            let s = calls_stop moment leaves faults opened here ended over rest path_over path_rest client state stands opening.left k c during end in
            let G : Root → Type 0 = λ g. StopsBehind g client state (calls_of client over) (calls_of client (over ++ rest)) c in
            let M : List (DeskCall × DeskReply) → Type 0 = λ m. StopsBehind genesis client state (calls_of client over) (calls_of client m) c in
            further genesis client (no_state genesis) front (calls_of client over) events c runs (subst M (sym both) (subst G opening.opened.genesis_is s));
      }

-- the calls of a merge: none, or the one
merge_path : {D : Type 0} (moment : D → ℕ) (leaves : D → ℕ → List ℕ → Type 0) (faults : D → ℕ) (before now : View) (opened ended : Seen D) (result : Status) → DeskMergeEnds moment leaves faults before now opened ended result
    → (made : List (DeskCall × DeskReply)) × Path moment leaves faults opened made ended
merge_path moment leaves faults before now opened ended result (inl unread) = ([], unread.uncalled)
merge_path moment leaves faults before now opened ended result (inr (inl none)) = ([], none.uncalled)
merge_path moment leaves faults before now opened ended result (inr (inr one)) = ((call.Merge one.file, one.reply_is) ∷ [], (ended, one.called, refl))

module _ {D : Type 0} (shows : D → List ℕ → Type 0) (moment : D → ℕ) (leaves : D → ℕ → List ℕ → Type 0) (faults : D → ℕ) (genesis : Root) (journal : List ℕ) (disks_before disks_now : Disks D) (before now : Outside) (noted : List DeskEvent) (ended : Status)
    (client : ℕ) (past : List Event) (files : Files) (visible : Show shows disks_before files) (stop : StopsIn genesis client (no_state genesis) past files) (left : LeftBy leaves genesis client past disks_before (now_of moment disks_before)) where
  abbrev GoesOn : Type 0
  GoesOn = Idle moment leaves genesis client past before now noted disks_before disks_now ⊎ Called moment leaves faults genesis noted client past files stop disks_before disks_now

  merged : RunEnds shows moment leaves faults (merge genesis journal) disks_before disks_now before now noted ended → GoesOn
  merged (inr none) = inl (record { stays = idle moment leaves genesis disks_before disks_now client past none.1.same left; untouched = none.1.untouched; none = none.1.none })
  merged (inl (inl refused, unasked)) = inl (record { stays = λ k low high c l. starts_keep shows moment leaves disks_before disks_now genesis refused.0.refused.moments client (no_state genesis) past left files visible stop k c low high l; untouched = record { unread = refused.1; unasked = unasked }; none = refused.0.unnoted })
  merged (inl (inr had, unasked)) =
      let path = merge_path moment leaves faults before.view now.view had.opened had.ended ended had.ends.0 in
      inr (called shows moment leaves faults genesis disks_before disks_now client past files noted had.opened had.ended path.0 had.opening path.1 had.desk visible stop left)

  showed : RunEnds shows moment leaves faults (show genesis journal) disks_before disks_now before now noted ended → GoesOn
  showed (inr none) = inl (record { stays = idle moment leaves genesis disks_before disks_now client past none.1.same left; untouched = none.1.untouched; none = none.1.none })
  showed (inl (inl refused, untouched)) = inl (record { stays = λ k low high c l. starts_keep shows moment leaves disks_before disks_now genesis refused.refused.moments client (no_state genesis) past left files visible stop k c low high l; untouched = untouched; none = refused.unnoted })
  showed (inl (inr had, untouched)) =
      inr (called shows moment leaves faults genesis disks_before disks_now client past files noted had.opened had.ended ((call.Keys, had.ends.0.reply_is) ∷ []) had.opening (had.ended, had.ends.0.called, refl) had.desk visible stop left)

pub command_goes_on : {D : Type 0} (shows : D → List ℕ → Type 0) (moment : D → ℕ) (leaves : D → ℕ → List ℕ → Type 0) (faults : D → ℕ) → CommandGoesOn shows moment leaves faults
command_goes_on shows moment leaves faults genesis (merge root journal) is = λ disks_before disks_now before now noted ended ending client past files visible stop left.
    let R : Root → Type 0 = λ g. RunEnds shows moment leaves faults (merge g journal) disks_before disks_now before now noted ended in
    merged shows moment leaves faults genesis journal disks_before disks_now before now noted ended client past files visible stop left (subst R is ending)
command_goes_on shows moment leaves faults genesis (show root journal) is = λ disks_before disks_now before now noted ended ending client past files visible stop left.
    let R : Root → Type 0 = λ g. RunEnds shows moment leaves faults (show g journal) disks_before disks_now before now noted ended in
    showed shows moment leaves faults genesis journal disks_before disks_now before now noted ended client past files visible stop left (subst R is ending)
command_goes_on shows moment leaves faults genesis (session root journal fork altair signer_at watch) is = absurd is
command_goes_on shows moment leaves faults genesis (serve options) is = absurd is
command_goes_on shows moment leaves faults genesis (proxy options) is = absurd is
command_goes_on shows moment leaves faults genesis (rehearse number clients steps) is = absurd is
command_goes_on shows moment leaves faults genesis shown is = absurd is
command_goes_on shows moment leaves faults genesis nothing is = absurd is

pub run_goes_on : {D : Type 0} (shows : D → List ℕ → Type 0) (moment : D → ℕ) (leaves : D → ℕ → List ℕ → Type 0) (faults : D → ℕ) → RunGoesOn shows moment leaves faults
run_goes_on shows moment leaves faults genesis journal fork altair signer_at watch disks_before disks_now before now noted ended ending client past files visible stop left =
    ⊎_elim
    (λ served_or_not. ⊎_elim
    (λ refused. inl (record { stays = λ k low high c l. starts_keep shows moment leaves disks_before disks_now genesis refused.0.refused.moments client (no_state genesis) past left files visible stop k c low high l; untouched = refused.1; none = refused.0.unnoted }))
    (λ had. inr (served shows moment leaves faults genesis fork altair watch disks_before disks_now before now client past files noted ended had visible stop left))
    served_or_not)
    (λ none. inl (record { stays = idle moment leaves genesis disks_before disks_now client past none.1.same left; untouched = none.1.untouched; none = none.1.none }))
    ending
