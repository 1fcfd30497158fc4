-- That what was done with a desk that was opened goes on from where a stop left its client.
use Rattle.std.proofs.Common.{ℕ, Bool, List, [], ◌∷◌, ◌++◌, Contains, refl, sym, ap, subst}
use Rattle.edge_kit.specs.declared.bytes.PubKey.{PubKey}
use Rattle.edge_kit.specs.declared.bytes.Root.{Root}
use Rattle.edge_kit.specs.declared.disk.Disks.{Disks}
use Rattle.slash_defs.specs.declared.message.Message.{Message}
use Rattle.desk_machine.specs.States.{State, no_state}
use Rattle.desk_machine.specs.Machine.{IsUp}
use Rattle.desk_machine.specs.declared.call.DeskCall.{DeskCall}
use Rattle.desk_machine.specs.declared.call.DeskReply.{DeskReply}
use Rattle.desk_machine.specs.declared.event.DeskEvent.{DeskEvent}
use Rattle.check_sign.specs.Contents.{Seen, disks_in}
use Rattle.check_sign.specs.Crashes.{Files, LeftAt, Moments, NotAfter, now_of}
use Rattle.check_sign.specs.Paths.{Path}
use Rattle.check_sign.specs.Standing.{DeskStands}
use Rattle.key_custody.specs.Once.{IsWhole}
use Rattle.world_law.specs.Worlds.{Event}
use Rattle.world_law.specs.Worlds.Event.{Crash}
use Rattle.world_law.specs.Clients.{RunsFrom, state_over, messages_in}
use Rattle.journal_commands.specs.Openings.{HadDeskAt}
use Rattle.serve_world.specs.Running.{Behind, restarted}
use Rattle.serve_world.specs.SessionRunning.{LeftBy}
use Rattle.serve_world.specs.Starting.{Show}
use Rattle.serve_world.specs.Stopping.{StopsIn, StopsBehind}
use Rattle.serve_world.specs.Weaving.{Act, done_in}
use Rattle.serve_world.proofs.HeldLemmas.{Goes}
use Rattle.serve_world.proofs.ListLemmas.{runs_both, over_both}
use Rattle.serve_world.proofs.SessionRunLemmas.{further}
use Rattle.serve_world.proofs.SessionStarts.{starts_again, starts_keep}
use Rattle.serve_world.proofs.SessionStops.{NoStop, past_stays}
use Rattle.serve_world.proofs.StopLemmas.{acts_stop}
use Rattle.serve_world.proofs.WholeLemmas.{whole_over}

-- the state that the client's start leaves
abbrev pub state_begun : (genesis : Root) (client : ℕ) (past : List Event) (files : Files) → StopsIn genesis client (no_state genesis) past files → ℕ → Bool → State
state_begun genesis client past files stop epoch watch = state_over (no_state genesis) (restarted genesis client past files stop epoch watch)

module _ (genesis : Root) (watch : Bool) (epoch : ℕ) (client : ℕ) (past : List Event) (files : Files) (stop : StopsIn genesis client (no_state genesis) past files) where
  pub begun_whole : IsWhole (state_begun genesis client past files stop epoch watch)
  begun_whole = whole_over genesis (restarted genesis client past files stop epoch watch) (stop.runs epoch watch)

  pub begun_up : IsUp (state_begun genesis client past files stop epoch watch)
  begun_up = ap (λ (s : State). s.torn) (over_both (no_state genesis) stop.front (Crash client stop.within stop.done epoch watch ∷ []))

module _ {D : Type 0} (shows : D → List ℕ → Type 0) (moment : D → ℕ) (leaves : D → ℕ → List ℕ → Type 0) (faults : D → ℕ) (genesis : Root) (watch : Bool) (epoch : ℕ) (first last : Disks D) (noted : List DeskEvent) (Ends : Seen D → Seen D → Type 0)
    (had : HadDeskAt shows moment leaves faults genesis watch epoch first last noted Ends) (client : ℕ) (past : List Event) (files : Files) (visible : Show shows first files)
    (stop : StopsIn genesis client (no_state genesis) past files) (left : LeftBy leaves genesis client past first (now_of moment first)) where
  pub begun_stands : DeskStands had.opened.contents (state_begun genesis client past files stop epoch watch)
  begun_stands = starts_again shows moment leaves faults first genesis watch epoch had.opened had.opening client (no_state genesis) past files refl visible stop

  -- acts from its start on
  pub goes_behind : (acts : List (Act Event)) (posted : List (PubKey × Message)) → Goes moment leaves faults client had.opened had.ended (state_begun genesis client past files stop epoch watch) acts
      → ((x : PubKey × Message) → Contains posted x → Contains (messages_in (done_in acts)) x)
      → Behind moment leaves faults genesis client (restarted genesis client past files stop epoch watch) acts posted had.opened had.ended last
  goes_behind acts posted go posts =
      let front : List Event = restarted genesis client past files stop epoch watch in
      let state : State = state_begun genesis client past files stop epoch watch in
      let runs : RunsFrom (no_state genesis) front = stop.runs epoch watch in
      let E : State → Type 0 = λ z. DeskStands had.ended.contents z in
      record {
        at_client = go.at_client;
        runs = runs_both (no_state genesis) front (done_in acts) runs go.runs;
        posts = posts;
        stands = subst E (sym (over_both (no_state genesis) front (done_in acts))) go.stands;
        stops = λ over rest here both path_over path_rest k c during l.
            let L : Disks D → Type 0 = λ d. LeftAt leaves d k c in
            let N : List (Act Event) → Type 0 = λ m. NoStop (done_in m) in
            let R : List (Act Event) → Type 0 = λ m. RunsFrom state (done_in m) in
            let stopped = acts_stop moment leaves faults client had.opened here had.ended over rest (subst N both go.calm) state (subst R both go.runs) begun_stands had.opening.left path_over path_rest k c during (subst L had.desk.disks l) in
            let G : Root → Type 0 = λ g. StopsBehind g client state (done_in over) (done_in (over ++ rest)) c in
            let M : List (Act Event) → Type 0 = λ m. StopsBehind genesis client state (done_in over) (done_in m) c in
            further genesis client (no_state genesis) front (done_in over) (done_in acts) c runs (subst M (sym both) (subst G had.opening.opened.genesis_is stopped));
      }

  -- a crash up to the opening's end, whatever was called after it
  pub opening_stays : (made : List (DeskCall × DeskReply)) → Path moment leaves faults had.opened made had.ended → (k : Moments) → NotAfter (now_of moment first) k → NotAfter k (now_of moment (disks_in had.opened)) → LeftBy leaves genesis client past last k
  opening_stays made path k low high c l =
      let L : Disks D → Type 0 = λ d. LeftAt leaves d k c in
      let here = past_stays moment leaves faults client had.opened had.ended made path (state_begun genesis client past files stop epoch watch) begun_stands k c high (subst L had.desk.disks l) in
      starts_keep shows moment leaves first (disks_in had.opened) genesis had.opening.moments client (no_state genesis) past left files visible stop k c low high here
