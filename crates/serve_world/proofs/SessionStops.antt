-- That a crash at any moment of a session is a stop after some of its events, or within the next.
use Rattle.std.proofs.Common.{◌≡◌, ◌⊎◌, ⊎_elim, ℕ, List, [], ◌∷◌, ◌++◌, Option, Some, None, refl, sym, ◌∙◌, ap, subst, append_assoc, arith}
use Rattle.std.proofs.lemmas.Grind.{flat_map-append}
use Rattle.edge_kit.specs.declared.bytes.Root.{Root}
use Rattle.slash_defs.specs.declared.message.Message.{Message}
use Rattle.signer_link.specs.declared.reply.SignReply.TheVariants as signing
use Rattle.desk_machine.specs.States.{State}
use Rattle.desk_machine.specs.Machine.{after}
use Rattle.desk_machine.specs.declared.open_grant.OpenGrant.{OpenGrant}
use Rattle.desk_machine.specs.declared.call.DeskCall.{DeskCall}
use Rattle.desk_machine.specs.declared.call.DeskReply.{DeskReply}
use Rattle.check_sign.specs.Contents.{Seen, disks_in}
use Rattle.check_sign.specs.Crashes.{Files, LeftAt, Moments, NotAfter, now_of}
use Rattle.check_sign.specs.Calls.{LeavesDesk}
use Rattle.check_sign.specs.Paths.{IsDuring, Path}
use Rattle.check_sign.specs.Standing.{DeskStands, MayOpen, Opens}
use Rattle.client_calls.specs.Machines.{state_after}
use Rattle.client_calls.specs.Steps.{ClientCall, ClientReply, ClientStep, Calls, Closes, Signs, SignsPlain, Imports, Deletes, Replies, ClosedBy, Signed, Imported, Deleted, step_calls, desk_calls}
use Rattle.world_law.specs.Worlds.{Event, lasting_stopped}
use Rattle.world_law.specs.Worlds.Event.{Call, Send, Crash}
use Rattle.world_law.specs.Clients.{RunsFrom, state_over}
use Rattle.world_law.specs.Stops.{IsOfStop}
use Rattle.world_law.proofs.StopLemmas.{stops_between, stops_within}
use Rattle.session_run.specs.Turns.{Turn, made, moment_after, steps_in, steps_of}
use Rattle.session_run.proofs.PathLemmas.{path_machine}
use Rattle.session_run.proofs.RunLemmas.{planned_all, run_makes}
use Rattle.serve_world.specs.Events.{calls_of, send_of, step_events, steps_events, turn_events}
use Rattle.serve_world.specs.Stopping.{IsNextCall, StopsIn, StopsBehind, SessionStops, CallsStop}
use Rattle.serve_world.proofs.ListLemmas.{runs_both, over_both}
use Rattle.serve_world.proofs.SessionEvents.{turns_piece, calls_are, calls_run}

-- ---- stops

-- before the first of the events, or within it
here : (genesis : Root) (client : ℕ) (state : State) (events : List Event) (files : Files) (within : Option DeskCall) → IsNextCall within events → IsOfStop genesis state within files → StopsIn genesis client state events files
here genesis client state events files within next stop = record {
  front = [];
  rest = events;
  events_are = refl;
  within = within;
  is_next = next;
  done = stop.0;
  runs = λ now watch. (stop.1, tt);
  opens = stop.2;
}

between : (genesis : Root) (client : ℕ) (state : State) (events : List Event) (files : Files) → MayOpen genesis state files → StopsIn genesis client state events files
between genesis client state events files o = here genesis client state events files None tt (stops_between genesis state files o)

-- after the first events
unfoldable pub later : (genesis : Root) (client : ℕ) (state : State) (xs ys : List Event) (files : Files) → RunsFrom state xs → StopsIn genesis client (state_over state xs) ys files → StopsIn genesis client state (xs ++ ys) files
later genesis client state xs ys files runs s = record {
  front = xs ++ s.front;
  rest = s.rest;
  events_are = ap (λ (l : List Event). xs ++ l) s.events_are ∙ sym (append_assoc xs s.front s.rest);
  within = s.within;
  is_next = s.is_next;
  done = s.done;
  runs = λ now watch.
      let crash : List Event = Crash client s.within s.done now watch ∷ [] in
      let R : List Event → Type 0 = λ l. RunsFrom state l in
      subst R (sym (append_assoc xs s.front crash)) (runs_both state xs (s.front ++ crash) runs (s.runs now watch));
  opens = let O : State → Type 0 = λ z. Opens genesis files (lasting_stopped z s.within s.done) in subst O (sym (over_both state xs s.front)) s.opens;
}

-- ---- events without a stop

-- their calls
abbrev pub calls_in : List Event → List (DeskCall × DeskReply)
calls_in [] = []
calls_in (Call c x r ∷ es) = (x, r) ∷ calls_in es
calls_in (Send c grant m ∷ es) = calls_in es
calls_in (Crash c within done now watch ∷ es) = calls_in es

abbrev pub NoStop : List Event → Type 0
NoStop [] = Unit {0}
NoStop (Call c x r ∷ es) = NoStop es
NoStop (Send c grant m ∷ es) = NoStop es
NoStop (Crash c within done now watch ∷ es) = ⊥

calls_in_both : (xs ys : List Event) → calls_in (xs ++ ys) ≡ calls_in xs ++ calls_in ys
calls_in_both [] ys = refl
calls_in_both (Call c x r ∷ xs) ys = ap (λ (l : List (DeskCall × DeskReply)). (x, r) ∷ l) (calls_in_both xs ys)
calls_in_both (Send c grant m ∷ xs) ys = calls_in_both xs ys
calls_in_both (Crash c within done now watch ∷ xs) ys = calls_in_both xs ys

no_stop_both : (xs ys : List Event) → NoStop xs → NoStop ys → NoStop (xs ++ ys)
no_stop_both [] ys h k = k
no_stop_both (Call c x r ∷ xs) ys h k = no_stop_both xs ys h k
no_stop_both (Send c grant m ∷ xs) ys h k = no_stop_both xs ys h k
no_stop_both (Crash c within done now watch ∷ xs) ys h k = absurd h

calls_in_calls : (client : ℕ) (xs : List (DeskCall × DeskReply)) → calls_in (calls_of client xs) ≡ xs
calls_in_calls client [] = refl
calls_in_calls client (x ∷ xs) = ap (λ (l : List (DeskCall × DeskReply)). x ∷ l) (calls_in_calls client xs)

no_stop_calls : (client : ℕ) (xs : List (DeskCall × DeskReply)) → NoStop (calls_of client xs)
no_stop_calls client [] = tt
no_stop_calls client (x ∷ xs) = no_stop_calls client xs

calls_in_send : (client : ℕ) (grant : OpenGrant) (m : Option Message) → calls_in (send_of client grant m) ≡ []
calls_in_send client grant None = refl
calls_in_send client grant (Some m) = refl

no_stop_send : (client : ℕ) (grant : OpenGrant) (m : Option Message) → NoStop (send_of client grant m)
no_stop_send client grant None = tt
no_stop_send client grant (Some m) = tt

calls_in_step : (client : ℕ) (c : ClientCall) (y : ClientReply) → (calls_in (step_events client (c, y)) ≡ step_calls (c, y)) × NoStop (step_events client (c, y))
calls_in_step client (Calls c) (Replies r) = (refl, tt)
calls_in_step client (Calls c) (ClosedBy made r) = (refl, tt)
calls_in_step client (Calls c) (Signed r) = (refl, tt)
calls_in_step client (Calls c) (Imported r) = (refl, tt)
calls_in_step client (Calls c) (Deleted r) = (refl, tt)
calls_in_step client (Closes key) (Replies r) = (refl, tt)
calls_in_step client (Closes key) (ClosedBy made r) = (calls_in_calls client made, no_stop_calls client made)
calls_in_step client (Closes key) (Signed r) = (refl, tt)
calls_in_step client (Closes key) (Imported r) = (refl, tt)
calls_in_step client (Closes key) (Deleted r) = (refl, tt)
calls_in_step client (Signs grant q) (Replies r) = (refl, tt)
calls_in_step client (Signs grant q) (ClosedBy made r) = (refl, tt)
calls_in_step client (Signs grant q) (Signed (signing.Signed signature)) = (calls_in_send client grant grant.message, no_stop_send client grant grant.message)
calls_in_step client (Signs grant q) (Signed (signing.NoKey status)) = (refl, tt)
calls_in_step client (Signs grant q) (Signed (signing.Denied status)) = (refl, tt)
calls_in_step client (Signs grant q) (Signed signing.Fault) = (refl, tt)
calls_in_step client (Signs grant q) (Signed (signing.BadAnswer body)) = (refl, tt)
calls_in_step client (Signs grant q) (Signed signing.OutOfMemory) = (refl, tt)
calls_in_step client (Signs grant q) (Imported r) = (refl, tt)
calls_in_step client (Signs grant q) (Deleted r) = (refl, tt)
calls_in_step client (SignsPlain grant q) y = (refl, tt)
calls_in_step client (Imports q) y = (refl, tt)
calls_in_step client (Deletes key) y = (refl, tt)

calls_in_steps : (client : ℕ) (steps : List ClientStep) → (calls_in (steps_events client steps) ≡ desk_calls steps) × NoStop (steps_events client steps)
calls_in_steps client [] = (refl, tt)
calls_in_steps client (s ∷ steps) =
    let one = calls_in_step client s.0 s.1 in
    let rest = calls_in_steps client steps in (
      calls_in_both (step_events client s) (steps_events client steps) ∙ ap (λ (l : List (DeskCall × DeskReply)). l ++ calls_in (steps_events client steps)) one.0 ∙ ap (λ (l : List (DeskCall × DeskReply)). step_calls s ++ l) rest.0,
      no_stop_both (step_events client s) (steps_events client steps) one.1 rest.1,
    )

-- ---- calls, one after another

module _ {D : Type 0} (moment : D → ℕ) (leaves : D → ℕ → List ℕ → Type 0) (faults : D → ℕ) (client : ℕ) where
  -- what a crash before these calls might have left stays
  pub past_stays : (first last : Seen D) (made : List (DeskCall × DeskReply)) → Path moment leaves faults first made last → (state : State) → DeskStands first.contents state
      → (k : Moments) (files : Files) → NotAfter k (now_of moment (disks_in first)) → LeftAt leaves (disks_in last) k files → LeftAt leaves (disks_in first) k files
  past_stays first last [] path state stands k files low left = let P : Seen D → Type 0 = λ s. LeftAt leaves (disks_in s) k files in subst P path left
  past_stays first last (x ∷ made) path state stands k files low left =
      let run = path.1.moments state stands in
      let step = path.1.machine state stands in
      let rest = past_stays path.0 last made path.2 (after state x.0 x.1) step.1 k files (omega (arith, low.0, run.first_later), omega (arith, low.1, run.second_later)) left in
      (run.first_stays k.0 files.0 low.0 rest.0, run.second_stays k.1 files.1 low.1 rest.1)

  events_stop : (genesis : Root) (first last : Seen D) (es : List Event) → NoStop es → first.contents.genesis ≡ genesis → (path : Path moment leaves faults first (calls_in es) last) → (state : State) → RunsFrom state es → DeskStands first.contents state
      → LeavesDesk moment leaves (disks_in first) first.contents → (k : Moments) (files : Files) → IsDuring moment leaves faults first (calls_in es) last path k → LeftAt leaves (disks_in last) k files → StopsIn genesis client state es files
  events_stop genesis first last [] none is path state runs stands left k files during leaves_it =
      let P : Seen D → Type 0 = λ s. NotAfter k (now_of moment (disks_in s)) × LeftAt leaves (disks_in s) k files in
      let now = subst P path (during.1, leaves_it) in
      let at : k.0 ≡ moment (disks_in first).first = omega (arith, during.0.0, now.0.0) in
      let at_too : k.1 ≡ moment (disks_in first).second = omega (arith, during.0.1, now.0.1) in
      let A : ℕ → Type 0 = λ n. leaves (disks_in first).first n files.0 in
      let B : ℕ → Type 0 = λ n. leaves (disks_in first).second n files.1 in
      let G : Root → Type 0 = λ g. MayOpen g state files in
      between genesis client state [] files (subst G is (left state stands files.0 files.1 (subst A at now.1.0) (subst B at_too now.1.1)))
  events_stop genesis first last (Call c x r ∷ es) none is path state runs stands left k files during leaves_it =
      let step = path.1.machine state stands in
      let new = after state x r in
      let run = path.1.moments state stands in
      let G : Root → Type 0 = λ g. MayOpen g state files ⊎ MayOpen g new files in
      ⊎_elim
      (λ within.
      let was = past_stays path.0 last (calls_in es) path.2 new step.1 k files within.1 leaves_it in
      here genesis client state (Call c x r ∷ es) files (Some x) refl
      (stops_within genesis first.contents state x r files stands step.0 (subst G is (run.each k.0 k.1 files.0 files.1 within.0.0 within.1.0 within.0.1 within.1.1 was.0 was.1))))
      (λ over. later genesis client state (Call c x r ∷ []) es files (runs.0, tt)
      (events_stop genesis path.0 last es none (path.1.counted.genesis ∙ is) path.2 new runs.1 step.1 path.1.left k files over leaves_it))
      during
  events_stop genesis first last (Send c grant m ∷ es) none is path state runs stands left k files during leaves_it =
      later genesis client state (Send c grant m ∷ []) es files (runs.0, tt) (events_stop genesis first last es none is path state runs.1 stands left k files during leaves_it)
  events_stop genesis first last (Crash c within done now watch ∷ es) none is path state runs stands left k files during leaves_it = absurd none

  -- the same, where their calls are these
  pub calls_stop_in : (genesis : Root) (first last : Seen D) (es : List Event) (made : List (DeskCall × DeskReply)) → calls_in es ≡ made → NoStop es → first.contents.genesis ≡ genesis → (state : State) → RunsFrom state es → DeskStands first.contents state
      → LeavesDesk moment leaves (disks_in first) first.contents → (path : Path moment leaves faults first made last) (k : Moments) (files : Files) → IsDuring moment leaves faults first made last path k → LeftAt leaves (disks_in last) k files → StopsIn genesis client state es files
  calls_stop_in genesis first last es made are none is state runs stands left =
      let Q : List (DeskCall × DeskReply) → Type 0 = λ l. (path : Path moment leaves faults first l last) (k : Moments) (files : Files) → IsDuring moment leaves faults first l last path k → LeftAt leaves (disks_in last) k files → StopsIn genesis client state es files in
      subst Q are (λ path k files during leaves_it. events_stop genesis first last es none is path state runs stands left k files during leaves_it)

  -- ---- after the calls that were over

  calls_both : (xs ys : List (DeskCall × DeskReply)) → calls_of client (xs ++ ys) ≡ calls_of client xs ++ calls_of client ys
  calls_both [] ys = refl
  calls_both (x ∷ xs) ys = ap (λ (l : List Event). Call client x.0 x.1 ∷ l) (calls_both xs ys)

  same_desk_leaves : (a b : Seen D) → b ≡ a → LeavesDesk moment leaves (disks_in a) a.contents → LeavesDesk moment leaves (disks_in b) b.contents × (b.contents.genesis ≡ a.contents.genesis)
  same_desk_leaves a b e left = let P : Seen D → Type 0 = λ x. LeavesDesk moment leaves (disks_in x) x.contents × (x.contents.genesis ≡ a.contents.genesis) in subst P (sym e) (left, refl)

  pub led : (a b : Seen D) (made : List (DeskCall × DeskReply)) → Path moment leaves faults a made b → LeavesDesk moment leaves (disks_in a) a.contents → LeavesDesk moment leaves (disks_in b) b.contents × (b.contents.genesis ≡ a.contents.genesis)
  led a b [] path left = same_desk_leaves a b path left
  led a b (x ∷ made) path left = let rest = led path.0 b made path.2 path.1.left in (rest.0, rest.1 ∙ path.1.counted.genesis)

pub calls_stop : {D : Type 0} (moment : D → ℕ) (leaves : D → ℕ → List ℕ → Type 0) (faults : D → ℕ) → CallsStop moment leaves faults
unfolding later
calls_stop moment leaves faults first mid last over rest path_over path_rest client state stands left k files during is_left =
    let genesis = first.contents.genesis in
    let events = calls_of client over in
    let are = calls_run moment leaves faults first mid over path_over client state stands in
    let far = led moment leaves faults client first mid over path_over left in
    let at = state_over state events in
    let rest_are = calls_are moment leaves faults client mid last rest path_rest at are.stands in
    let stop = calls_stop_in moment leaves faults client genesis mid last (calls_of client rest) rest (calls_in_calls client rest) (no_stop_calls client rest) far.1 at rest_are.runs are.stands far.0 path_rest k files during is_left in
    let A : List Event → Type 0 = λ l. StopsBehind genesis client state events l files in
    subst A (sym (calls_both moment leaves faults client over rest))
    (record { stop = later genesis client state events (calls_of client rest) files are.runs stop; more = stop.front; front_is = refl })

-- ---- a session

turns_both : (client : ℕ) (ts us : List Turn) → turn_events client (ts ++ us) ≡ turn_events client ts ++ turn_events client us
turns_both client ts us = ap (steps_events client) (flat_map-append steps_in ts us) ∙ flat_map-append (step_events client) (steps_of ts) (steps_of us)

pub session_stops : {D : Type 0} (moment : D → ℕ) (leaves : D → ℕ → List ℕ → Type 0) (faults : D → ℕ) → SessionStops moment leaves faults
unfolding later
session_stops {D} moment leaves faults chain first last before now result ends over rest here turns_are_both run_over run_rest client state stands left path k files during is_left =
    let genesis = first.desk.contents.genesis in
    let mid = ends.mid in
    let latest = moment_after 0 over in
    let tail = desk_calls ends.unanswered.steps in
    let over_path = (run_makes moment leaves faults chain 0 over first here run_over).desk in
    let rest_path = (run_makes moment leaves faults chain latest rest here mid run_rest).desk in
    let over_by = path_machine moment leaves faults first.desk here.desk (made over) over_path state stands in
    let at = state_after state (made over) in
    let far = led moment leaves faults client first.desk here.desk (made over) over_path left in
    let rest_by = path_machine moment leaves faults here.desk mid.desk (made rest) rest_path at over_by.1 in
    let end = state_after at (made rest) in
    let first_piece = turns_piece client chain 0 state over over_by.0 (planned_all moment leaves faults chain 0 over first here state run_over stands) in
    let piece = turns_piece client chain latest at rest rest_by.0 (planned_all moment leaves faults chain latest rest here mid at run_rest over_by.1) in
    let tail_are = calls_are moment leaves faults client mid.desk last.desk tail ends.unanswered.makes.desk end rest_by.1 in
    let events = turn_events client over in
    let more = turn_events client rest ++ calls_of client tail in
    let Z : State → Type 0 = λ z. RunsFrom z (calls_of client tail) in
    let runs : RunsFrom at more = runs_both at (turn_events client rest) (calls_of client tail) piece.runs (subst Z (sym piece.ends) tail_are.runs) in
    let turn_calls = calls_in_steps client (steps_of rest) in
    let calls_are_all : calls_in more ≡ made rest ++ tail =
    calls_in_both (turn_events client rest) (calls_of client tail) ∙ ap (λ (l : List (DeskCall × DeskReply)). l ++ calls_in (calls_of client tail)) turn_calls.0 ∙ ap (λ (l : List (DeskCall × DeskReply)). made rest ++ l) (calls_in_calls client tail) in
    let none : NoStop more = no_stop_both (turn_events client rest) (calls_of client tail) turn_calls.1 (no_stop_calls client tail) in
    let stop = calls_stop_in moment leaves faults client genesis here.desk last.desk more (made rest ++ tail) calls_are_all none far.1 at runs over_by.1 far.0 path k files during is_left in
    let S : State → Type 0 = λ z. StopsIn genesis client z more files in
    let there : StopsIn genesis client (state_over state events) more files = subst S (sym first_piece.ends) stop in
    let whole : events ++ more ≡ turn_events client ends.turns ++ calls_of client tail =
    sym (append_assoc events (turn_events client rest) (calls_of client tail)) ∙ ap (λ (l : List Event). l ++ calls_of client tail) (sym (ap (turn_events client) turns_are_both ∙ turns_both client over rest)) in
    let A : List Event → Type 0 = λ l. StopsBehind genesis client state events l files in
    subst A whole (record { stop = later genesis client state events more files first_piece.runs there; more = there.front; front_is = refl })
