-- That an opening goes on from where a stop left the client.
use Rattle.std.proofs.Common.{◌≡◌, ⊎_elim, ℕ, false, List, [], ◌∷◌, Some, None, refl, sym, ◌∙◌, subst}
use Rattle.edge_kit.specs.declared.bytes.Root.{Root}
use Rattle.record_journal.specs.Pairs.{Reads, pair_begun, pair_reading}
use Rattle.desk_machine.specs.States.{State, reopened}
use Rattle.desk_machine.specs.Machine.{after}
use Rattle.desk_machine.specs.declared.call.DeskCall.{DeskCall}
use Rattle.desk_machine.specs.declared.call.DeskCall.TheVariants as call
use Rattle.desk_machine.specs.declared.call.DeskReply.{DeskReply}
use Rattle.desk_machine.specs.declared.call.DeskReply.TheVariants as reply
use Rattle.check_sign.specs.Crashes.{Files}
use Rattle.check_sign.specs.Standing.{DeskStands, PayloadsStand}
use Rattle.world_law.specs.Worlds.{Event, state_after, lasting_stopped}
use Rattle.world_law.specs.Worlds.Event.{Call, Send, Crash}
use Rattle.world_law.specs.Clients.{state_over}
use Rattle.serve_world.specs.Starting.{StartsAgain, StartsEmpty, StartsKeep}
use Rattle.serve_world.specs.Stopping.{StopsIn}
use Rattle.serve_world.proofs.ListLemmas.{over_both}

-- ---- the chain stays

after_call : (state : State) (c : DeskCall) (r : DeskReply) → (after state c r).genesis ≡ state.genesis
after_call state (call.Merge file) (reply.Merged keys) = refl
after_call state (call.Activate key now) reply.Active = refl
after_call state (call.Propose key m now) (reply.Granted grant) = refl
after_call state (call.Allow key now) (reply.Granted grant) = refl
after_call state (call.Answer key epoch live now) reply.Noted = refl
after_call state (call.Settle grant o) reply.Settled = refl
after_call state (call.BeginClose key) reply.CloseBegun = refl
after_call state (call.FinishClose key) (reply.Closed book) = refl
after_call state (call.Record ps now) reply.Recorded = refl
after_call state (call.Prune key) (reply.Pruned book) = refl
after_call state call.Compact (reply.Compacted before size) = refl
after_call state c reply.Disk = refl
after_call state c r = refl

after_event : (state : State) (e : Event) → (state_after state e).genesis ≡ state.genesis
after_event state (Call client c r) = after_call state c r
after_event state (Send client grant m) = refl
after_event state (Crash client within done now watch) = refl

after_events : (state : State) (es : List Event) → (state_over state es).genesis ≡ state.genesis
after_events state [] = refl
after_events state (e ∷ es) = after_events (state_after state e) es ∙ after_event state e

-- ---- openings

some_inj : {X : Type 0} (a b : X) → Some a ≡ Some b → a ≡ b
some_inj a b e = cc

none_some : {X : Type 0} (x : X) → None ≡ Some x → ⊥
none_some x e = cc

pub starts_again : {D : Type 0} (shows : D → List ℕ → Type 0) (moment : D → ℕ) (leaves : D → ℕ → List ℕ → Type 0) (faults : D → ℕ) → StartsAgain shows moment leaves faults
starts_again shows moment leaves faults disks genesis watch now desk opening client state events files is shown stop =
    let read = opening.opened.read in
    let o = stop.opens in
    let A : List ℕ → Type 0 = λ a. Reads genesis.0 o.payloads a files.1 in
    let B : List ℕ → Type 0 = λ b. Reads genesis.0 o.payloads read.a b in
    let reads : Reads genesis.0 o.payloads read.a read.b = subst B (read.second_shown files.1 shown.1) (subst A (read.first_shown files.0 shown.0) o.read) in
    let payloads : o.payloads ≡ desk.contents.payloads = some_inj o.payloads desk.contents.payloads (sym reads ∙ read.holds) in
    let l = lasting_stopped (state_over state stop.front) stop.within stop.done in
    let S : List (List ℕ) → Type 0 = λ ps. PayloadsStand ps l in
    let G : Root → Type 0 = λ g. DeskStands desk.contents (reopened g l watch now) in
    let E : State → Type 0 = λ s. DeskStands desk.contents s in
    subst E (sym (over_both state stop.front (Crash client stop.within stop.done now watch ∷ []))) (subst G (sym (after_events state stop.front ∙ is)) (opening.opened.stands l (subst S payloads o.stand)))

-- files that read as others are left by the same stops
reads_so : (genesis : Root) (client : ℕ) (state : State) (events : List Event) (files other : Files) → pair_begun (pair_reading genesis.0 files.0 files.1) ≡ pair_begun (pair_reading genesis.0 other.0 other.1) → StopsIn genesis client state events other → StopsIn genesis client state events files
reads_so genesis client state events files other e stop = record {
  front = stop.front;
  rest = stop.rest;
  events_are = stop.events_are;
  within = stop.within;
  is_next = stop.is_next;
  done = stop.done;
  runs = stop.runs;
  opens = record { payloads = stop.opens.payloads; read = e ∙ stop.opens.read; stand = stop.opens.stand };
}

pub starts_keep : {D : Type 0} (shows : D → List ℕ → Type 0) (moment : D → ℕ) (leaves : D → ℕ → List ℕ → Type 0) → StartsKeep shows moment leaves
starts_keep shows moment leaves old new genesis keeps client state events stops visible shown stop k files low high left =
    ⊎_elim
    (λ was. reads_so genesis client state events files (was.0, was.1) was.4 (stops (was.0, was.1) (was.2, was.3)))
    (λ read.
    let R : List ℕ → List ℕ → Type 0 = λ a b. pair_begun (pair_reading genesis.0 files.0 files.1) ≡ pair_begun (pair_reading genesis.0 a b) in
    let A : List ℕ → Type 0 = λ a. R a read.b in
    let B : List ℕ → Type 0 = λ b. R visible.0 b in
    let same : R visible.0 visible.1 = subst B (sym (read.second_shown visible.1 shown.1)) (subst A (sym (read.first_shown visible.0 shown.0)) read.holds) in
    reads_so genesis client state events files visible same stop)
    (keeps.each k.0 k.1 files.0 files.1 low.0 high.0 low.1 high.1 left.0 left.1)

pub starts_empty : StartsEmpty
starts_empty genesis client files e = record {
  front = [];
  rest = [];
  events_are = refl;
  within = None;
  is_next = tt;
  done = false;
  runs = λ now watch. (tt, tt);
  opens = record {
    payloads = [];
    read = e;
    stand = record { items = record { named = refl; each = λ key past h. absurd (none_some past h); states = refl; watches = refl }; size = refl; generation = refl };
  };
}
