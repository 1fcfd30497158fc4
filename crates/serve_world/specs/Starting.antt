-- A client that starts.
use Rattle.std.specs.Prelude.{◌≡◌, ℕ, Bool, List, [], ◌∷◌, ◌++◌}
use Rattle.edge_kit.specs.declared.bytes.Root.{Root}
use Rattle.edge_kit.specs.declared.disk.Disks.{Disks}
use Rattle.record_journal.specs.Pairs.{Reads}
use Rattle.record_journal.specs.Opened.{KeepsOrRead}
use Rattle.desk_machine.specs.States.{State, no_state}
use Rattle.check_sign.specs.Contents.{Seen}
use Rattle.check_sign.specs.Crashes.{Between, Files, LeftAt, now_of}
use Rattle.check_sign.specs.Standing.{DeskStands}
use Rattle.check_sign.specs.Opening.{Opening}
use Rattle.world_law.specs.Worlds.{Event}
use Rattle.world_law.specs.Worlds.Event.{Crash}
use Rattle.world_law.specs.Clients.{state_over}
use Rattle.serve_world.specs.Stopping.{StopsIn}

-- the disks show these files
abbrev pub Show : {D : Type 0} → (D → List ℕ → Type 0) → Disks D → Files → Type 0
Show shows disks files = shows disks.first files.0 × shows disks.second files.1

-- where the disks show files that a stop after events of the client left, the desk that is opened over them, at this moment and with
-- the watch on or off, stands for the state after that stop, which starts the client again just so
abbrev pub StartsAgain : {D : Type 0} → (D → List ℕ → Type 0) → (D → ℕ) → (D → ℕ → List ℕ → Type 0) → (D → ℕ) → Type 0
StartsAgain {D} shows moment leaves faults = (disks : Disks D) (genesis : Root) (watch : Bool) (now : ℕ) (desk : Seen D) → Opening shows moment leaves faults disks genesis watch now desk
    → (client : ℕ) (state : State) (events : List Event) (files : Files) → state.genesis ≡ genesis → Show shows disks files → (stop : StopsIn genesis client state events files)
    → DeskStands desk.contents (state_over state (stop.front ++ Crash client stop.within stop.done now watch ∷ []))

-- files that open to no payloads, as those that are no journal yet, are what a stop leaves of a client that has done nothing
abbrev pub StartsEmpty : Type 0
StartsEmpty = (genesis : Root) (client : ℕ) (files : Files) → Reads genesis.0 [] files.0 files.1 → StopsIn genesis client (no_state genesis) [] files

-- A crash while a desk is opened, or refused, leaves files that such a stop leaves too, where those from before are such, and those
-- that the disks show: `KeepsOrRead` is what an opening says of the crashes in it.
abbrev pub StartsKeep : {D : Type 0} → (D → List ℕ → Type 0) → (D → ℕ) → (D → ℕ → List ℕ → Type 0) → Type 0
StartsKeep {D} shows moment leaves = (old new : Disks D) (genesis : Root) → KeepsOrRead shows moment leaves genesis.0 old new
    → (client : ℕ) (state : State) (events : List Event) → ((files : Files) → LeftAt leaves old (now_of moment old) files → StopsIn genesis client state events files)
    → (files : Files) → Show shows old files → StopsIn genesis client state events files
    → Between leaves new (now_of moment old) (now_of moment new) (StopsIn genesis client state events)
