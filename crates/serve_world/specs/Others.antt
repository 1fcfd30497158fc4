-- A run of the program that is asked for another chain than that of the journal's client.
use Rattle.std.specs.Prelude.{◌≡◌, ℕ, List}
use Rattle.edge_kit.specs.declared.bytes.Root.{Root}
use Rattle.edge_kit.specs.declared.disk.Disks.{Disks}
use Rattle.record_journal.specs.declared.place.Place.{Place}
use Rattle.record_journal.specs.Pairs.{OneGenesis, pair_reading}
use Rattle.desk_machine.specs.States.{no_state}
use Rattle.desk_machine.specs.declared.event.DeskEvent.{DeskEvent}
use Rattle.check_sign.specs.Crashes.{Files, now_of}
use Rattle.world_law.specs.Worlds.{Event}
use Rattle.program_end.specs.declared.status.Status.{Status}
use Rattle.command_line.specs.Plans.{Asked, session, merge, show}
use Rattle.validator_cli.specs.Endings.{Outside, RunEnds}
use Rattle.serve_world.specs.SessionRunning.{Idle, LeftBy}
use Rattle.serve_world.specs.Starting.{Show}
use Rattle.serve_world.specs.Stopping.{StopsIn}

-- For this root the two files are a journal of another chain: one of them is begun, and has another root.
abbrev pub AreOfAnother : Root → Files → Type 0
AreOfAnother root files = (file : Place) × (kept : List ℕ) × (pair_reading root.0 files.0 files.1 ≡ OneGenesis file kept)

-- what is asked for opens the journal, and for its root the files are one of another chain
abbrev pub IsForAnother : Asked → Files → Type 0
IsForAnother (session root journal fork altair signer watch) files = AreOfAnother root files
IsForAnother (merge root journal) files = AreOfAnother root files
IsForAnother (show root journal) files = AreOfAnother root files
IsForAnother asked files = ⊥

-- However such a run ends, over disks that show what a stop of the client left, and of which a crash leaves such files, the client being
-- that of the journal, with the journal's own root: no desk was opened, nothing was read, asked or noted, and a crash leaves what one
-- before would have left; and the disks show these files still. So a run for the client's own chain finds what it would have found before.
abbrev pub OtherIdles : {D : Type 0} → (D → List ℕ → Type 0) → (D → ℕ) → (D → ℕ → List ℕ → Type 0) → (D → ℕ) → Type 0
OtherIdles {D} shows moment leaves faults = (asked : Asked) (disks_before disks_now : Disks D) (before now : Outside) (noted : List DeskEvent) (ended : Status)
    → RunEnds shows moment leaves faults asked disks_before disks_now before now noted ended
    → (genesis : Root) (client : ℕ) (past : List Event) (files : Files) → IsForAnother asked files → Show shows disks_before files → StopsIn genesis client (no_state genesis) past files
    → LeftBy leaves genesis client past disks_before (now_of moment disks_before)
    → Idle moment leaves genesis client past before now noted disks_before disks_now × Show shows disks_now files
