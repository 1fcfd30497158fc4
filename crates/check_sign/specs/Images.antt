-- What a crash leaves of calls, one after another.
use Rattle.std.specs.Prelude.{◌⊎◌, ℕ, List}
use Rattle.edge_kit.specs.declared.bytes.Root.{Root}
use Rattle.desk_machine.specs.States.{State}
use Rattle.desk_machine.specs.Machine.{Reply, after}
use Rattle.desk_machine.specs.declared.call.DeskCall.{DeskCall}
use Rattle.desk_machine.specs.declared.call.DeskReply.{DeskReply}
use Rattle.check_sign.specs.Contents.{Seen, disks_in}
use Rattle.check_sign.specs.Crashes.{Files, LeavesFiles}
use Rattle.check_sign.specs.Standing.{DeskStands, MayOpen}
use Rattle.check_sign.specs.Calls.{LeavesDesk}

-- Whichever state the desk stood for: a crash since then leaves two files that this lets for that state, and one from now on
-- two that open to what the desk stands for.
pub record LeavesAll {D : Type 0} (moment : D → ℕ) (leaves : D → ℕ → List ℕ → Type 0) (May : State → Files → Type 0) (old new : Seen D) : Type 0 where
  pub moments : (state : State) → DeskStands old.contents state → LeavesFiles moment leaves (disks_in old) (disks_in new) (May state)
  pub left : LeavesDesk moment leaves (disks_in new) new.contents

-- so it is where a crash at first would have left what the desk stood for
abbrev pub Leaves : {D : Type 0} → (D → ℕ) → (D → ℕ → List ℕ → Type 0) → (State → Files → Type 0) → Seen D → Seen D → Type 0
Leaves moment leaves May old new = LeavesDesk moment leaves (disks_in old) old.contents → LeavesAll moment leaves May old new

-- two files open to what lasts before a call, or after a reply that it may get
abbrev pub OpensByCall : Root → DeskCall → State → Files → Type 0
OpensByCall genesis c state files = MayOpen genesis state files ⊎ ((r : DeskReply) × Reply state c r × MayOpen genesis (after state c r) files)

-- two files open to what lasts of a state, or of the one that it becomes
abbrev pub OpensEither : Root → (State → State) → State → Files → Type 0
OpensEither genesis becomes state files = MayOpen genesis state files ⊎ MayOpen genesis (becomes state) files
