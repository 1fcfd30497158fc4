-- What its disks leave of a client is what a stop leaves of it here.
use Rattle.std.specs.Prelude.{◌⊎◌, Bool, Option, Some, None}
use Rattle.edge_kit.specs.declared.bytes.Root.{Root}
use Rattle.check_sign.specs.Contents.{Contents}
use Rattle.check_sign.specs.Crashes.{Files}
use Rattle.desk_machine.specs.States.{State}
use Rattle.check_sign.specs.Standing.{DeskStands, MayOpen, Opens}
use Rattle.desk_machine.specs.Machine.{Reply, after}
use Rattle.desk_machine.specs.declared.call.DeskCall.{DeskCall}
use Rattle.desk_machine.specs.declared.call.DeskReply.{DeskReply}
use Rattle.world_law.specs.Worlds.{MayStop, lasting_stopped}

-- a stop may happen, the call that was torn or else is in progress being done or not, so that the files open to what lasts
abbrev pub IsOfStop : Root → State → Option DeskCall → Files → Type 0
IsOfStop genesis state within files = (done : Bool) × MayStop state within done × Opens genesis files (lasting_stopped state within done)

-- files that may be left while no call is in progress
abbrev pub StopsBetween : Type 0
StopsBetween = (genesis : Root) (state : State) (files : Files) → MayOpen genesis state files → IsOfStop genesis state None files

-- files that may be left at any moment of a call
abbrev pub StopsWithin : Type 0
StopsWithin = (genesis : Root) (desk : Contents) (state : State) (c : DeskCall) (r : DeskReply) (files : Files) → DeskStands desk state → Reply state c r
    → MayOpen genesis state files ⊎ MayOpen genesis (after state c r) files → IsOfStop genesis state (Some c) files
