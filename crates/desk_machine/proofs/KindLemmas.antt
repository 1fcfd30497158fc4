-- Which kind a reply is of.
use Rattle.desk_machine.specs.States.{State}
use Rattle.desk_machine.specs.Machine.{Reply}
use Rattle.desk_machine.specs.Kinds.{IsKind}
use Rattle.desk_machine.specs.declared.call.DeskCall.{DeskCall}
use Rattle.desk_machine.specs.declared.call.DeskCall.TheVariants as call
use Rattle.desk_machine.specs.declared.call.DeskReply.{DeskReply}
use Rattle.desk_machine.specs.declared.call.DeskReply.TheVariants as reply

pub kind_of : (state : State) (c : DeskCall) (r : DeskReply) → Reply state c r → IsKind c r
kind_of state (call.Merge file) reply.Disk h = tt
kind_of state (call.Merge file) (reply.GenesisDiffers kept given) h = tt
kind_of state (call.Merge file) (reply.TooManyKeys have new) h = tt
kind_of state (call.Merge file) reply.OutOfMemory h = tt
kind_of state (call.Merge file) (reply.Full size wanted) h = tt
kind_of state (call.Merge file) (reply.Merged keys) h = tt
kind_of state (call.Activate key now) reply.Disk h = tt
kind_of state (call.Activate key now) reply.Already h = tt
kind_of state (call.Activate key now) reply.Closing h = tt
kind_of state (call.Activate key now) (reply.TooManyKeys have new) h = tt
kind_of state (call.Activate key now) reply.OutOfMemory h = tt
kind_of state (call.Activate key now) (reply.Full size wanted) h = tt
kind_of state (call.Activate key now) reply.Active h = tt
kind_of state (call.Propose key m now) reply.Disk h = tt
kind_of state (call.Propose key m now) reply.Unknown h = tt
kind_of state (call.Propose key m now) reply.NotActive h = tt
kind_of state (call.Propose key m now) reply.Closing h = tt
kind_of state (call.Propose key m now) (reply.Live epoch) h = tt
kind_of state (call.Propose key m now) (reply.Watching first second) h = tt
kind_of state (call.Propose key m now) (reply.Refused v) h = tt
kind_of state (call.Propose key m now) reply.OutOfMemory h = tt
kind_of state (call.Propose key m now) (reply.Full size wanted) h = tt
kind_of state (call.Propose key m now) (reply.Granted grant) h = tt
kind_of state (call.Record ps now) reply.Disk h = tt
kind_of state (call.Record ps now) reply.Unfit h = tt
kind_of state (call.Record ps now) reply.OutOfMemory h = tt
kind_of state (call.Record ps now) (reply.Full size wanted) h = tt
kind_of state (call.Record ps now) reply.Recorded h = tt
kind_of state (call.Allow key now) reply.Disk h = tt
kind_of state (call.Allow key now) reply.Unknown h = tt
kind_of state (call.Allow key now) reply.NotActive h = tt
kind_of state (call.Allow key now) reply.Closing h = tt
kind_of state (call.Allow key now) (reply.Live epoch) h = tt
kind_of state (call.Allow key now) (reply.Watching first second) h = tt
kind_of state (call.Allow key now) reply.OutOfMemory h = tt
kind_of state (call.Allow key now) (reply.Granted grant) h = tt
kind_of state (call.Answer key epoch live now) reply.Unknown h = tt
kind_of state (call.Answer key epoch live now) reply.NotActive h = tt
kind_of state (call.Answer key epoch live now) reply.OutOfMemory h = tt
kind_of state (call.Answer key epoch live now) reply.Noted h = tt
kind_of state (call.Settle grant outcome) reply.Settled h = tt
kind_of state (call.BeginClose key) reply.Unknown h = tt
kind_of state (call.BeginClose key) reply.NotActive h = tt
kind_of state (call.BeginClose key) reply.CloseBegun h = tt
kind_of state (call.BeginClose key) reply.AlreadyClosing h = tt
kind_of state (call.FinishClose key) reply.Disk h = tt
kind_of state (call.FinishClose key) reply.Unknown h = tt
kind_of state (call.FinishClose key) (reply.NotClosing is) h = tt
kind_of state (call.FinishClose key) (reply.Busy grants) h = tt
kind_of state (call.FinishClose key) reply.OutOfMemory h = tt
kind_of state (call.FinishClose key) (reply.Full size wanted) h = tt
kind_of state (call.FinishClose key) (reply.Closed book) h = tt
kind_of state (call.Export keys) (reply.Exported file) h = tt
kind_of state (call.Export keys) reply.OutOfMemory h = tt
kind_of state (call.Prune key) reply.Disk h = tt
kind_of state (call.Prune key) reply.Unknown h = tt
kind_of state (call.Prune key) reply.OutOfMemory h = tt
kind_of state (call.Prune key) (reply.Full size wanted) h = tt
kind_of state (call.Prune key) (reply.Pruned book) h = tt
kind_of state call.Keys (reply.Keys listed) h = tt
kind_of state call.Keys reply.OutOfMemory h = tt
kind_of state call.HasFailed (reply.HasFailed failed) h = tt
kind_of state call.Size (reply.Size size weight) h = tt
kind_of state call.Compact reply.Disk h = tt
kind_of state call.Compact reply.LastGeneration h = tt
kind_of state call.Compact reply.OutOfMemory h = tt
kind_of state call.Compact (reply.Full size wanted) h = tt
kind_of state call.Compact (reply.Compacted before after) h = tt
kind_of state c r h = absurd h
