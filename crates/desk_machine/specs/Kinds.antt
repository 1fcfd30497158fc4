-- Which replies a call has, and which of them is its success.
use Rattle.desk_machine.specs.States.{State}
use Rattle.desk_machine.specs.Machine.{Reply}
use Rattle.desk_machine.specs.declared.call.DeskCall.{DeskCall}
use Rattle.desk_machine.specs.declared.call.DeskCall.TheVariants as call
use Rattle.desk_machine.specs.declared.call.DeskReply.{DeskReply}
use Rattle.desk_machine.specs.declared.call.DeskReply.TheVariants as reply

-- the reply is the call's success: it did what was asked
abbrev pub IsOkOf : DeskCall → DeskReply → Type 0
IsOkOf (call.Merge file) (reply.Merged keys) = Unit {0}
IsOkOf (call.Activate key now) reply.Active = Unit {0}
IsOkOf (call.Propose key m now) (reply.Granted grant) = Unit {0}
IsOkOf (call.Record ps now) reply.Recorded = Unit {0}
IsOkOf (call.Allow key now) (reply.Granted grant) = Unit {0}
IsOkOf (call.Answer key epoch live now) reply.Noted = Unit {0}
IsOkOf (call.Settle grant outcome) reply.Settled = Unit {0}
IsOkOf (call.BeginClose key) reply.CloseBegun = Unit {0}
IsOkOf (call.FinishClose key) (reply.Closed book) = Unit {0}
IsOkOf (call.Export keys) (reply.Exported file) = Unit {0}
IsOkOf (call.Prune key) (reply.Pruned book) = Unit {0}
IsOkOf call.Keys (reply.Keys listed) = Unit {0}
IsOkOf call.HasFailed (reply.HasFailed failed) = Unit {0}
IsOkOf call.Size (reply.Size size weight) = Unit {0}
IsOkOf call.Compact (reply.Compacted before after) = Unit {0}
IsOkOf c r = ⊥

-- success is a possible reply to the call
abbrev pub HasOk : State → DeskCall → Type 0
HasOk state c = (r : DeskReply) × IsOkOf c r × Reply state c r

-- the reply is one of those that the call may ever have
abbrev pub IsKind : DeskCall → DeskReply → Type 0
IsKind (call.Merge file) reply.Disk = Unit {0}
IsKind (call.Merge file) (reply.GenesisDiffers kept given) = Unit {0}
IsKind (call.Merge file) (reply.TooManyKeys have new) = Unit {0}
IsKind (call.Merge file) reply.OutOfMemory = Unit {0}
IsKind (call.Merge file) (reply.Full size wanted) = Unit {0}
IsKind (call.Merge file) (reply.Merged keys) = Unit {0}
IsKind (call.Activate key now) reply.Disk = Unit {0}
IsKind (call.Activate key now) reply.Already = Unit {0}
IsKind (call.Activate key now) reply.Closing = Unit {0}
IsKind (call.Activate key now) (reply.TooManyKeys have new) = Unit {0}
IsKind (call.Activate key now) reply.OutOfMemory = Unit {0}
IsKind (call.Activate key now) (reply.Full size wanted) = Unit {0}
IsKind (call.Activate key now) reply.Active = Unit {0}
IsKind (call.Propose key m now) reply.Disk = Unit {0}
IsKind (call.Propose key m now) reply.Unknown = Unit {0}
IsKind (call.Propose key m now) reply.NotActive = Unit {0}
IsKind (call.Propose key m now) reply.Closing = Unit {0}
IsKind (call.Propose key m now) (reply.Live epoch) = Unit {0}
IsKind (call.Propose key m now) (reply.Watching first second) = Unit {0}
IsKind (call.Propose key m now) (reply.Refused v) = Unit {0}
IsKind (call.Propose key m now) reply.OutOfMemory = Unit {0}
IsKind (call.Propose key m now) (reply.Full size wanted) = Unit {0}
IsKind (call.Propose key m now) (reply.Granted grant) = Unit {0}
IsKind (call.Record ps now) reply.Disk = Unit {0}
IsKind (call.Record ps now) reply.Unfit = Unit {0}
IsKind (call.Record ps now) reply.OutOfMemory = Unit {0}
IsKind (call.Record ps now) (reply.Full size wanted) = Unit {0}
IsKind (call.Record ps now) reply.Recorded = Unit {0}
IsKind (call.Allow key now) reply.Disk = Unit {0}
IsKind (call.Allow key now) reply.Unknown = Unit {0}
IsKind (call.Allow key now) reply.NotActive = Unit {0}
IsKind (call.Allow key now) reply.Closing = Unit {0}
IsKind (call.Allow key now) (reply.Live epoch) = Unit {0}
IsKind (call.Allow key now) (reply.Watching first second) = Unit {0}
IsKind (call.Allow key now) reply.OutOfMemory = Unit {0}
IsKind (call.Allow key now) (reply.Granted grant) = Unit {0}
IsKind (call.Answer key epoch live now) reply.Unknown = Unit {0}
IsKind (call.Answer key epoch live now) reply.NotActive = Unit {0}
IsKind (call.Answer key epoch live now) reply.OutOfMemory = Unit {0}
IsKind (call.Answer key epoch live now) reply.Noted = Unit {0}
IsKind (call.Settle grant outcome) reply.Settled = Unit {0}
IsKind (call.BeginClose key) reply.Unknown = Unit {0}
IsKind (call.BeginClose key) reply.NotActive = Unit {0}
IsKind (call.BeginClose key) reply.CloseBegun = Unit {0}
IsKind (call.BeginClose key) reply.AlreadyClosing = Unit {0}
IsKind (call.FinishClose key) reply.Disk = Unit {0}
IsKind (call.FinishClose key) reply.Unknown = Unit {0}
IsKind (call.FinishClose key) (reply.NotClosing is) = Unit {0}
IsKind (call.FinishClose key) (reply.Busy grants) = Unit {0}
IsKind (call.FinishClose key) reply.OutOfMemory = Unit {0}
IsKind (call.FinishClose key) (reply.Full size wanted) = Unit {0}
IsKind (call.FinishClose key) (reply.Closed book) = Unit {0}
IsKind (call.Export keys) (reply.Exported file) = Unit {0}
IsKind (call.Export keys) reply.OutOfMemory = Unit {0}
IsKind (call.Prune key) reply.Disk = Unit {0}
IsKind (call.Prune key) reply.Unknown = Unit {0}
IsKind (call.Prune key) reply.OutOfMemory = Unit {0}
IsKind (call.Prune key) (reply.Full size wanted) = Unit {0}
IsKind (call.Prune key) (reply.Pruned book) = Unit {0}
IsKind call.Keys (reply.Keys listed) = Unit {0}
IsKind call.Keys reply.OutOfMemory = Unit {0}
IsKind call.HasFailed (reply.HasFailed failed) = Unit {0}
IsKind call.Size (reply.Size size weight) = Unit {0}
IsKind call.Compact reply.Disk = Unit {0}
IsKind call.Compact reply.LastGeneration = Unit {0}
IsKind call.Compact reply.OutOfMemory = Unit {0}
IsKind call.Compact (reply.Full size wanted) = Unit {0}
IsKind call.Compact (reply.Compacted before after) = Unit {0}
IsKind c r = ⊥
