-- Which replies come to a call for a grant.
use Rattle.desk_machine.specs.declared.call.DeskReply.{DeskReply}
use Rattle.desk_machine.specs.declared.call.DeskReply.TheVariants as reply

-- a reply to a proposal, or to a call for leave, that gives no grant
abbrev pub IsRefusal : DeskReply → Type 0
IsRefusal reply.Disk = Unit {0}
IsRefusal reply.Unknown = Unit {0}
IsRefusal reply.NotActive = Unit {0}
IsRefusal reply.Closing = Unit {0}
IsRefusal (reply.Live epoch) = Unit {0}
IsRefusal (reply.Watching first second) = Unit {0}
IsRefusal (reply.Refused v) = Unit {0}
IsRefusal (reply.Full size wanted) = Unit {0}
IsRefusal reply.OutOfMemory = Unit {0}
IsRefusal r = ⊥
