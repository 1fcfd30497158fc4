-- What a desk replies that was to compact its journal.
use Rattle.desk_machine.specs.declared.call.DeskReply.{DeskReply}
use Rattle.desk_machine.specs.declared.call.DeskReply.TheVariants as reply

-- the replies of a desk that was to compact its journal
abbrev pub IsCompaction : DeskReply → Type 0
IsCompaction reply.Disk = Unit {0}
IsCompaction reply.LastGeneration = Unit {0}
IsCompaction reply.OutOfMemory = Unit {0}
IsCompaction (reply.Full size wanted) = Unit {0}
IsCompaction (reply.Compacted before after) = Unit {0}
IsCompaction r = ⊥
