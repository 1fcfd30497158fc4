use Rattle.std.proofs.Common.{◌≤◌, length}
use Rattle.edge_system.proofs.file_disk.write_full.Given as goal

abbrev pub invariant-writing : goal.invariant-writing
invariant-writing g l = l.done ≤ length l.bytes
