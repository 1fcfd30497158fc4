use Rattle.std.proofs.Common.{◌≤◌, length}
use Rattle.edge_system.proofs.file_disk.read_full.Given as goal

abbrev pub invariant-filling : goal.invariant-filling
invariant-filling g l = l.filled ≤ length l.buf
