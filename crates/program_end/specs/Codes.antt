-- The exit status of each ending.
use Rattle.std.specs.Prelude.{ℕ}
use Rattle.program_end.specs.declared.status.Status.{Status}
use Rattle.program_end.specs.declared.status.Status.TheVariants as status

abbrev pub status_code : Status → ℕ
status_code status.Done = 0
status_code status.Usage = 2
status_code status.ReadFault = 3
status_code status.WriteFault = 4
status_code status.DiskFault = 5
status_code status.Damaged = 6
status_code status.GenesisDiffers = 7
status_code status.OutOfMemory = 8
status_code (status.InputTooLong l) = 9
status_code status.NoNode = 10
status_code status.DoorFault = 11
status_code status.FileRefused = 12
