use Rattle.program_end.proofs.LimitLines.{of_lines, of_inputs, of_files, of_keys}
use Rattle.program_end.proofs.closing.too_long_line.Goals as goal

pub returns-in-Line : goal.returns-in-Line
returns-in-Line c = rw c.in-Line.is of_lines

pub returns-in-Input : goal.returns-in-Input
returns-in-Input c = rw c.in-Input.is of_inputs

pub returns-in-File : goal.returns-in-File
returns-in-File c = rw c.in-File.is of_files

pub returns-in-Keys : goal.returns-in-Keys
returns-in-Keys c = rw c.in-Keys.is of_keys
