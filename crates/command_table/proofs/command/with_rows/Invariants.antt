use Rattle.std.proofs.Common.{◌≡◌, fold, drop}
use Rattle.clap.specs.Words.{app_of}
use Rattle.command_table.specs.Rows.{with_row}
use Rattle.command_table.proofs.command.with_rows.Given as goal

abbrev pub invariant-each : goal.invariant-each
invariant-each l = fold with_row (app_of l.command) (drop l.row-index l.rows) ≡ fold with_row (app_of l.fn.command) l.rows
