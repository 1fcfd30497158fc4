use Rattle.std.proofs.Common.{◌≡◌, fold, drop}
use Rattle.clap.specs.Words.{app_of}
use Rattle.command_table.specs.Rows.{with_name}
use Rattle.command_table.proofs.command.with_commands.Given as goal

abbrev pub invariant-each : goal.invariant-each
invariant-each l = fold with_name (app_of l.program) (drop l.name-index l.names) ≡ fold with_name (app_of l.fn.program) l.names
