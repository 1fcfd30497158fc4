use Rattle.std.proofs.Common.{◌≡◌, ◌++◌, drop}
use Rattle.duty_turns.specs.Turns.{notes_of}
use Rattle.duty_loop.proofs.notes.notes_of.Given as goal

abbrev pub invariant-rows : goal.invariant-rows
invariant-rows l = l.notes.items ++ notes_of l.indices.entries l.keys (drop l.row-index l.rows) ≡ notes_of l.indices.entries l.keys l.rows
