use Rattle.std.proofs.Common.{◌≡◌, ◌++◌, drop}
use Rattle.duty_loop.specs.Asked.{notes_on}
use Rattle.duty_loop.proofs.notes.push_notes.Given as goal

abbrev pub invariant-keys : goal.invariant-keys
invariant-keys l = l.notes.items ++ notes_on l.live (drop l.asked-index l.asked) ≡ l.fn.notes.items ++ notes_on l.live l.asked
