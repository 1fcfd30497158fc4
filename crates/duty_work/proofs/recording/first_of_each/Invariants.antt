use Rattle.std.proofs.Common.{◌≡◌, ◌++◌, None, drop}
use Rattle.duty_turns.specs.Recording.{first_of_each}
use Rattle.duty_work.proofs.recording.first_of_each.Given as goal

abbrev pub invariant-messages : goal.invariant-messages
invariant-messages l = l.first.items ++ first_of_each l.last (drop l.one-index l.messages) ≡ first_of_each None l.messages
