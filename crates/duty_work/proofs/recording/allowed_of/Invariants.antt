use Rattle.std.proofs.Common.{◌≡◌, ◌++◌, drop}
use Rattle.duty_turns.specs.Recording.{allowed_of}
use Rattle.duty_work.proofs.recording.allowed_of.Given as goal

abbrev pub invariant-listed : goal.invariant-listed
invariant-listed l = l.allowed.items ++ allowed_of (drop l.key-index l.listed) ≡ allowed_of l.listed
