use Rattle.std.proofs.Common.{◌≡◌, ◌++◌, drop}
use Rattle.duty_loop.specs.Asked.{asked_keys}
use Rattle.duty_loop.proofs.notes.with_indices.Given as goal

abbrev pub invariant-keys : goal.invariant-keys
invariant-keys l = l.asked.items ++ asked_keys l.indices.entries (drop l.key-index l.keys) ≡ asked_keys l.indices.entries l.keys
