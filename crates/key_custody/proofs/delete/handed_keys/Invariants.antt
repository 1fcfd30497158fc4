use Rattle.std.proofs.Common.{◌≡◌, ◌++◌, drop}
use Rattle.key_custody.specs.Statuses.{handed_keys}
use Rattle.key_custody.proofs.delete.handed_keys.Given as goal

abbrev pub invariant-keys : goal.invariant-keys
invariant-keys l = l.handed.items ++ handed_keys (drop l.i l.keys) (drop l.i l.statuses) ≡ handed_keys l.keys l.statuses
