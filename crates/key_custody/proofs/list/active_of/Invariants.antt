use Rattle.std.proofs.Common.{◌≡◌, ◌++◌, drop}
use Rattle.key_custody.specs.Replies.{active_keys}
use Rattle.key_custody.proofs.list.active_of.Given as goal

abbrev pub invariant-listed : goal.invariant-listed
invariant-listed l = l.active.items ++ active_keys (drop l.key-index l.listed) ≡ active_keys l.listed
