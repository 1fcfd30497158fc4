use Rattle.std.proofs.Common.{take}
use Rattle.std.specs.BTreeMap.{IsOrdered}
use Rattle.record_join.specs.Keys.{key_cmp}
use Rattle.check_sign.specs.Exporting.{AreExports}
use Rattle.check_sign.proofs.exporting.exports_of.Given as goal

abbrev pub invariant-keys : goal.invariant-keys
invariant-keys l = AreExports l.books (take l.key-index l.keys) l.found.entries × IsOrdered key_cmp l.found
