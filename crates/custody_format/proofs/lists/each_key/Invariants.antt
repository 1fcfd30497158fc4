use Rattle.std.proofs.Common.{◌≡◌, [], drop}
use Rattle.custody_format.specs.Lists.{key_of}
use Rattle.custody_format.proofs.ListLemmas.{rest_of}
use Rattle.custody_format.proofs.lists.each_key.Given as goal

abbrev pub invariant-elements : goal.invariant-elements
invariant-elements l = rest_of key_of l.keys.items (drop l.element-index l.elements) ≡ rest_of key_of [] l.elements
