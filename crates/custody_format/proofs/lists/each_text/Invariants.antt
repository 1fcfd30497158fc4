use Rattle.std.proofs.Common.{◌≡◌, [], drop, map, string_bytes}
use Rattle.serde_json.specs.Find.{as_str}
use Rattle.custody_format.proofs.ListLemmas.{rest_of}
use Rattle.custody_format.proofs.lists.each_text.Given as goal

abbrev pub invariant-elements : goal.invariant-elements
invariant-elements l = rest_of as_str (map (λ s. string_bytes s) l.texts.items) (drop l.element-index l.elements) ≡ rest_of as_str [] l.elements
