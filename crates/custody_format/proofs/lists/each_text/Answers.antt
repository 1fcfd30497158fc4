use Rattle.std.proofs.Common.{Some, [], ◌∷◌, ◌∙◌, map, string_bytes, sym, ap}
use Rattle.std.proofs.lemmas.List.{map-append}
use Rattle.serde_json.specs.Find.{as_str}
use Rattle.custody_format.proofs.ListLemmas.{rest_of-next}
use Rattle.custody_format.proofs.lists.each_text.Goals as goal

pub elements-preserved : goal.elements-preserved
elements-preserved c =
    rest_of-next as_str (map (λ s. string_bytes s) c.elements.texts.items) (map (λ s. string_bytes s) c.push.new.self.items) c.args.elements.now c.elements.element-index
    c.element-item.result (string_bytes c.in_ok-text.text)
    c.elements-test.true c.element-item.is (sym c.in-Some.ensures ∙ ap Some (sym c.in_ok-text.ensures.ok))
    (ap (λ texts. map (λ s. string_bytes s) texts) c.in_ok-push.ensures.items ∙ map-append (λ s. string_bytes s) c.elements.texts.items (c.in_ok-text.text ∷ []))
    c.elements.invariant
