use Rattle.std.proofs.Common.{◌<◌, length, map, Some, refl, sym, ap, ◌∙◌, arith}
use Rattle.std.proofs.lemmas.List.{length-map}
use Rattle.std.specs.Option.{option_map}
use Rattle.std.proofs.lemmas.Option.{slice_get-map, slice_get_read}
use Rattle.phase0_types.specs.Roots.{root_of}
use Rattle.phase0_types.proofs.items.ItemChunksChunks.chunk.Goals as goal

pub returns : goal.returns
returns g c =
    let items = c.args.self.now.0.now in
    let value = g.T.Shaped.value in
    let root = root_of g.T.Shaped.shape in
    let within : c.args.index < length items = omega (arith, length-map (map value items) root, length-map items value) in
    let item = c.index-self-index.result in
    let here = slice_get_read items (length items) c.args.index item refl within c.index-self-index.is in
    slice_get-map root (map value items) c.args.index ∙ ap (option_map root) (slice_get-map value items c.args.index ∙ ap (option_map value) here) ∙ ap (λ x. Some x) (sym (c.root.ensures ∙ ap (λ x. root (value x)) (sym c.index-self-index.is)))
