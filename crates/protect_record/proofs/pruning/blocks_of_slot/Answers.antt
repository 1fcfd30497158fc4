use Rattle.std.proofs.Common.{◌+◌, ◌==◌, ◌++◌, ◌∷◌, [], Bool, filter, drop, get_or, append_assoc, sym, ap, ◌∙◌}
use Rattle.std.proofs.lemmas.List.{append-nil, at_drop_more, at_drop_all}
use Rattle.std.proofs.lemmas.List.Elements.{filter-append}
use Rattle.slash_defs.specs.declared.entry.BlockEntry.{BlockEntry}
use Rattle.protect_record.proofs.pruning.blocks_of_slot.Goals as goal

pub blocks-2-preserved : goal.blocks-2-preserved
blocks-2-preserved c =
    let p : BlockEntry → Bool = λ e. e.slot == c.args.slot in
    let xs = c.args.blocks.now in
    let i = c.blocks-2.entry-index in
    rw (c.in_ok-take_at.ensures) (append_assoc c.blocks-2.list.items _ (filter p (drop (i + 1) xs))
    ∙ ap (λ r. c.blocks-2.list.items ++ r) (sym (at_drop_more (filter p) xs i _ c.blocks-2-test.true ∙ filter-append p (get_or xs i _ ∷ []) (drop (i + 1) xs))) ∙ c.blocks-2.invariant)

pub returns : goal.returns
returns c =
    let p : BlockEntry → Bool = λ e. e.slot == c.args.slot in
    sym (append-nil c.blocks-2.list.items) ∙ ap (λ r. c.blocks-2.list.items ++ r) (sym (at_drop_all (filter p) c.args.blocks.now c.blocks-2.entry-index c.blocks-2-test.false)) ∙ c.blocks-2.invariant
