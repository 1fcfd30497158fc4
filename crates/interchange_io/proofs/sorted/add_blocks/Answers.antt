use Rattle.std.proofs.Common.{◌∙◌, ◌+◌, None, fold, drop, sym, ap}
use Rattle.std.specs.BTreeSet.{insert_key}
use Rattle.slash_defs.specs.FileOrder.{block_cmp}
use Rattle.interchange_io.proofs.OrderLemmas.{fold_more}
use Rattle.interchange_io.proofs.sorted.add_blocks.Goals as goal

pub each-preserved : goal.each-preserved
each-preserved c =
    let blocks = c.args.blocks.now in
    ap (λ keys. fold (insert_key block_cmp) keys (drop (c.each.block-index + 1) blocks)) c.in_ok-insert.ensures.keys
    ∙ sym (fold_more (insert_key block_cmp) c.each.sorted.keys blocks c.each.block-index (record { slot = 0; root = None }) c.each-test.true)
    ∙ c.each.invariant
