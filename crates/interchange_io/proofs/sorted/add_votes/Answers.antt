use Rattle.std.proofs.Common.{◌∙◌, ◌+◌, None, fold, drop, sym, ap}
use Rattle.std.specs.BTreeSet.{insert_key}
use Rattle.slash_defs.specs.FileOrder.{vote_cmp}
use Rattle.interchange_io.proofs.OrderLemmas.{fold_more}
use Rattle.interchange_io.proofs.sorted.add_votes.Goals as goal

pub each-preserved : goal.each-preserved
each-preserved c =
    let votes = c.args.votes.now in
    ap (λ keys. fold (insert_key vote_cmp) keys (drop (c.each.vote-index + 1) votes)) c.in_ok-insert.ensures.keys
    ∙ sym (fold_more (insert_key vote_cmp) c.each.sorted.keys votes c.each.vote-index (record { target = 0; source = 0; root = None }) c.each-test.true)
    ∙ c.each.invariant
