use Rattle.std.proofs.Common.{◌≡◌, ◌∙◌, List, true, ap, subst}
use Rattle.std.specs.BTreeSet.{IsFromIterResult}
use Rattle.std.specs.Slice.Iter.{iter_rest}
use Rattle.std.proofs.lemmas.Result.{IfOk-weaker}
use Rattle.edge_kit.specs.declared.bytes.PubKey.{PubKey}
use Rattle.node_calls.specs.Fitting.{key_order}
use Rattle.duty_schedule.proofs.due.key_set.Goals as goal

-- the run that was collected copies one that goes over all keys
pub returns : goal.returns
returns c =
    IfOk-weaker c.collect.result _ (IsFromIterResult key_order c.args.keys.now)
    (λ set complete.
    let collected = complete tt in
    let copied = c.copied.ensures.runs collected.0 collected.0.seen collected.1 in
    let lent = c.iter.ensures.runs copied.0 copied.0.seen in
    let whole : copied.0.whole ≡ true = copied.2.0 ∙ collected.2 in
    let all : collected.0.items ≡ c.args.keys.now = copied.2.2 ∙ lent.4 whole ∙ ap iter_rest copied.1 ∙ c.iter.ensures.rest in
    let P : List PubKey → Type 0 = λ keys. IsFromIterResult key_order keys set in
    subst P all collected.3)
    c.collect.ensures.runs
