use Rattle.std.proofs.Common.{◌≡◌, sym, ◌∙◌, arith, rules, tests, length, ◌<◌}
use Rattle.std.proofs.lemmas.Bool.{eqb-true}
use Rattle.record_codec.proofs.Batches.{shorter, counted_none, counted_more, counted_bad, counted_well}
use Rattle.record_codec.proofs.reading.check_records.Goals as goal

pub items-init : goal.items-init
items-init c = counted_none c.args.payload.now (λ i. omega (arith, c.type_inv.payload i))

pub items-smaller : goal.items-smaller
items-smaller c = shorter c.items.rest.now c.in-Some._item c.in-Some.behind.now c.items.invariant.bytes (sym c.in-Some.ensures)

pub items-preserved : goal.items-preserved
items-preserved c =
    let more : 0 < length c.in-Some.behind.now = search (rules, tests) in
    counted_more c.args.payload.now c.items.rest.now c.in-Some._item c.in-Some.behind.now c.items.invariant (sym c.in-Some.ensures) more

pub returns-in_default-clause-bad : goal.returns-in_default-clause-bad
returns-in_default-clause-bad c = counted_bad c.args.payload.now c.items.rest.now c.items.invariant (sym c.in_default.ensures)

pub returns-then-is_empty-clause-bad : goal.returns-then-is_empty-clause-bad
returns-then-is_empty-clause-bad c =
    let last : length c.in-Some.behind.now ≡ 0 = eqb-true _ _ (sym c.is_empty.ensures ∙ c.if-is_empty.true) in
    counted_well c.args.payload.now c.items.rest.now c.in-Some._item c.in-Some.behind.now c.items.invariant (sym c.in-Some.ensures) last
