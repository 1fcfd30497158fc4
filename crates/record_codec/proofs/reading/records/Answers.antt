use Rattle.std.proofs.Common.{◌≡◌, ◌++◌, ◌∷◌, [], List, ap, sym, subst, ◌∙◌, arith, rules, tests, length, ◌<◌, Ok}
use Rattle.std.proofs.lemmas.Bool.{eqb-true}
use Rattle.std.proofs.lemmas.List.{length_push}
use Rattle.record_codec.specs.declared.item.JournalItem.{JournalItem}
use Rattle.record_codec.proofs.Items.{record_takes}
use Rattle.record_codec.proofs.Batches.{SoFar, so_far_none, so_far_more, shorter, ends_bad, ends_well}
use Rattle.record_codec.proofs.reading.records.Goals as goal

pub items-init : goal.items-init
items-init c = record {
  so_far = subst (λ (l : List JournalItem). SoFar c.args.payload.now l c.args.payload.now) (sym c.new-items.ensures.items) (so_far_none c.args.payload.now);
  count = omega (arith, c.new-items.ensures.len);
  bytes = λ i. omega (arith, c.type_inv.payload i);
}

pub items-smaller : goal.items-smaller
items-smaller c = shorter c.items.rest.now c.in-Some.item c.in-Some.behind.now c.items.invariant.bytes (sym c.in-Some.ensures)

pub items-preserved : goal.items-preserved
items-preserved c =
    let some = sym c.in-Some.ensures in
    let more : 0 < length c.in-Some.behind.now = search (rules, tests) in
    let before = c.items.invariant in
    let pushed : c.push.new.self.items ≡ c.items.items.items ++ c.in-Some.item ∷ [] = c.in_ok-push.ensures.items in
    record {
      so_far = so_far_more c.args.payload.now c.items.items.items c.push.new.self.items c.items.rest.now c.in-Some.item c.in-Some.behind.now before.bytes (omega (arith, before.count)) before.so_far some more pushed;
      count = omega (arith, before.count, ap length pushed, length_push c.items.items.items c.in-Some.item, shorter c.items.rest.now c.in-Some.item c.in-Some.behind.now before.bytes some);
      bytes = (record_takes c.items.rest.now (c.in-Some.item, c.in-Some.behind.now) before.bytes some).takes.rest_fits;
    }

pub returns-in_default : goal.returns-in_default
returns-in_default c = λ fuel enough. sym (ends_bad c.args.payload.now c.items.items.items c.items.rest.now c.items.invariant.count c.items.invariant.so_far (sym c.in_default.ensures) fuel enough)

pub returns-then-is_empty : goal.returns-then-is_empty
returns-then-is_empty c = λ fuel enough.
    let last : length c.in-Some.behind.now ≡ 0 = eqb-true _ _ (sym c.is_empty.ensures ∙ c.if-is_empty.true) in
    let pushed : c.push.new.self.items ≡ c.items.items.items ++ c.in-Some.item ∷ [] = c.in_ok-push.ensures.items in
    ap (λ (l : List JournalItem). Ok l) pushed
    ∙ sym (ends_well c.args.payload.now c.items.items.items c.items.rest.now c.in-Some.item c.in-Some.behind.now c.items.invariant.count c.items.invariant.so_far (sym c.in-Some.ensures) last fuel enough)
