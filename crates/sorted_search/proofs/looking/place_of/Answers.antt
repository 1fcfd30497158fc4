use Rattle.std.proofs.Common.{◌≡◌, ℕ, ◌+◌, ◌-◌, ◌/◌, ◌<◌, ◌≤◌, length, get_or, ap, arith}
use Rattle.sorted_search.proofs.StepLemmas.{halved, looked}
use Rattle.sorted_search.proofs.looking.place_of.Goals as goal

pub loop-low-preserved-then-number : goal.loop-low-preserved-then-number
loop-low-preserved-then-number g c = record {
  in_order = omega arith;
  within = omega arith;
  before = λ k d lt.
      let middle : ℕ = c.loop-low.low + (c.loop-low.high - c.loop-low.low) / 2 in
      let up : g.T.Numbered.number_of (get_or c.args.list.now k d) ≤ g.T.Numbered.number_of (get_or c.args.list.now middle d) = c.requires k middle d (omega arith) (omega arith) in
      let same : g.T.Numbered.number_of c.look-here.result ≡ g.T.Numbered.number_of (get_or c.args.list.now middle d) = ap g.T.Numbered.number_of (c.look-here.ensures.value d) in
      let here : g.T.Numbered.number_of (get_or c.args.list.now middle d) < c.args.number = omega (arith, same, c.number.ensures, c.if-number.true) in
      omega arith;
  behind = λ k d le lt. c.loop-low.invariant.behind k d le lt;
  counts = omega arith;
  halved = halved (c.loop-low.steps - c.args.steps.now) _ (c.loop-low.high - c.loop-low.low) _ (length c.args.list.now) (omega arith) c.loop-low.invariant.halved (omega arith);
  few = looked (c.loop-low.steps - c.args.steps.now) _ (c.loop-low.high - c.loop-low.low) (length c.args.list.now) (omega arith) c.loop-low.invariant.halved (omega arith);
}

pub loop-low-preserved : goal.loop-low-preserved
loop-low-preserved g c = record {
  in_order = omega arith;
  within = omega arith;
  before = λ k d lt. c.loop-low.invariant.before k d lt;
  behind = λ k d le lt.
      let middle : ℕ = c.loop-low.low + (c.loop-low.high - c.loop-low.low) / 2 in
      let up : g.T.Numbered.number_of (get_or c.args.list.now middle d) ≤ g.T.Numbered.number_of (get_or c.args.list.now k d) = c.requires middle k d le lt in
      let same : g.T.Numbered.number_of c.look-here.result ≡ g.T.Numbered.number_of (get_or c.args.list.now middle d) = ap g.T.Numbered.number_of (c.look-here.ensures.value d) in
      let here : c.args.number ≤ g.T.Numbered.number_of (get_or c.args.list.now middle d) = omega (arith, same, c.number.ensures, c.if-number.false) in
      omega arith;
  counts = omega arith;
  halved = halved (c.loop-low.steps - c.args.steps.now) _ (c.loop-low.high - c.loop-low.low) _ (length c.args.list.now) (omega arith) c.loop-low.invariant.halved (omega arith);
  few = looked (c.loop-low.steps - c.args.steps.now) _ (c.loop-low.high - c.loop-low.low) (length c.args.list.now) (omega arith) c.loop-low.invariant.halved (omega arith);
}
