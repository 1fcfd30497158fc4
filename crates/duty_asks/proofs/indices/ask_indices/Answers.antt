use Rattle.std.proofs.Common.{take, drop, sym, ◌∙◌, ap}
use Rattle.duty_asks.specs.Placed.{HoldsPlaced}
use Rattle.duty_asks.proofs.IndexLemmas.{asking_done, asking_next, asking_stop}
use Rattle.duty_asks.proofs.indices.ask_indices.Goals as goal

pub returns-in-Err : goal.returns-in-Err
returns-in-Err g c = λ s h.
    let w = c.questions.invariant.asking s h in
    let left = c.questions.left.now in
    let front = c.split_at.ensures.front ∙ ap (λ n. take n left) c.min.ensures in
    asking_stop (HoldsPlaced c.questions.held) (HoldsPlaced c.ask_some.new.held) _ _ _ _ left c.split_at.result.0.now c.split_at.result.1.now c.in-Err.stop c.ask_some.result c.in-Err.is (sym c.is_empty.ensures ∙ c.questions-test.true) front w (c.ask_some.ensures w.after w.held)

pub questions-preserved : goal.questions-preserved
questions-preserved g c = record {
  asking = λ s h.
      let w = c.questions.invariant.asking s h in
      let left = c.questions.left.now in
      let front = c.split_at.ensures.front ∙ ap (λ n. take n left) c.min.ensures in
      let back = c.split_at.ensures.back ∙ ap (λ n. drop n left) c.min.ensures in
      asking_next (HoldsPlaced c.questions.held) (HoldsPlaced c.ask_some.new.held) _ _ _ _ left c.split_at.result.0.now c.split_at.result.1.now c.ask_some.result c.in-Ok.is (sym c.is_empty.ensures ∙ c.questions-test.true) front back w (c.ask_some.ensures w.after w.held);
}

pub returns : goal.returns
returns g c = λ s h. asking_done (HoldsPlaced c.questions.held) _ _ _ c.questions.left.now (sym c.is_empty.ensures ∙ c.questions-test.false) (c.questions.invariant.asking s h)
