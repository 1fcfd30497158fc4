use Rattle.std.proofs.Common.{◌+◌, ◌∙◌, ap}
use Rattle.std.specs.Prelude.{◌==◌}
use Rattle.std.proofs.lemmas.Nat.{mod_below}
use Rattle.duty_plans.specs.declared.task.Task.{Task}
use Rattle.duty_workers.specs.Shares.{kept}
use Rattle.duty_workers.proofs.DealLemmas.{dealt_more}
use Rattle.duty_workers.proofs.TurnLemmas.{lane_turns}
use Rattle.duty_workers.proofs.shares.dealt.Goals as goal

pub tasks-preserved : goal.tasks-preserved
tasks-preserved c = record {
  turn = lane_turns c.args.lanes c.args.place c.tasks.task-index c.tasks.at c.tasks.invariant.turn;
  below = mod_below (c.tasks.at + 1) c.args.lanes c.requires;
  so_far = dealt_more c.args.lanes c.args.lane c.args.place c.tasks.task-index c.tasks.at c.args.tasks.now c.tasks.mine.items c.keep.new.mine.items c.task-item.result c.tasks-test.true c.tasks.invariant.turn c.tasks.invariant.so_far
      (c.in_ok-keep.ensures ∙ ap (λ (t : Task). kept (c.tasks.at == c.args.lane) c.tasks.mine.items t) c.task-item.is);
}
