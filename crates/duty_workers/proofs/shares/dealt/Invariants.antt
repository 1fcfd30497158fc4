use Rattle.std.proofs.Common.{◌≡◌, ◌+◌, ◌%◌, ◌<◌, take}
use Rattle.duty_turns.specs.Lanes.{dealt}
use Rattle.duty_workers.proofs.shares.dealt.Given as goal

abbrev pub invariant-tasks : goal.invariant-tasks
invariant-tasks l = record {
  turn : l.at ≡ (l.place + l.task-index) % l.lanes;
  below : l.at < l.lanes;
  so_far : l.mine.items ≡ dealt l.lanes l.lane l.place (take l.task-index l.tasks);
}
