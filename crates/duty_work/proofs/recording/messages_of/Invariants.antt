use Rattle.std.proofs.Common.{◌≡◌, ◌++◌, drop}
use Rattle.std.specs.Prelude.{All}
use Rattle.duty_plans.specs.Votes.{messages_of}
use Rattle.duty_work.specs.Known.{IsKnown}
use Rattle.duty_work.proofs.recording.messages_of.Given as goal

abbrev pub invariant-tasks : goal.invariant-tasks
invariant-tasks l = record {
  known : All (IsKnown l.domains) l.known.items;
  so_far : l.messages.items ++ messages_of l.domains (drop l.task-index l.tasks) ≡ messages_of l.domains l.tasks;
}
