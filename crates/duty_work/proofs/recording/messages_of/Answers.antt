use Rattle.duty_work.proofs.MessageLemmas.{messages_more}
use Rattle.duty_work.proofs.recording.messages_of.Goals as goal

pub tasks-preserved : goal.tasks-preserved
tasks-preserved c = record {
  known = c.in_ok-keep_message.ensures.known;
  so_far = messages_more c.args.domains.now c.args.tasks.now c.tasks.messages.items c.keep_message.new.messages.items c.tasks.task-index c.task-item.result c.tasks-test.true c.task-item.is c.in_ok-keep_message.ensures.kept c.tasks.invariant.so_far;
}
