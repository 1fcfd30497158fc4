use Rattle.std.proofs.Common.{List}
use Rattle.desk_machine.specs.declared.call.DeskCall.{DeskCall}
use Rattle.desk_machine.specs.declared.call.DeskReply.{DeskReply}
use Rattle.journal_trials.proofs.seats.push_calls.Given as goal

abbrev pub invariant-loop-words : goal.invariant-loop-words
invariant-loop-words g l = record {
  ready : g.K.DeskCalls.ready l.desk;
  led : (made : List (DeskCall × DeskReply)) × g.K.DeskCalls.leads l.initial.desk made l.desk;
}
