use Rattle.std.proofs.Common.{ℕ, List, Option, drop}
use Rattle.node_fallback.specs.Seen.{Seen}
use Rattle.call_plans.specs.Paths.{Comes}
use Rattle.duty_plans.specs.Seats.{Seat}
use Rattle.duty_turns.specs.Standing.{Standing}
use Rattle.duty_turns.specs.Turns.{notes_plan}
use Rattle.duty_turns.specs.TurnSteps.{Does, Fits, SinkSeen}
use Rattle.duty_work.specs.Houses.{house}
use Rattle.duty_loop.proofs.live.note_all.Given as goal

abbrev pub invariant-notes : goal.invariant-notes
invariant-notes g l = record {
  ready : g.K.DeskCalls.ready l.desk;
  comes : (start : Option ℕ) (lanes : List (Seat g.row.K.Denot)) (s : Standing) (nodes : List Seen) (out : SinkSeen) → Comes Fits (Does g.K.DeskCalls.leads start) (notes_plan l.epoch l.now l.notes s) (notes_plan l.epoch l.now (drop l.note-index l.notes) s) (house l.fn.desk lanes nodes out) (house l.desk lanes nodes out);
}
