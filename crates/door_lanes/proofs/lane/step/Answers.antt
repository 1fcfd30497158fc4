use Rattle.std.proofs.Common.{[], refl}
use Rattle.door_lanes.specs.declared.counted.Taken.TheVariants as taken
use Rattle.door_lanes.specs.declared.lane.LaneEnd.TheVariants as end
use Rattle.door_lanes.proofs.LaneLemmas.{door_ends, full_ends, no_more_ends, steps_none, steps_one}
use Rattle.door_lanes.proofs.lane.step.Goals as goal

pub returns-in-Full-clause-steps : goal.returns-in-Full-clause-steps
returns-in-Full-clause-steps g c = steps_none g.T.Takes.leads g.V.Serves.serves c.args.lane.now _ _ taken.Full end.Full c.in-Full.ensures.leads c.take-back.ensures.value refl c.take-back.ensures.after refl (full_ends [] tt)

pub returns-in-NoMore-clause-steps : goal.returns-in-NoMore-clause-steps
returns-in-NoMore-clause-steps g c = steps_none g.T.Takes.leads g.V.Serves.serves c.args.lane.now _ _ taken.NoMore end.NoMore c.in-NoMore.ensures.leads c.take-back.ensures.value refl c.take-back.ensures.after refl (no_more_ends [] tt)

pub returns-in-Failed-clause-steps : goal.returns-in-Failed-clause-steps
returns-in-Failed-clause-steps g c = steps_none g.T.Takes.leads g.V.Serves.serves c.args.lane.now _ _ taken.Failed end.Door c.in-Failed.ensures.leads c.take-back.ensures.value refl c.take-back.ensures.after refl (door_ends [] tt)

pub returns-in-Connection-clause-steps : goal.returns-in-Connection-clause-steps
returns-in-Connection-clause-steps g c = steps_one g.T.Takes.leads g.V.Serves.serves c.args.lane.now _ _ _ _ _ c.in-Connection.ensures.leads c.take-back.ensures.value refl c.serve_one.ensures.serves
