use Rattle.door_lanes.proofs.run.take_door.Goals as goal

pub returns : goal.returns
returns g c = record {
  value = c.close-counted.result;
  closes = c.close-counted.ensures;
  door = c.into_door.ensures;
}
