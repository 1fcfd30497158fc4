use Rattle.std.proofs.Common.{◌≤◌, ◌-◌, take, length}
use Rattle.std.specs.Io.KnownBytes.{Appends}
use Rattle.http_wire.specs.Listening.{OnlySpeaks}
use Rattle.keymanager_api.proofs.send.send_all.Given as goal

abbrev pub invariant-pieces : goal.invariant-pieces
invariant-pieces g l = record {
  within : l.at ≤ length l.bytes;
  written : Appends (g.L.Link.held l.fn.link) (g.L.Link.held l.link) (take l.at l.bytes);
  speaks : OnlySpeaks (g.L.Link.left l.fn.link) (g.L.Link.left l.link) (g.L.Link.coming l.fn.link) (g.L.Link.coming l.link) (g.L.Link.faults l.fn.link) (g.L.Link.faults l.link);
}

abbrev pub decreases-pieces : goal.decreases-pieces
decreases-pieces g l = length l.bytes - l.at
