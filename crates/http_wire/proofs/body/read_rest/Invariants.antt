use Rattle.std.proofs.Common.{◌-◌, ◌+◌, ◌≤◌, length}
use Rattle.http_wire.specs.Framings.{body_limit}
use Rattle.http_wire.specs.Bounds.{piece_limit}
use Rattle.std.specs.Io.KnownBytes.{Consumes}
use Rattle.http_wire.specs.Listening.{OnlyListens}
use Rattle.http_wire.proofs.body.read_rest.Given as goal

abbrev pub invariant-pieces : goal.invariant-pieces
invariant-pieces g l = record {
  taken : Consumes (g.L.Link.left l.fn.link) (g.L.Link.left l.link) l.body.items;
  short : length l.body.items ≤ body_limit + piece_limit;
  listens : OnlyListens (g.L.Link.held l.fn.link) (g.L.Link.held l.link) (g.L.Link.coming l.fn.link) (g.L.Link.coming l.link) (g.L.Link.faults l.fn.link) (g.L.Link.faults l.link);
}

abbrev pub decreases-pieces : goal.decreases-pieces
decreases-pieces g l = 16777217 - length l.body.items
