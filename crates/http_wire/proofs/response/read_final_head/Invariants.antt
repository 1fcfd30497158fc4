use Rattle.http_wire.specs.Listening.{OnlyListens}
use Rattle.http_wire.specs.Steps.{Took, TookAtMost}
use Rattle.http_wire.specs.Heads.{head_limit}
use Rattle.std.proofs.Common.{◌*◌}
use Rattle.http_wire.specs.Messages.{AreInterim}
use Rattle.http_wire.proofs.response.read_final_head.Given as goal

abbrev pub invariant-heads : goal.invariant-heads
invariant-heads g l = record {
  interim : Took (g.L.Link.left l.fn.link) (g.L.Link.left l.link) (AreInterim l.counter);
  bound : TookAtMost (g.L.Link.left l.fn.link) (g.L.Link.left l.link) (l.counter * head_limit);
  listens : OnlyListens (g.L.Link.held l.fn.link) (g.L.Link.held l.link) (g.L.Link.coming l.fn.link) (g.L.Link.coming l.link) (g.L.Link.faults l.fn.link) (g.L.Link.faults l.link);
}
