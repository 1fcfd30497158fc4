use Rattle.std.proofs.Common.{take}
use Rattle.node_fallback.specs.Twins.{EachTwin}
use Rattle.node_fallback.proofs.nodes.twins_of.Given as goal

abbrev pub invariant-nodes : goal.invariant-nodes
invariant-nodes g l = EachTwin g.N.Node.told g.N.Node.faults (take l.node-index l.nodes) l.twins.items
