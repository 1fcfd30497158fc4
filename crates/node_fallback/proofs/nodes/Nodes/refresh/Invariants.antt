use Rattle.std.proofs.Common.{◌≡◌, length}
use Rattle.node_fallback.specs.Seen.{seen_of}
use Rattle.node_fallback.proofs.RefreshLemmas.{HeardSoFar}
use Rattle.node_fallback.proofs.nodes.Nodes.refresh.Given as goal

abbrev pub invariant-nodes : goal.invariant-nodes
invariant-nodes g l = record {
  nodes : length l.self.nodes.items ≡ l.place-end;
  so_far : HeardSoFar (seen_of g.N.Node.told g.N.Node.faults l.fn.self.nodes.items l.fn.self.syncing.items) (seen_of g.N.Node.told g.N.Node.faults l.self.nodes.items l.self.syncing.items) l.place l.flags.items;
}
