use Rattle.std.proofs.Common.{◌≡◌, ◌≤◌, length, vec_len, vec_capacity}
use Rattle.node_calls.specs.Asking.{posted, told_post}
use Rattle.node_fallback.specs.Seen.{seen_of}
use Rattle.node_fallback.proofs.OrderLemmas.{SoFar}
use Rattle.node_fallback.proofs.nodes.Nodes.post.Given as goal

abbrev pub invariant-nodes : goal.invariant-nodes
invariant-nodes g l = record {
  nodes : length l.self.nodes.items ≡ l.place-end;
  named : vec_len l.causes ≡ l.place;
  room : l.place-end ≤ vec_capacity l.causes;
  so_far : SoFar (told_post (posted (g.G.Granted.granted_key l.grant) (g.G.Granted.granted_message l.grant) l.post)) (seen_of g.N.Node.told g.N.Node.faults l.fn.self.nodes.items l.fn.self.syncing.items) (seen_of g.N.Node.told g.N.Node.faults l.self.nodes.items l.self.syncing.items) l.place l.causes.items;
}
