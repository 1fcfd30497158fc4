use Rattle.std.proofs.Common.{◌∙◌, ◌<◌, ◌≤◌, length, arith}
use Rattle.std.proofs.lemmas.List.{length-set}
use Rattle.node_fallback.specs.Seen.{seen_of}
use Rattle.node_fallback.proofs.RefreshLemmas.{HeardSoFar-all, HeardSoFar-more, HeardSoFar-out, OnErr-any}
use Rattle.node_fallback.proofs.nodes.Nodes.refresh.Goals as goal

pub returns-in_err-is_syncing-clause-asked : goal.returns-in_err-is_syncing-clause-asked
returns-in_err-is_syncing-clause-asked g c =
    let within : c.nodes.place < length c.nodes.self.nodes.items = omega (arith, c.nodes.invariant.nodes, c.nodes-test.true) in
    OnErr-any _ (HeardSoFar-out g.N.Node.told g.N.Node.faults (seen_of g.N.Node.told g.N.Node.faults c.args.self.now.nodes.items c.args.self.now.syncing.items) c.nodes.self.nodes.items c.nodes.self.syncing.items c.nodes.place _ _ c.ask_syncing.new.node _ c.nodes.invariant.so_far within c.index_mut.ensures.value c.ask_syncing.ensures)

pub returns-in_err-push-clause-asked : goal.returns-in_err-push-clause-asked
returns-in_err-push-clause-asked g c =
    let within : c.nodes.place < length c.nodes.self.nodes.items = omega (arith, c.nodes.invariant.nodes, c.nodes-test.true) in
    OnErr-any _ (HeardSoFar-out g.N.Node.told g.N.Node.faults (seen_of g.N.Node.told g.N.Node.faults c.args.self.now.nodes.items c.args.self.now.syncing.items) c.nodes.self.nodes.items c.nodes.self.syncing.items c.nodes.place _ _ c.ask_syncing.new.node _ c.nodes.invariant.so_far within c.index_mut.ensures.value c.ask_syncing.ensures)

pub nodes-preserved : goal.nodes-preserved
nodes-preserved g c =
    let within : c.nodes.place < length c.nodes.self.nodes.items = omega (arith, c.nodes.invariant.nodes, c.nodes-test.true) in
    record {
      nodes = length-set c.nodes.self.nodes.items c.nodes.place c.ask_syncing.new.node ∙ c.nodes.invariant.nodes;
      so_far = HeardSoFar-more g.N.Node.told g.N.Node.faults (seen_of g.N.Node.told g.N.Node.faults c.args.self.now.nodes.items c.args.self.now.syncing.items) c.nodes.self.nodes.items c.nodes.self.syncing.items c.nodes.place c.nodes.flags.items _ c.ask_syncing.new.node c.ask_syncing.result c.in_ok-is_syncing.is_syncing c.push.new.self.items c.nodes.invariant.so_far within c.index_mut.ensures.value c.ask_syncing.ensures c.in_ok-is_syncing.was c.in_ok-push.ensures.items;
    }

pub returns-clause-flagged : goal.returns-clause-flagged
returns-clause-flagged g c =
    let all : length c.nodes.self.nodes.items ≤ c.nodes.place = omega (arith, c.nodes.invariant.nodes, c.nodes-test.false) in
    HeardSoFar-all g.N.Node.told g.N.Node.faults c.args.self.now.nodes.items c.nodes.self.nodes.items c.args.self.now.syncing.items c.nodes.self.syncing.items c.nodes.place _ c.nodes.invariant.so_far all
