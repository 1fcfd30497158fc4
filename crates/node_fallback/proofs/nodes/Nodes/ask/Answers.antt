use Rattle.std.proofs.Common.{◌≡◌, ◌<◌, ◌≤◌, ◌∙◌, length, Err, arith}
use Rattle.std.proofs.lemmas.List.{length-set}
use Rattle.node_calls.specs.Asking.{told_ask}
use Rattle.node_fallback.specs.declared.one_node.Refused.TheVariants as refused
use Rattle.node_fallback.specs.Seen.{seen_of}
use Rattle.node_fallback.proofs.OrderLemmas.{SoFar-all, SoFar-gives, SoFar-more, SoFar-out}
use Rattle.node_fallback.proofs.nodes.Nodes.ask.Goals as goal

pub returns-in-Ok-try_ask-clause-tries : goal.returns-in-Ok-try_ask-clause-tries
returns-in-Ok-try_ask-clause-tries g c =
    let within : c.nodes.place < length c.nodes.self.nodes.items = omega (arith, c.nodes.invariant.nodes, c.nodes-test.true) in
    SoFar-gives g.N.Node.told g.N.Node.faults (told_ask c.args.ask.now) (seen_of g.N.Node.told g.N.Node.faults c.args.self.now.nodes.items c.args.self.now.syncing.items) c.nodes.self.nodes.items c.nodes.self.syncing.items c.nodes.place _ _ c.try_ask.new.node c.is_syncing-syncing.result c.try_ask.result c.in-Ok-try_ask.answer c.nodes.invariant.so_far within c.index_mut.ensures.value c.is_syncing-syncing.ensures c.try_ask.ensures.turn c.in-Ok-try_ask.is

pub returns-in-Err-OutOfMemory-clause-tries : goal.returns-in-Err-OutOfMemory-clause-tries
returns-in-Err-OutOfMemory-clause-tries g c =
    let within : c.nodes.place < length c.nodes.self.nodes.items = omega (arith, c.nodes.invariant.nodes, c.nodes-test.true) in
    let out : c.try_ask.result ≡ Err refused.OutOfMemory = cc in
    SoFar-out g.N.Node.told g.N.Node.faults (told_ask c.args.ask.now) (seen_of g.N.Node.told g.N.Node.faults c.args.self.now.nodes.items c.args.self.now.syncing.items) c.nodes.self.nodes.items c.nodes.self.syncing.items c.nodes.place _ _ c.try_ask.new.node c.is_syncing-syncing.result c.try_ask.result c.nodes.invariant.so_far within c.index_mut.ensures.value c.is_syncing-syncing.ensures c.try_ask.ensures.turn out

pub nodes-preserved : goal.nodes-preserved
nodes-preserved g c =
    let within : c.nodes.place < length c.nodes.self.nodes.items = omega (arith, c.nodes.invariant.nodes, c.nodes-test.true) in
    let because : c.try_ask.result ≡ Err (refused.Because c.in-Err-Because.cause) = cc in
    record {
      nodes = length-set c.nodes.self.nodes.items c.nodes.place c.try_ask.new.node ∙ c.nodes.invariant.nodes;
      named = omega (arith, c.keep.ensures.len, c.nodes.invariant.named);
      room = omega (arith, c.keep.ensures.room, c.nodes.invariant.room);
      so_far = SoFar-more g.N.Node.told g.N.Node.faults (told_ask c.args.ask.now) (seen_of g.N.Node.told g.N.Node.faults c.args.self.now.nodes.items c.args.self.now.syncing.items) c.nodes.self.nodes.items c.nodes.self.syncing.items c.nodes.place _ _ c.try_ask.new.node c.is_syncing-syncing.result c.try_ask.result c.in-Err-Because.cause c.keep.new.causes.items c.nodes.invariant.so_far within c.index_mut.ensures.value c.is_syncing-syncing.ensures c.try_ask.ensures.turn because c.keep.ensures.items;
    }

pub returns-clause-tries : goal.returns-clause-tries
returns-clause-tries g c =
    let all : length c.nodes.self.nodes.items ≤ c.nodes.place = omega (arith, c.nodes.invariant.nodes, c.nodes-test.false) in
    SoFar-all g.N.Node.told g.N.Node.faults (told_ask c.args.ask.now) (seen_of g.N.Node.told g.N.Node.faults c.args.self.now.nodes.items c.args.self.now.syncing.items) c.nodes.self.nodes.items c.nodes.self.syncing.items c.nodes.place _ c.from_vec.result c.nodes.invariant.so_far all c.from_vec.ensures
