use Rattle.std.proofs.Common.{◌≡◌, ◌<◌, ◌≤◌, ◌∙◌, length, Err, arith}
use Rattle.std.proofs.lemmas.List.{length-set}
use Rattle.node_calls.specs.Asking.{posted, told_post}
use Rattle.node_fallback.specs.declared.one_node.Refused.TheVariants as refused
use Rattle.node_fallback.specs.Seen.{seen_of}
use Rattle.node_fallback.proofs.OrderLemmas.{SoFar-all, SoFar-gives, SoFar-more, SoFar-out}
use Rattle.node_fallback.proofs.nodes.Nodes.post.Goals as goal

pub returns-in-Ok-try_post : goal.returns-in-Ok-try_post
returns-in-Ok-try_post g c =
    let within : c.nodes.place < length c.nodes.self.nodes.items = omega (arith, c.nodes.invariant.nodes, c.nodes-test.true) in
    record { tries = SoFar-gives g.N.Node.told g.N.Node.faults (told_post (posted (g.G.Granted.granted_key c.args.grant.now) (g.G.Granted.granted_message c.args.grant.now) c.args.post.now)) (seen_of g.N.Node.told g.N.Node.faults c.args.self.now.nodes.items c.args.self.now.syncing.items) c.nodes.self.nodes.items c.nodes.self.syncing.items c.nodes.place _ _ c.try_post.new.node c.is_syncing-syncing.result c.try_post.result c.in-Ok-try_post.field-0 c.nodes.invariant.so_far within c.index_mut.ensures.value c.is_syncing-syncing.ensures c.try_post.ensures c.in-Ok-try_post.is }

pub returns-in-Err-OutOfMemory : goal.returns-in-Err-OutOfMemory
returns-in-Err-OutOfMemory g c =
    let within : c.nodes.place < length c.nodes.self.nodes.items = omega (arith, c.nodes.invariant.nodes, c.nodes-test.true) in
    let out : c.try_post.result ≡ Err refused.OutOfMemory = cc in
    record { tries = SoFar-out g.N.Node.told g.N.Node.faults (told_post (posted (g.G.Granted.granted_key c.args.grant.now) (g.G.Granted.granted_message c.args.grant.now) c.args.post.now)) (seen_of g.N.Node.told g.N.Node.faults c.args.self.now.nodes.items c.args.self.now.syncing.items) c.nodes.self.nodes.items c.nodes.self.syncing.items c.nodes.place _ _ c.try_post.new.node c.is_syncing-syncing.result c.try_post.result c.nodes.invariant.so_far within c.index_mut.ensures.value c.is_syncing-syncing.ensures c.try_post.ensures out }

pub nodes-preserved : goal.nodes-preserved
nodes-preserved g c =
    let within : c.nodes.place < length c.nodes.self.nodes.items = omega (arith, c.nodes.invariant.nodes, c.nodes-test.true) in
    let because : c.try_post.result ≡ Err (refused.Because c.in-Err-Because.cause) = cc in
    record {
      nodes = length-set c.nodes.self.nodes.items c.nodes.place c.try_post.new.node ∙ c.nodes.invariant.nodes;
      named = omega (arith, c.keep.ensures.len, c.nodes.invariant.named);
      room = omega (arith, c.keep.ensures.room, c.nodes.invariant.room);
      so_far = SoFar-more g.N.Node.told g.N.Node.faults (told_post (posted (g.G.Granted.granted_key c.args.grant.now) (g.G.Granted.granted_message c.args.grant.now) c.args.post.now)) (seen_of g.N.Node.told g.N.Node.faults c.args.self.now.nodes.items c.args.self.now.syncing.items) c.nodes.self.nodes.items c.nodes.self.syncing.items c.nodes.place _ _ c.try_post.new.node c.is_syncing-syncing.result c.try_post.result c.in-Err-Because.cause c.keep.new.causes.items c.nodes.invariant.so_far within c.index_mut.ensures.value c.is_syncing-syncing.ensures c.try_post.ensures because c.keep.ensures.items;
    }

pub returns : goal.returns
returns g c =
    let all : length c.nodes.self.nodes.items ≤ c.nodes.place = omega (arith, c.nodes.invariant.nodes, c.nodes-test.false) in
    record { tries = SoFar-all g.N.Node.told g.N.Node.faults (told_post (posted (g.G.Granted.granted_key c.args.grant.now) (g.G.Granted.granted_message c.args.grant.now) c.args.post.now)) (seen_of g.N.Node.told g.N.Node.faults c.args.self.now.nodes.items c.args.self.now.syncing.items) c.nodes.self.nodes.items c.nodes.self.syncing.items c.nodes.place _ c.from_vec.result c.nodes.invariant.so_far all c.from_vec.ensures }
