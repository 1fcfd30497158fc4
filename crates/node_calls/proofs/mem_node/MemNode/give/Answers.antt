use Rattle.std.proofs.Common.{rules, ◌≡◌, true, IfOk, sym, subst, slice_get}
use Rattle.node_calls.specs.Fitting.{fits}
use Rattle.node_calls.proofs.ReplyLemmas.{reply_fits, reply_counts}
use Rattle.node_calls.proofs.mem_node.MemNode.give.Goals as goal

pub returns-clause-fits : goal.returns-clause-fits
returns-clause-fits c = subst (λ r. IfOk r (λ answer. fits c.args.prepared.asked answer ≡ true)) (sym c.requires.replied) (reply_fits c.args.prepared.asked (slice_get c.args.self.now.answers.items c.args.self.now.given))

pub returns-clause-counted : goal.returns-clause-counted
returns-clause-counted c =
    let counts = reply_counts c.args.prepared.asked (slice_get c.args.self.now.answers.items c.args.self.now.given) in
    rw (c.requires.replied, counts.0, counts.1, counts.2) (search rules)
