use Rattle.std.proofs.Common.{sym, subst}
use Rattle.keymanager_api.specs.declared.serve.Served.{Served}
use Rattle.proxy_api.specs.Signing.{SendsRest}
use Rattle.proxy_api.proofs.SendLemmas.{rest_front, rest_whole}
use Rattle.proxy_api.proofs.replying.send_rest.Goals as goal

pub returns-in-Ok-clause-sends : goal.returns-in-Ok-clause-sends
returns-in-Ok-clause-sends g c =
    let held = g.L.Link.held in
    let faults = g.L.Link.faults in
    let S : Served → Type 0 = λ s. SendsRest (held c.args.link.now) (held c.hang_up-ended.new.self) (faults c.args.link.now) (faults c.hang_up-ended.new.self) c.args.status c.args.rest.now s in
    subst S (sym c.outcome.ensures) (rest_whole _ _ _ _ _ _ c.args.status c.args.rest.now c.hang_up-ended.result c.in-Ok.ensures.ok c.in-Ok.ensures.cause.later c.hang_up-ended.ensures.held c.hang_up-ended.ensures.cause)

pub returns-in-Err-clause-sends : goal.returns-in-Err-clause-sends
returns-in-Err-clause-sends g c =
    let held = g.L.Link.held in
    let faults = g.L.Link.faults in
    let S : Served → Type 0 = λ s. SendsRest (held c.args.link.now) (held c.drop_link.new.link) (faults c.args.link.now) (faults c.drop_link.new.link) c.args.status c.args.rest.now s in
    subst S (sym c.drop_link.ensures.dropped) (rest_front _ _ _ _ _ _ c.args.status c.args.rest.now c.in-Err.ensures.err c.in-Err.ensures.cause.failed c.drop_link.ensures.held c.drop_link.ensures.later)
