use Rattle.std.proofs.Common.{subst, sym}
use Rattle.std.specs.Result.{result_ok}
use Rattle.keymanager_api.specs.Serving.{Sends}
use Rattle.keymanager_api.specs.declared.serve.Served.{Served}
use Rattle.keymanager_api.proofs.ServeLemmas.{finished}
use Rattle.keymanager_api.proofs.serve.finish.Goals as goal

pub returns-clause-sends : goal.returns-clause-sends
returns-clause-sends g c =
    let S : Served → Type 0 = λ s. Sends (g.L.Link.held c.args.link.now) (g.L.Link.held c.hang_up-ended.new.self) (g.L.Link.faults c.args.link.now) (g.L.Link.faults c.hang_up-ended.new.self) (result_ok c.args.reply) s in
    subst S (sym c.outcome.ensures) (finished _ _ _ _ _ _ _ _ _ c.send_reply-sent.ensures.sends c.send_reply-sent.ensures.cause c.hang_up-ended.ensures.held c.hang_up-ended.ensures.cause)
