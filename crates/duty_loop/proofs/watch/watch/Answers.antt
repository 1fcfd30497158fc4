use Rattle.std.proofs.Common.{◌≡◌, true, arith}
use Rattle.duty_loop.proofs.LiveLemmas.{watched}
use Rattle.duty_loop.proofs.watch.watch.Goals as goal

pub returns-clause-runs : goal.returns-clause-runs
returns-clause-runs g c = λ start lanes s h. watched g.K.DeskCalls.leads g.met.K.DeskCalls.leads_none start c.args.watches c.args.listed.now s _ _ _ (let on : c.args.watches ≡ true = grind arith in on) (c.watch_epochs.ensures.runs start lanes s h)
