use Rattle.std.proofs.Common.{◌==◌, sym}
use Rattle.keymanager_routes.proofs.RouteLemmas.{before_found, before_none}
use Rattle.keymanager_routes.proofs.route.path_of.Goals as goal

pub returns-in-Some : goal.returns-in-Some
returns-in-Some c = before_found (λ byte. byte == 63) c.args.target.now c.in-Some.end (sym c.in-Some.ensures)

pub returns-in-None : goal.returns-in-None
returns-in-None c = before_none (λ byte. byte == 63) c.args.target.now (sym c.in-None.ensures)
