use Rattle.std.proofs.Common.{◌∙◌, ap, refl}
use Rattle.matchit.specs.Router.{RouteOf}
use Rattle.matchit.specs.Rows.{RowsOf}
use Rattle.matchit.specs.Order.{placed}
use Rattle.matchit.proofs.OnLiterals.{matchit_on_literals}
use Rattle.keymanager_routes.proofs.RouteLemmas.{routed}
use Rattle.keymanager_routes.proofs.route.routes.Goals as goal

pub returns-in-Ok : goal.returns-in-Ok
unfolding matchit_on_literals
returns-in-Ok c = λ path.
    let a = c.in-Ok.ensures in
    routed c.insert.new.self _ path refl (rw c.new-routes.ensures at a.1)
