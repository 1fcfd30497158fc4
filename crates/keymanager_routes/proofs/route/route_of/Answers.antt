use Rattle.std.proofs.Common.{None, subst, ◌≡◌, ◌∙◌, ap, List, ℕ}
use Rattle.std.specs.Str.{IsUtf8}
use Rattle.keymanager_routes.specs.Routes.{route_at}
use Rattle.keymanager_routes.proofs.RouteLemmas.{route_at-no_text}
use Rattle.keymanager_routes.proofs.route.route_of.Goals as goal

pub returns-in-Err : goal.returns-in-Err
returns-in-Err c = route_at-no_text c.path_of.result.now c.in-Err.ensures.cases.0 ∙ ap route_at c.path_of.ensures
