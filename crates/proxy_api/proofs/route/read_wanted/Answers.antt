use Rattle.std.proofs.Common.{Result, sym, ap, ◌∙◌, subst}
use Rattle.std.specs.Prelude.{option_map}
use Rattle.keymanager_routes.specs.Stops.{Gives}
use Rattle.keymanager_routes.specs.declared.refusal.Refusal.{Refusal}
use Rattle.proxy_api.specs.Routes.{by_open}
use Rattle.proxy_api.specs.declared.route.Wanted.{Wanted}
use Rattle.proxy_api.proofs.route.read_wanted.Goals as goal

pub returns-in-Some : goal.returns-in-Some
returns-in-Some c =
    let named = c.open_to_all.ensures c.args.token.now c.args.request.now (sym c.as_slice.ensures.value) in
    let same = sym (ap (λ o. by_open c.args.token.now c.args.request.now (option_map (λ x. (x.0.now, x.1)) o)) (sym c.in-Some.is)) in
    subst (λ (w : Result Wanted Refusal). Gives c.by_method.result w) (sym (named ∙ same)) c.by_method.ensures
