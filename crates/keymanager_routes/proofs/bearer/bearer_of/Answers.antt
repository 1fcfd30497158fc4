use Rattle.std.proofs.Common.{Some, ap, ◌∙◌}
use Rattle.keymanager_routes.proofs.TokenLemmas.{borne, borne_none}
use Rattle.keymanager_routes.proofs.bearer.bearer_of.Goals as goal

pub returns-in-Some : goal.returns-in-Some
returns-in-Some c = ap Some c.rest_of.ensures ∙ borne c.args.fields.now c.in-Some.field.now c.in-Some.ensures

pub returns-in-None : goal.returns-in-None
returns-in-None c = borne_none c.args.fields.now c.in-None.ensures
