use Rattle.std.proofs.Common.{◌++◌, ◌∙◌, ap}
use Rattle.std.proofs.lemmas.Result.{IfOk-weaker}
use Rattle.std.specs.Prelude.{codes, decimal}
use Rattle.keymanager_routes.proofs.refusal.lists_text.Goals as goal

pub returns : goal.returns
returns c =
    let front = c.in_ok-text-2.ensures ∙ ap (λ t. t ++ decimal c.args.keystores ++ codes " keystores, ") c.in_ok-text.ensures.ok in
    IfOk-weaker c.with_count-2.result _ _ (λ text h. h ∙ ap (λ t. t ++ decimal c.args.passwords ++ codes " passwords") front) c.with_count-2.ensures
