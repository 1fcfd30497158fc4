use Rattle.std.proofs.Common.{◌∙◌, ap}
use Rattle.std.proofs.lemmas.List.Elements.{All-get_or}
use Rattle.duty_plans.specs.Messages.{vote_message}
use Rattle.duty_work.specs.Known.{IsKnown}
use Rattle.duty_work.proofs.recording.known_for.Goals as goal

pub returns-then-is_same : goal.returns-then-is_same
returns-then-is_same c = λ domains all. All-get_or (IsKnown domains) c.args.known.now c.known.data-index _ c.known-test.true all ∙ ap (λ x. vote_message domains x) (c.is_same.ensures c.if-is_same.true)
