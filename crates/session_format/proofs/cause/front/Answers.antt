use Rattle.std.proofs.Common.{ap, ◌∙◌, take}
use Rattle.std.proofs.lemmas.List.{take_min}
use Rattle.session_format.proofs.cause.front.Goals as goal

pub returns : goal.returns
returns c = ap (λ n. take n c.args.body.now) c.min.ensures ∙ take_min 256 c.args.body.now
