use Rattle.std.proofs.Common.{codes}
use Rattle.std.proofs.lemmas.Str.Pattern.{starts_text}
use Rattle.plan_places.proofs.token_file.is_joined.Goals as goal

pub returns : goal.returns
returns c = starts_text c.starts_with.result (codes "--token-file=") c.args.word.now c.starts_with.ensures.cases
