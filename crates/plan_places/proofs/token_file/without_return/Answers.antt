use Rattle.std.proofs.Common.{Some, None, lit<}
use Rattle.std.proofs.lemmas.Str.Pattern.{strip_suffix_char}
use Rattle.plan_places.proofs.LineEnds.{strip_last-there, strip_last-absent}
use Rattle.plan_places.proofs.token_file.without_return.Goals as goal

pub returns-in-Some : goal.returns-in-Some
returns-in-Some c = strip_last-there 13 c.in-Some.front.now c.args.line.now (strip_suffix_char 13 c.args.line.now (Some c.in-Some.front) c.in-Some.ensures.cases (lit< tt))

pub returns-in-None : goal.returns-in-None
returns-in-None c = strip_last-absent 13 c.args.line.now (strip_suffix_char 13 c.args.line.now None c.in-None.ensures.cases (lit< tt))
