use Rattle.std.proofs.Common.{Some, None, lit<}
use Rattle.std.proofs.lemmas.Str.Pattern.{strip_suffix_char}
use Rattle.plan_places.proofs.LineEnds.{without_line_end-there, without_line_end-absent}
use Rattle.plan_places.proofs.token_file.without_line_end.Goals as goal

pub returns-in-Some : goal.returns-in-Some
returns-in-Some c = without_line_end-there c.in-Some.line.now c.without_return.result.now c.args.text.now (strip_suffix_char 10 c.args.text.now (Some c.in-Some.line) c.in-Some.ensures.cases (lit< tt)) c.without_return.ensures

pub returns-in-None : goal.returns-in-None
returns-in-None c = without_line_end-absent c.args.text.now (strip_suffix_char 10 c.args.text.now None c.in-None.ensures.cases (lit< tt))
