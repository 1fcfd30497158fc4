use Rattle.std.proofs.Common.{Some, None}
use Rattle.std.proofs.lemmas.Str.Pattern.{strip_suffix_char}
use Rattle.service_url.proofs.EndLemmas.{strip_last-there, strip_last-absent}
use Rattle.service_url.proofs.ends.without_last.Goals as goal

pub returns-in-Some : goal.returns-in-Some
returns-in-Some c = strip_last-there c.args.last c.in-Some.front.now c.args.text.now (strip_suffix_char c.args.last c.args.text.now (Some c.in-Some.front) (c.in-Some.ensures.cases) c.requires)

pub returns-in-None : goal.returns-in-None
returns-in-None c = strip_last-absent c.args.last c.args.text.now (strip_suffix_char c.args.last c.args.text.now None c.in-None.ensures.cases c.requires)
