use Rattle.std.proofs.Common.{Some, None}
use Rattle.std.proofs.lemmas.Str.Pattern.{strip_prefix_char}
use Rattle.service_url.proofs.EndLemmas.{strip_first-there, strip_first-absent}
use Rattle.service_url.proofs.ends.without_first.Goals as goal

pub returns-in-Some : goal.returns-in-Some
returns-in-Some c = strip_first-there c.args.first c.in-Some.rest.now c.args.text.now (strip_prefix_char c.args.first c.args.text.now (Some c.in-Some.rest) (c.in-Some.ensures.cases) c.requires)

pub returns-in-None : goal.returns-in-None
returns-in-None c = strip_first-absent c.args.first c.args.text.now (strip_prefix_char c.args.first c.args.text.now None c.in-None.ensures.cases c.requires)
