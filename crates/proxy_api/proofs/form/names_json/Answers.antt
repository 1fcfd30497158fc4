use Rattle.std.proofs.Common.{ap, ◌∙◌}
use Rattle.std.specs.Prelude.{is_some}
use Rattle.memchr.proofs.lemmas.ValueLemmas.{FindsNeedle-value}
use Rattle.proxy_api.proofs.form.names_json.Goals as goal

pub returns : goal.returns
returns c = c.is_some.ensures ∙ ap is_some (FindsNeedle-value c.args.value.now _ c.find.result c.find.ensures)
