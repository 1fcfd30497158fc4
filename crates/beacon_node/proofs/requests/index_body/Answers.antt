use Rattle.std.proofs.Common.{◌∙◌, ap}
use Rattle.serde_json.specs.Written.{has_float, compact_text}
use Rattle.beacon_node.specs.Requests.{index_body}
use Rattle.beacon_node.proofs.PlainLemmas.{numbers_plain}
use Rattle.beacon_node.proofs.requests.index_body.Goals as goal

pub returns : goal.returns
unfolding index_body
returns c = ap (λ v. v.items) c.into_bytes.ensures.value ∙ c.in_ok-text.ensures.text (ap has_float c.in_ok-index_value.ensures ∙ numbers_plain c.args.indices.now) ∙ ap compact_text c.in_ok-index_value.ensures
