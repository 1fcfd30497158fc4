use Rattle.std.proofs.Common.{◌∙◌, ap}
use Rattle.serde_json.specs.Written.{has_float, compact_text}
use Rattle.beacon_node.specs.Requests.{post_body}
use Rattle.beacon_node.proofs.PlainLemmas.{post_plain}
use Rattle.beacon_node.proofs.requests.post_request.Goals as goal

pub returns-clause-body : goal.returns-clause-body
unfolding post_body
returns-clause-body c = ap (λ v. v.items) c.into_bytes.ensures.value ∙ c.in_ok-text.ensures.text (ap has_float c.in_ok-post_value.ensures ∙ post_plain c.args.post.now) ∙ ap compact_text c.in_ok-post_value.ensures
