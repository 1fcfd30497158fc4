use Rattle.std.proofs.Common.{ap, ◌∙◌}
use Rattle.serde_json.specs.Written.{compact_text, has_float}
use Rattle.proxy_api.proofs.ListingLemmas.{keys_plain, reply_of}
use Rattle.proxy_api.proofs.listing.keys_reply.Goals as goal

pub returns : goal.returns
returns c = reply_of _ _ (c.from_vec.ensures ∙ ap (λ v. v.items) c.into_bytes.ensures.value ∙ c.in_ok-text.ensures.text (ap has_float c.in_ok-keys_value.ensures ∙ keys_plain c.args.keys.now) ∙ ap compact_text c.in_ok-keys_value.ensures)
