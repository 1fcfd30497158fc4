use Rattle.std.proofs.Common.{◌∙◌, ap}
use Rattle.serde_json.specs.Written.{has_float, compact_text}
use Rattle.web3_signer.specs.Web3.{sign_body}
use Rattle.web3_signer.proofs.BodyLemmas.{sign_plain_numbers}
use Rattle.web3_signer.proofs.requests.sign_body.Goals as goal

pub returns : goal.returns
unfolding sign_body
returns c = ap (λ v. v.items) c.into_bytes.ensures.value ∙ c.in_ok-text.ensures.text (ap has_float c.in_ok-sign_value.ensures ∙ sign_plain_numbers c.args.request.now c.args.message.now) ∙ ap compact_text c.in_ok-sign_value.ensures
