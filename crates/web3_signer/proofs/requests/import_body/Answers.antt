use Rattle.std.proofs.Common.{◌∙◌, ap}
use Rattle.serde_json.specs.Written.{has_float, compact_text}
use Rattle.web3_signer.specs.Web3.{import_body}
use Rattle.web3_signer.proofs.requests.import_body.Goals as goal

pub returns : goal.returns
unfolding import_body
returns c = ap (λ v. v.items) c.into_bytes.ensures.value ∙ c.in_ok-text.ensures.text (ap has_float c.in_ok-import_value.ensures) ∙ ap compact_text c.in_ok-import_value.ensures
