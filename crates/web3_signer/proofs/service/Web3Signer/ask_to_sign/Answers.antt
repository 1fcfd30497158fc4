use Rattle.std.proofs.Common.{◌∙◌, refl, codes}
use Rattle.signer_link.specs.declared.reply.SignReply.TheVariants as reply
use Rattle.web3_signer.specs.Readings.{sign_reading}
use Rattle.web3_signer.specs.Web3.{sign_path}
use Rattle.web3_signer.proofs.Web3Lemmas.{called, uncalled}
use Rattle.web3_signer.proofs.service.Web3Signer.ask_to_sign.Goals as goal

pub returns-in-Err-clause-asks : goal.returns-in-Err-clause-asks
returns-in-Err-clause-asks g c = uncalled _ _ _ _ _ _

pub returns-clause-asks : goal.returns-clause-asks
returns-clause-asks g c =
    called sign_reading reply.OutOfMemory c.args.self.now.url (codes "POST") (sign_path c.args.key.now) c.args.body.items _ c.args.body.items _ _ _ _ _ _ c.call-response.result c.sign_reply.result
    (c.as_str.ensures.value ∙ c.in-Ok.ensures) refl c.call-response.ensures c.sign_reply.ensures
