use Rattle.std.proofs.Common.{refl, codes}
use Rattle.signer_link.specs.declared.reply.ImportReply.TheVariants as reply
use Rattle.web3_signer.specs.Readings.{import_reading}
use Rattle.web3_signer.specs.Web3.{keystores_path, import_body}
use Rattle.web3_signer.proofs.Web3Lemmas.{called, told_means, uncalled}
use Rattle.web3_signer.proofs.service.Web3SignerSigner.import.Goals as goal

pub returns-in-Err-clause-asks : goal.returns-in-Err-clause-asks
returns-in-Err-clause-asks g c = uncalled _ _ _ _ _ _

pub returns-then-is_err-clause-asks : goal.returns-then-is_err-clause-asks
returns-then-is_err-clause-asks g c = uncalled _ _ _ _ _ _

pub returns-clause-asks : goal.returns-clause-asks
returns-clause-asks g c =
    called import_reading reply.OutOfMemory c.args.self.now.url (codes "POST") keystores_path (import_body c.args.keystore.now c.args.password.now) _ _ _ _ _ _ _ _ c.call-response.result c.tell_import-answer.result
    refl c.in-Ok.ensures c.call-response.ensures
    (told_means (import_reading c.call-response.result) reply.OutOfMemory c.import_reply-answer.result c.tell_import-answer.result c.import_reply-answer.ensures c.tell_import-answer.ensures.answer)
