use Rattle.std.proofs.Common.{refl, codes}
use Rattle.signer_link.specs.declared.reply.DeleteReply.TheVariants as reply
use Rattle.web3_signer.specs.Readings.{delete_reading}
use Rattle.web3_signer.specs.Web3.{keystores_path, delete_body}
use Rattle.web3_signer.proofs.Web3Lemmas.{called, told_means, uncalled}
use Rattle.web3_signer.proofs.service.Web3SignerSigner.delete.Goals as goal

pub returns-in-Err-clause-asks : goal.returns-in-Err-clause-asks
returns-in-Err-clause-asks g c = uncalled _ _ _ _ _ _

pub returns-then-is_err-clause-asks : goal.returns-then-is_err-clause-asks
returns-then-is_err-clause-asks g c = uncalled _ _ _ _ _ _

pub returns-clause-asks : goal.returns-clause-asks
returns-clause-asks g c =
    called delete_reading reply.OutOfMemory c.args.self.now.url (codes "DELETE") keystores_path (delete_body c.args.key.now) _ _ _ _ _ _ _ _ c.call-response.result c.tell_delete-answer.result
    refl c.in-Ok.ensures c.call-response.ensures
    (told_means (delete_reading c.call-response.result) reply.OutOfMemory c.delete_reply-answer.result c.tell_delete-answer.result c.delete_reply-answer.ensures c.tell_delete-answer.ensures.answer)
