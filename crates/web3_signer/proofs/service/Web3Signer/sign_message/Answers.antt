use Rattle.std.proofs.Common.{◌∙◌, ap, codes, subst}
use Rattle.edge_kit.specs.Tellings.{Tells}
use Rattle.signer_link.specs.Keeping.{kept, told_ready}
use Rattle.signer_link.specs.Signing.{asked as asked_call, told_sign}
use Rattle.signer_link.specs.declared.reply.SignReply.TheVariants as reply
use Rattle.web3_signer.specs.Readings.{sign_reading}
use Rattle.web3_signer.specs.Web3.{sign_path, sign_body}
use Rattle.web3_signer.proofs.Web3Lemmas.{asked, ready_told, uncalled}
use Rattle.web3_signer.proofs.service.Web3Signer.sign_message.Goals as goal

pub returns-in-Err-clause-asks : goal.returns-in-Err-clause-asks
returns-in-Err-clause-asks g c = uncalled _ _ _ _ _ _

pub returns-then-is_err-clause-asks : goal.returns-then-is_err-clause-asks
returns-then-is_err-clause-asks g c = uncalled _ _ _ _ _ _

pub returns-in-Err-sign_call-clause-asks : goal.returns-in-Err-sign_call-clause-asks
returns-in-Err-sign_call-clause-asks g c = uncalled _ _ _ _ _ _

pub returns-clause-told : goal.returns-clause-told
returns-clause-told g c =
    let same = ap kept c.ask_to_sign-answer.ensures.told ∙ c.make_room.ensures.kept in
    ready_told told_sign c.args.self.now.told c.in-Ok-sign_call.call (asked_call c.args.key.now c.args.message.now c.args.request.now) c.tell_sign-answer.result (kept c.tell_sign-answer.new.told) c.in-Ok-sign_call.ensures
    (subst (λ k. Tells k (kept c.tell_sign-answer.new.told) (told_ready c.in-Ok-sign_call.call c.tell_sign-answer.result)) same c.tell_sign-answer.ensures.told)

pub returns-clause-asks : goal.returns-clause-asks
returns-clause-asks g c =
    asked sign_reading reply.OutOfMemory c.args.self.now.url (codes "POST") (sign_path c.args.key.now) (sign_body c.args.request.now c.args.message.now) _ _ _ _ _ _ _ _ _
    c.in-Ok.ensures c.ask_to_sign-answer.ensures.asks c.tell_sign-answer.ensures.answer
