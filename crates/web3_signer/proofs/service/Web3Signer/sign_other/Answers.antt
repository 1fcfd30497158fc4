use Rattle.std.proofs.Common.{◌∙◌, ap, codes, subst}
use Rattle.edge_kit.specs.Tellings.{Tells}
use Rattle.signer_link.specs.Keeping.{kept, told_plain_ready}
use Rattle.signer_link.specs.Signing.{plainly_asked, told_plain}
use Rattle.signer_link.specs.declared.reply.SignReply.TheVariants as reply
use Rattle.web3_signer.specs.Readings.{sign_reading}
use Rattle.web3_signer.specs.Web3.{sign_path, plain_body}
use Rattle.web3_signer.proofs.Web3Lemmas.{asked, ready_told, uncalled}
use Rattle.web3_signer.proofs.service.Web3Signer.sign_other.Goals as goal

pub returns-in-Err-clause-asks : goal.returns-in-Err-clause-asks
returns-in-Err-clause-asks g c = uncalled _ _ _ _ _ _

pub returns-then-is_err-clause-asks : goal.returns-then-is_err-clause-asks
returns-then-is_err-clause-asks g c = uncalled _ _ _ _ _ _

pub returns-in-Err-plain_call-clause-asks : goal.returns-in-Err-plain_call-clause-asks
returns-in-Err-plain_call-clause-asks g c = uncalled _ _ _ _ _ _

pub returns-clause-told : goal.returns-clause-told
returns-clause-told g c =
    let same = ap kept c.ask_to_sign-answer.ensures.told ∙ c.make_room.ensures.kept in
    ready_told told_plain c.args.self.now.told c.in-Ok-plain_call.call (plainly_asked c.args.key.now c.args.request.now) c.tell_plain-answer.result (kept c.tell_plain-answer.new.told) c.in-Ok-plain_call.ensures
    (subst (λ k. Tells k (kept c.tell_plain-answer.new.told) (told_plain_ready c.in-Ok-plain_call.call c.tell_plain-answer.result)) same c.tell_plain-answer.ensures.told)

pub returns-clause-asks : goal.returns-clause-asks
returns-clause-asks g c =
    asked sign_reading reply.OutOfMemory c.args.self.now.url (codes "POST") (sign_path c.args.key.now) (plain_body c.args.request.now) _ _ _ _ _ _ _ _ _
    c.in-Ok.ensures c.ask_to_sign-answer.ensures.asks c.tell_plain-answer.ensures.answer
