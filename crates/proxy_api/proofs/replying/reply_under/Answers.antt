use Rattle.std.proofs.Common.{false, refl, ◌∙◌}
use Rattle.proxy_api.specs.Forms.{signed_text}
use Rattle.proxy_api.proofs.SendLemmas.{memory_said, under_said}
use Rattle.proxy_api.proofs.replying.reply_under.Goals as goal

pub returns-in-Ok-clause-settles : goal.returns-in-Ok-clause-settles
returns-in-Ok-clause-settles g c = λ s. under_said g.K.DeskCalls.leads _ _ _ _ (signed_text c.args.form c.args.signature.now) c.as_slice.result.now c.args.grant _ _ c.send_under.result (c.as_slice.ensures.value ∙ c.in-Ok.ensures.text) c.send_under.ensures.sends s

pub returns-in-Err-clause-settles : goal.returns-in-Err-clause-settles
returns-in-Err-clause-settles g c = λ s. record {
  begun = false;
  sends = memory_said _ _ _ _ c.finish.result c.finish.ensures.sends;
  settles = c.settle.ensures.leads;
  signer = refl;
}
