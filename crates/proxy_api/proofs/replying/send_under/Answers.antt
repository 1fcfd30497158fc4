use Rattle.std.proofs.Common.{true}
use Rattle.std.proofs.lemmas.List.{take_rest}
use Rattle.proxy_api.proofs.SendLemmas.{text_begun}
use Rattle.proxy_api.proofs.replying.send_under.Goals as goal

pub returns-in-Ok-clause-sends : goal.returns-in-Ok-clause-sends
returns-in-Ok-clause-sends g c = record {
  begun = true;
  sends = text_begun _ _ _ _ _ _ 200 c.args.text.now _ c.in-Ok.count c.send_rest.result (c.in-Ok.ensures.some c.requires.some) (take_rest c.args.text.now c.in-Ok.count) c.in-Ok.ensures.bytes c.in-Ok.ensures.cause.later c.send_rest.ensures.sends;
  settles = c.settle.ensures.leads;
}
