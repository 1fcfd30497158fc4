use Rattle.std.proofs.Common.{◌≡◌, None, Ok, Err, ap, sym, ◌∙◌}
use Rattle.std.specs.Result.{result_ok}
use Rattle.http_wire.specs.declared.message.WireFault.TheVariants as fault
use Rattle.keymanager_routes.specs.Refusals.{refusal_reply}
use Rattle.keymanager_api.proofs.ReadingLemmas.{reads_refused, reads_unchecked}
use Rattle.keymanager_api.proofs.RunLemmas.{at_most, ran_cut, ran_none}
use Rattle.keymanager_api.proofs.ServeLemmas.{sends_later}
use Rattle.proxy_api.specs.Routes.{wanted_for}
use Rattle.proxy_api.proofs.WantedLemmas.{does_refused}
use Rattle.proxy_api.proofs.serve.serve_head.Goals as goal

pub returns-in-Ok-clause-serves : goal.returns-in-Ok-clause-serves
returns-in-Ok-clause-serves g c = λ before h.
    let same = ap (λ token. wanted_for token c.args.head) c.as_bytes.ensures.value in
    c.serve_body.ensures.serves c.args.token.now before h (sym same ∙ c.in-Ok.ensures)

pub returns-in-Err-Refused-clause-serves : goal.returns-in-Err-Refused-clause-serves
returns-in-Err-Refused-clause-serves g c = λ before h.
    let same = ap (λ token. wanted_for token c.args.head) c.as_bytes.ensures.value in
    let refusal = c.in-Err-Refused.refusal in
    let said = rw c.in-Err-Refused.field-0-is at c.in-Err-Refused.ensures in
    let fails : wanted_for c.args.token.now c.args.head ≡ Err refusal = sym same ∙ said in
    let reads = reads_refused (wanted_for c.args.token.now) _ _ _ _ c.args.head refusal h.took h.empty fails h.held in
    record {
      read = Ok c.args.head;
      left = g.L.Link.left c.args.link.now;
      took = reads.took;
      held = g.L.Link.held c.args.link.now;
      continued = reads.continued;
      does = does_refused g.K.DeskCalls.leads c.args.token.now c.args.genesis.now c.args.now _ _ _ _ _ _ _ c.args.head refusal fails (record {
        reply = result_ok c.reply.result;
        ran = ran_none g.K.DeskCalls.leads g.met.K.DeskCalls.leads_none _ (refusal_reply refusal) _ (at_most c.reply.result (refusal_reply refusal) c.reply.ensures);
        sends = sends_later _ _ _ _ _ _ _ h.later c.finish.ensures.sends;
      });
      failed = λ e. cc;
    }

pub returns-clause-serves : goal.returns-clause-serves
returns-clause-serves g c = λ before h.
    let reads = reads_unchecked (wanted_for c.args.token.now) _ _ _ _ c.args.head h.took h.held in
    record {
      read = Err fault.OutOfMemory;
      left = g.L.Link.left c.args.link.now;
      took = reads.took;
      held = g.L.Link.held c.args.link.now;
      continued = reads.continued;
      does = record {
        reply = None;
        ran = ran_cut g.K.DeskCalls.leads g.met.K.DeskCalls.leads_none _ _;
        sends = sends_later _ _ _ _ _ _ _ h.later c.finish-in-Err-Memory.ensures.sends;
      };
      failed = λ e. cc;
    }
