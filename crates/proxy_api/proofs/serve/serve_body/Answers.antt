use Rattle.std.proofs.Common.{◌≡◌, None, Ok, Err, sym, ap, subst}
use Rattle.http_wire.specs.declared.message.WireFault.TheVariants as fault
use Rattle.http_wire.proofs.ListenLemmas.{Stays-trans}
use Rattle.keymanager_api.specs.Serving.{Sends}
use Rattle.keymanager_api.specs.declared.serve.Served.{Served}
use Rattle.keymanager_api.proofs.ReadingLemmas.{asks_stays, reads_behind, reads_unasked}
use Rattle.keymanager_api.proofs.RunLemmas.{ran_cut, ran_faulty}
use Rattle.keymanager_api.proofs.ServeLemmas.{both_later, dropped, rose_after}
use Rattle.proxy_api.specs.Routes.{wanted_for}
use Rattle.proxy_api.proofs.WantedLemmas.{does_behind}
use Rattle.proxy_api.proofs.serve.serve_body.Goals as goal

pub returns-in-Err-clause-serves : goal.returns-in-Err-clause-serves
returns-in-Err-clause-serves g c = λ token before h passes.
    let reads = reads_unasked (wanted_for token) c.args.head c.args.wanted passes _ _ _ _ _ h.took h.held c.in-Err.ensures.err in
    let S : Served → Type 0 = λ s. Sends (g.L.Link.held c.ask_for_body.new.link) (g.L.Link.held c.drop_link.new.link) before.faults (g.L.Link.faults c.drop_link.new.link) None s in
    record {
      read = Err fault.Link;
      left = g.L.Link.left c.args.link.now;
      took = reads.took;
      held = g.L.Link.held c.ask_for_body.new.link;
      continued = reads.continued;
      does = record {
        reply = None;
        ran = ran_cut g.K.DeskCalls.leads g.met.K.DeskCalls.leads_none _ _;
        sends = subst S (sym c.drop_link.ensures.dropped) (dropped _ _ before.faults _ _ c.drop_link.ensures.held (rose_after _ _ _ h.later c.in-Err.ensures.cause.failed) c.drop_link.ensures.later);
      };
      failed = λ e. c.drop_link.ensures.dropped;
    }

pub returns-in-Ok-read_request_body-clause-serves : goal.returns-in-Ok-read_request_body-clause-serves
returns-in-Ok-read_request_body-clause-serves g c = λ token before h passes.
    let request = c.in-Ok-read_request_body.request in
    let body = c.in-Ok-read_request_body.ensures in
    let reads = reads_behind (wanted_for token) c.args.head c.args.wanted passes _ _ _ _ _ _ _ (Ok request) h.took c.ask_for_body.ensures.speaks.left body.step h.held (asks_stays _ _ _ _ c.in-Ok.ensures.ok body.listens.held) in
    record {
      read = Ok request;
      left = g.L.Link.left c.read_request_body.new.link;
      took = reads.took;
      held = g.L.Link.held c.read_request_body.new.link;
      continued = reads.continued;
      does = does_behind g.K.DeskCalls.leads token c.args.genesis.now c.args.now _ _ _ _ _ _ _ c.args.head request c.args.wanted body.step.holds.0 passes
          (c.do_wanted.ensures.does before.faults (both_later _ _ _ h.later (both_later _ _ _ c.ask_for_body.ensures.speaks.later body.listens.later)));
      failed = λ e. cc;
    }

pub returns-in-Err-read_request_body-clause-serves : goal.returns-in-Err-read_request_body-clause-serves
returns-in-Err-read_request_body-clause-serves g c = λ token before h passes.
    let f = c.in-Err-read_request_body.fault in
    let body = c.in-Err-read_request_body.ensures in
    let ends = c.finish_faulty.ensures.ends in
    let reads = reads_behind (wanted_for token) c.args.head c.args.wanted passes _ _ _ _ _ _ _ (Err f) h.took c.ask_for_body.ensures.speaks.left body.step h.held (asks_stays _ _ _ _ c.in-Ok.ensures.ok body.listens.held) in
    record {
      read = Err f;
      left = g.L.Link.left c.read_request_body.new.link;
      took = reads.took;
      held = g.L.Link.held c.read_request_body.new.link;
      continued = reads.continued;
      does = record {
        reply = ends.reply;
        ran = ran_faulty g.K.DeskCalls.leads g.met.K.DeskCalls.leads_none _ f ends.reply ends.plan;
        sends = ends.sends _ (both_later _ _ _ h.later (both_later _ _ _ c.ask_for_body.ensures.speaks.later body.listens.later)) (λ is. rose_after _ _ _ (both_later _ _ _ h.later c.ask_for_body.ensures.speaks.later) (body.fault (ap Err is)));
      };
      failed = λ e. ends.failed (let is : f ≡ fault.Link = cc in is);
    }

pub returns-in-Err-clause-coming : goal.returns-in-Err-clause-coming
returns-in-Err-clause-coming g c = Stays-trans _ _ _ c.in-Err.ensures.speaks.coming c.drop_link.ensures.coming

pub returns-in-Ok-read_request_body-clause-coming : goal.returns-in-Ok-read_request_body-clause-coming
returns-in-Ok-read_request_body-clause-coming g c = Stays-trans _ _ _ c.in-Ok.ensures.speaks.coming (Stays-trans _ _ _ c.in-Ok-read_request_body.ensures.listens.coming c.do_wanted.ensures.coming)

pub returns-in-Err-read_request_body-clause-coming : goal.returns-in-Err-read_request_body-clause-coming
returns-in-Err-read_request_body-clause-coming g c = Stays-trans _ _ _ c.in-Ok.ensures.speaks.coming (Stays-trans _ _ _ c.in-Err-read_request_body.ensures.listens.coming c.finish_faulty.ensures.coming)
