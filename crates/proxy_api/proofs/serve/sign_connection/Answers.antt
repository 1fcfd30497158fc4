use Rattle.std.proofs.Common.{◌≡◌, Err, ap}
use Rattle.http_wire.specs.declared.message.WireFault.TheVariants as fault
use Rattle.http_wire.proofs.ListenLemmas.{Stays-trans}
use Rattle.keymanager_api.specs.Doors.{link_seen}
use Rattle.keymanager_api.proofs.ReadingLemmas.{reads_headless}
use Rattle.keymanager_api.proofs.RunLemmas.{ran_faulty}
use Rattle.proxy_api.specs.Routes.{wanted_for}
use Rattle.proxy_api.proofs.serve.sign_connection.Goals as goal

pub returns-in-Ok-clause-serves : goal.returns-in-Ok-clause-serves
returns-in-Ok-clause-serves g c =
    let see = link_seen g.L.Link.left g.L.Link.held g.L.Link.faults in
    c.serve_head.ensures.serves (see c.args.link.now)
    (record { took = c.in-Ok.ensures.step; empty = c.in-Ok.ensures.body; held = c.in-Ok.ensures.listens.held; later = c.in-Ok.ensures.listens.later })

pub returns-in-Ok-clause-coming : goal.returns-in-Ok-clause-coming
returns-in-Ok-clause-coming g c = Stays-trans _ _ _ c.in-Ok.ensures.listens.coming c.serve_head.ensures.coming

pub returns-in-Err-clause-serves : goal.returns-in-Err-clause-serves
returns-in-Err-clause-serves g c =
    let reads = reads_headless (wanted_for c.args.token.now) _ _ _ _ c.in-Err.fault c.in-Err.ensures.step c.in-Err.ensures.bound c.in-Err.ensures.listens.held in
    let ends = c.finish_faulty.ensures.ends in
    record {
      read = Err c.in-Err.fault;
      left = g.L.Link.left c.read_request_head.new.link;
      took = reads.took;
      held = g.L.Link.held c.read_request_head.new.link;
      continued = reads.continued;
      does = record {
        reply = ends.reply;
        ran = ran_faulty g.K.DeskCalls.leads g.met.K.DeskCalls.leads_none _ c.in-Err.fault ends.reply ends.plan;
        sends = ends.sends _ c.in-Err.ensures.listens.later (λ is. c.in-Err.ensures.fault (ap Err is));
      };
      failed = λ e. ends.failed (let is : c.in-Err.fault ≡ fault.Link = cc in is);
    }

pub returns-in-Err-clause-coming : goal.returns-in-Err-clause-coming
returns-in-Err-clause-coming g c = Stays-trans _ _ _ c.in-Err.ensures.listens.coming c.finish_faulty.ensures.coming
