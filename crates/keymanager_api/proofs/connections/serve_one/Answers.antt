use Rattle.std.proofs.Common.{ap, refl, subst, ◌∙◌}
use Rattle.client_calls.specs.Seats.{at_seat, signer_seen}
use Rattle.duty_turns.specs.Times.{epoch_of}
use Rattle.keymanager_api.specs.Serving.{Serves}
use Rattle.keymanager_api.specs.Doors.{link_seen}
use Rattle.keymanager_api.proofs.connections.serve_one.Goals as goal

pub returns-clause-handles : goal.returns-clause-handles
returns-clause-handles g c =
    let see = link_seen g.R.Conn.Link.left g.R.Conn.Link.held g.R.Conn.Link.faults in
    let shows = signer_seen g.S.Signer.told g.S.Signer.faults g.S.Signer.denials in
    let before = at_seat c.args.desk.now (shows c.args.signer.now) in
    let answered = at_seat c.serve_connection.new.desk (shows c.serve_connection.new.signer) in
    record {
      moment = c.now-moment.result;
      shown = c.now-moment.ensures;
      finished = c.serve_connection.new.link;
      served = c.serve_connection.result;
      answered = answered;
      serves =
          subst (λ n. Serves g.K.DeskCalls.leads c.args.wanted.token.now n (see c.args.conn) (see c.serve_connection.new.link) before answered c.serve_connection.result)
          (c.epoch_of-now.ensures.epoch ∙ ap epoch_of c.slot_of.ensures) c.serve_connection.ensures.serves;
      takes_back = c.finish.ensures.finished;
      coming = c.finish.ensures.coming;
      faults = c.finish.ensures.faults;
      asked = c.has_failed.ensures.asked;
      signer = refl {a = shows c.serve_connection.new.signer};
    }
