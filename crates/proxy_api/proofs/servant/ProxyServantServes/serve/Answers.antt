use Rattle.std.proofs.Common.{ap, refl, subst, ◌∙◌}
use Rattle.client_calls.specs.Seats.{at_seat, signer_seen}
use Rattle.duty_turns.specs.Times.{epoch_of}
use Rattle.keymanager_api.specs.Doors.{link_seen}
use Rattle.proxy_api.specs.Signing.{SignServes}
use Rattle.proxy_api.proofs.servant.ProxyServantServes.serve.Goals as goal

pub returns-clause-serves : goal.returns-clause-serves
returns-clause-serves g c =
    let see = link_seen g.L.Link.left g.L.Link.held g.L.Link.faults in
    let shows = signer_seen g.S.Signer.told g.S.Signer.faults g.S.Signer.denials in
    let before = at_seat c.args.self.now.desk (shows c.args.self.now.signer) in
    let answered = at_seat c.sign_connection.new.desk (shows c.sign_connection.new.signer) in (
      refl,
      record {
        moment = c.now-moment.result;
        shown = c.now-moment.ensures;
        served = c.sign_connection.result;
        answered = answered;
        serves =
            subst (λ n. SignServes g.K.DeskCalls.leads c.args.self.now.token.now c.args.self.now.genesis n (see c.args.connection.now) (see c.sign_connection.new.link) before answered c.sign_connection.result)
            (c.epoch_of-now.ensures.epoch ∙ ap epoch_of c.slot_of.ensures) c.sign_connection.ensures.serves;
        asked = c.has_failed.ensures.asked;
        signer = refl {a = shows c.sign_connection.new.signer};
      },
    )
