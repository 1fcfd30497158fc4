use Rattle.std.proofs.Common.{Ok, refl, sym, subst}
use Rattle.std.specs.Result.{result_ok}
use Rattle.client_calls.specs.Seats.{at_seat, signer_seen}
use Rattle.keymanager_api.proofs.ServeLemmas.{sends_later}
use Rattle.proxy_api.specs.Listing.{upcheck_text}
use Rattle.proxy_api.specs.Signing.{DoesWanted}
use Rattle.proxy_api.specs.declared.route.Wanted.{Wanted}
use Rattle.proxy_api.proofs.SendLemmas.{rest_later}
use Rattle.proxy_api.proofs.serve.do_wanted.Goals as goal

pub returns-in-Keys-clause-does : goal.returns-in-Keys-clause-does
returns-in-Keys-clause-does g c = λ counted l.
    let shows = signer_seen g.S.Signer.told g.S.Signer.faults g.S.Signer.denials in
    let W : Wanted → Type 0 = λ w.
    DoesWanted g.K.DeskCalls.leads c.args.genesis.now c.args.now c.args.request.now (Ok w) (g.L.Link.held c.args.link.now) (g.L.Link.held c.finish.new.link) counted (g.L.Link.faults c.finish.new.link)
    (at_seat c.args.desk.now (shows c.args.signer.now)) (at_seat c.reply_behind-reply.new.desk (shows c.reply_behind-reply.new.signer)) c.finish.result in
    subst W (sym c.in-Keys.is) (record {
      reply = result_ok c.reply_behind-reply.result;
      ran = c.reply_behind-reply.ensures.runs;
      sends = sends_later _ _ counted _ _ _ _ l c.finish.ensures.sends;
    })

pub returns-in-Signature-clause-does : goal.returns-in-Signature-clause-does
returns-in-Signature-clause-does g c = λ counted l.
    let shows = signer_seen g.S.Signer.told g.S.Signer.faults g.S.Signer.denials in
    let W : Wanted → Type 0 = λ w.
    DoesWanted g.K.DeskCalls.leads c.args.genesis.now c.args.now c.args.request.now (Ok w) (g.L.Link.held c.args.link.now) (g.L.Link.held c.sign_wanted.new.link) counted (g.L.Link.faults c.sign_wanted.new.link)
    (at_seat c.args.desk.now (shows c.args.signer.now)) (at_seat c.sign_wanted.new.desk (shows c.sign_wanted.new.signer)) c.sign_wanted.result in
    subst W (sym c.in-Signature.is) (c.sign_wanted.ensures.does counted l)

pub returns-in-PublicKeys-clause-does : goal.returns-in-PublicKeys-clause-does
returns-in-PublicKeys-clause-does g c = λ counted l.
    let shows = signer_seen g.S.Signer.told g.S.Signer.faults g.S.Signer.denials in
    let end = c.finish-in-PublicKeys in
    let W : Wanted → Type 0 = λ w.
    DoesWanted g.K.DeskCalls.leads c.args.genesis.now c.args.now c.args.request.now (Ok w) (g.L.Link.held c.args.link.now) (g.L.Link.held end.new.link) counted (g.L.Link.faults end.new.link)
    (at_seat c.args.desk.now (shows c.args.signer.now)) (at_seat c.list_public-reply.new.desk (shows c.args.signer.now)) end.result in
    subst W (sym c.in-PublicKeys.is) (record {
      reply = result_ok c.list_public-reply.result;
      ran = c.list_public-reply.ensures.runs (shows c.args.signer.now);
      sends = sends_later _ _ counted _ _ _ _ l end.ensures.sends;
    })

pub returns-in-Upcheck-clause-does : goal.returns-in-Upcheck-clause-does
returns-in-Upcheck-clause-does g c = λ counted l.
    let shows = signer_seen g.S.Signer.told g.S.Signer.faults g.S.Signer.denials in
    let seat = at_seat c.args.desk.now (shows c.args.signer.now) in
    let W : Wanted → Type 0 = λ w.
    DoesWanted g.K.DeskCalls.leads c.args.genesis.now c.args.now c.args.request.now (Ok w) (g.L.Link.held c.args.link.now) (g.L.Link.held c.say_serving.new.link) counted (g.L.Link.faults c.say_serving.new.link) seat seat c.say_serving.result in
    subst W (sym c.in-Upcheck.is) (refl, rest_later _ _ counted _ _ 200 upcheck_text c.say_serving.result l c.say_serving.ensures.sends)
