use Rattle.std.proofs.Common.{◌≤◌, ℕ, List, Err, subst, arith}
use Rattle.http_wire.specs.declared.message.WireFault.TheVariants as fault
use Rattle.http_call.specs.Calls.{called_text, IsCall, Sends}
use Rattle.http_call.proofs.CallLemmas.{appends_nothing, answered, ended, front_none, leaves_past, past, rose_to, sends_within, spelled_call, unanswered}
use Rattle.http_call.proofs.calls.call.Goals as goal

pub returns-in-Err-connect : goal.returns-in-Err-connect
returns-in-Err-connect g c = record {
  sent = front_none _ _ _ (appends_nothing _ _ c.in-Err-connect.ensures.held);
  answered = unanswered _ (Err fault.Link) (λ left text. tt);
  left = tt;
  later = c.in-Err-connect.ensures.cause.later;
  fault = λ _. c.in-Err-connect.ensures.cause.failed;
}

pub returns : goal.returns
returns g c =
    let r = c.in-Ok.request in
    let text = called_text c.args.service.now c.args.method c.args.path.now c.args.body.items in
    let x = c.exchange-answer in
    let same = spelled_call c.args.service.now c.args.method c.args.path.now c.args.body.items r c.in-Ok.ensures.method c.in-Ok.ensures.target c.in-Ok.ensures.fields c.in-Ok.ensures.body in
    let S : List ℕ → Type 0 = λ t. Sends t (g.L.Link.held c.connect.new.self) (g.L.Link.held x.new.link) x.result in
    let opened = c.in-Ok-connect.ensures.opens in
    let before : g.L.Link.faults c.args.link.now ≤ g.L.Link.faults c.connect.new.self = c.in-Ok-connect.ensures.cause.later in
    let within : g.L.Link.faults c.connect.new.self ≤ g.L.Link.faults x.new.link = x.ensures.later in
    let after : g.L.Link.faults x.new.link ≤ g.L.Link.faults c.end.new.link = c.end.ensures.later in
    let whole : IsCall text (g.L.Link.held c.args.link.now) (g.L.Link.held c.end.new.link) (g.L.Link.coming c.args.link.now) (g.L.Link.coming c.end.new.link) (g.L.Link.faults c.args.link.now) (g.L.Link.faults c.end.new.link) x.result = record {
      sent = sends_within text _ _ _ _ x.result c.in-Ok-connect.ensures.held (subst S same x.ensures.sent) c.end.ensures.held;
      answered = answered _ _ _ _ x.result opened x.ensures.step;
      left = leaves_past _ _ x.result (past _ _ _ _ _ opened x.ensures.coming c.end.ensures.coming);
      later = omega arith;
      fault = λ e. rose_to _ _ _ _ before (x.ensures.fault e) after;
    } in
    ended text _ _ _ _ _ (g.L.Link.faults x.new.link) _ x.result c.end.result whole (omega arith) c.end.ensures.answer
