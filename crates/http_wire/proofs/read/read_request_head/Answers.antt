use Rattle.std.proofs.Common.{List, ℕ, subst}
use Rattle.httparse.specs.Grammar.{RequestHead}
use Rattle.http_wire.specs.Heads.{SpellsRequestHead}
use Rattle.http_wire.specs.Messages.{HasRequestHead}
use Rattle.http_wire.proofs.RequestLemmas.{head_read}
use Rattle.http_wire.proofs.read.read_request_head.Goals as goal

pub returns-in-Ok-request_of-clause-step : goal.returns-in-Ok-request_of-clause-step
returns-in-Ok-request_of-clause-step g c =
    let r = c.in-Ok-request_of.request in
    let T : List ℕ → Type 0 = λ t. (h : RequestHead) × SpellsRequestHead t h × HasRequestHead h r in
    let h = subst T c.as_slice.ensures.value c.in-Ok-request_of.ensures.head in
    head_read (g.L.Link.left c.args.link.now) (g.L.Link.left c.read_form.new.link) c.in-Ok.text.items r c.in-Ok.ensures.form.0 c.in-Ok.ensures.form.1 h
