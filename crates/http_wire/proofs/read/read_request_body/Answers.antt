use Rattle.std.proofs.Common.{List, false, Ok, Err, subst}
use Rattle.http_wire.specs.declared.field.Field.{Field}
use Rattle.http_wire.specs.Parts.{parts_of}
use Rattle.http_wire.specs.Steps.{Took}
use Rattle.http_wire.specs.Plain.{PlainStep}
use Rattle.http_wire.proofs.RequestLemmas.{body_read, body_faulty}
use Rattle.http_wire.proofs.read.read_request_body.Goals as goal

pub returns-in-Ok-clause-step : goal.returns-in-Ok-clause-step
returns-in-Ok-clause-step g c =
    let B : List Field → Type 0 = λ fields. Took (g.L.Link.left c.args.link.now) (g.L.Link.left c.read_plain_body.new.link) (PlainStep false (parts_of fields) (g.L.Link.left c.read_plain_body.new.link) (Ok tt) c.read_plain_body.new.body.items) in
    body_read _ _ c.args.head c.read_plain_body.new.body (subst B c.as_slice.ensures.value c.in-Ok.ensures.step)

pub returns-in-Err-clause-step : goal.returns-in-Err-clause-step
returns-in-Err-clause-step g c =
    let B : List Field → Type 0 = λ fields. Took (g.L.Link.left c.args.link.now) (g.L.Link.left c.read_plain_body.new.link) (PlainStep false (parts_of fields) (g.L.Link.left c.read_plain_body.new.link) (Err c.in-Err.fault) c.read_plain_body.new.body.items) in
    body_faulty _ _ c.args.head c.read_plain_body.new.body.items c.in-Err.fault (subst B c.as_slice.ensures.value c.in-Err.ensures.step)
