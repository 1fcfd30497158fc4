use Rattle.std.proofs.Common.{sym, subst}
use Rattle.http_wire.specs.declared.framing.Framing.{Framing}
use Rattle.http_wire.specs.Parts.{parts_of}
use Rattle.http_wire.specs.Steps.{Took, BodyStep}
use Rattle.http_wire.proofs.RequestLemmas.{plain_fields, coded_fields}
use Rattle.http_wire.proofs.PlainLemmas.{plain_encoded, plain_body}
use Rattle.http_wire.proofs.BoundLemmas.{body_bound}
use Rattle.http_wire.proofs.plain.read_plain_body.Goals as goal

pub returns-in-Some-clause-step : goal.returns-in-Some-clause-step
returns-in-Some-clause-step g c =
    let fields = c.args.fields.now in
    plain_encoded c.args.to_end (parts_of fields) _ _ c.in-Some.field.now.value.items c.encoded.result c.encoded.ensures (coded_fields fields c.in-Some.field.now (sym c.in-Some.ensures))

pub returns-in-None-clause-step : goal.returns-in-None-clause-step
returns-in-None-clause-step g c =
    let fields = c.args.fields.now in
    let B : Framing → Type 0 = λ f. Took (g.L.Link.left c.args.link.now) (g.L.Link.left c.read_body.new.link) (BodyStep c.args.to_end f (g.L.Link.left c.read_body.new.link) c.read_body.result c.read_body.new.body.items) in
    plain_body c.args.to_end (parts_of fields) _ _ _ c.read_body.result (plain_fields fields (sym c.in-None.ensures)) (subst B c.read_framing.ensures c.read_body.ensures.step)

pub returns-in-None-clause-bound : goal.returns-in-None-clause-bound
returns-in-None-clause-bound g c = body_bound _ _ c.read_framing.result c.read_body.ensures.bound
