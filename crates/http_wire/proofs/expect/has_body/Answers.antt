use Rattle.std.proofs.Common.{◌&&◌, ℕ, List, Option, sym, ap, ◌∙◌}
use Rattle.std.specs.Prelude.{is_none}
use Rattle.http_wire.specs.Expects.{is_to_come}
use Rattle.http_wire.specs.Framings.{framing_of}
use Rattle.http_wire.specs.Parts.{parts_of}
use Rattle.http_wire.proofs.RequestLemmas.{plain_fields, coded_fields}
use Rattle.http_wire.proofs.expect.has_body.Goals as goal

pub returns-in-Some : goal.returns-in-Some
returns-in-Some c =
    let fields = c.args.fields.now in
    sym (ap (λ (e : Option (List ℕ)). is_none e && is_to_come (framing_of (parts_of fields))) (coded_fields fields c.in-Some._encoded.now (sym c.in-Some.ensures)))

pub returns-in-None : goal.returns-in-None
returns-in-None c =
    let fields = c.args.fields.now in
    c.is_to_come.ensures ∙ ap is_to_come c.read_framing.ensures
    ∙ sym (ap (λ (e : Option (List ℕ)). is_none e && is_to_come (framing_of (parts_of fields))) (plain_fields fields (sym c.in-None.ensures)))
