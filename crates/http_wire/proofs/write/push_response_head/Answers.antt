use Rattle.std.proofs.Common.{◌≡◌, List, ◌++◌, length, ap, ◌∙◌, arith}
use Rattle.std.proofs.lemmas.Grind.{common_steps}
use Rattle.http_wire.specs.declared.field.Field.{Field}
use Rattle.http_wire.specs.Parts.{parts_of}
use Rattle.http_wire.specs.Spellings.{status_line, print_pairs, response_fields}
use Rattle.http_wire.proofs.WriteLemmas.{three_pieces}
use Rattle.http_wire.proofs.write.push_response_head.Goals as goal

pub returns : goal.returns
returns c =
    let r = c.args.response.now in
    let n : c.len.result ≡ length r.body.items = grind (arith, common_steps) in
    three_pieces c.args.text.now.items (status_line r.status) (print_pairs (parts_of r.fields.items)) (response_fields (length r.body.items)) _ _ _ c.in_ok-push_status_line.ensures
    (c.in_ok-push_fields.ensures ∙ ap (λ (fs : List Field). c.push_status_line.new.text.items ++ print_pairs (parts_of fs)) c.as_slice.ensures.value)
    (c.in_ok-push_response_fields.ensures ∙ ap (λ m. c.push_fields.new.text.items ++ response_fields m) n)
