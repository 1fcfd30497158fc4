use Rattle.std.proofs.Common.{◌≡◌, List, ◌++◌, codes, length, ap, ◌∙◌, arith}
use Rattle.std.proofs.lemmas.Grind.{common_steps}
use Rattle.http_wire.specs.declared.field.Field.{Field}
use Rattle.http_wire.specs.Parts.{parts_of}
use Rattle.http_wire.specs.Spellings.{print_pairs, request_line, body_fields, request_fields}
use Rattle.http_wire.proofs.WriteLemmas.{three_pieces, behind}
use Rattle.http_wire.proofs.write.push_request_head.Goals as goal

pub returns : goal.returns
returns c =
    let r = c.args.request.now in
    let old = c.args.text.now.items in
    let n : c.len.result ≡ length r.body.items = grind (arith, common_steps) in
    three_pieces old (request_line r.method r.target.items) (print_pairs (parts_of r.fields.items)) (request_fields (length r.body.items)) _ _ _
    (c.in_ok-push_request_line.ensures ∙ ap (λ t. old ++ request_line r.method t) c.as_slice.ensures.value)
    (c.in_ok-push_fields.ensures ∙ ap (λ (fs : List Field). c.push_request_line.new.text.items ++ print_pairs (parts_of fs)) c.as_slice-2.ensures.value)
    (c.in_ok-push_request_fields.ensures ∙ ap (λ m. c.push_fields.new.text.items ++ request_fields m) n)
    ∙ ap (λ u. old ++ u) (behind (request_line r.method r.target.items ++ print_pairs (parts_of r.fields.items)) (codes "Accept: application/json\r\nConnection: close\r\n") (body_fields (length r.body.items)) (codes "\r\n"))
