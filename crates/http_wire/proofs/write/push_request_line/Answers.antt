use Rattle.std.proofs.Common.{◌++◌, codes, ap, ◌∙◌, append_assoc}
use Rattle.http_wire.proofs.WriteLemmas.{three_pieces}
use Rattle.http_wire.proofs.write.push_request_line.Goals as goal

pub returns : goal.returns
returns c =
    let old = c.args.text.now.items in
    let method = c.args.method.now in
    let target = c.args.target.now in
    let end = codes " HTTP/1.1\r\n" in
    let named = c.in_ok-extend_from_slice.ensures.items ∙ ap (λ m. old ++ m) (c.as_bytes.ensures.value ∙ c.as_str.ensures.value) in
    c.in_ok-extend_from_slice-4.ensures.items
    ∙ ap (λ u. u ++ end) (three_pieces old method (codes " ") target _ _ _ named c.in_ok-extend_from_slice-2.ensures.items c.in_ok-extend_from_slice-3.ensures.items)
    ∙ append_assoc old (method ++ codes " " ++ target) end
