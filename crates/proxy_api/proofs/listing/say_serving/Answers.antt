use Rattle.std.proofs.Common.{◌≡◌, ◌++◌, ℕ, List, refl, ap, ◌∙◌, sym, subst}
use Rattle.std.specs.Prelude.{codes, decimal}
use Rattle.std.specs.Fmt.{digits}
use Rattle.proxy_api.specs.Listing.{upcheck_text}
use Rattle.proxy_api.specs.Signing.{SendsRest}
use Rattle.proxy_api.proofs.listing.say_serving.Goals as goal

two : decimal 2 ≡ codes "2"
unfolding digits
two = refl

text_of : List ℕ → List ℕ
text_of count = ((codes "HTTP/1.1 200 OK\r\nContent-Type: text/plain; charset=utf-8\r\nContent-Length: " ++ count) ++ codes "\r\nConnection: close\r\n\r\n") ++ codes "OK"

same : text_of (codes "2") ≡ upcheck_text
unfolding text_of
same = ap text_of (sym two)

pub returns-clause-sends : goal.returns-clause-sends
unfolding text_of
returns-clause-sends g c =
    let P : List ℕ → Type 0 = λ l. SendsRest (g.L.Link.held c.args.link.now) (g.L.Link.held c.send_rest.new.link) (g.L.Link.faults c.args.link.now) (g.L.Link.faults c.send_rest.new.link) 200 l c.send_rest.result in
    let text : c.as_bytes.result.now ≡ text_of (codes "2") = c.as_bytes.ensures.value in
    subst P (text ∙ same) c.send_rest.ensures.sends
