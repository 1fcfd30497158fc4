use Rattle.std.proofs.Common.{[], ◌++◌, codes, ap, ◌∙◌}
use Rattle.std.specs.Prelude.{unwrap_or}
use Rattle.http.specs.StatusCode.{reason_phrase}
use Rattle.http_wire.proofs.WriteLemmas.{three_pieces}
use Rattle.http_wire.proofs.write.push_phrase.Goals as goal

pub returns : goal.returns
returns c =
    three_pieces c.args.text.now.items (codes " ") (unwrap_or (reason_phrase c.args.status) []) (codes "\r\n") _ _ _ c.in_ok-extend_from_slice.ensures.items
    (c.in_ok-extend_from_slice-2.ensures.items ∙ ap (λ phrase. c.extend_from_slice.new.self.items ++ phrase) (c.as_bytes.ensures.value ∙ c.phrase_of.ensures)) c.in_ok-extend_from_slice-3.ensures.items
