use Rattle.std.proofs.Common.{codes}
use Rattle.http_wire.specs.Spellings.{body_fields}
use Rattle.http_wire.proofs.WriteLemmas.{three_pieces}
use Rattle.http_wire.proofs.write.push_request_fields.Goals as goal

pub returns : goal.returns
returns c = three_pieces c.args.text.now.items (codes "Accept: application/json\r\nConnection: close\r\n") (body_fields c.args.len) (codes "\r\n") _ _ _ c.in_ok-extend_from_slice.ensures.items c.in_ok-push_body_fields.ensures c.in_ok-extend_from_slice-2.ensures.items
