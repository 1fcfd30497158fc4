use Rattle.std.proofs.Common.{Some, sym, ap, ◌∙◌}
use Rattle.std.proofs.lemmas.Str.{is_utf8-from_IsUtf8}
use Rattle.proxy_api.proofs.WantedLemmas.{part_is, part_not}
use Rattle.proxy_api.proofs.route.part_in.Goals as goal

pub returns-in-Ok : goal.returns-in-Ok
returns-in-Ok c =
    let bytes = c.args.bytes.now in
    let text = c.in-Ok.ensures.cases in
    ap Some text.0 ∙ sym (part_is bytes (sym c.is_empty.ensures ∙ c.if-is_empty.false) (sym c.contains.ensures.value ∙ c.if-contains.false) (is_utf8-from_IsUtf8 bytes text.1))

pub returns-in-Err : goal.returns-in-Err
returns-in-Err c =
    let bytes = c.args.bytes.now in
    sym (part_not bytes (sym c.is_empty.ensures ∙ c.if-is_empty.false) (sym c.contains.ensures.value ∙ c.if-contains.false) c.in-Err.ensures.cases.0)
