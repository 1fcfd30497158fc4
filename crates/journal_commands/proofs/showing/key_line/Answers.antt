use Rattle.std.proofs.Common.{◌++◌, ◌∙◌, ap, string_bytes}
use Rattle.journal_commands.specs.Showing.{key_text, floors_text}
use Rattle.journal_commands.proofs.PieceLemmas.{pieces6}
use Rattle.journal_commands.proofs.showing.key_line.Goals as goal

pub returns : goal.returns
returns c =
    let word = c.in_ok-push_text-2.ensures ∙ ap (λ t. string_bytes c.push_text.new.out ++ t) c.state_name.ensures in
    let floors = c.in_ok-push_floors.ensures ∙ ap (λ f. string_bytes c.push_counts.new.out ++ floors_text f) c.floors.ensures.value in
    pieces6 (string_bytes c.new-out.result) _ _ _ _ _ _ c.in_ok-push_hex.ensures.ok c.in_ok-push_text.ensures word _ _ _ _ _ _ c.in_ok-push_counts.ensures floors c.in_ok-push_text-3.ensures
    ∙ ap (λ t. t ++ key_text c.args.key.now c.args.state c.args.kept.now) c.new-out.ensures.bytes
