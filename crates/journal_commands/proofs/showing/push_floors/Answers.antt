use Rattle.std.proofs.Common.{◌++◌, ◌∙◌, ap, codes, string_bytes}
use Rattle.journal_commands.specs.Showing.{floor_text}
use Rattle.journal_commands.proofs.PieceLemmas.{OnOk-map, pieces3}
use Rattle.journal_commands.proofs.showing.push_floors.Goals as goal

pub returns : goal.returns
returns c =
    let source = c.in_ok-push_floor-2.ensures ∙ ap (λ floor. string_bytes c.push_floor.new.out ++ (codes " floor_source " ++ floor_text floor)) c.source_of.ensures in
    OnOk-map c.push_floor-3.result
    (λ last.
    pieces3 (string_bytes c.args.out.now) _ _ _ _ _ _ c.in_ok-push_floor.ensures source
    (last ∙ ap (λ floor. string_bytes c.push_floor-2.new.out ++ (codes " floor_target " ++ floor_text floor)) c.target_of.ensures))
    c.push_floor-3.ensures
