use Rattle.std.proofs.Common.{◌≡◌, ◌∙◌, List, [], map, string_bytes, inl, inr, sym, subst, ap}
use Rattle.std.proofs.lemmas.Result.{IfOk-weaker}
use Rattle.clap.specs.Words.{App, IsAmong, Kinds, Text, fault_of, is_simple, is_simple_and_free, kind_of, subcommand_of, subcommand_rows_of}
use Rattle.command_line.specs.Plans.{asked_at, asked_by}
use Rattle.command_table.specs.Table.{table}
use Rattle.command_line.proofs.PlanLemmas.{table_is_simple, table_is_free, error_asked}
use Rattle.command_line.proofs.words.plan.Goals as goal

pub returns-in-Ok : goal.returns-in-Ok
returns-in-Ok c =
    let words : List Text = map string_bytes c.args.words.now in
    let program_is = c.in_ok-program.ensures in
    let none : fault_of table words ≡ [] =
    sym (ap (λ (a : App). fault_of a words) program_is) ∙ c.in-Ok.ensures.kinds (ap is_simple_and_free program_is ∙ table_is_free) in
    let entered : subcommand_rows_of c.in-Ok.matches ≡ subcommand_of table words =
    (c.in-Ok.ensures.matches (ap is_simple program_is ∙ table_is_simple)).1 ∙ ap (λ (a : App). subcommand_of a words) program_is in
    IfOk-weaker c.planned.result _ _ (λ answer h. h ∙ (ap asked_at entered ∙ sym (ap (λ (kinds : Kinds). asked_by kinds (subcommand_of table words)) none))) c.planned.ensures

pub returns-in-Err : goal.returns-in-Err
returns-in-Err c =
    let words : List Text = map string_bytes c.args.words.now in
    let program_is = c.in_ok-program.ensures in
    let has_kind = c.in-Err.ensures.kinds (ap is_simple_and_free program_is ∙ table_is_free) in
    IfOk-weaker c.told.result _ _ (λ answer h. elim has_kind [
      | inl memory ↦ absurd (h.0 memory)
      | inr among ↦ h.1 ∙ error_asked _ words (subst (λ (a : App). IsAmong (kind_of c.in-Err.error) (fault_of a words)) program_is among)
    ]) c.told.ensures
