use Rattle.std.proofs.Common.{◌≡◌, ◌∙◌, ap, true, refl}
use Rattle.std.proofs.lemmas.Result.{IfOk-weaker}
use Rattle.clap.specs.Words.{Shape, app_of, with_subcommand}
use Rattle.command_table.specs.declared.command.Name.{Name}
use Rattle.command_table.specs.declared.command.Name.TheVariants as name
use Rattle.command_table.specs.Rows.{name_shape}
use Rattle.command_table.proofs.TableLemmas.{third_holds}
use Rattle.command_table.proofs.command.with_command.Goals as goal

-- each command is plain
is_plain_named : (n : Name) → (name_shape n).is_plain ≡ true
is_plain_named name.Session = refl
is_plain_named name.Serve = refl
is_plain_named name.Proxy = refl
is_plain_named name.Merge = refl
is_plain_named name.Show = refl
is_plain_named name.Rehearse = refl
is_plain_named name.Help = refl

pub returns : goal.returns
returns c =
    let command_is = c.in_ok-command.ensures in
    IfOk-weaker c.subcommand.result _ _ (λ r h. h.shape (third_holds _ _ _ _ (ap (λ (s : Shape). s.is_plain) command_is ∙ is_plain_named c.args.name)) ∙ ap (with_subcommand (app_of c.args.program)) command_is) c.subcommand.ensures
