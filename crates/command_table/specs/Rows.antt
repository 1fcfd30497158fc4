-- The arguments that rows say, and the commands that names say.
use Rattle.clap.specs.Words.{App, Rule, Shape, with_rule, with_subcommand}
use Rattle.command_table.specs.declared.command.Name.{Name}
use Rattle.command_table.specs.declared.command.Name.TheVariants as name
use Rattle.command_table.specs.declared.row.Row.{Row}
use Rattle.command_table.specs.declared.row.Row.TheVariants as row
use Rattle.command_table.specs.Table.{aggregate_rule, fork_rule, genesis_rule, help_shape, merge_shape, nodes_rule, option_rule, proxy_shape, quiet_rule, rehearse_shape, serve_shape, session_shape, show_shape, value_rule, watch_rule}

-- the argument of a row
abbrev pub row_rule : Row → Rule
row_rule row.Genesis = genesis_rule
row_rule row.Fork = fork_rule
row_rule row.Watch = watch_rule
row_rule row.Aggregate = aggregate_rule
row_rule row.Quiet = quiet_rule
row_rule row.Nodes = nodes_rule
row_rule (row.Value id name about) = value_rule id.now
row_rule (row.Choice id name about is_required) = option_rule id.now is_required

-- a command with the argument of one more row
abbrev pub with_row : App → Row → App
with_row a r = with_rule a (row_rule r)

-- the command of a name
abbrev pub name_shape : Name → Shape
name_shape name.Session = session_shape
name_shape name.Serve = serve_shape
name_shape name.Proxy = proxy_shape
name_shape name.Merge = merge_shape
name_shape name.Show = show_shape
name_shape name.Rehearse = rehearse_shape
name_shape name.Help = help_shape

-- the program with the command of one more name
abbrev pub with_name : App → Name → App
with_name a n = with_subcommand a (name_shape n)
