-- The program's command line: its subcommands, their options, and what stands where an option is absent.
use Rattle.std.specs.Prelude.{Bool, List, [], ◌∷◌, ◌++◌, Some, true, false, codes, fold}
use Rattle.clap.specs.Words.{App, Rule, Shape, Text, new_app, new_rule, with_rule, with_subcommand}
use Rattle.clap.specs.declared.builder.action.ArgAction.TheVariants.{Append, Set, SetTrue}

-- `--ID VALUE`, which must be given or may be absent
abbrev pub option_rule : Text → Bool → Rule
option_rule id is_required = record (new_rule id) {
  long = Some id;
  action = Some Set;
  value_names = 1;
  required = is_required;
}

-- `--genesis HEX32`, which must be given
abbrev pub genesis_rule : Rule
genesis_rule = option_rule (codes "genesis") true

-- `--fork PREVIOUS:CURRENT:EPOCH`, both versions zero from epoch 0 on where it is absent
abbrev pub fork_rule : Rule
fork_rule = record (new_rule (codes "fork")) {
  long = Some (codes "fork");
  action = Some Set;
  value_names = 1;
  defaults = codes "0x00000000:0x00000000:0" ∷ [];
}

-- `--altair EPOCH`, which may be absent
abbrev pub altair_rule : Rule
altair_rule = option_rule (codes "altair") false

-- `--ID`, which has no value
abbrev pub flag_rule : Text → Rule
flag_rule id = record (new_rule id) {
  long = Some id;
  action = Some SetTrue;
}

-- `--watch`, `--aggregate` and `--quiet`
abbrev pub watch_rule : Rule
watch_rule = flag_rule (codes "watch")

abbrev pub aggregate_rule : Rule
aggregate_rule = flag_rule (codes "aggregate")

abbrev pub quiet_rule : Rule
quiet_rule = flag_rule (codes "quiet")

-- one `NODE` or more, in their place
abbrev pub nodes_rule : Rule
nodes_rule = record (new_rule (codes "node")) {
  action = Some Append;
  value_names = 1;
  required = true;
}

-- what a command signs for, where it keeps that, and who signs: the last two must be given or may be absent
abbrev pub signing_rules : Bool → List Rule
signing_rules is_required = genesis_rule ∷ option_rule (codes "journal") is_required ∷ option_rule (codes "signer") is_required ∷ []

-- the command `session` with its options
abbrev pub session_shape : Shape
session_shape = (fold with_rule (new_app (codes "session")) (signing_rules false ++ fork_rule ∷ altair_rule ∷ watch_rule ∷ [])).top

-- where a server answers the Keymanager API, and for whom
abbrev pub door_rules : List Rule
door_rules = option_rule (codes "listen") true ∷ option_rule (codes "token") true ∷ []

-- what a server may do without
abbrev pub end_rules : List Rule
end_rules = altair_rule ∷ watch_rule ∷ aggregate_rule ∷ option_rule (codes "slots") false ∷ option_rule (codes "connections") false ∷ option_rule (codes "lanes") false ∷ []

-- what it keeps of what was signed, how long it waits for a node, and whether it tells of faults alone
abbrev pub work_rules : List Rule
work_rules = option_rule (codes "keep-epochs") false ∷ option_rule (codes "timeout") false ∷ quiet_rule ∷ []

-- the command `serve` with its options, and its nodes last
abbrev pub serve_shape : Shape
serve_shape = (fold with_rule (new_app (codes "serve")) (signing_rules true ++ door_rules ++ end_rules ++ work_rules ++ nodes_rule ∷ [])).top

-- when the chain of a proxy began
abbrev pub genesis_time_rule : Rule
genesis_time_rule = option_rule (codes "genesis-time") true

-- what a proxy may do without
abbrev pub lane_rules : List Rule
lane_rules = option_rule (codes "connections") false ∷ option_rule (codes "lanes") false ∷ quiet_rule ∷ []

-- the command `proxy` with its options
abbrev pub proxy_shape : Shape
proxy_shape = (fold with_rule (new_app (codes "proxy")) (signing_rules true ++ genesis_time_rule ∷ door_rules ++ lane_rules)).top

-- a command over a journal that there is
abbrev pub journal_shape : Text → Shape
journal_shape name = (with_rule (with_rule (new_app name) genesis_rule) (option_rule (codes "journal") true)).top

-- the command `merge` with its options
abbrev pub merge_shape : Shape
merge_shape = journal_shape (codes "merge")

-- the command `show` with its options
abbrev pub show_shape : Shape
show_shape = journal_shape (codes "show")

-- a value that must be given, in its place
abbrev pub value_rule : Text → Rule
value_rule id = record (new_rule id) {
  action = Some Set;
  value_names = 1;
  required = true;
}

-- `rehearse NUMBER CLIENTS STEPS`
abbrev pub rehearse_shape : Shape
rehearse_shape = (with_rule (with_rule (with_rule (new_app (codes "rehearse")) (value_rule (codes "number"))) (value_rule (codes "clients"))) (value_rule (codes "steps"))).top

-- `help [COMMAND]`: a command's name, or none
abbrev pub help_shape : Shape
help_shape = (with_rule (new_app (codes "help")) (record (new_rule (codes "command")) {
  action = Some Set;
  value_names = 1;
})).top

-- the program, of which a subcommand must be named
abbrev pub program_shape : Shape
program_shape = record (new_app (codes "validator")).top {
  has_version = true;
  subcommand_required = true;
  disable_help_subcommand = true;
}

-- the whole command line
abbrev pub table : App
table = fold with_subcommand (record { top = program_shape; subs = [] }) (session_shape ∷ serve_shape ∷ proxy_shape ∷ merge_shape ∷ show_shape ∷ rehearse_shape ∷ help_shape ∷ [])
