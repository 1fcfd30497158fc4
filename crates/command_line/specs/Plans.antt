-- What the words ask the program to do, as `clap` reads them by the table.
use Rattle.std.specs.Prelude.{ℕ, Bool, true, false, List, [], ◌∷◌, ◌||◌, Option, Some, None, Result, Ok, Err, option_map, option_and_then, if◌then◌else◌, codes}
use Rattle.std.specs.Str.{bytes_eq}
use Rattle.edge_kit.specs.declared.bytes.Root.{Root}
use Rattle.phase0_types.specs.declared.fork.Fork.{Fork}
use Rattle.service_url.specs.Services.{Service, service_at}
use Rattle.clap.specs.Words.{Kinds, Row, Text, fault_of, first_of, subcommand_of}
use Rattle.clap.specs.declared.error.kind.ErrorKind.{ErrorKind}
use Rattle.clap.specs.declared.error.kind.ErrorKind.TheVariants.{DisplayHelp, DisplayVersion}
use Rattle.command_line.specs.Options.{altair_in, clients_in, fork_in, genesis_in, journal_in, number_in, path_at, steps_in, watch_in}
use Rattle.command_line.specs.Serving.{serve_options_in}
use Rattle.command_line.specs.Proxying.{proxy_options_in}
use Rattle.command_table.specs.Table.{table}
use Rattle.command_line.specs.declared.planned.Plan.{Plan}
use Rattle.command_line.specs.declared.planned.Plan.TheVariants.{Session, Serve, Proxy, Merge, Show, Rehearse, Shown}
use Rattle.command_line.specs.declared.planned.Usage.{Usage}
use Rattle.command_line.specs.declared.proxy_options.ProxyOptions.{ProxyOptions}
use Rattle.command_line.specs.declared.serve_options.ServeOptions.{ServeOptions}

-- what words ask for: a session, with its journal's path, the epoch of Altair and its signing service if any and whether keys are watched, a server with its options, a signing proxy with its options, a merge or a showing of a journal, a rehearsal by its number, its clients and its steps, the text of help or the version, or nothing that there is
pub data Asked : Type 0 where
  session : Root → Option (List ℕ) → Fork → Option ℕ → Option Service → Bool → Asked
  serve : ServeOptions → Asked
  proxy : ProxyOptions → Asked
  merge : Root → List ℕ → Asked
  show : Root → List ℕ → Asked
  rehearse : ℕ → ℕ → ℕ → Asked
  shown : Asked
  nothing : Asked

-- what an answer takes the words to ask for
abbrev pub taken_as : Result Plan Usage → Asked
taken_as (Ok (Session genesis journal fork altair signer watch)) = session genesis journal fork altair signer watch
taken_as (Ok (Serve options)) = serve options
taken_as (Ok (Proxy options)) = proxy options
taken_as (Ok (Merge genesis journal)) = merge genesis journal
taken_as (Ok (Show genesis journal)) = show genesis journal
taken_as (Ok (Rehearse number size)) = rehearse number size.clients size.steps
taken_as (Ok (Shown text)) = shown
taken_as (Err usage) = nothing

-- what is asked for, if anything that there is
abbrev pub or_nothing : Option Asked → Asked
or_nothing None = nothing
or_nothing (Some asked) = asked

-- what a text writes, where it is given: none where it is out of form
abbrev pub at_most_one : {A : Type 0} → (Text → Option A) → Option Text → Option (Option A)
at_most_one read None = Some None
at_most_one read (Some text) = option_map Some (read text)

-- the session of a chain, a fork, the epoch of Altair if any and a journal, with the value of `--signer`, if there is one, and with or without a watch
abbrev pub session_by : Root → Fork → Option ℕ → Option (List ℕ) → Option Text → Bool → Asked
session_by genesis fork altair journal signer watch = or_nothing (option_map (λ service. session genesis journal fork altair service watch) (at_most_one service_at signer))

-- the session of a chain, a fork and the epoch of Altair if any, with the values of `--journal` and `--signer`, if there are any, and with or without a watch
abbrev pub session_with : Root → Fork → Option ℕ → Option Text → Option Text → Bool → Asked
session_with genesis fork altair journal signer watch = or_nothing (option_map (λ path. session_by genesis fork altair path signer watch) (at_most_one path_at journal))

-- the session of these options
abbrev pub session_in : List Row → Asked
session_in options =
    or_nothing (option_and_then (λ genesis. option_and_then (λ fork. option_map (λ altair. session_with genesis fork altair (first_of (codes "journal") options) (first_of (codes "signer") options) (watch_in options)) (altair_in options)) (fork_in options)) (genesis_in options))

-- the merge of these options
abbrev pub merge_in : List Row → Asked
merge_in options = or_nothing (option_and_then (λ genesis. option_map (merge genesis) (journal_in options)) (genesis_in options))

-- the showing of these options
abbrev pub show_in : List Row → Asked
show_in options = or_nothing (option_and_then (λ genesis. option_map (show genesis) (journal_in options)) (genesis_in options))

-- the server of these options
abbrev pub serve_in : List Row → Asked
serve_in options = or_nothing (option_map serve (serve_options_in options))

-- the proxy of these options
abbrev pub proxy_in : List Row → Asked
proxy_in options = or_nothing (option_map proxy (proxy_options_in options))

-- the rehearsal of these values
abbrev pub rehearse_in : List Row → Asked
rehearse_in options =
    or_nothing (option_and_then (λ number. option_and_then (λ clients. option_map (λ steps. rehearse number clients steps) (steps_in options)) (clients_in options)) (number_in (codes "number") options))

-- help on the program, or on the command that is named
abbrev pub help_on : Option Text → Asked
help_on None = shown
help_on (Some name) =
    if bytes_eq name (codes "session") || bytes_eq name (codes "serve") || bytes_eq name (codes "proxy") || bytes_eq name (codes "merge") || bytes_eq name (codes "show") || bytes_eq name (codes "rehearse") || bytes_eq name (codes "help") then shown else nothing

-- the help that is asked for with the value of `COMMAND`
abbrev pub help_in : List Row → Asked
help_in options = help_on (first_of (codes "command") options)

-- what a subcommand with its options asks for
abbrev pub asked_in : Text → List Row → Asked
asked_in name options =
    if bytes_eq name (codes "session") then session_in options
    else (if bytes_eq name (codes "serve") then serve_in options
    else (if bytes_eq name (codes "proxy") then proxy_in options
    else (if bytes_eq name (codes "merge") then merge_in options
    else (if bytes_eq name (codes "show") then show_in options
    else (if bytes_eq name (codes "rehearse") then rehearse_in options
    else (if bytes_eq name (codes "help") then help_in options else nothing))))))

-- what the subcommand that the words name asks for
abbrev pub asked_at : Option (Text × List Row) → Asked
asked_at None = nothing
asked_at (Some p) = asked_in p.0 p.1

-- `clap` shows help or the version
abbrev pub is_display : ErrorKind → Bool
is_display DisplayHelp = true
is_display DisplayVersion = true
is_display _ = false

-- where `clap` takes the words, what the subcommand asks for; else what the first kind of its error is
abbrev pub asked_by : Kinds → Option (Text × List Row) → Asked
asked_by [] subcommand = asked_at subcommand
asked_by (kind ∷ kinds) subcommand = if is_display kind then shown else nothing

-- what the words ask for
abbrev pub asked_of : List Text → Asked
asked_of words = asked_by (fault_of table words) (subcommand_of table words)
