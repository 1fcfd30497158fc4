-- What the values of a command's options write, as `clap` gives them.
use Rattle.std.specs.Prelude.{ℕ, ◌==◌, nat_le, Bool, false, List, ◌&&◌, length, Option, Some, None, option_map, option_and_then, if◌then◌else◌, codes}
use Rattle.std.specs.Str.{bytes_eq}
use Rattle.std.specs.Option.{option_map_or}
use Rattle.edge_kit.specs.Texts.{hex_bytes, quoted_number}
use Rattle.edge_kit.specs.declared.bytes.Root.{Root}
use Rattle.phase0_types.specs.declared.fork.Fork.{Fork}
use Rattle.clap.specs.Words.{Row, Text, first_of}
use Rattle.command_line.specs.Forks.{fork_at}

-- the root that the value of `--genesis` writes
abbrev pub genesis_in : List Row → Option Root
genesis_in options = option_map (λ bytes. record { 0 = bytes }) (option_and_then (hex_bytes 32) (first_of (codes "genesis") options))

-- the fork that the value of `--fork`, or its default, writes
abbrev pub fork_in : List Row → Option Fork
fork_in options = option_and_then fork_at (first_of (codes "fork") options)

-- the path that a text writes: none where the text is empty
abbrev pub path_at : Text → Option (List ℕ)
path_at text = if length text == 0 then None else Some text

-- the path that the value of `--journal` writes
abbrev pub journal_in : List Row → Option (List ℕ)
journal_in options = option_and_then path_at (first_of (codes "journal") options)

-- an option without a value was given: `clap` reads it as `true` where it stands, and as `false` where it does not
abbrev pub flag_in : Text → List Row → Bool
flag_in id options = option_map_or (λ text. bytes_eq text (codes "true")) (first_of id options) false

-- `--watch` was given
abbrev pub watch_in : List Row → Bool
watch_in options = flag_in (codes "watch") options

-- `--aggregate` was given
abbrev pub aggregate_in : List Row → Bool
aggregate_in options = flag_in (codes "aggregate") options

-- `--quiet` was given
abbrev pub quiet_in : List Row → Bool
quiet_in options = flag_in (codes "quiet") options

-- the epoch that the value of `--altair` writes in decimal, or, where it is absent, no epoch
abbrev pub altair_in : List Row → Option (Option ℕ)
altair_in options = option_map_or (λ text. option_map Some (quoted_number text)) (first_of (codes "altair") options) (Some None)

-- the number that a value writes in decimal
abbrev pub number_in : Text → List Row → Option ℕ
number_in id options = option_and_then quoted_number (first_of id options)

-- the number, where it is between these two
abbrev pub between : ℕ → ℕ → ℕ → Option ℕ
between least most n = if nat_le least n && nat_le n most then Some n else None

-- the number, where it is at most this
abbrev pub at_most : ℕ → ℕ → Option ℕ
at_most most n = if nat_le n most then Some n else None

-- 1 to 16 clients, and up to 20,000 steps
abbrev pub clients_in : List Row → Option ℕ
clients_in options = option_and_then (between 1 16) (number_in (codes "clients") options)

abbrev pub steps_in : List Row → Option ℕ
steps_in options = option_and_then (at_most 20000) (number_in (codes "steps") options)
