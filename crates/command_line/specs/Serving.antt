-- What the values of the options of `serve` write: where it listens, its token, when blocks have the Altair body, when it
-- ends, its lanes, whether it aggregates votes, what it keeps, how long it waits for a node, whether it reports only faults,
-- and its nodes.
use Rattle.std.specs.Prelude.{ℕ, ◌==◌, ◌&&◌, nat_le, nat_lt, Bool, List, [], ◌∷◌, length, Option, Some, None, is_some, option_map, filter_map, if◌then◌else◌, codes}
use Rattle.std.specs.Char.{is_ascii_graphic}
use Rattle.std.specs.List.{list_all, slice_split}
use Rattle.std.specs.Option.{option_map_or}
use Rattle.std.specs.Str.{bytes_eq}
use Rattle.edge_kit.specs.Texts.{quoted_number}
use Rattle.service_url.specs.Services.{Service, service_at}
use Rattle.clap.specs.Words.{Row, Text, all_of, first_of}
use Rattle.command_line.specs.Forks.{at_colon}
use Rattle.command_line.specs.Options.{aggregate_in, altair_in, at_most, between, genesis_in, journal_in, quiet_in, watch_in}
use Rattle.command_line.specs.declared.listen_address.ListenAddress.{ListenAddress}
use Rattle.command_line.specs.declared.listen_address.ListenHost.{ListenHost}
use Rattle.command_line.specs.declared.listen_address.ListenHost.TheVariants.{Localhost, Ipv4}
use Rattle.command_line.specs.declared.serve_options.DoorOptions.{DoorOptions}
use Rattle.command_line.specs.declared.serve_options.EndOptions.{EndOptions}
use Rattle.command_line.specs.declared.serve_options.ServeOptions.{ServeOptions}
use Rattle.command_line.specs.declared.serve_options.SigningOptions.{SigningOptions}
use Rattle.command_line.specs.declared.serve_options.WorkOptions.{WorkOptions}
use Rattle.command_line.specs.declared.kept_epochs.KeptEpochs.{KeptEpochs}
use Rattle.command_line.specs.declared.kept_epochs.KeptEpochs.TheVariants.{All, Last}

-- the next reading, where this one gave a value
infixl 10 ◌>>=◌
abbrev pub ◌>>=◌ : {A B : Type 0} → Option A → (A → Option B) → Option B
(Some x) >>= f = f x
None >>= f = None

-- ---- where it listens

-- the byte is `.`
abbrev pub is_dot : ℕ → Bool
is_dot byte = byte == 46

-- a decimal of at most 255
abbrev pub octet_at : Text → Option ℕ
octet_at text = quoted_number text >>= at_most 255

-- the address of four octets: none of fewer texts or of more
abbrev pub ipv4_of : List Text → Option (List ℕ)
ipv4_of (a ∷ b ∷ c ∷ d ∷ []) = do
  first ← octet_at a
  second ← octet_at b
  third ← octet_at c
  fourth ← octet_at d
  Some (first ∷ second ∷ third ∷ fourth ∷ [])
ipv4_of _ = None

-- `localhost`, or the address whose octets stand between the dots of the text
abbrev pub host_at : Text → Option ListenHost
host_at text = if bytes_eq text (codes "localhost") then Some Localhost else option_map Ipv4 (ipv4_of (slice_split is_dot text))

-- a port, in decimal
abbrev pub port_at : Text → Option ℕ
port_at text = quoted_number text >>= at_most 65535

-- the host before the first `:` of a text, and the port after it
abbrev pub listen_at : Text → Option ListenAddress
listen_at text = do
  parts ← at_colon text
  host ← host_at parts.0
  port ← port_at parts.1
  Some (record { host = host; port = port })

-- ---- the token

-- 1 to 256 visible ASCII characters, `!` to `~`
abbrev pub is_token : Text → Bool
is_token text = nat_le 1 (length text) && nat_le (length text) 256 && list_all is_ascii_graphic text

abbrev pub token_at : Text → Option (List ℕ)
token_at text = if is_token text then Some text else None

-- ---- the lanes

-- in how many lanes duties are done: 1 to 64, in decimal
abbrev pub lanes_at : Text → Option ℕ
lanes_at text = quoted_number text >>= between 1 64

-- ---- the work

-- of how many epochs all is kept: of all, or of a number of them, 2 or more, in decimal
abbrev pub epochs_at : Text → Option KeptEpochs
epochs_at text = if bytes_eq text (codes "all") then Some All else option_map Last (quoted_number text >>= between 2 18446744073709551615)

-- the number of epochs; none where all are kept
abbrev pub last_of : KeptEpochs → Option ℕ
last_of All = None
last_of (Last count) = Some count

-- the seconds of a question to a node: 1 to 60, in decimal
abbrev pub timeout_at : Text → Option ℕ
timeout_at text = quoted_number text >>= between 1 60

-- ---- the nodes

-- a text is the address of a service
abbrev pub is_address : Text → Bool
is_address text = is_some (service_at text)

-- the services of one address or more: none where there is no text, or one that is no address
abbrev pub services_of : List Text → Option (List Service)
services_of texts = if nat_lt 0 (length texts) && list_all is_address texts then Some (filter_map service_at texts) else None

-- ---- the options

-- the service that the value of `--signer` writes
abbrev pub signer_in : List Row → Option Service
signer_in options = first_of (codes "signer") options >>= service_at

-- what it signs for and where it keeps that
abbrev pub signing_in : List Row → Option SigningOptions
signing_in options = do
  genesis ← genesis_in options
  journal ← journal_in options
  signer ← signer_in options
  Some (record { genesis = genesis; journal = journal; signer = signer })

-- the address that the value of `--listen` writes, and the token that the value of `--token` is
abbrev pub listen_in : List Row → Option ListenAddress
listen_in options = first_of (codes "listen") options >>= listen_at

abbrev pub token_in : List Row → Option (List ℕ)
token_in options = first_of (codes "token") options >>= token_at

-- where it answers the Keymanager API, and for whom
abbrev pub door_in : List Row → Option DoorOptions
door_in options = do
  listen ← listen_in options
  token ← token_in options
  Some (record { listen = listen; token = token })

-- the number that the value of an option writes in decimal, or, where it is absent, one that is never reached
abbrev pub limit_in : Text → List Row → Option ℕ
limit_in id options = option_map_or quoted_number (first_of id options) (Some 18446744073709551615)

-- the number of lanes that the value of `--lanes` writes, or, where it is absent, four
abbrev pub lanes_in : List Row → Option ℕ
lanes_in options = option_map_or lanes_at (first_of (codes "lanes") options) (Some 4)

-- from which epoch on blocks have the Altair body, after how many slots and connections it ends, and in how many lanes it does its duties
abbrev pub ends_in : List Row → Option EndOptions
ends_in options = do
  altair ← altair_in options
  slots ← limit_in (codes "slots") options
  connections ← limit_in (codes "connections") options
  lanes ← lanes_in options
  Some (record { altair = altair; slots = slots; connections = connections; lanes = lanes })

-- the epochs that the value of `--keep-epochs` writes, or, where it is absent, the last 64
abbrev pub keep_epochs_in : List Row → Option KeptEpochs
keep_epochs_in options = option_map_or epochs_at (first_of (codes "keep-epochs") options) (Some (Last 64))

-- the seconds that the value of `--timeout` writes, or, where it is absent, two
abbrev pub timeout_in : List Row → Option ℕ
timeout_in options = option_map_or timeout_at (first_of (codes "timeout") options) (Some 2)

-- whether it aggregates votes, what it keeps of what was signed, how long it waits for a node, and whether it reports only faults
abbrev pub work_in : List Row → Option WorkOptions
work_in options = do
  keep_epochs ← keep_epochs_in options
  timeout ← timeout_in options
  Some (record { aggregate = aggregate_in options; keep_epochs = keep_epochs; timeout = timeout; quiet = quiet_in options })

-- the nodes, in the order of the words
abbrev pub nodes_in : List Row → Option (List Service)
nodes_in options = all_of (codes "node") options >>= services_of

-- all options of a server
abbrev pub serve_options_in : List Row → Option ServeOptions
serve_options_in options = do
  signing ← signing_in options
  door ← door_in options
  ends ← ends_in options
  work ← work_in options
  nodes ← nodes_in options
  Some (record {
    genesis = signing.genesis;
    journal = signing.journal;
    signer = signing.signer;
    listen = door.listen;
    token = door.token;
    altair = ends.altair;
    watch = watch_in options;
    aggregate = work.aggregate;
    slots = ends.slots;
    connections = ends.connections;
    lanes = ends.lanes;
    keep_epochs = work.keep_epochs;
    timeout = work.timeout;
    quiet = work.quiet;
    nodes = nodes;
  })
