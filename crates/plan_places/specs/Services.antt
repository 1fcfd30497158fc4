-- The services that are asked for, where connections are taken, by whom, how many and what token they must bear, whether only faults are
-- reported, and whether a server watches its keys.
use Rattle.std.specs.Prelude.{ℕ, Bool, true, false, List, [], Option, None, Some}
use Rattle.service_url.specs.Services.{Service}
use Rattle.command_line.specs.Plans.{Asked, session, serve, proxy}
use Rattle.command_line.specs.declared.listen_address.ListenAddress.{ListenAddress}

-- the signing service that is asked for, if one is
abbrev pub signer_of : Asked → Option Service
signer_of (session genesis journal fork altair signer watch) = signer
signer_of (serve options) = Some options.signer
signer_of (proxy options) = Some options.signer
signer_of asked = None

-- the beacon nodes that are asked for, in their order
abbrev pub nodes_of : Asked → List Service
nodes_of (serve options) = options.nodes
nodes_of asked = []

-- how many seconds a question to a beacon node may take, if they say
abbrev pub timeout_of : Asked → Option ℕ
timeout_of (serve options) = Some options.timeout
timeout_of asked = None

-- where connections are taken, if anywhere
abbrev pub listen_of : Asked → Option ListenAddress
listen_of (serve options) = Some options.listen
listen_of (proxy options) = Some options.listen
listen_of asked = None

-- how many connections are taken, if they say
abbrev pub connections_of : Asked → Option ℕ
connections_of (serve options) = Some options.connections
connections_of (proxy options) = Some options.connections
connections_of asked = None

-- the token that connections must bear, if any are taken
abbrev pub token_of : Asked → Option (List ℕ)
token_of (serve options) = Some options.token
token_of (proxy options) = Some options.token
token_of asked = None

-- whether standard error has only lines of faults
abbrev pub quiet_of : Asked → Bool
quiet_of (serve options) = options.quiet
quiet_of (proxy options) = options.quiet
quiet_of asked = false

-- whether a server watches the keys that become active
abbrev pub watch_of : Asked → Bool
watch_of (serve options) = options.watch
watch_of asked = false

-- whether validator clients call at the door, for signatures
abbrev pub is_proxy : Asked → Bool
is_proxy (proxy options) = true
is_proxy asked = false
