-- What the values of the options of `proxy` write: when the chain began, how many connections it serves, and in how many lanes.
use Rattle.std.specs.Prelude.{ℕ, List, Option, Some, codes}
use Rattle.clap.specs.Words.{Row}
use Rattle.command_line.specs.Options.{number_in, quiet_in}
use Rattle.command_line.specs.Serving.{◌>>=◌, door_in, lanes_in, limit_in, signing_in}
use Rattle.command_line.specs.declared.proxy_options.LaneOptions.{LaneOptions}
use Rattle.command_line.specs.declared.proxy_options.ProxyOptions.{ProxyOptions}

-- when the chain began, in seconds since 1970
abbrev pub genesis_time_in : List Row → Option ℕ
genesis_time_in options = number_in (codes "genesis-time") options

-- after how many connections it ends, and in how many lanes it serves them
abbrev pub lane_options_in : List Row → Option LaneOptions
lane_options_in options = do
  connections ← limit_in (codes "connections") options
  lanes ← lanes_in options
  Some (record { connections = connections; lanes = lanes })

-- all options of a proxy
abbrev pub proxy_options_in : List Row → Option ProxyOptions
proxy_options_in options = do
  signing ← signing_in options
  genesis_time ← genesis_time_in options
  door ← door_in options
  served ← lane_options_in options
  Some (record {
    genesis = signing.genesis;
    journal = signing.journal;
    signer = signing.signer;
    genesis_time = genesis_time;
    listen = door.listen;
    token = door.token;
    connections = served.connections;
    lanes = served.lanes;
    quiet = quiet_in options;
  })
