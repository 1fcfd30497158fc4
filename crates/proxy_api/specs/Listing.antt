-- What the proxy says of itself (Web3Signer API, `upcheck`, `eth2/publicKeys`).
use Rattle.std.specs.Prelude.{ℕ, List, map, codes}
use Rattle.edge_kit.specs.Texts.{hex_text}
use Rattle.edge_kit.specs.declared.bytes.PubKey.{PubKey}
use Rattle.serde_json.specs.Data.{Data, string, array}
use Rattle.serde_json.specs.View.{items_of}
use Rattle.serde_json.specs.Written.{compact_text}
use Rattle.call_plans.specs.Plans.{Done, bind}
use Rattle.client_calls.specs.Steps.{ClientPlan}
use Rattle.key_custody.specs.Plans.{list_plan}
use Rattle.keymanager_routes.specs.declared.reply.Reply.{Reply}
use Rattle.proxy_api.specs.Forms.{plain_text}

-- the text `OK`: the proxy serves
abbrev pub upcheck_text : List ℕ
upcheck_text = plain_text (codes "OK")

-- `["0x..",..]`
abbrev pub key_text : PubKey → Data
key_text key = string (hex_text key.0)

abbrev pub keys_data : List PubKey → Data
keys_data keys = array (items_of (map key_text keys))

abbrev pub keys_reply : List PubKey → Reply
keys_reply keys = record { status = 200; body = compact_text (keys_data keys) }

-- the active keys
abbrev pub keys_plan : ClientPlan Reply
keys_plan = bind list_plan (λ keys. Done (keys_reply keys))
