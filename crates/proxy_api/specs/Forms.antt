-- How a signature is replied (Web3Signer API, `eth2/sign`).
use Rattle.std.specs.Prelude.{ℕ, ◌++◌, ◌&&◌, Bool, List, length, is_some, if◌then◌else◌, codes, decimal}
use Rattle.std.specs.List.{list_any}
use Rattle.memchr.specs.Find.{first_of, matches}
use Rattle.edge_kit.specs.Texts.{hex_text}
use Rattle.edge_kit.specs.declared.bytes.Sig.{Sig}
use Rattle.http_wire.specs.Framings.{Pair, is_named}
use Rattle.keymanager_routes.specs.Replies.{reply_text}
use Rattle.sign_proxy.specs.Replies.{signature_reply}
use Rattle.proxy_api.specs.declared.form.Form.{Form}
use Rattle.proxy_api.specs.declared.form.Form.TheVariants as form

-- a value has the media type of JSON in it, in lower case
abbrev pub names_json : List ℕ → Bool
names_json value = is_some (first_of (matches value (codes "application/json") 0))

-- a field `Accept` that names it
abbrev pub accepts_json : Pair → Bool
accepts_json p = is_named p (codes "accept") && names_json p.1

-- the object where a field accepts JSON, else the text
abbrev pub form_of : List Pair → Form
form_of fields = if list_any accepts_json fields then form.Json else form.Text

-- a response of status 200 with a text
abbrev pub plain_text : List ℕ → List ℕ
plain_text body =
    ((codes "HTTP/1.1 200 OK\r\nContent-Type: text/plain; charset=utf-8\r\nContent-Length: " ++ decimal (length body))
    ++ codes "\r\nConnection: close\r\n\r\n") ++ body

-- the bytes of the reply with a signature
abbrev pub signed_text : Form → Sig → List ℕ
signed_text form.Json signature = reply_text (signature_reply signature)
signed_text form.Text signature = plain_text (hex_text signature.0)
