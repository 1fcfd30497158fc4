-- What a request asks of the signing proxy, by its head (Keymanager API; Web3Signer API, `eth2/sign`, `eth2/publicKeys`, `upcheck`).
use Rattle.std.specs.Prelude.{ℕ, ◌==◌, eqb, List, drop, length, Option, Some, None, Result, Ok, Err, if◌then◌else◌, codes}
use Rattle.std.specs.List.{list_any, starts_with}
use Rattle.std.specs.Str.{bytes_eq, is_utf8}
use Rattle.http_wire.specs.declared.message.Request.{Request}
use Rattle.keymanager_routes.specs.Checks.{action_for}
use Rattle.keymanager_routes.specs.Routes.{path_of}
use Rattle.keymanager_routes.specs.declared.route.Action.{Action}
use Rattle.keymanager_routes.specs.declared.refusal.Refusal.{Refusal}
use Rattle.keymanager_routes.specs.declared.refusal.Refusal.TheVariants as refusal
use Rattle.proxy_api.specs.declared.route.Wanted.{Wanted}
use Rattle.proxy_api.specs.declared.route.Wanted.TheVariants as wanted

-- the path of a call for a signature, before the name of its key
abbrev pub sign_path : List ℕ
sign_path = codes "/api/v1/eth2/sign/"

-- one part of a path: it is not empty, has no `/` and is UTF-8
abbrev pub part_in : List ℕ → Option (List ℕ)
part_in bytes = if length bytes == 0 then None
    else if list_any (λ b. b == 47) bytes then None
    else if is_utf8 bytes then Some bytes
    else None

-- what names the key in the path of a call for a signature
abbrev pub identifier_in : List ℕ → Option (List ℕ)
identifier_in path = if starts_with eqb path sign_path then part_in (drop (length sign_path) path) else None

-- and in its target
abbrev pub identifier_of : List ℕ → Option (List ℕ)
identifier_of target = identifier_in (path_of target)

-- a key manager's request asks for this
abbrev pub of_keys : Result Action Refusal → Result Wanted Refusal
of_keys (Ok what) = Ok (wanted.Keys what)
of_keys (Err r) = Err r

-- wanted by one method only, and without a token
abbrev pub by_method : List ℕ → Wanted → Request → Result Wanted Refusal
by_method method what r = if bytes_eq r.method method then Ok what else Err refusal.NoMethod

-- a signature is asked for by POST; anything else is a key manager's
abbrev pub by_identifier : List ℕ → Request → Option (List ℕ) → Result Wanted Refusal
by_identifier token r None = of_keys (action_for token r)
by_identifier token r (Some identifier) = by_method (codes "POST") wanted.Signature r

abbrev pub by_path : List ℕ → Request → List ℕ → Result Wanted Refusal
by_path token r path = if bytes_eq path (codes "/upcheck") then by_method (codes "GET") wanted.Upcheck r
    else if bytes_eq path (codes "/api/v1/eth2/publicKeys") then by_method (codes "GET") wanted.PublicKeys r
    else by_identifier token r (identifier_in path)

-- what needs no token, with its method; else a key manager's
abbrev pub by_open : List ℕ → Request → Option (List ℕ × Wanted) → Result Wanted Refusal
by_open token r None = of_keys (action_for token r)
by_open token r (Some o) = by_method o.0 o.1 r

-- what a request wants, where a key manager's needs this token
abbrev pub wanted_for : List ℕ → Request → Result Wanted Refusal
wanted_for token r = by_path token r (path_of r.target.items)
