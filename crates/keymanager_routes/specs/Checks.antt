-- The checks of a request before its body is looked at.
use Rattle.std.specs.Prelude.{ℕ, List, Option, Some, None, ok_or, Result, Ok, Err, if◌then◌else◌}
use Rattle.std.specs.Str.{bytes_eq}
use Rattle.http_wire.specs.Parts.{parts_of}
use Rattle.http_wire.specs.declared.message.Request.{Request}
use Rattle.keymanager_routes.specs.Routes.{route_of, action_at}
use Rattle.keymanager_routes.specs.Bearers.{bearer_of}
use Rattle.keymanager_routes.specs.declared.route.Action.{Action}
use Rattle.keymanager_routes.specs.declared.refusal.Refusal.{Refusal}
use Rattle.keymanager_routes.specs.declared.refusal.Refusal.TheVariants as refusal

-- the next check, where this one is passed
infixl 10 ◌>>=◌
abbrev pub ◌>>=◌ : {A B : Type 0} → Result A Refusal → (A → Result B Refusal) → Result B Refusal
(Ok x) >>= f = f x
(Err e) >>= f = Err e

-- the route of the target, and then what the method does with it
abbrev pub wanted : List ℕ → List ℕ → Result Action Refusal
wanted method target = do
  route ← ok_or (route_of target) refusal.NoRoute
  ok_or (action_at route method) refusal.NoMethod

-- the request bears this token
abbrev pub let_in : List ℕ → Option (List ℕ) → Result (Unit {0}) Refusal
let_in token None = Err refusal.NoToken
let_in token (Some given) = if bytes_eq given token then Ok tt else Err refusal.WrongToken

-- what is wanted of a request that bears this token
abbrev pub action_for : List ℕ → Request → Result Action Refusal
action_for token r = do
  action ← wanted r.method r.target.items
  passed ← let_in token (bearer_of (parts_of r.fields.items))
  Ok action
