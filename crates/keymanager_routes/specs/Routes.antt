-- What a request names (Keymanager API, the paths of the local key manager).
use Rattle.std.specs.Prelude.{ℕ, ◌==◌, List, Option, Some, None, if◌then◌else◌, codes}
use Rattle.std.specs.Str.{bytes_eq}
use Rattle.std.specs.List.{before_first}
use Rattle.keymanager_routes.specs.declared.route.Route.{Route}
use Rattle.keymanager_routes.specs.declared.route.Route.TheVariants as route
use Rattle.keymanager_routes.specs.declared.route.Action.{Action}
use Rattle.keymanager_routes.specs.declared.route.Action.TheVariants as action

-- the target before its query, which begins at the first `?` (RFC 3986, section 3.4)
abbrev pub path_of : List ℕ → List ℕ
path_of target = before_first (λ byte. byte == 63) target

abbrev pub route_at : List ℕ → Option Route
route_at path = if bytes_eq path (codes "/eth/v1/keystores") then Some route.Keystores else None

abbrev pub route_of : List ℕ → Option Route
route_of target = route_at (path_of target)

-- what a method does with a route; letters of another case are another method (RFC 9110, section 9.1)
abbrev pub action_at : Route → List ℕ → Option Action
action_at route.Keystores method = if bytes_eq method (codes "GET") then Some action.List
    else if bytes_eq method (codes "POST") then Some action.Import
    else if bytes_eq method (codes "DELETE") then Some action.Delete
    else None
