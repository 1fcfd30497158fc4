-- The token that a request bears (RFC 6750, section 2.1).
use Rattle.std.specs.Prelude.{ℕ, ◌&&◌, Bool, List, take, drop, find, Option, option_map, codes}
use Rattle.std.specs.Str.{str_eq_ignore_ascii_case}
use Rattle.http_wire.specs.Framings.{Pair, is_named}

-- a field `Authorization` whose value begins with `Bearer `, both in letters of any case
abbrev pub is_bearing : Pair → Bool
is_bearing p = is_named p (codes "authorization") && str_eq_ignore_ascii_case (take 7 p.1) (codes "bearer ")

-- the rest of the first such value
abbrev pub bearer_of : List Pair → Option (List ℕ)
bearer_of fields = option_map (λ p. drop 7 p.1) (find is_bearing fields)
