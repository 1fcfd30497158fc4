use Rattle.std.proofs.Common.{◌≡◌, ◌==◌, false, cond, drop}
use Rattle.std.specs.Str.{bytes_eq}
use Rattle.keymanager_routes.proofs.bearer.is_same_token.Given as goal

-- the rest is still to be compared, unless some byte differs
abbrev pub invariant-bytes : goal.invariant-bytes
invariant-bytes l = cond (l.differing == 0) (bytes_eq (drop l.i l.given) (drop l.i l.token)) false ≡ bytes_eq l.given l.token
