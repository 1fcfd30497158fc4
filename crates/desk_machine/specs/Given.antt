-- The grants that a list of calls was given and has not settled.
use Rattle.std.specs.Prelude.{ℕ, ◌==◌, not, filter, List, [], ◌∷◌, ◌++◌}
use Rattle.desk_machine.specs.Machine.{MayCall}
use Rattle.desk_machine.specs.Grants.{grants_after}
use Rattle.desk_machine.specs.declared.open_grant.OpenGrant.{OpenGrant}
use Rattle.desk_machine.specs.declared.call.DeskCall.{DeskCall}
use Rattle.desk_machine.specs.declared.call.DeskCall.TheVariants as call
use Rattle.desk_machine.specs.declared.call.DeskReply.{DeskReply}
use Rattle.desk_machine.specs.declared.call.DeskReply.TheVariants as reply

-- the grants of other numbers
abbrev pub without_any : List OpenGrant → ℕ → List OpenGrant
without_any grants number = filter (λ g. not (g.number == number)) grants

-- what a caller has in hand after one call more
abbrev pub given_after : List OpenGrant → DeskCall → DeskReply → List OpenGrant
given_after grants (call.Propose key m now) (reply.Granted grant) = grants ++ grant ∷ []
given_after grants (call.Allow key now) (reply.Granted grant) = grants ++ grant ∷ []
given_after grants (call.Settle grant outcome) reply.Settled = without_any grants grant.number
given_after grants c r = grants

abbrev pub given : List OpenGrant → List (DeskCall × DeskReply) → List OpenGrant
given grants [] = grants
given grants (x ∷ made) = given (given_after grants x.0 x.1) made

-- a caller that made these calls may make this one: it settles only what it was given and has not settled
abbrev pub MayMake : List (DeskCall × DeskReply) → DeskCall → Type 0
MayMake made c = MayCall (given [] made) c

-- the open grants of a desk after these calls
abbrev pub grants_over : List OpenGrant → List (DeskCall × DeskReply) → List OpenGrant
grants_over grants [] = grants
grants_over grants (x ∷ made) = grants_over (grants_after grants x.0 x.1) made
