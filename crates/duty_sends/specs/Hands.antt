-- The grant in hand after a call for leave, and what may be done with it.
use Rattle.std.specs.Prelude.{IsSome}
use Rattle.desk_machine.specs.declared.open_grant.OpenGrant.{OpenGrant}
use Rattle.desk_machine.specs.declared.call.DeskCall.{DeskCall}
use Rattle.desk_machine.specs.declared.call.DeskCall.TheVariants as call
use Rattle.desk_machine.specs.declared.call.Outcome.{Outcome}
use Rattle.duty_plans.specs.declared.got.Got.{Got}
use Rattle.duty_plans.specs.declared.got.Got.TheVariants as got
use Rattle.duty_plans.specs.Hands.{Hand, Free, Holds}

abbrev pub given_hand : Got OpenGrant → Hand
given_hand (got.Given grant) = Holds grant
given_hand (got.Failed r) = Free
given_hand got.Nothing = Free

-- leave that was given may be settled
abbrev pub MayEnd : (DeskCall → Type 0) → Got OpenGrant → Type 0
MayEnd allows (got.Given grant) = (o : Outcome) → allows (call.Settle grant o)
MayEnd allows (got.Failed r) = Unit {0}
MayEnd allows got.Nothing = Unit {0}

-- leave is for a message
abbrev pub HasMessage : Got OpenGrant → Type 0
HasMessage (got.Given grant) = IsSome grant.message
HasMessage (got.Failed r) = Unit {0}
HasMessage got.Nothing = Unit {0}
