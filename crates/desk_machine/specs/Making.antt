-- How calls of the desk follow one another.
use Rattle.std.specs.Prelude.{◌≡◌, List, [], ◌∷◌, ◌++◌}
use Rattle.desk_machine.specs.declared.call.DeskCall.{DeskCall}
use Rattle.desk_machine.specs.declared.call.DeskCall.TheVariants as call
use Rattle.desk_machine.specs.declared.call.DeskReply.{DeskReply}
use Rattle.desk_machine.specs.declared.call.DeskReply.TheVariants as reply
use Rattle.desk_machine.specs.declared.call.Outcome.{Outcome}

-- a grant that was given may be settled, in either way
abbrev pub MaySettle : (DeskCall → Type 0) → DeskReply → Type 0
MaySettle allows (reply.Granted grant) = (o : Outcome) → allows (call.Settle grant o)
MaySettle allows r = Unit {0}

-- grants of the key are open
abbrev pub IsBusy : DeskReply → Type 0
IsBusy (reply.Busy grants) = Unit {0}
IsBusy r = ⊥

-- each of these is this call, and is answered that grants are open
abbrev pub AllBusy : DeskCall → List (DeskCall × DeskReply) → Type 0
AllBusy c [] = Unit {0}
AllBusy c (x ∷ xs) = (x.0 ≡ c) × IsBusy x.1 × AllBusy c xs

-- a call to close a key was made until it was answered so; before, grants of the key were open
pub record ClosesIdle (c : DeskCall) (r : DeskReply) (made : List (DeskCall × DeskReply)) : Type 0 where
  pub busy : List (DeskCall × DeskReply)
  pub all_busy : AllBusy c busy
  pub made_is : made ≡ busy ++ (c, r) ∷ []
