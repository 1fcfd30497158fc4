-- Calls of the desk's machine, one after another.
use Rattle.std.specs.Prelude.{List, [], ◌∷◌, ◌++◌}
use Rattle.desk_machine.specs.States.{State}
use Rattle.desk_machine.specs.Machine.{Reply, after}
use Rattle.desk_machine.specs.Noted.{noted}
use Rattle.desk_machine.specs.declared.call.DeskCall.{DeskCall}
use Rattle.desk_machine.specs.declared.call.DeskReply.{DeskReply}
use Rattle.desk_machine.specs.declared.event.DeskEvent.{DeskEvent}

-- from the state on, each call may have its reply
abbrev pub CanMake : State → List (DeskCall × DeskReply) → Type 0
CanMake state [] = Unit {0}
CanMake state (x ∷ made) = Reply state x.0 x.1 × CanMake (after state x.0 x.1) made

-- the state after them
abbrev pub state_after : State → List (DeskCall × DeskReply) → State
state_after state [] = state
state_after state (x ∷ made) = state_after (after state x.0 x.1) made

-- what the desk notes of them
abbrev pub noted_of : State → List (DeskCall × DeskReply) → List DeskEvent
noted_of state [] = []
noted_of state (x ∷ made) = noted state.latest x.0 x.1 ++ noted_of (after state x.0 x.1) made
