-- How turns end where the desk's disk failed.
use Rattle.std.specs.Prelude.{◌≡◌, true, List, [], ◌∷◌, ◌++◌}
use Rattle.desk_machine.specs.declared.call.DeskCall.TheVariants as call
use Rattle.desk_machine.specs.declared.call.DeskReply.TheVariants as reply
use Rattle.duty_plans.specs.Steps.{DutyStep, Calls, Replies}

-- with the last of these steps the desk was asked whether its disk failed, and it had
abbrev pub EndAtFailedDisk : List DutyStep → Type 0
EndAtFailedDisk steps = (front : List DutyStep) × (steps ≡ front ++ (Calls call.HasFailed, Replies (reply.HasFailed true)) ∷ [])
