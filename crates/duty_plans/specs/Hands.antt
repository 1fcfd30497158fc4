-- The grant in hand.
use Rattle.std.specs.Prelude.{◌≡◌, List, []}
use Rattle.desk_machine.specs.declared.open_grant.OpenGrant.{OpenGrant}
use Rattle.desk_machine.specs.declared.call.DeskCall.{DeskCall}
use Rattle.desk_machine.specs.declared.call.DeskCall.TheVariants as call
use Rattle.desk_machine.specs.declared.call.DeskReply.{DeskReply}
use Rattle.desk_machine.specs.declared.call.DeskReply.TheVariants as reply
use Rattle.desk_machine.specs.declared.call.Outcome.{Outcome}
use Rattle.desk_machine.specs.declared.call.Outcome.TheVariants as outcome
use Rattle.node_calls.specs.declared.ask.Ask.{Ask}
use Rattle.node_calls.specs.declared.ask.Ask.TheVariants as ask
use Rattle.duty_plans.specs.Steps.{DutyCall, DutyReply, DutyStep, Calls, Signs, Reveals, Asks, Posts, Replies}

-- none; one under which nothing was sent yet; or one under which sending was begun
pub data Hand : Type 0 where
  Free : Hand
  Holds : OpenGrant → Hand
  Sends : OpenGrant → Hand

-- a grant is settled as what became of it, and nothing else is called of the desk while one is in hand
abbrev pub MayCall : Hand → DeskCall → Type 0
MayCall h (call.Settle grant outcome.Sent) = h ≡ Sends grant
MayCall h (call.Settle grant outcome.Dropped) = h ≡ Holds grant
MayCall h c = h ≡ Free

-- a block is asked for with what was signed under the grant in hand
abbrev pub MayAsk : Hand → Ask → Type 0
MayAsk h (ask.Block slot reveal) = (grant : OpenGrant) × (h ≡ Holds grant)
MayAsk h a = h ≡ Free

-- what is signed and posted is so under the grant in hand
abbrev pub MayDo : Hand → DutyCall → Type 0
MayDo h (Calls c) = MayCall h c
MayDo h (Signs grant q) = h ≡ Holds grant
MayDo h (Reveals grant q) = h ≡ Holds grant
MayDo h (Asks a) = MayAsk h a
MayDo h (Posts grant p) = h ≡ Holds grant

abbrev pub hand_given : Hand → DeskReply → Hand
hand_given h (reply.Granted grant) = Holds grant
hand_given h r = h

abbrev pub hand_called : Hand → DeskCall → DeskReply → Hand
hand_called h (call.Settle grant o) r = Free
hand_called h c r = hand_given h r

abbrev pub begun : Hand → Hand
begun Free = Free
begun (Holds grant) = Sends grant
begun (Sends grant) = Sends grant

-- the hand after a step: an ask that shows a signature, and a post, begin to send
abbrev pub hand_after : Hand → DutyStep → Hand
hand_after h (Calls c, Replies r) = hand_called h c r
hand_after h (Asks a, r) = begun h
hand_after h (Posts grant p, r) = begun h
hand_after h s = h

-- how a grant is settled, by what became of it
abbrev pub hand_of : OpenGrant → Outcome → Hand
hand_of grant outcome.Sent = Sends grant
hand_of grant outcome.Dropped = Holds grant
