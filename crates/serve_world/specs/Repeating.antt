-- A proposal that was granted and comes again.
use Rattle.std.specs.Prelude.{◌≡◌, ℕ, List, []}
use Rattle.edge_kit.specs.declared.bytes.PubKey.{PubKey}
use Rattle.slash_defs.specs.declared.message.Message.{Message}
use Rattle.desk_machine.specs.States.{State, past_of}
use Rattle.desk_machine.specs.Machine.{Reply, after}
use Rattle.desk_machine.specs.Written.{written}
use Rattle.desk_machine.specs.declared.open_grant.OpenGrant.{OpenGrant}
use Rattle.desk_machine.specs.declared.call.DeskCall.TheVariants as call
use Rattle.desk_machine.specs.declared.call.DeskReply.{DeskReply}
use Rattle.desk_machine.specs.declared.call.DeskReply.TheVariants as reply
use Rattle.call_plans.specs.Paths.{Path}
use Rattle.key_custody.specs.Once.{Change, Changes, SameRecord}

-- Every record is as it was: what stands for the past of a key before stands for it after. So is every key's state and watch, the journal,
-- and what a torn call would have left.
pub record ChangesNoRecord (c d : State) : Type 0 where
  pub records : (key : PubKey) → SameRecord (past_of c key) (past_of d key)
  pub states : d.states ≡ c.states
  pub watching : d.watching ≡ c.watching
  pub size : d.size ≡ c.size
  pub generation : d.generation ≡ c.generation
  pub torn : d.torn ≡ c.torn

-- A message that leave was given for and that is proposed again for the key, whatever calls and stops came between and whatever the reply
-- is: there is nothing of it to write, and no record changes.
abbrev pub RepeatsChangeNothing : Type 0
RepeatsChangeNothing = (a c : State) (key : PubKey) (m : Message) (now later : ℕ) (grant : OpenGrant) (r : DeskReply) (between : List Change)
    → Reply a (call.Propose key m now) (reply.Granted grant) → Path Changes (after a (call.Propose key m now) (reply.Granted grant)) between c
    → Reply c (call.Propose key m later) r
    → (written c (call.Propose key m later) ≡ []) × ChangesNoRecord c (after c (call.Propose key m later) r)
