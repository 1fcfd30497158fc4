-- What is signed and posted lies between a grant and the settling of it.
use Rattle.std.specs.Prelude.{◌≡◌, List, [], ◌∷◌, ◌++◌, Contains, Option, Some, None, flat_map}
use Rattle.edge_kit.specs.declared.bytes.PubKey.{PubKey}
use Rattle.slash_defs.specs.declared.message.Message.{Message}
use Rattle.desk_machine.specs.declared.open_grant.OpenGrant.{OpenGrant}
use Rattle.desk_machine.specs.declared.call.DeskCall.{DeskCall}
use Rattle.desk_machine.specs.declared.call.DeskCall.TheVariants as call
use Rattle.desk_machine.specs.declared.call.DeskReply.{DeskReply}
use Rattle.desk_machine.specs.declared.call.DeskReply.TheVariants as reply
use Rattle.desk_machine.specs.declared.call.Outcome.{Outcome}
use Rattle.desk_machine.specs.declared.call.Outcome.TheVariants as outcome
use Rattle.node_calls.specs.declared.post.Post.{Post}
use Rattle.duty_plans.specs.Steps.{DutyCall, DutyReply, DutyStep, Calls, Signs, Reveals, Posts, Replies, desk_calls}

-- in these steps the desk gave the grant, and it was not called since then
pub record GivenIn (front : List DutyStep) (grant : OpenGrant) : Type 0 where
  pub earlier : List DutyStep
  pub by : DeskCall
  pub since : List DutyStep
  pub is : front ≡ earlier ++ (Calls by, Replies (reply.Granted grant)) ∷ since
  pub quiet : desk_calls since ≡ []

-- in these steps the grant is settled so, and the desk is not called before that
pub record SettledIn (back : List DutyStep) (grant : OpenGrant) (o : Outcome) : Type 0 where
  pub before : List DutyStep
  pub by : DeskReply
  pub later : List DutyStep
  pub is : back ≡ before ++ (Calls (call.Settle grant o), Replies by) ∷ later
  pub quiet : desk_calls before ≡ []

-- Each post lies between the entry of its grant and the settling of it as sent. Between them these steps don't call the desk: so
-- they close no key there. What other passes to a shared desk do meanwhile isn't told here.
abbrev pub PostsGuarded : List DutyStep → Type 0
PostsGuarded steps = (front back : List DutyStep) (grant : OpenGrant) (p : Post) (r : DutyReply) → steps ≡ front ++ (Posts grant p, r) ∷ back
    → GivenIn front grant × SettledIn back grant outcome.Sent

-- something is signed under this grant
abbrev pub IsSigned : OpenGrant → DutyCall → Type 0
IsSigned grant (Signs g q) = g ≡ grant
IsSigned grant (Reveals g q) = g ≡ grant
IsSigned grant c = ⊥

-- and so does what is asked of the signing service, whatever became of it
abbrev pub SignsGuarded : List DutyStep → Type 0
SignsGuarded steps = (front back : List DutyStep) (grant : OpenGrant) (c : DutyCall) (r : DutyReply) → IsSigned grant c → steps ≡ front ++ (c, r) ∷ back
    → GivenIn front grant × ((o : Outcome) × SettledIn back grant o)

-- ---- what was posted, and what was granted

abbrev pub keyed : PubKey → Option Message → List (PubKey × Message)
keyed key None = []
keyed key (Some m) = (key, m) ∷ []

-- the message of a post, with its key, as the nodes are told
abbrev pub posted_by : DutyStep → List (PubKey × Message)
posted_by (Posts grant p, r) = keyed grant.key grant.message
posted_by s = []

abbrev pub posted_in : List DutyStep → List (PubKey × Message)
posted_in steps = flat_map posted_by steps

-- a message that the desk gave leave for, with its key
abbrev pub granted_by : DeskCall × DeskReply → List (PubKey × Message)
granted_by (call.Propose key m now, reply.Granted grant) = (key, m) ∷ []
granted_by made = []

abbrev pub granted_in : List (DeskCall × DeskReply) → List (PubKey × Message)
granted_in made = flat_map granted_by made

-- each message that was posted is one that the desk gave leave for
abbrev pub PostedGranted : List DutyStep → Type 0
PostedGranted steps = (x : PubKey × Message) → Contains (posted_in steps) x → Contains (granted_in (desk_calls steps)) x
