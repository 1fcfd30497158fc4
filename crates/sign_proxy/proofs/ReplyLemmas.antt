-- Which replies come to a call for a grant.
use Rattle.std.proofs.Common.{◌≡◌, ℕ, refl}
use Rattle.edge_kit.specs.declared.bytes.PubKey.{PubKey}
use Rattle.slash_defs.specs.declared.message.Message.{Message}
use Rattle.desk_machine.specs.Kinds.{IsKind}
use Rattle.desk_machine.specs.declared.open_grant.OpenGrant.{OpenGrant}
use Rattle.desk_machine.specs.declared.call.DeskCall.TheVariants as call
use Rattle.desk_machine.specs.declared.call.DeskReply.{DeskReply}
use Rattle.desk_machine.specs.declared.call.DeskReply.TheVariants as reply
use Rattle.client_calls.specs.Steps.{ClientPlan, Replies}
use Rattle.sign_proxy.specs.Kinds.{IsRefusal}
use Rattle.sign_proxy.specs.Replies.{desk_reply}
use Rattle.sign_proxy.specs.Plans.{SigningResult, granted, refused}

abbrev pub IsNoGrant : DeskReply → Type 0
IsNoGrant r = (g : OpenGrant) → r ≡ reply.Granted g → ⊥

pub proposal_refused : (key : PubKey) (m : Message) (now : ℕ) (r : DeskReply) → IsNoGrant r → IsKind (call.Propose key m now) r → IsRefusal r
proposal_refused key m now reply.Disk h k = tt
proposal_refused key m now reply.Unknown h k = tt
proposal_refused key m now reply.NotActive h k = tt
proposal_refused key m now reply.Closing h k = tt
proposal_refused key m now (reply.Live epoch) h k = tt
proposal_refused key m now (reply.Watching first second) h k = tt
proposal_refused key m now (reply.Refused v) h k = tt
proposal_refused key m now (reply.Full size wanted) h k = tt
proposal_refused key m now reply.OutOfMemory h k = tt
proposal_refused key m now (reply.Granted grant) h k = absurd (h grant refl)
proposal_refused key m now r h k = absurd k

pub leave_refused : (key : PubKey) (now : ℕ) (r : DeskReply) → IsNoGrant r → IsKind (call.Allow key now) r → IsRefusal r
leave_refused key now reply.Disk h k = tt
leave_refused key now reply.Unknown h k = tt
leave_refused key now reply.NotActive h k = tt
leave_refused key now reply.Closing h k = tt
leave_refused key now (reply.Live epoch) h k = tt
leave_refused key now (reply.Watching first second) h k = tt
leave_refused key now (reply.Refused v) h k = tt
leave_refused key now (reply.Full size wanted) h k = tt
leave_refused key now reply.OutOfMemory h k = tt
leave_refused key now (reply.Granted grant) h k = absurd (h grant refl)
leave_refused key now r h k = absurd k

-- without a grant nothing more is asked
pub granted_none : (under : OpenGrant → ClientPlan SigningResult) (r : DeskReply) → IsNoGrant r → granted under (Replies r) ≡ refused (desk_reply r)
granted_none under (reply.Granted grant) h = absurd (h grant refl)
granted_none under r h = refl
