-- What a client calls of its desk and of the service that signs, step by step, and what these tell of that.
use Rattle.std.specs.Prelude.{Bool, false, List, [], ◌∷◌, flat_map, Option, Some, None}
use Rattle.std.specs.List.{list_any}
use Rattle.edge_kit.specs.declared.bytes.PubKey.{PubKey}
use Rattle.slash_defs.specs.declared.message.Message.{Message}
use Rattle.desk_machine.specs.Kinds.{IsKind}
use Rattle.desk_machine.specs.Making.{ClosesIdle}
use Rattle.desk_machine.specs.declared.open_grant.OpenGrant.{OpenGrant}
use Rattle.desk_machine.specs.declared.call.DeskCall.{DeskCall}
use Rattle.desk_machine.specs.declared.call.DeskCall.TheVariants as call
use Rattle.desk_machine.specs.declared.call.DeskReply.{DeskReply}
use Rattle.signer_link.specs.Outcomes.{sign_failed, sign_denied, import_failed, import_denied, delete_failed, delete_denied}
use Rattle.signer_link.specs.Signing.{asked, plainly_asked, told_sign, told_plain, told_import, told_delete}
use Rattle.signer_link.specs.declared.request.SignRequest.{SignRequest}
use Rattle.signer_link.specs.declared.request.PlainRequest.{PlainRequest}
use Rattle.signer_link.specs.declared.request.ImportCall.{ImportCall}
use Rattle.signer_link.specs.declared.reply.SignReply.{SignReply}
use Rattle.signer_link.specs.declared.reply.SignReply.TheVariants as signing
use Rattle.signer_link.specs.declared.reply.ImportReply.{ImportReply}
use Rattle.signer_link.specs.declared.reply.DeleteReply.{DeleteReply}
use Rattle.signer_link.specs.declared.reply.Told.{Told}
use Rattle.call_plans.specs.Plans.{Plan}

-- a call of the desk; the closing of a key once it is idle; and a call of the signer: to sign the message of a grant, or under a grant
-- what is no block and no vote, to take a key in or to give one up
pub data ClientCall : Type 0 where
  Calls : DeskCall → ClientCall
  Closes : PubKey → ClientCall
  Signs : OpenGrant → SignRequest → ClientCall
  SignsPlain : OpenGrant → PlainRequest → ClientCall
  Imports : ImportCall → ClientCall
  Deletes : PubKey → ClientCall

-- the reply; to a closing with the calls of the desk that were made for it
pub data ClientReply : Type 0 where
  Replies : DeskReply → ClientReply
  ClosedBy : List (DeskCall × DeskReply) → DeskReply → ClientReply
  Signed : SignReply → ClientReply
  Imported : ImportReply → ClientReply
  Deleted : DeleteReply → ClientReply

abbrev pub ClientStep : Type 0
ClientStep = ClientCall × ClientReply

abbrev pub ClientPlan : Type 0 → Type 0
ClientPlan X = Plan ClientCall ClientReply X

-- the reply is one that the call may have
abbrev pub Fits : ClientCall → ClientReply → Type 0
Fits (Calls c) (Replies r) = IsKind c r
Fits (Closes key) (ClosedBy made r) = ClosesIdle (call.FinishClose key) r made × IsKind (call.FinishClose key) r
Fits (Signs grant q) (Signed r) = Unit {0}
Fits (SignsPlain grant q) (Signed r) = Unit {0}
Fits (Imports q) (Imported r) = Unit {0}
Fits (Deletes key) (Deleted r) = Unit {0}
Fits c r = ⊥

-- ---- what is told of a step

-- the calls of the desk
abbrev pub step_calls : ClientStep → List (DeskCall × DeskReply)
step_calls (Calls c, Replies r) = (c, r) ∷ []
step_calls (Closes key, ClosedBy made r) = made
step_calls s = []

-- what the signer is asked for the message of a grant, with its reply
abbrev pub told_under : OpenGrant → SignRequest → Option Message → SignReply → List Told
told_under grant q None r = []
told_under grant q (Some m) r = told_sign (asked grant.key m q) r

-- the calls that the signer tells
abbrev pub step_told : ClientStep → List Told
step_told (Signs grant q, Signed r) = told_under grant q grant.message r
step_told (SignsPlain grant q, Signed r) = told_plain (plainly_asked grant.key q) r
step_told (Imports q, Imported r) = told_import q r
step_told (Deletes key, Deleted r) = told_delete key r
step_told s = []

-- the signer failed, or refused
abbrev pub step_failed : ClientStep → Bool
step_failed (Signs grant q, Signed r) = sign_failed r
step_failed (SignsPlain grant q, Signed r) = sign_failed r
step_failed (Imports q, Imported r) = import_failed r
step_failed (Deletes key, Deleted r) = delete_failed r
step_failed s = false

abbrev pub step_denied : ClientStep → Bool
step_denied (Signs grant q, Signed r) = sign_denied r
step_denied (SignsPlain grant q, Signed r) = sign_denied r
step_denied (Imports q, Imported r) = import_denied r
step_denied (Deletes key, Deleted r) = delete_denied r
step_denied s = false

-- the message of a grant, with its key
abbrev pub message_of : OpenGrant → Option Message → List (PubKey × Message)
message_of grant None = []
message_of grant (Some m) = (grant.key, m) ∷ []

-- the message whose signature the signer gave, with its key
abbrev pub step_sent : ClientStep → List (PubKey × Message)
step_sent (Signs grant q, Signed (signing.Signed signature)) = message_of grant grant.message
step_sent s = []

abbrev pub desk_calls : List ClientStep → List (DeskCall × DeskReply)
desk_calls steps = flat_map step_calls steps

abbrev pub told_in : List ClientStep → List Told
told_in steps = flat_map step_told steps

abbrev pub has_failed : List ClientStep → Bool
has_failed steps = list_any step_failed steps

abbrev pub has_denied : List ClientStep → Bool
has_denied steps = list_any step_denied steps

abbrev pub sent_in : List ClientStep → List (PubKey × Message)
sent_in steps = flat_map step_sent steps
