-- What is done to take keys in, to list them and to give them up. Each plan goes on by the reply to its call; where memory runs
-- out it stops.
use Rattle.std.specs.Prelude.{ℕ, List, [], ◌∷◌, Option, Some, None, if◌then◌else◌}
use Rattle.edge_kit.specs.declared.bytes.PubKey.{PubKey}
use Rattle.slash_defs.specs.declared.book.File.{File}
use Rattle.desk_machine.specs.declared.call.KeyStanding.{KeyStanding}
use Rattle.desk_machine.specs.declared.call.DeskCall.{DeskCall}
use Rattle.desk_machine.specs.declared.call.DeskCall.TheVariants as call
use Rattle.signer_link.specs.Signing.{imported}
use Rattle.signer_link.specs.declared.request.ImportCall.{ImportCall}
use Rattle.signer_link.specs.declared.reply.ImportReply.{ImportReply}
use Rattle.signer_link.specs.declared.reply.ImportReply.TheVariants as importing
use Rattle.signer_link.specs.declared.reply.DeleteReply.{DeleteReply}
use Rattle.signer_link.specs.declared.reply.DeleteReply.TheVariants as deleting
use Rattle.call_plans.specs.Plans.{Done, Stop, Ask, bind, each_plan}
use Rattle.key_custody.specs.declared.ask.Replied.{Replied}
use Rattle.key_custody.specs.declared.ask.Replied.TheVariants as said
use Rattle.key_custody.specs.declared.status.DeskRefusal.TheVariants as refusal
use Rattle.key_custody.specs.declared.status.Reason.TheVariants as reason
use Rattle.key_custody.specs.declared.status.KeyStatus.{KeyStatus}
use Rattle.key_custody.specs.declared.status.KeyStatus.TheVariants as status
use Rattle.key_custody.specs.declared.import.ImportEnd.{ImportEnd}
use Rattle.key_custody.specs.declared.import.ImportEnd.TheVariants as ending
use Rattle.key_custody.specs.declared.delete.Deletion.{Deletion}
use Rattle.key_custody.specs.Statuses.{handed_keys}
use Rattle.key_custody.specs.Keystores.{key_of_keystore}
use Rattle.key_custody.specs.Replies.{replied_of, active_keys, is_active_in}
use Rattle.client_calls.specs.Steps.{ClientReply, ClientPlan, Calls, Closes, Imports, Deletes, Replies, ClosedBy, Imported, Deleted}

-- ---- one call, and then by its reply; a reply that does not fit comes never

abbrev pub said_in : ClientReply → Replied
said_in (Replies r) = replied_of r
said_in (ClosedBy made r) = replied_of r
said_in r = said.Nothing

abbrev pub import_in : ClientReply → ImportReply
import_in (Imported r) = r
import_in r = importing.OutOfMemory

abbrev pub deletion_in : ClientReply → DeleteReply
deletion_in (Deleted r) = r
deletion_in r = deleting.OutOfMemory

abbrev pub asks : {X : Type 0} → DeskCall → (Replied → ClientPlan X) → ClientPlan X
asks c next_by = Ask (Calls c) (λ r. next_by (said_in r))

abbrev pub closes : {X : Type 0} → PubKey → (Replied → ClientPlan X) → ClientPlan X
closes key next_by = Ask (Closes key) (λ r. next_by (said_in r))

abbrev pub imports : {X : Type 0} → ImportCall → (ImportReply → ClientPlan X) → ClientPlan X
imports q next_by = Ask (Imports q) (λ r. next_by (import_in r))

abbrev pub deletes : {X : Type 0} → PubKey → (DeleteReply → ClientPlan X) → ClientPlan X
deletes key next_by = Ask (Deletes key) (λ r. next_by (deletion_in r))

-- ---- a key is taken in

abbrev pub activated_plan : Replied → ClientPlan KeyStatus
activated_plan said.Active = Done status.Imported
activated_plan said.Already = Done status.Duplicate
activated_plan (said.Refused d) = Done (status.Error (reason.Desk d))
activated_plan s = Stop

abbrev pub activate_plan : ℕ → PubKey → ClientPlan KeyStatus
activate_plan now key = asks (call.Activate key now) activated_plan

-- once the signer answered, whether it held the key before or not
abbrev pub taken_plan : ℕ → PubKey → ImportReply → ClientPlan KeyStatus
taken_plan now key importing.Imported = activate_plan now key
taken_plan now key importing.Duplicate = activate_plan now key
taken_plan now key (importing.Refused text) = Done (status.Error (reason.SignerRefused text))
taken_plan now key importing.Fault = Done (status.Error reason.SignerFault)
taken_plan now key (importing.BadAnswer body) = Done (status.Error (reason.SignerBadAnswer body))
taken_plan now key importing.OutOfMemory = Stop

-- an active key is not taken in again, and the signer is not asked
abbrev pub listed_plan : ℕ → List ℕ → List ℕ → PubKey → List (PubKey × KeyStanding) → ClientPlan KeyStatus
listed_plan now keystore password key listed =
    if is_active_in listed key then Done status.Duplicate else imports (imported key keystore password) (λ r. taken_plan now key r)

abbrev pub standing_plan : ℕ → List ℕ → List ℕ → PubKey → Replied → ClientPlan KeyStatus
standing_plan now keystore password key (said.Listed listed) = listed_plan now keystore password key listed
standing_plan now keystore password key s = Stop

abbrev pub key_plan : ℕ → List ℕ → List ℕ → PubKey → ClientPlan KeyStatus
key_plan now keystore password key = asks call.Keys (λ s. standing_plan now keystore password key s)

abbrev pub found_plan : ℕ → List ℕ → List ℕ → Option PubKey → ClientPlan KeyStatus
found_plan now keystore password None = Done (status.Error reason.BadKeystore)
found_plan now keystore password (Some key) = key_plan now keystore password key

-- of a keystore with its password
abbrev pub keystore_plan : ℕ → List ℕ × List ℕ → ClientPlan KeyStatus
keystore_plan now k = found_plan now k.0 k.1 (key_of_keystore k.0)

abbrev pub keystores_plan : ℕ → List (List ℕ × List ℕ) → ClientPlan (List KeyStatus)
keystores_plan now keystores = each_plan (λ k. keystore_plan now k) [] keystores

abbrev pub treated_plan : ℕ → List (List ℕ × List ℕ) → ClientPlan ImportEnd
treated_plan now keystores = bind (keystores_plan now keystores) (λ got. Done (ending.Treated got))

abbrev pub merged_plan : ℕ → List (List ℕ × List ℕ) → Replied → ClientPlan ImportEnd
merged_plan now keystores said.Merged = treated_plan now keystores
merged_plan now keystores (said.Refused d) = Done (ending.MergeRefused d)
merged_plan now keystores s = Stop

-- the file first, whole, and then each keystore in order
abbrev pub file_plan : File → ℕ → List (List ℕ × List ℕ) → ClientPlan ImportEnd
file_plan file now keystores = asks (call.Merge file) (λ s. merged_plan now keystores s)

abbrev pub import_plan : Option File → ℕ → List (List ℕ × List ℕ) → ClientPlan ImportEnd
import_plan None now keystores = treated_plan now keystores
import_plan (Some file) now keystores = file_plan file now keystores

-- each keystore with its password, of two lists of one length
abbrev pub paired : {A : Type 0} → (A → List ℕ) → List A → List A → List (List ℕ × List ℕ)
paired text (k ∷ ks) (p ∷ ps) = (text k, text p) ∷ paired text ks ps
paired text ks ps = []

-- ---- the active keys are listed

abbrev pub active_plan : Replied → ClientPlan (List PubKey)
active_plan (said.Listed listed) = Done (active_keys listed)
active_plan s = Stop

abbrev pub list_plan : ClientPlan (List PubKey)
list_plan = asks call.Keys active_plan

-- ---- a key is given up

abbrev pub closed_plan : Replied → ClientPlan KeyStatus
closed_plan said.Closed = Done status.Deleted
closed_plan (said.Refused d) = Done (status.Error (reason.Desk d))
closed_plan said.Unknown = Done (status.Error (reason.Desk refusal.Unknown))
closed_plan s = Stop

abbrev pub close_plan : PubKey → ClientPlan KeyStatus
close_plan key = closes key closed_plan

-- once the signer answered, whether or not it knew the key
abbrev pub given_up_plan : PubKey → DeleteReply → ClientPlan KeyStatus
given_up_plan key deleting.Deleted = close_plan key
given_up_plan key deleting.NotActive = close_plan key
given_up_plan key deleting.NotFound = close_plan key
given_up_plan key (deleting.Refused text) = Done (status.Error (reason.SignerRefused text))
given_up_plan key deleting.Fault = Done (status.Error reason.SignerFault)
given_up_plan key (deleting.BadAnswer body) = Done (status.Error (reason.SignerBadAnswer body))
given_up_plan key deleting.OutOfMemory = Stop

-- once no more is granted for the key, also where that was so before
abbrev pub closing_plan : PubKey → Replied → ClientPlan KeyStatus
closing_plan key said.Closing = deletes key (λ r. given_up_plan key r)
closing_plan key said.Unknown = Done status.NotFound
closing_plan key said.NotActive = Done status.NotActive
closing_plan key s = Stop

abbrev pub delete_plan : PubKey → ClientPlan KeyStatus
delete_plan key = asks (call.BeginClose key) (λ s. closing_plan key s)

abbrev pub statuses_plan : List PubKey → ClientPlan (List KeyStatus)
statuses_plan keys = each_plan delete_plan [] keys

abbrev pub exported_plan : List KeyStatus → Replied → ClientPlan Deletion
exported_plan statuses (said.Exported file) = Done (record { statuses = statuses; file = file })
exported_plan statuses s = Stop

-- once all keys were treated, those that are deleted or were not active are handed out
abbrev pub export_plan : List PubKey → List KeyStatus → ClientPlan Deletion
export_plan keys statuses = asks (call.Export (handed_keys keys statuses)) (λ s. exported_plan statuses s)

abbrev pub deletion_plan : List PubKey → ClientPlan Deletion
deletion_plan keys = bind (statuses_plan keys) (λ statuses. export_plan keys statuses)
