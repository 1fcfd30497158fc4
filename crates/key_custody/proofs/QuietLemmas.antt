-- Custody opens no grant, settles none, and has nothing signed.
use Rattle.std.proofs.Common.{ℕ, Bool, true, false, cond, List, [], Option, Some, None}
use Rattle.edge_kit.specs.declared.bytes.PubKey.{PubKey}
use Rattle.slash_defs.specs.declared.book.File.{File}
use Rattle.desk_machine.specs.declared.call.DeskCall.{DeskCall}
use Rattle.desk_machine.specs.declared.call.DeskCall.TheVariants as call
use Rattle.signer_link.specs.Signing.{imported}
use Rattle.signer_link.specs.declared.reply.ImportReply.{ImportReply}
use Rattle.signer_link.specs.declared.reply.ImportReply.TheVariants as importing
use Rattle.signer_link.specs.declared.reply.DeleteReply.{DeleteReply}
use Rattle.signer_link.specs.declared.reply.DeleteReply.TheVariants as deleting
use Rattle.call_plans.specs.Plans.{Done}
use Rattle.client_calls.specs.Steps.{ClientPlan}
use Rattle.client_calls.proofs.AskLemmas.{AllAsked, asked_bind, asked_each}
use Rattle.client_calls.proofs.QuietLemmas.{IsQuiet, IsQuietCall}
use Rattle.key_custody.specs.declared.ask.Replied.{Replied}
use Rattle.key_custody.specs.declared.ask.Replied.TheVariants as said
use Rattle.key_custody.specs.declared.status.KeyStatus.{KeyStatus}
use Rattle.key_custody.specs.declared.status.KeyStatus.TheVariants as status
use Rattle.key_custody.specs.declared.import.ImportEnd.TheVariants as ending
use Rattle.key_custody.specs.Keystores.{key_of_keystore}
use Rattle.key_custody.specs.Statuses.{handed_keys}
use Rattle.key_custody.specs.Replies.{is_active_in}
use Rattle.key_custody.specs.Plans.{said_in, import_in, deletion_in, asks, closes, imports, activated_plan, activate_plan, taken_plan, standing_plan, found_plan, keystore_plan, keystores_plan, treated_plan, merged_plan, import_plan, active_plan, list_plan, closed_plan, given_up_plan, closing_plan, delete_plan, statuses_plan, exported_plan, export_plan, deletion_plan}

abbrev AreQuiet : {X : Type 0} → (Replied → ClientPlan X) → Type 0
AreQuiet next_by = (s : Replied) → AllAsked IsQuiet (next_by s)

quiet_asks : {X : Type 0} (c : DeskCall) (next_by : Replied → ClientPlan X) → IsQuietCall c → AreQuiet next_by → AllAsked IsQuiet (asks c next_by)
quiet_asks c next_by h then = (h, λ r. then (said_in r))

quiet_closes : {X : Type 0} (key : PubKey) (next_by : Replied → ClientPlan X) → AreQuiet next_by → AllAsked IsQuiet (closes key next_by)
quiet_closes key next_by then = (tt, λ r. then (said_in r))

-- ---- taking keys in

activated : AreQuiet activated_plan
activated said.Active = tt
activated said.Already = tt
activated (said.Refused d) = tt
activated s = tt

activates : (now : ℕ) (key : PubKey) → AllAsked IsQuiet (activate_plan now key)
activates now key = quiet_asks (call.Activate key now) activated_plan tt activated

taken : (now : ℕ) (key : PubKey) (r : ImportReply) → AllAsked IsQuiet (taken_plan now key r)
taken now key importing.Imported = activates now key
taken now key importing.Duplicate = activates now key
taken now key (importing.Refused text) = tt
taken now key importing.Fault = tt
taken now key (importing.BadAnswer body) = tt
taken now key importing.OutOfMemory = tt

listed_by : (now : ℕ) (keystore password : List ℕ) (key : PubKey) (b : Bool) → AllAsked IsQuiet (cond b (Done status.Duplicate) (imports (imported key keystore password) (λ r. taken_plan now key r)))
listed_by now keystore password key true = tt
listed_by now keystore password key false = (tt, λ r. taken now key (import_in r))

standing : (now : ℕ) (keystore password : List ℕ) (key : PubKey) → AreQuiet (λ s. standing_plan now keystore password key s)
standing now keystore password key (said.Listed listed) = listed_by now keystore password key (is_active_in listed key)
standing now keystore password key s = tt

found : (now : ℕ) (keystore password : List ℕ) (key : Option PubKey) → AllAsked IsQuiet (found_plan now keystore password key)
found now keystore password None = tt
found now keystore password (Some key) = quiet_asks call.Keys (λ s. standing_plan now keystore password key s) tt (standing now keystore password key)

treated : (now : ℕ) (keystores : List (List ℕ × List ℕ)) → AllAsked IsQuiet (treated_plan now keystores)
treated now keystores =
    asked_bind IsQuiet (keystores_plan now keystores) (λ got. Done (ending.Treated got))
    (asked_each IsQuiet (λ k. keystore_plan now k) [] keystores (λ k. found now k.0 k.1 (key_of_keystore k.0))) (λ got. tt)

merged : (now : ℕ) (keystores : List (List ℕ × List ℕ)) → AreQuiet (λ s. merged_plan now keystores s)
merged now keystores said.Merged = treated now keystores
merged now keystores (said.Refused d) = tt
merged now keystores s = tt

pub quiet_import : (file : Option File) (now : ℕ) (keystores : List (List ℕ × List ℕ)) → AllAsked IsQuiet (import_plan file now keystores)
quiet_import None now keystores = treated now keystores
quiet_import (Some file) now keystores = quiet_asks (call.Merge file) (λ s. merged_plan now keystores s) tt (merged now keystores)

-- ---- listing them

active : AreQuiet active_plan
active (said.Listed listed) = tt
active s = tt

pub quiet_list : AllAsked IsQuiet list_plan
quiet_list = quiet_asks call.Keys active_plan tt active

-- ---- giving them up

closed : AreQuiet closed_plan
closed said.Closed = tt
closed (said.Refused d) = tt
closed said.Unknown = tt
closed s = tt

given_up : (key : PubKey) (r : DeleteReply) → AllAsked IsQuiet (given_up_plan key r)
given_up key deleting.Deleted = quiet_closes key closed_plan closed
given_up key deleting.NotActive = quiet_closes key closed_plan closed
given_up key deleting.NotFound = quiet_closes key closed_plan closed
given_up key (deleting.Refused text) = tt
given_up key deleting.Fault = tt
given_up key (deleting.BadAnswer body) = tt
given_up key deleting.OutOfMemory = tt

closing : (key : PubKey) → AreQuiet (λ s. closing_plan key s)
closing key said.Closing = (tt, λ r. given_up key (deletion_in r))
closing key said.Unknown = tt
closing key said.NotActive = tt
closing key s = tt

exported : (statuses : List KeyStatus) → AreQuiet (λ s. exported_plan statuses s)
exported statuses (said.Exported file) = tt
exported statuses s = tt

pub quiet_deletion : (keys : List PubKey) → AllAsked IsQuiet (deletion_plan keys)
quiet_deletion keys =
    asked_bind IsQuiet (statuses_plan keys) (λ statuses. export_plan keys statuses)
    (asked_each IsQuiet delete_plan [] keys (λ key. quiet_asks (call.BeginClose key) (λ s. closing_plan key s) tt (closing key)))
    (λ statuses. quiet_asks (call.Export (handed_keys keys statuses)) (λ s. exported_plan statuses s) tt (exported statuses))
