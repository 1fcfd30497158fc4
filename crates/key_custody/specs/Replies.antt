-- What custody of keys asks of the desk, and what it reads of the reply.
use Rattle.std.specs.Prelude.{◌≡◌, ◌&&◌, Bool, List, [], ◌∷◌, filter}
use Rattle.std.specs.List.{list_any}
use Rattle.std.specs.Map.{keys_of}
use Rattle.std.specs.BTreeMap.{is_at}
use Rattle.edge_kit.specs.declared.bytes.PubKey.{PubKey}
use Rattle.record_join.specs.Keys.{key_cmp}
use Rattle.desk_machine.specs.Kinds.{IsKind}
use Rattle.desk_machine.specs.Making.{ClosesIdle}
use Rattle.desk_machine.specs.States.{is_active, state_in}
use Rattle.desk_machine.specs.declared.call.KeyStanding.{KeyStanding}
use Rattle.desk_machine.specs.declared.call.DeskCall.{DeskCall}
use Rattle.desk_machine.specs.declared.call.DeskCall.TheVariants as call
use Rattle.desk_machine.specs.declared.call.DeskReply.{DeskReply}
use Rattle.desk_machine.specs.declared.call.DeskReply.TheVariants as reply
use Rattle.key_custody.specs.declared.ask.Replied.{Replied}
use Rattle.key_custody.specs.declared.ask.Replied.TheVariants as said
use Rattle.key_custody.specs.declared.status.DeskRefusal.TheVariants as refusal

-- custody makes these calls alone
abbrev pub IsOfCustody : DeskCall → Type 0
IsOfCustody (call.Merge file) = Unit {0}
IsOfCustody (call.Activate key now) = Unit {0}
IsOfCustody (call.BeginClose key) = Unit {0}
IsOfCustody (call.FinishClose key) = Unit {0}
IsOfCustody (call.Export keys) = Unit {0}
IsOfCustody call.Keys = Unit {0}
IsOfCustody c = ⊥

abbrev pub IsNoGrant : DeskReply → Type 0
IsNoGrant (reply.Granted grant) = ⊥
IsNoGrant r = Unit {0}

-- what is read of a reply
abbrev pub replied_of : DeskReply → Replied
replied_of (reply.Merged keys) = said.Merged
replied_of reply.Active = said.Active
replied_of reply.Already = said.Already
replied_of reply.CloseBegun = said.Closing
replied_of reply.AlreadyClosing = said.Closing
replied_of (reply.Closed book) = said.Closed
replied_of (reply.Exported file) = said.Exported file
replied_of (reply.Keys listed) = said.Listed listed
replied_of reply.Unknown = said.Unknown
replied_of reply.NotActive = said.NotActive
replied_of (reply.GenesisDiffers kept given) = said.Refused (refusal.GenesisDiffers kept given)
replied_of (reply.TooManyKeys have new) = said.Refused (refusal.TooManyKeys have new)
replied_of (reply.Full size wanted) = said.Refused (refusal.Full size wanted)
replied_of reply.Disk = said.Refused refusal.Disk
replied_of reply.Closing = said.Refused refusal.Closing
replied_of (reply.NotClosing state) = said.Refused (refusal.NotClosing state)
replied_of (reply.Busy grants) = said.Refused (refusal.Busy grants)
replied_of r = said.Nothing

-- the desk was asked this, and replied so
pub record Asked {K : Type 0} (leads : K → List (DeskCall × DeskReply) → K → Type 0) (before now : K) (c : DeskCall) (s : Replied) : Type 0 where
  pub reply : DeskReply
  pub led : leads before ((c, reply) ∷ []) now
  pub kind : IsKind c reply
  pub is : s ≡ replied_of reply

-- the desk was to close the key once it was idle, and replied so
pub record ClosesKey {K : Type 0} (leads : K → List (DeskCall × DeskReply) → K → Type 0) (before now : K) (key : PubKey) (s : Replied) : Type 0 where
  pub made : List (DeskCall × DeskReply)
  pub reply : DeskReply
  pub idle : ClosesIdle (call.FinishClose key) reply made
  pub led : leads before made now
  pub kind : IsKind (call.FinishClose key) reply
  pub is : s ≡ replied_of reply

-- ---- the active ones of the listed keys

abbrev pub is_listed_active : PubKey × KeyStanding → Bool
is_listed_active l = is_active (state_in l.1)

abbrev pub active_keys : List (PubKey × KeyStanding) → List PubKey
active_keys listed = keys_of (filter is_listed_active listed)

abbrev pub is_active_at : PubKey → PubKey × KeyStanding → Bool
is_active_at key l = is_listed_active l && is_at (key_cmp key) l.0

abbrev pub is_active_in : List (PubKey × KeyStanding) → PubKey → Bool
is_active_in listed key = list_any (is_active_at key) listed
