-- Which replies come to a line's calls.
use Rattle.edge_kit.specs.declared.bytes.PubKey.{PubKey}
use Rattle.slash_defs.specs.declared.message.Message.{Message}
use Rattle.std.proofs.Common.{◌≡◌, ℕ, refl}
use Rattle.desk_machine.specs.Kinds.{IsKind}
use Rattle.desk_machine.specs.declared.open_grant.OpenGrant.{OpenGrant}
use Rattle.desk_machine.specs.declared.call.DeskCall.{DeskCall}
use Rattle.desk_machine.specs.declared.call.DeskCall.TheVariants as call
use Rattle.desk_machine.specs.declared.call.DeskReply.{DeskReply}
use Rattle.desk_machine.specs.declared.call.DeskReply.TheVariants as reply
use Rattle.client_calls.proofs.QuietLemmas.{IsQuietCall}
use Rattle.session_run.specs.Plans.{IsPlainCall, IsPlainReply}

pub plain_of : (c : DeskCall) (r : DeskReply) → IsPlainCall c → IsKind c r → IsPlainReply r
plain_of (call.Merge file) reply.CloseBegun h k = absurd k
plain_of (call.Merge file) reply.AlreadyClosing h k = absurd k
plain_of (call.Merge file) (reply.Closed book) h k = absurd k
plain_of (call.Merge file) (reply.Keys listed) h k = absurd k
plain_of (call.Merge file) (reply.HasFailed failed) h k = absurd k
plain_of (call.Merge file) (reply.Size size weight) h k = absurd k
plain_of (call.Merge file) (reply.NotClosing state) h k = absurd k
plain_of (call.Merge file) (reply.Busy grants) h k = absurd k
plain_of (call.Merge file) reply.Settled h k = absurd k
plain_of (call.Merge file) (reply.Granted grant) h k = absurd k
plain_of (call.Merge file) reply.Recorded h k = absurd k
plain_of (call.Merge file) reply.Unfit h k = absurd k
plain_of (call.Activate key now) reply.CloseBegun h k = absurd k
plain_of (call.Activate key now) reply.AlreadyClosing h k = absurd k
plain_of (call.Activate key now) (reply.Closed book) h k = absurd k
plain_of (call.Activate key now) (reply.Keys listed) h k = absurd k
plain_of (call.Activate key now) (reply.HasFailed failed) h k = absurd k
plain_of (call.Activate key now) (reply.Size size weight) h k = absurd k
plain_of (call.Activate key now) (reply.NotClosing state) h k = absurd k
plain_of (call.Activate key now) (reply.Busy grants) h k = absurd k
plain_of (call.Activate key now) reply.Settled h k = absurd k
plain_of (call.Activate key now) (reply.Granted grant) h k = absurd k
plain_of (call.Activate key now) reply.Recorded h k = absurd k
plain_of (call.Activate key now) reply.Unfit h k = absurd k
plain_of (call.Export keys) reply.CloseBegun h k = absurd k
plain_of (call.Export keys) reply.AlreadyClosing h k = absurd k
plain_of (call.Export keys) (reply.Closed book) h k = absurd k
plain_of (call.Export keys) (reply.Keys listed) h k = absurd k
plain_of (call.Export keys) (reply.HasFailed failed) h k = absurd k
plain_of (call.Export keys) (reply.Size size weight) h k = absurd k
plain_of (call.Export keys) (reply.NotClosing state) h k = absurd k
plain_of (call.Export keys) (reply.Busy grants) h k = absurd k
plain_of (call.Export keys) reply.Settled h k = absurd k
plain_of (call.Export keys) (reply.Granted grant) h k = absurd k
plain_of (call.Export keys) reply.Recorded h k = absurd k
plain_of (call.Export keys) reply.Unfit h k = absurd k
plain_of (call.Prune key) reply.CloseBegun h k = absurd k
plain_of (call.Prune key) reply.AlreadyClosing h k = absurd k
plain_of (call.Prune key) (reply.Closed book) h k = absurd k
plain_of (call.Prune key) (reply.Keys listed) h k = absurd k
plain_of (call.Prune key) (reply.HasFailed failed) h k = absurd k
plain_of (call.Prune key) (reply.Size size weight) h k = absurd k
plain_of (call.Prune key) (reply.NotClosing state) h k = absurd k
plain_of (call.Prune key) (reply.Busy grants) h k = absurd k
plain_of (call.Prune key) reply.Settled h k = absurd k
plain_of (call.Prune key) (reply.Granted grant) h k = absurd k
plain_of (call.Prune key) reply.Recorded h k = absurd k
plain_of (call.Prune key) reply.Unfit h k = absurd k
plain_of (call.Answer key epoch live now) reply.CloseBegun h k = absurd k
plain_of (call.Answer key epoch live now) reply.AlreadyClosing h k = absurd k
plain_of (call.Answer key epoch live now) (reply.Closed book) h k = absurd k
plain_of (call.Answer key epoch live now) (reply.Keys listed) h k = absurd k
plain_of (call.Answer key epoch live now) (reply.HasFailed failed) h k = absurd k
plain_of (call.Answer key epoch live now) (reply.Size size weight) h k = absurd k
plain_of (call.Answer key epoch live now) (reply.NotClosing state) h k = absurd k
plain_of (call.Answer key epoch live now) (reply.Busy grants) h k = absurd k
plain_of (call.Answer key epoch live now) reply.Settled h k = absurd k
plain_of (call.Answer key epoch live now) (reply.Granted grant) h k = absurd k
plain_of (call.Answer key epoch live now) reply.Recorded h k = absurd k
plain_of (call.Answer key epoch live now) reply.Unfit h k = absurd k
plain_of call.Compact reply.CloseBegun h k = absurd k
plain_of call.Compact reply.AlreadyClosing h k = absurd k
plain_of call.Compact (reply.Closed book) h k = absurd k
plain_of call.Compact (reply.Keys listed) h k = absurd k
plain_of call.Compact (reply.HasFailed failed) h k = absurd k
plain_of call.Compact (reply.Size size weight) h k = absurd k
plain_of call.Compact (reply.NotClosing state) h k = absurd k
plain_of call.Compact (reply.Busy grants) h k = absurd k
plain_of call.Compact reply.Settled h k = absurd k
plain_of call.Compact (reply.Granted grant) h k = absurd k
plain_of call.Compact reply.Recorded h k = absurd k
plain_of call.Compact reply.Unfit h k = absurd k
plain_of (call.Propose key m now) r h k = absurd h
plain_of (call.Record ps now) r h k = absurd h
plain_of (call.Allow key now) r h k = absurd h
plain_of (call.Settle grant o) r h k = absurd h
plain_of (call.BeginClose key) r h k = absurd h
plain_of (call.FinishClose key) r h k = absurd h
plain_of call.Keys r h k = absurd h
plain_of call.HasFailed r h k = absurd h
plain_of call.Size r h k = absurd h
plain_of c r h k = tt

pub quiet_of : (c : DeskCall) → IsPlainCall c → IsQuietCall c
quiet_of (call.Merge file) h = tt
quiet_of (call.Activate key now) h = tt
quiet_of (call.Export keys) h = tt
quiet_of (call.Prune key) h = tt
quiet_of (call.Answer key epoch live now) h = tt
quiet_of call.Compact h = tt
quiet_of c h = absurd h

-- to a proposal, where no grant is given
abbrev pub IsNoGrant : DeskReply → Type 0
IsNoGrant (reply.Granted grant) = ⊥
IsNoGrant r = Unit {0}

pub proposed_plain : (key : PubKey) (m : Message) (now : ℕ) (r : DeskReply) → IsNoGrant r → IsKind (call.Propose key m now) r → IsPlainReply r
proposed_plain key m now reply.CloseBegun h k = absurd k
proposed_plain key m now reply.AlreadyClosing h k = absurd k
proposed_plain key m now (reply.Closed book) h k = absurd k
proposed_plain key m now (reply.Keys listed) h k = absurd k
proposed_plain key m now (reply.HasFailed failed) h k = absurd k
proposed_plain key m now (reply.Size size weight) h k = absurd k
proposed_plain key m now (reply.NotClosing state) h k = absurd k
proposed_plain key m now (reply.Busy grants) h k = absurd k
proposed_plain key m now reply.Settled h k = absurd k
proposed_plain key m now (reply.Granted grant) h k = absurd h
proposed_plain key m now reply.Recorded h k = absurd k
proposed_plain key m now reply.Unfit h k = absurd k
proposed_plain key m now r h k = tt

pub no_grant : (r : DeskReply) → ((g : OpenGrant) → r ≡ reply.Granted g → ⊥) → IsNoGrant r
no_grant (reply.Granted grant) h = h grant refl
no_grant r h = tt
