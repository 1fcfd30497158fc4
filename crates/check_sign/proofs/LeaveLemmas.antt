-- What bars a key from signing, as a reply to a proposal and to a call for leave.
use Rattle.std.proofs.Common.{Contains, ◌≡◌, ◌⊎◌, inl, inr, ℕ, max, true, false, List, Option, Some, None, refl, sym, ◌∙◌, ap, subst}
use Rattle.std.specs.Prelude.{IsSome}
use Rattle.edge_kit.specs.declared.bytes.PubKey.{PubKey}
use Rattle.slash_defs.specs.declared.message.Message.{Message}
use Rattle.record_join.specs.Keys.{kept_of}
use Rattle.desk_machine.specs.States.{State, Lasting, key_state}
use Rattle.record_replay.specs.declared.state.KeyState.{KeyState}
use Rattle.record_replay.specs.declared.state.KeyState.TheVariants.{Active, Closing}
use Rattle.desk_machine.specs.Watches.{KeptWatches, WatchesStand}
use Rattle.std.proofs.lemmas.List.Elements.{Contains-push}
use Rattle.desk_machine.specs.Making.{MaySettle}
use Rattle.desk_machine.specs.Machine.{IsBarred, IsUp, MayCall, MaySign, Reply, after, torn_first}
use Rattle.desk_machine.specs.declared.open_grant.OpenGrant.{OpenGrant}
use Rattle.desk_machine.specs.declared.event.DeskEvent.{DeskEvent}
use Rattle.desk_machine.specs.declared.call.DeskCall.{DeskCall}
use Rattle.desk_machine.specs.declared.call.DeskCall.TheVariants as call
use Rattle.desk_machine.specs.declared.call.DeskReply.{DeskReply}
use Rattle.desk_machine.specs.declared.call.DeskReply.TheVariants as reply
use Rattle.check_sign.specs.Contents.{Contents}
use Rattle.check_sign.specs.Standing.{DeskStands}
use Rattle.check_sign.specs.Calls.{Counted}
use Rattle.check_sign.specs.Refusing.{Forbids}
use Rattle.check_sign.proofs.MarkLemmas.{active_at, closing_at}

-- the first torn call stays
stays_torn : (t : Option Lasting) (l : Lasting) → IsSome t → t ≡ torn_first t l
stays_torn None l some = absurd (let bad : false ≡ true = some in cc)
stays_torn (Some x) l some = refl

failed_stands : (desk : Contents) (state : State) (latest : ℕ) (l : Lasting) → IsSome state.torn → DeskStands desk (record state { latest = latest }) → DeskStands desk (record state { latest = latest; torn = torn_first state.torn l })
failed_stands desk state latest l some s = let P : Option Lasting → Type 0 = λ t. DeskStands desk (record state { latest = latest; torn = t }) in subst P (stays_torn state.torn l some) s

pub barred_proposal : (desk : Contents) (state : State) (key : PubKey) (m : Message) (now : ℕ) (r : DeskReply) → DeskStands desk (record state { latest = max state.latest now }) → IsBarred (record state { latest = max state.latest now }) key r
    → Reply state (call.Propose key m now) r × DeskStands desk (after state (call.Propose key m now) r)
barred_proposal desk state key m now reply.Disk s h = (inl h, failed_stands desk state _ _ h s)
barred_proposal desk state key m now reply.Unknown s h = (h, s)
barred_proposal desk state key m now reply.NotActive s h = (h, s)
barred_proposal desk state key m now reply.Closing s h = (h, s)
barred_proposal desk state key m now (reply.Live epoch) s h = (h, s)
barred_proposal desk state key m now (reply.Watching first second) s h = (h, s)
barred_proposal desk state key m now r s h = absurd h

pub barred_leave : (desk : Contents) (state : State) (key : PubKey) (now : ℕ) (r : DeskReply) → DeskStands desk (record state { latest = max state.latest now }) → IsBarred (record state { latest = max state.latest now }) key r
    → Reply state (call.Allow key now) r × DeskStands desk (after state (call.Allow key now) r)
barred_leave desk state key now reply.Disk s h = (inl h, failed_stands desk state _ _ h s)
barred_leave desk state key now reply.Unknown s h = (h, s)
barred_leave desk state key now reply.NotActive s h = (h, s)
barred_leave desk state key now reply.Closing s h = (h, s)
barred_leave desk state key now (reply.Live epoch) s h = (h, s)
barred_leave desk state key now (reply.Watching first second) s h = (h, s)
barred_leave desk state key now r s h = absurd h

-- a message of a key that may sign is forbidden
pub forbidden_proposal : (desk : Contents) (state : State) (key : PubKey) (m : Message) (now : ℕ) (r : DeskReply) → DeskStands desk (record state { latest = max state.latest now }) → IsUp state → MaySign state key → Forbids state.keys key m r
    → Reply state (call.Propose key m now) r × DeskStands desk (after state (call.Propose key m now) r)
forbidden_proposal desk state key m now reply.Unknown s up may h = ((up, h), s)
forbidden_proposal desk state key m now (reply.Refused v) s up may h = ((up, (may.0.1, h), may.1), s)
forbidden_proposal desk state key m now reply.OutOfMemory s up may h = ((up, ((may.0.1, h), may.1)), s)
forbidden_proposal desk state key m now r s up may h = absurd h

-- the key is active or being closed
pub watchable : (r : KeyState) (states held : List (PubKey × KeyState)) (key : PubKey) → r ≡ key_state states key → states ≡ held → (r ≡ Active) ⊎ (r ≡ Closing) → (kept_of held key ≡ Some Active) ⊎ (kept_of held key ≡ Some Closing)
watchable r states held key is same (inl e) = inl (active_at r states held key is same e)
watchable r states held key is same (inr e) = inr (closing_at r states held key is same e)

-- ---- a later moment, and room for the watch of a key

pub later_watched : (desk : Contents) (state : State) (watches : KeptWatches) (grants : List OpenGrant) (next : ℕ) (events : List DeskEvent) (latest now : ℕ) → DeskStands desk state
    → WatchesStand watches state.watching → grants ≡ desk.grants → next ≡ desk.next → latest ≡ max desk.latest now
    → DeskStands (record desk { watches = watches; grants = grants; next = next; latest = latest; events = events }) (record state { latest = max state.latest now })
later_watched desk state watches grants next events latest now s watched same counts is = record {
  genesis = s.genesis;
  keys = s.keys;
  states = s.states;
  grants = same ∙ s.grants;
  next = counts ∙ s.next;
  latest = is ∙ ap (λ n. max n now) s.latest;
  watches = watched;
  size = s.size;
  payloads = s.payloads;
  torn = s.torn;
}

-- ---- a grant that was given is open from now on, so that it may be settled

pub may_settle : (old new : Contents) (c : DeskCall) (r : DeskReply) → Counted old c r new → MaySettle (λ d. MayCall new.grants d) r
may_settle old new (call.Propose key m now) (reply.Granted grant) h = λ o. subst (λ (l : List OpenGrant). Contains l grant) (sym h.grants) (Contains-push old.grants grant)
may_settle old new (call.Allow key now) (reply.Granted grant) h = λ o. subst (λ (l : List OpenGrant). Contains l grant) (sym h.grants) (Contains-push old.grants grant)
may_settle old new c (reply.Granted grant) h = absurd h.granted
may_settle old new c r h = tt
