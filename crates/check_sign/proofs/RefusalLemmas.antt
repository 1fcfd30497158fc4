-- A call that is refused before the desk changes, and one of which a write was refused.
use Rattle.std.proofs.Common.{◌≡◌, ℕ, max, List, [], ◌++◌, Option, Some, None, append-nil, refl, sym, ◌∙◌, ap, subst}
use Rattle.std.specs.Prelude.{IsSome, true, false}
use Rattle.edge_kit.specs.declared.bytes.PubKey.{PubKey}
use Rattle.slash_defs.specs.declared.book.File.{File}
use Rattle.slash_defs.specs.declared.message.Message.{Message}
use Rattle.record_join.specs.Keys.{kept_of}
use Rattle.record_journal.specs.declared.log.AppendFault.{AppendFault}
use Rattle.record_journal.specs.declared.log.AppendFault.TheVariants as fault
use Rattle.record_replay.specs.declared.state.KeyState.{KeyState}
use Rattle.desk_machine.specs.Grants.{IsGrantFor, IsIdleOrBusy, IsNumbered, grants_after, next_after}
use Rattle.desk_machine.specs.Kinds.{IsKind}
use Rattle.desk_machine.specs.Machine.{latest_after}
use Rattle.desk_machine.specs.Noted.{noted}
use Rattle.desk_machine.specs.declared.call.DeskCall.{DeskCall}
use Rattle.desk_machine.specs.declared.call.DeskCall.TheVariants as call
use Rattle.desk_machine.specs.declared.call.DeskReply.{DeskReply}
use Rattle.desk_machine.specs.declared.call.DeskReply.TheVariants as reply
use Rattle.desk_machine.specs.declared.event.DeskEvent.{DeskEvent}
use Rattle.desk_machine.specs.declared.open_grant.OpenGrant.{OpenGrant}
use Rattle.check_sign.specs.Calls.{Counted, IsStep}
use Rattle.check_sign.specs.Contents.{Contents, Seen}
use Rattle.check_sign.specs.Refusing.{MayForbid, at_moment}
use Rattle.check_sign.specs.Writing.{refusal_of}

-- ---- what was told of a desk that is seen so

torn_not_up : {X : Type 0} (t : Option X) (A : Type 0) → IsSome t → t ≡ None → A
torn_not_up None A some up = absurd (let bad : false ≡ true = some in cc)
torn_not_up (Some x) A some up = absurd (let bad : Some x ≡ None = up in cc)

-- a desk that is up had not failed before
pub not_failed : (desk : Contents) (r : DeskReply) (A : Type 0) → (r ≡ reply.Disk → IsSome desk.torn) → r ≡ reply.Disk → desk.torn ≡ None → A
not_failed desk r A failed disk up = torn_not_up desk.torn A (failed disk) up

module _ {D : Type 0} (desk seen : Seen D) (same : seen ≡ desk) where
  pub up_at : desk.contents.torn ≡ None → seen.contents.torn ≡ None
  up_at up = ap (λ (d : Seen D). d.contents.torn) same ∙ up

  pub state_of_key : (key : PubKey) (s : KeyState) → kept_of desk.contents.states key ≡ Some s → kept_of seen.contents.states key ≡ Some s
  state_of_key key s is = ap (λ (d : Seen D). kept_of d.contents.states key) same ∙ is

  pub counted_from : (c : DeskCall) (r : DeskReply) (new : Contents) → Counted seen.contents c r new → Counted desk.contents c r new
  counted_from c r new counted = let P : Seen D → Type 0 = λ d. Counted d.contents c r new in subst P same counted

  -- with a later moment
  pub later_step : (c : DeskCall) (r : DeskReply) (now latest : ℕ) → latest ≡ max seen.contents.latest now → IsStep desk.contents c r (at_moment desk.contents now) → IsStep desk.contents c r (record seen.contents { latest = latest })
  later_step c r now latest is step =
      let P : Seen D → Type 0 = λ d. IsStep desk.contents c r (at_moment d.contents now) in
      let Q : ℕ → Type 0 = λ m. IsStep desk.contents c r (record seen.contents { latest = m }) in
      subst Q (sym is) (subst P (sym same) step)

  pub later_counted : (c : DeskCall) (r : DeskReply) (now latest : ℕ) → latest ≡ max seen.contents.latest now → Counted desk.contents c r (at_moment desk.contents now) → Counted desk.contents c r (record seen.contents { latest = latest })
  later_counted c r now latest is counted =
      let P : Seen D → Type 0 = λ d. Counted desk.contents c r (at_moment d.contents now) in
      let Q : ℕ → Type 0 = λ m. Counted desk.contents c r (record seen.contents { latest = m }) in
      subst Q (sym is) (subst P (sym same) counted)

-- ---- replies that change no grant and are not noted

pub record IsPlain (c : DeskCall) (r : DeskReply) : Type 0 where
  pub kind : IsKind c r
  pub granted : IsGrantFor c r
  pub number : (n : ℕ) → IsNumbered n c r
  pub grants : (l : List OpenGrant) → grants_after l c r ≡ l
  pub next : (n : ℕ) → next_after n c r ≡ n
  pub idle : (l : List OpenGrant) → IsIdleOrBusy l c r
  pub events : (n : ℕ) → noted n c r ≡ []

pub plain_counted : (old : Contents) (c : DeskCall) (r : DeskReply) (new : Contents) → IsPlain c r → new.grants ≡ old.grants → new.next ≡ old.next → new.latest ≡ latest_after old.latest c → new.events ≡ old.events → new.genesis ≡ old.genesis → Counted old c r new
plain_counted old c r new plain grants next latest events genesis = record {
  kind = plain.kind;
  granted = plain.granted;
  number = plain.number old.next;
  grants = grants ∙ sym (plain.grants old.grants);
  next = next ∙ sym (plain.next old.next);
  idle = plain.idle old.grants;
  latest = latest;
  events = events ∙ sym (append-nil old.events) ∙ sym (ap (λ (l : List DeskEvent). old.events ++ l) (plain.events old.latest));
  genesis = genesis;
}

pub of_fault : (P : DeskReply → Type 0) (r : DeskReply) (f : AppendFault) → r ≡ refusal_of f → P reply.Disk → P reply.OutOfMemory → ((size wanted : ℕ) → P (reply.Full size wanted)) → P r
of_fault P r fault.Disk is disk memory full = subst P (sym is) disk
of_fault P r fault.OutOfMemory is disk memory full = subst P (sym is) memory
of_fault P r (fault.Full size wanted) is disk memory full = subst P (sym is) (full size wanted)

-- a fault is told of a call that writes
pub plain_activation : (key : PubKey) (now : ℕ) (r : DeskReply) (f : AppendFault) → r ≡ refusal_of f → IsPlain (call.Activate key now) r
plain_activation key now r f is = of_fault (λ x. IsPlain (call.Activate key now) x) r f is
    (record { kind = tt; granted = tt; number = λ n. tt; grants = λ l. refl; next = λ n. refl; idle = λ l. tt; events = λ n. refl })
    (record { kind = tt; granted = tt; number = λ n. tt; grants = λ l. refl; next = λ n. refl; idle = λ l. tt; events = λ n. refl })
    (λ size wanted. record { kind = tt; granted = tt; number = λ n. tt; grants = λ l. refl; next = λ n. refl; idle = λ l. tt; events = λ n. refl })

pub plain_merge : (file : File) (r : DeskReply) (f : AppendFault) → r ≡ refusal_of f → IsPlain (call.Merge file) r
plain_merge file r f is = of_fault (λ x. IsPlain (call.Merge file) x) r f is
    (record { kind = tt; granted = tt; number = λ n. tt; grants = λ l. refl; next = λ n. refl; idle = λ l. tt; events = λ n. refl })
    (record { kind = tt; granted = tt; number = λ n. tt; grants = λ l. refl; next = λ n. refl; idle = λ l. tt; events = λ n. refl })
    (λ size wanted. record { kind = tt; granted = tt; number = λ n. tt; grants = λ l. refl; next = λ n. refl; idle = λ l. tt; events = λ n. refl })

pub plain_prune : (key : PubKey) (r : DeskReply) (f : AppendFault) → r ≡ refusal_of f → IsPlain (call.Prune key) r
plain_prune key r f is = of_fault (λ x. IsPlain (call.Prune key) x) r f is
    (record { kind = tt; granted = tt; number = λ n. tt; grants = λ l. refl; next = λ n. refl; idle = λ l. tt; events = λ n. refl })
    (record { kind = tt; granted = tt; number = λ n. tt; grants = λ l. refl; next = λ n. refl; idle = λ l. tt; events = λ n. refl })
    (λ size wanted. record { kind = tt; granted = tt; number = λ n. tt; grants = λ l. refl; next = λ n. refl; idle = λ l. tt; events = λ n. refl })

pub plain_proposal : (key : PubKey) (m : Message) (now : ℕ) (r : DeskReply) (f : AppendFault) → r ≡ refusal_of f → IsPlain (call.Propose key m now) r
plain_proposal key m now r f is = of_fault (λ x. IsPlain (call.Propose key m now) x) r f is
    (record { kind = tt; granted = tt; number = λ n. tt; grants = λ l. refl; next = λ n. refl; idle = λ l. tt; events = λ n. refl })
    (record { kind = tt; granted = tt; number = λ n. tt; grants = λ l. refl; next = λ n. refl; idle = λ l. tt; events = λ n. refl })
    (λ size wanted. record { kind = tt; granted = tt; number = λ n. tt; grants = λ l. refl; next = λ n. refl; idle = λ l. tt; events = λ n. refl })

-- a file of too many keys, and a message that is forbidden
pub plain_many : (file : File) (r : DeskReply) (have more : ℕ) → r ≡ reply.TooManyKeys have more → IsPlain (call.Merge file) r
plain_many file r have more is = let P : DeskReply → Type 0 = λ x. IsPlain (call.Merge file) x in subst P (sym is) (record { kind = tt; granted = tt; number = λ n. tt; grants = λ l. refl; next = λ n. refl; idle = λ l. tt; events = λ n. refl })

pub plain_forbidden : (key : PubKey) (m : Message) (now : ℕ) (r : DeskReply) → MayForbid r → IsPlain (call.Propose key m now) r
plain_forbidden key m now reply.Unknown may = record { kind = tt; granted = tt; number = λ n. tt; grants = λ l. refl; next = λ n. refl; idle = λ l. tt; events = λ n. refl }
plain_forbidden key m now (reply.Refused v) may = record { kind = tt; granted = tt; number = λ n. tt; grants = λ l. refl; next = λ n. refl; idle = λ l. tt; events = λ n. refl }
plain_forbidden key m now reply.OutOfMemory may = record { kind = tt; granted = tt; number = λ n. tt; grants = λ l. refl; next = λ n. refl; idle = λ l. tt; events = λ n. refl }
plain_forbidden key m now r may = absurd may

-- none of these is the disk's
pub not_disk : (r : DeskReply) (A : Type 0) → MayForbid r → r ≡ reply.Disk → A
not_disk r A may is = absurd (subst MayForbid is may)
