-- Messages of several keys that are kept, or are not.
use Rattle.std.proofs.Common.{◌≡◌, ◌⊎◌, inl, inr, ℕ, ◌+◌, ◌<◌, max, length, take, get_or, true, false, List, [], Option, Some, None, refl, sym, ◌∙◌, ap, subst}
use Rattle.std.specs.Prelude.{Contains, IsSome, IsSomeAnd}
use Rattle.std.proofs.lemmas.List.Elements.{Contains-get_or, Contains-push_cases}
use Rattle.edge_kit.specs.declared.bytes.PubKey.{PubKey}
use Rattle.edge_kit.specs.declared.disk.Disks.{Disks}
use Rattle.slash_defs.specs.declared.message.Message.{Message}
use Rattle.slash_defs.specs.declared.message.Message.TheVariants as message
use Rattle.protect_record.specs.Parts.{Parts}
use Rattle.protect_record.specs.Pasts.{Past}
use Rattle.record_codec.specs.declared.version.JournalVersion.TheVariants.{One}
use Rattle.record_codec.specs.Spelling.{is_record}
use Rattle.record_codec.specs.declared.item.JournalItem.{JournalItem}
use Rattle.record_join.specs.Keys.{kept_of}
use Rattle.record_join.specs.BooksPasts.{AreNew, BooksStand}
use Rattle.record_join.proofs.FileLemmas.{next_at}
use Rattle.record_journal.specs.Journals.{Journaled, disks_of, journal_size}
use Rattle.record_journal.specs.TwoDisks.{EitherRose}
use Rattle.record_journal.specs.declared.log.AppendFault.{AppendFault}
use Rattle.record_replay.specs.Batches.{message_item, message_items}
use Rattle.record_replay.specs.Items.{items_in}
use Rattle.record_replay.proofs.MessageLemmas.{recorded}
use Rattle.desk_machine.specs.Machine.{AreFresh, IsBarred, IsUp, MaySign, Reply, after, torn_first}
use Rattle.desk_machine.specs.States.{State, Lasting, lasting}
use Rattle.desk_machine.specs.declared.call.DeskCall.TheVariants as call
use Rattle.desk_machine.specs.declared.call.DeskReply.{DeskReply}
use Rattle.desk_machine.specs.declared.call.DeskReply.TheVariants as reply
use Rattle.check_sign.specs.Contents.{Contents}
use Rattle.check_sign.specs.Refusing.{BarsOne, IsUnable, IsUnkept}
use Rattle.check_sign.specs.Standing.{DeskStands, PayloadsStand}
use Rattle.check_sign.specs.Writing.{IsWritable, refusal_of}
use Rattle.check_sign.proofs.DeskLemmas.{by_reply}
use Rattle.check_sign.proofs.ProposalLemmas.{rose_from}
use Rattle.check_sign.proofs.ReadLemmas.{as_batch, records_map}
use Rattle.check_sign.proofs.RefusalLemmas.{IsPlain, of_fault}
use Rattle.check_sign.proofs.StepLemmas.{Rest, none_torn, whole}

-- ---- the batch

item_record : (one : PubKey × Message) → is_record (message_item one.0 one.1) ≡ true
item_record (key, message.Block slot root) = refl
item_record (key, message.Vote source target root) = refl

pub messages_batch : (items : List JournalItem) (listed : List (PubKey × Message)) → items ≡ message_items listed → IsWritable items
messages_batch items listed is = subst IsWritable (sym is) (as_batch (message_items listed) (records_map (λ (one : PubKey × Message). message_item one.0 one.1) item_record listed))

-- ---- replies that change no grant and are not noted

plain_recording : (ps : List (PubKey × Message)) (now : ℕ) (r : DeskReply) (f : AppendFault) → r ≡ refusal_of f → IsPlain (call.Record ps now) r
plain_recording ps now r f is = of_fault (λ x. IsPlain (call.Record ps now) x) r f is
    (record { kind = tt; granted = tt; number = λ n. tt; grants = λ l. refl; next = λ n. refl; idle = λ l. tt; events = λ n. refl })
    (record { kind = tt; granted = tt; number = λ n. tt; grants = λ l. refl; next = λ n. refl; idle = λ l. tt; events = λ n. refl })
    (λ size wanted. record { kind = tt; granted = tt; number = λ n. tt; grants = λ l. refl; next = λ n. refl; idle = λ l. tt; events = λ n. refl })

plain_unfit : (ps : List (PubKey × Message)) (now : ℕ) → IsPlain (call.Record ps now) reply.Unfit
plain_unfit ps now = record { kind = tt; granted = tt; number = λ n. tt; grants = λ l. refl; next = λ n. refl; idle = λ l. tt; events = λ n. refl }

plain_memory : (ps : List (PubKey × Message)) (now : ℕ) → IsPlain (call.Record ps now) reply.OutOfMemory
plain_memory ps now = record { kind = tt; granted = tt; number = λ n. tt; grants = λ l. refl; next = λ n. refl; idle = λ l. tt; events = λ n. refl }

plain_disk : (ps : List (PubKey × Message)) (now : ℕ) → IsPlain (call.Record ps now) reply.Disk
plain_disk ps now = record { kind = tt; granted = tt; number = λ n. tt; grants = λ l. refl; next = λ n. refl; idle = λ l. tt; events = λ n. refl }

pub plain_unable : (ps : List (PubKey × Message)) (now : ℕ) (torn : Option (List (List ℕ))) (r : DeskReply) → IsUnable torn r → IsPlain (call.Record ps now) r
plain_unable ps now torn reply.Disk h = plain_disk ps now
plain_unable ps now torn reply.Unfit h = plain_unfit ps now
plain_unable ps now torn r h = absurd h

not_up : {X : Type 0} (t : Option X) → IsSome t → t ≡ None → ⊥
not_up {X} t some up = let P : Option X → Type 0 = λ o. IsSome o in let bad : false ≡ true = subst P up some in cc

pub unable_down : (torn : Option (List (List ℕ))) (r : DeskReply) (A : Type 0) → IsUnable torn r → r ≡ reply.Disk → torn ≡ None → A
unable_down torn reply.Disk A h is up = absurd (not_up torn h up)
unable_down torn reply.Unfit A h is up = absurd (let bad : reply.Unfit ≡ reply.Disk = is in cc)
unable_down torn r A h is up = absurd h

-- ---- what bars one of the keys

-- what bars a key of a desk that is up is why it may not sign
pub barred_not : (state : State) (key : PubKey) (r : DeskReply) → IsUp state → IsBarred state key r → ¬ (MaySign state key)
barred_not state key reply.Disk up h may = not_up state.torn h up
barred_not state key reply.Unknown up h may = let P : Option Past → Type 0 = λ o. IsSome o in let bad : false ≡ true = subst P h.1 may.0.0 in cc
barred_not state key reply.NotActive up h may = h.2.0 may.0.1
barred_not state key reply.Closing up h may = cc
barred_not state key (reply.Live epoch) up h may = cc
barred_not state key (reply.Watching first second) up h may = cc
barred_not state key r up h may = h

fresh_may : (state : State) (ps : List (PubKey × Message)) → AreFresh state ps → (one : PubKey × Message) → Contains ps one → MaySign state one.0
fresh_may state ps fresh one c = let f = fresh one c in ((some_of (kept_of state.keys one.0) _ f.0.1, f.0.0), f.1) where
  some_of : (o : Option Past) (P : Past → Type 0) → IsSomeAnd o P → IsSome o
  some_of None P h = absurd h
  some_of (Some p) P h = refl

pub fresh_of : (state : State) (ps : List (PubKey × Message)) → ((one : PubKey × Message) → Contains ps one → MaySign state one.0) → AreNew state.keys ps → AreFresh state ps
fresh_of state ps may news one c = let m = may one c in ((m.0.1, news one c), m.1)

fresh_new : (state : State) (ps : List (PubKey × Message)) → AreFresh state ps → AreNew state.keys ps
fresh_new state ps fresh one c = (fresh one c).0.1

pub unable_step : (desk : Contents) (state : State) (ps : List (PubKey × Message)) (now : ℕ) (r : DeskReply) → DeskStands desk (record state { latest = max state.latest now }) → BarsOne (record state { latest = max state.latest now }) ps r
    → Reply state (call.Record ps now) r × DeskStands desk (after state (call.Record ps now) r)
unable_step desk state ps now reply.Disk s h = (inl h, failed_stands desk state _ _ h s) where
  stays_torn : (t : Option Lasting) (l : Lasting) → IsSome t → t ≡ torn_first t l
  stays_torn None l some = absurd (let bad : false ≡ true = some in cc)
  stays_torn (Some x) l some = refl

  failed_stands : (d : Contents) (st : State) (latest : ℕ) (l : Lasting) → IsSome st.torn → DeskStands d (record st { latest = latest }) → DeskStands d (record st { latest = latest; torn = torn_first st.torn l })
  failed_stands d st latest l some t = let P : Option Lasting → Type 0 = λ o. DeskStands d (record st { latest = latest; torn = o }) in subst P (stays_torn st.torn l some) t
unable_step desk state ps now reply.Unfit s h = ((h.0, λ fresh. h.1.2 (fresh_may state ps fresh h.1.0 h.1.1)), s)
unable_step desk state ps now r s h = absurd h

-- ---- messages that were not kept

pub unkept_plain : {D : Type 0} (faults : D → ℕ) (old new : Journaled D) (kept : List (PubKey × Parts)) (ps : List (PubKey × Message)) (now : ℕ) (r : DeskReply) → IsUnkept faults old kept ps new r → IsPlain (call.Record ps now) r
unkept_plain faults old new kept ps now r (inl unfit) = subst (λ (x : DeskReply). IsPlain (call.Record ps now) x) (sym unfit.0) (plain_unfit ps now)
unkept_plain faults old new kept ps now r (inr (inl memory)) = subst (λ (x : DeskReply). IsPlain (call.Record ps now) x) (sym memory.0) (plain_memory ps now)
unkept_plain faults old new kept ps now r (inr (inr told)) = plain_recording ps now r told.1.0 told.1.1

pub unkept_rose : {D : Type 0} (faults : D → ℕ) (old new : Journaled D) (kept : List (PubKey × Parts)) (ps : List (PubKey × Message)) (r : DeskReply) (before : Disks D) → IsUnkept faults old kept ps new r → r ≡ reply.Disk → disks_of old ≡ before → EitherRose faults before (disks_of new)
unkept_rose faults old new kept ps r before (inl unfit) disk same = absurd (let bad : reply.Unfit ≡ reply.Disk = sym unfit.0 ∙ disk in cc)
unkept_rose faults old new kept ps r before (inr (inl memory)) disk same = absurd (let bad : reply.OutOfMemory ≡ reply.Disk = sym memory.0 ∙ disk in cc)
unkept_rose faults old new kept ps r before (inr (inr told)) disk same = rose_from faults old new (message_items ps) before told.1.0 told.1.2 (sym told.1.1 ∙ disk) same

module _ {D : Type 0} (faults : D → ℕ) (old new : Journaled D) (desk : Contents) (state : State) (kept : List (PubKey × Parts)) (ps : List (PubKey × Message)) (now : ℕ) (r : DeskReply) where
  abbrev later : State
  later = record state { latest = max state.latest now }

  unwritten : PayloadsStand old.payloads (lasting state) → old.size ≡ state.size → old.torn ≡ None → IsUp state → desk.payloads ≡ new.payloads → desk.size ≡ new.size → desk.torn ≡ new.torn → Rest desk later → new ≡ old → DeskStands desk later
  unwritten payloads size clean up payloads_are size_is torn_is rest same =
      let L : List (List ℕ) → Type 0 = λ l. PayloadsStand l (lasting state) in
      whole desk later rest (size_is ∙ ap (λ j. j.size) same ∙ size) (subst L (sym (payloads_are ∙ ap (λ j. j.payloads) same)) payloads)
      (none_torn desk.torn state.torn (torn_is ∙ ap (λ j. j.torn) same ∙ clean) up)

  pub unkept_step : IsUnkept faults old kept ps new r → ((one : PubKey × Message) → Contains ps one → MaySign state one.0) → BooksStand kept state.keys
      → PayloadsStand old.payloads (lasting state) → old.size ≡ state.size → old.size ≡ journal_size old.payloads → old.torn ≡ None → IsUp state
      → desk.payloads ≡ new.payloads → desk.size ≡ new.size → desk.torn ≡ new.torn → Rest desk later
      → Reply state (call.Record ps now) r × DeskStands desk (after state (call.Record ps now) r)
  unkept_step (inl unfit) may stand payloads size journal clean up payloads_are size_is torn_is rest =
      let T : DeskReply → Type 0 = λ x. Reply state (call.Record ps now) x × DeskStands desk (after state (call.Record ps now) x) in
      subst T (sym unfit.0) ((up, λ fresh. unfit.1 state.keys stand (fresh_new state ps fresh)), unwritten payloads size clean up payloads_are size_is torn_is rest unfit.2)
  unkept_step (inr (inl memory)) may stand payloads size journal clean up payloads_are size_is torn_is rest =
      let T : DeskReply → Type 0 = λ x. Reply state (call.Record ps now) x × DeskStands desk (after state (call.Record ps now) x) in
      subst T (sym memory.0) (up, unwritten payloads size clean up payloads_are size_is torn_is rest memory.1)
  unkept_step (inr (inr told)) may stand payloads size journal clean up payloads_are size_is torn_is rest =
      by_reply faults old new (message_items ps) desk state (call.Record ps now) r told.1.0 (λ x. Reply state (call.Record ps now) x) (λ x. after state (call.Record ps now) x)
      told.1.1 told.1.2 payloads size journal clean up payloads_are size_is torn_is (fresh_of state ps may (told.0 state.keys stand)) refl
      (recorded (items_in One old.payloads) state.keys state.states [] ps payloads.items (λ one c. (may one c).0.0)) refl refl (λ h. h) (λ a b h. h) (λ h. h) (λ h. h.0) (λ a b h. h) refl refl (λ a b. refl) rest

-- ---- one after another

pub all_more : {A : Type 0} (P : A → Type 0) (xs : List A) (i : ℕ) (x : A) → i < length xs → x ≡ get_or xs i x → ((one : A) → Contains (take i xs) one → P one) → P x → (one : A) → Contains (take (i + 1) xs) one → P one
all_more {A} P xs i x lt is before here one at = let C : List A → Type 0 = λ l. Contains l one in by (Contains-push_cases (take i xs) x one (subst C (next_at xs i x lt is) at)) where
  by : Contains (take i xs) one ⊎ (x ≡ one) → P one
  by (inl there) = before one there
  by (inr same) = subst P same here

-- that of the one at a place is in the list
pub sign_at : (state : State) (ps : List (PubKey × Message)) (i : ℕ) (x : PubKey × Message) → i < length ps → x ≡ get_or ps i x → ¬ (MaySign state x.0) → (one : PubKey × Message) × Contains ps one × ¬ (MaySign state one.0)
sign_at state ps i x lt is not = let N : PubKey × Message → Type 0 = λ y. ¬ (MaySign state y.0) in (get_or ps i x, Contains-get_or ps i x lt, subst N is not)
