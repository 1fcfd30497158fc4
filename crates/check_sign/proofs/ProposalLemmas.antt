-- What a desk that is up says of a key that signs, and of one that is being closed.
use Rattle.std.proofs.Common.{◌≡◌, ◌≢◌, ◌⊎◌, inl, inr, ℕ, ◌+◌, ◌≤◌, arith, Bool, true, false, cond, List, [], ◌∷◌, ◌++◌, Option, Some, None, refl, sym, ◌∙◌, ap, subst, append-nil, max, Ok, Err, ⊎_elim, Contains}
use Rattle.std.specs.Prelude.{◌↔◌, IsSomeAnd, is_some, unwrap_or, if◌then◌else◌}
use Rattle.std.specs.BTreeMap.{is_at}
use Rattle.std.proofs.lemmas.Map.{keys-set_value}
use Rattle.edge_kit.specs.Causes.{Rose}
use Rattle.edge_kit.specs.declared.bytes.PubKey.{PubKey}
use Rattle.slash_defs.specs.declared.book.Book.{Book}
use Rattle.slash_defs.specs.declared.entry.BlockEntry.{BlockEntry}
use Rattle.slash_defs.specs.declared.entry.VoteEntry.{VoteEntry}
use Rattle.slash_defs.specs.declared.message.Message.{Message}
use Rattle.slash_defs.specs.declared.message.Message.TheVariants as message
use Rattle.protect_record.specs.Parts.{Parts}
use Rattle.protect_record.specs.Passing.{Passes}
use Rattle.protect_record.specs.Pasts.{Past, no_past, with_own, IsPastBlock, IsPastVote}
use Rattle.protect_record.specs.Exporting.{export_of, prune_book}
use Rattle.protect_record.specs.Standing.{Stands}
use Rattle.protect_record.proofs.MemberLemmas.{contains_cases, contains_first, contains_none}
use Rattle.record_codec.specs.declared.version.JournalVersion.TheVariants.{One}
use Rattle.record_codec.specs.declared.item.JournalItem.{JournalItem}
use Rattle.record_codec.specs.declared.item.JournalItem.TheVariants as item
use Rattle.record_join.specs.Keys.{key_cmp, kept_of, with_kept}
use Rattle.record_join.specs.BooksPasts.{BooksStand, own_grown, own_grown_from}
use Rattle.record_join.specs.Repeats.{IsRepeat, block_entry, repeats, vote_entry}
use Rattle.record_join.specs.KeyLaws.{changed, same_key}
use Rattle.record_join.specs.RepeatLaws.{repeats_decides}
use Rattle.edge_kit.specs.declared.disk.Disks.{Disks}
use Rattle.record_journal.specs.declared.place.Place.{Place}
use Rattle.record_journal.specs.declared.place.Place.TheVariants.{First, Second}
use Rattle.record_journal.specs.TwoDisks.{by_place, EitherRose}
use Rattle.record_journal.specs.Journals.{Journaled, disks_of, journal_size}
use Rattle.record_journal.specs.declared.log.AppendFault.{AppendFault}
use Rattle.record_journal.specs.declared.log.AppendFault.TheVariants as fault
use Rattle.record_replay.specs.Batches.{message_item}
use Rattle.record_replay.proofs.GrowLemmas.{grows_block, grows_vote}
use Rattle.record_replay.specs.Items.{items_in}
use Rattle.record_replay.specs.Pruning.{pruning_of}
use Rattle.record_replay.proofs.PruningLemmas.{pruned_same}
use Rattle.record_replay.specs.Replaying.{ItemsStand, KeyStands}
use Rattle.record_replay.specs.declared.state.KeyState.{KeyState}
use Rattle.record_replay.specs.declared.state.KeyState.TheVariants.{Known, Active, Closing, Closed}
use Rattle.check_sign.specs.Contents.{Contents, Seen}
use Rattle.desk_machine.specs.Handing.{IsExport}
use Rattle.desk_machine.specs.Machine.{after, grant_for, IsUp, Proceeds, Reply}
use Rattle.desk_machine.specs.Written.{frame_size, HasRoomFor, proposal_items}
use Rattle.desk_machine.specs.States.{State, IsAllowed, key_state, lasting}
use Rattle.check_sign.specs.Standing.{DeskStands, PayloadsStand}
use Rattle.desk_machine.specs.Grants.{open_grants}
use Rattle.check_sign.specs.Writing.{KeepsJournal, Moved, Wrote, journal_of, refusal_of}
use Rattle.desk_machine.specs.declared.call.DeskCall.TheVariants as call
use Rattle.desk_machine.specs.declared.call.DeskReply.{DeskReply}
use Rattle.desk_machine.specs.declared.call.DeskReply.TheVariants as reply
use Rattle.desk_machine.specs.declared.event.DeskEvent.{DeskEvent}
use Rattle.desk_machine.specs.declared.open_grant.OpenGrant.{OpenGrant}
use Rattle.check_sign.proofs.MachineLemmas.{is_some_of, some_at, some_is}
use Rattle.check_sign.proofs.StepLemmas.{Rest, by_fault, grown, up_state}

-- ---- a desk that is up, and the state of a key

none_torn : (t : Option (List (List ℕ))) → is_some t ≡ false → t ≡ None
none_torn None h = refl
none_torn (Some p) h = absurd (let bad : true ≡ false = h in cc)

pub is_whole : (b : Bool) (t : Option (List (List ℕ))) → b ≡ is_some t → b ≡ false → t ≡ None
is_whole b t is off = none_torn t (sym is ∙ off)

pub is_up : (desk : Contents) (state : State) (b : Bool) → DeskStands desk state → b ≡ is_some desk.torn → b ≡ false → IsUp state
is_up desk state b s is off = up_state desk.torn state.torn s.torn (is_whole b desk.torn is off)

-- what is noted of a key, from its state
pub noted_state : (o : Option KeyState) (k : KeyState) → unwrap_or o Known ≡ k → Known ≢ k → o ≡ Some k
noted_state None k is known = absurd (known is)
noted_state (Some x) k is known = ap Some is

pub no_state_of : (o : Option KeyState) (k l : KeyState) → unwrap_or o Known ≡ k → k ≢ l → o ≡ Some l → ⊥
no_state_of o k l is other h = other (sym is ∙ ap (λ x. unwrap_or x Known) h)

-- the same, where the desk's states are those of the state
pub state_at : (states held : List (PubKey × KeyState)) (key : PubKey) (k : KeyState) → states ≡ held → k ≡ key_state states key → Known ≢ k → kept_of held key ≡ Some k
state_at states held key k same is known = noted_state (kept_of held key) k (ap (λ l. key_state l key) (sym same) ∙ sym is) known

active_known : Known ≢ Active
active_known e = cc

closing_known : Known ≢ Closing
closing_known e = cc

pub active_at : (states held : List (PubKey × KeyState)) (key : PubKey) → states ≡ held → Active ≡ key_state states key → kept_of held key ≡ Some Active
active_at states held key same is = state_at states held key Active same is active_known

pub closing_at : (states held : List (PubKey × KeyState)) (key : PubKey) → states ≡ held → Closing ≡ key_state states key → kept_of held key ≡ Some Closing
closing_at states held key same is = state_at states held key Closing same is closing_known

idle_state : (k : KeyState) → (k ≡ Known) ⊎ (k ≡ Closed) → (k ≢ Active) × (k ≢ Closing)
idle_state k (inl e) = (λ h. let bad : Known ≡ Active = sym e ∙ h in cc, λ h. let bad : Known ≡ Closing = sym e ∙ h in cc)
idle_state k (inr e) = (λ h. let bad : Closed ≡ Active = sym e ∙ h in cc, λ h. let bad : Closed ≡ Closing = sym e ∙ h in cc)

pub idle_at : (states held : List (PubKey × KeyState)) (key : PubKey) (k : KeyState) → states ≡ held → k ≡ key_state states key → (k ≡ Known) ⊎ (k ≡ Closed) → (kept_of held key ≢ Some Active) × (kept_of held key ≢ Some Closing)
idle_at states held key k same is either =
    let held_is : key_state held key ≡ k = ap (λ l. key_state l key) (sym same) ∙ sym is in
    let none = idle_state k either in (
      no_state_of (kept_of held key) k Active held_is none.0,
      no_state_of (kept_of held key) k Closing held_is none.1,
    )

pub past_with : {A : Type 0} (o : Option A) (P : A → Type 0) → IsSomeAnd o P → (x : A) × (o ≡ Some x) × P x
past_with None P h = absurd h
past_with (Some x) P h = (x, refl, h)

-- ---- the items of a proposal

-- a repeat adds nothing to the past
same_after : (past : Past) (m : Message) → IsRepeat past m → ((e : BlockEntry) → IsPastBlock (with_own past m) e ↔ IsPastBlock past e) × ((e : VoteEntry) → IsPastVote (with_own past m) e ↔ IsPastVote past e)
same_after past (message.Block slot root) is = let g = grows_block past slot root in (
  λ e. (λ h. block_before e ((g.more_blocks e).0 h), λ h. (g.more_blocks e).1 (inl h)),
  λ e. (λ h. no_vote e ((g.more_votes e).0 h), λ h. (g.more_votes e).1 (inl h)),
) where
  block_before : (e : BlockEntry) → IsPastBlock past e ⊎ Contains (block_entry slot root ∷ []) e → IsPastBlock past e
  block_before e (inl h) = h
  block_before e (inr h) = ⊎_elim (λ same. subst (λ (x : BlockEntry). IsPastBlock past x) same is) (λ none. contains_none e none) (contains_cases (block_entry slot root) [] e h)

  no_vote : (e : VoteEntry) → IsPastVote past e ⊎ Contains [] e → IsPastVote past e
  no_vote e (inl h) = h
  no_vote e (inr none) = contains_none e none
same_after past (message.Vote source target root) is = let g = grows_vote past source target root in (
  λ e. (λ h. no_block e ((g.more_blocks e).0 h), λ h. (g.more_blocks e).1 (inl h)),
  λ e. (λ h. vote_before e ((g.more_votes e).0 h), λ h. (g.more_votes e).1 (inl h)),
) where
  vote_before : (e : VoteEntry) → IsPastVote past e ⊎ Contains (vote_entry source target root ∷ []) e → IsPastVote past e
  vote_before e (inl h) = h
  vote_before e (inr h) = ⊎_elim (λ same. subst (λ (x : VoteEntry). IsPastVote past x) same is) (λ none. contains_none e none) (contains_cases (vote_entry source target root) [] e h)

  no_block : (e : BlockEntry) → IsPastBlock past e ⊎ Contains [] e → IsPastBlock past e
  no_block e (inl h) = h
  no_block e (inr none) = contains_none e none

repeat_stands : (items : List JournalItem) (key : PubKey) (past : Past) (m : Message) → IsRepeat past m → KeyStands items key past → KeyStands items key (with_own past m)
repeat_stands items key past m is stands = let same = same_after past m is in record {
  floors = stands.floors;
  blocks = λ e live. let k = stands.blocks e live in (λ h. (same.0 e).1 (k.0 h), λ h. k.1 ((same.0 e).0 h));
  votes = λ e live. let k = stands.votes e live in (λ h. (same.1 e).1 (k.0 h), λ h. k.1 ((same.1 e).0 h));
}

some_injective : {A : Type 0} (x y : A) → Some x ≡ Some y → x ≡ y
some_injective x y h = cc

-- so the items stand for it as they are
repeat_each : (items : List JournalItem) (keys : List (PubKey × Past)) (states : List (PubKey × KeyState)) (key q : PubKey) (m : Message) (past after : Past) → ItemsStand items keys states [] → IsRepeat past m → kept_of keys key ≡ Some past
    → (b : Bool) → is_at (key_cmp key) q ≡ b → cond b (Some (with_own past m)) (kept_of keys q) ≡ Some after → KeyStands items q after
repeat_each items keys states key q m past after stand is at true e h =
    let there = subst (λ (k : PubKey). KeyStands items k (with_own past m)) (same_key key q e) (repeat_stands items key past m is (stand.each key past at)) in
    subst (λ (p : Past). KeyStands items q p) (some_injective (with_own past m) after h) there
repeat_each items keys states key q m past after stand is at false e h = stand.each q after h

repeated : (items : List JournalItem) (keys : List (PubKey × Past)) (states : List (PubKey × KeyState)) (key : PubKey) (m : Message) (past : Past) → ItemsStand items keys states [] → IsRepeat past m → kept_of keys key ≡ Some past
    → ItemsStand items (own_grown keys key m) states []
repeated items keys states key m past stand is at =
    let K : Option Past → Type 0 = λ o. ItemsStand items (own_grown_from keys key m o) states [] in
    subst K (sym at) (record {
      named = keys-set_value (is_at (key_cmp key)) keys (with_own past m) ∙ stand.named;
      each = λ q after h. repeat_each items keys states key q m past after stand is at (is_at (key_cmp key) q) refl (sym (changed keys key q (with_own past m) (is_some_of (kept_of keys key) past at)) ∙ h);
      states = stand.states;
      watches = stand.watches;
    })

-- what a proposal writes stands for the past with its message
pub proposed : (items : List JournalItem) (keys : List (PubKey × Past)) (states : List (PubKey × KeyState)) (key : PubKey) (m : Message) (past : Past) → ItemsStand items keys states [] → kept_of keys key ≡ Some past
    → ItemsStand (items ++ message_item key m ∷ []) (own_grown keys key m) states [] → ItemsStand (items ++ proposal_items (Some past) key m) (own_grown keys key m) states []
proposed items keys states key m past stand at own = by (repeats past m) refl where
  by : (b : Bool) → repeats past m ≡ b → ItemsStand (items ++ (if b then [] else message_item key m ∷ [])) (own_grown keys key m) states []
  by true e =
      let P : List JournalItem → Type 0 = λ i. ItemsStand i (own_grown keys key m) states [] in
      subst P (sym (append-nil items)) (repeated items keys states key m past stand ((repeats_decides past m).0 e) at)
  by false e = own

-- ---- a desk that refuses a proposal, or grants it

-- the latest moment alone differs
pub later_stands : (desk : Contents) (state : State) (books : List (PubKey × Parts)) (grants : List OpenGrant) (next : ℕ) (events : List DeskEvent) (latest now : ℕ) → DeskStands desk state → BooksStand books state.keys → grants ≡ desk.grants → next ≡ desk.next → latest ≡ max desk.latest now
    → DeskStands (record desk { keys = books; grants = grants; next = next; latest = latest; events = events }) (record state { latest = max state.latest now })
later_stands desk state books grants next events latest now s each same counts is = record {
  genesis = s.genesis;
  keys = each;
  states = s.states;
  grants = same ∙ s.grants;
  next = counts ∙ s.next;
  latest = is ∙ ap (λ n. max n now) s.latest;
  watches = s.watches;
  size = s.size;
  payloads = s.payloads;
  torn = s.torn;
}

pub proposal_fault : {D : Type 0} (faults : D → ℕ) (old new : Journaled D) (desk : Contents) (state : State) (key : PubKey) (m : Message) (now : ℕ) (past : Past) (f : AppendFault) (r : DeskReply)
    → kept_of state.keys key ≡ Some past → kept_of state.states key ≡ Some Active → Passes past m → IsAllowed state key → Wrote faults old (proposal_items (Some past) key m) new (Err f)
    → PayloadsStand old.payloads (lasting state) → old.size ≡ state.size → old.size ≡ journal_size old.payloads → old.torn ≡ None → IsUp state
    → ItemsStand (items_in One old.payloads ++ message_item key m ∷ []) (own_grown state.keys key m) state.states []
    → desk.payloads ≡ new.payloads → desk.size ≡ new.size → desk.torn ≡ new.torn → Rest desk (record state { latest = max state.latest now }) → r ≡ refusal_of f
    → Reply state (call.Propose key m now) r × DeskStands desk (after state (call.Propose key m now) r)
proposal_fault faults old new desk state key m now past f r at active passes allowed wrote payloads size journal clean up own payloads_are size_is torn_is rest is =
    let R : DeskReply → Type 0 = λ x. Reply state (call.Propose key m now) x in
    let A : DeskReply → State = λ x. after state (call.Propose key m now) x in
    let T : DeskReply → Type 0 = λ x. R x × DeskStands desk (A x) in
    let writes : proposal_items (kept_of state.keys key) key m ≡ proposal_items (Some past) key m = ap (λ o. proposal_items o key m) at in
    subst T (sym is) (by_fault faults old new (proposal_items (Some past) key m) desk state (call.Propose key m now) f R A wrote payloads size journal clean up payloads_are size_is torn_is
    ((active, some_is (kept_of state.keys key) past (λ p. Passes p m) at passes), allowed) writes (proposed (items_in One old.payloads) state.keys state.states key m past payloads.items at own)
    (ap (λ i. state.size + frame_size i) writes) refl (λ h. h) (λ s w h. h) (λ h. h) (λ h. h) (λ s w h. h) refl refl (λ s w. refl) rest)

pub proposal_granted : {D : Type 0} (faults : D → ℕ) (old new : Journaled D) (desk : Contents) (state : State) (key : PubKey) (m : Message) (now : ℕ) (past : Past) (grant : OpenGrant)
    → kept_of state.keys key ≡ Some past → kept_of state.states key ≡ Some Active → Passes past m → IsAllowed state key → Wrote faults old (proposal_items (Some past) key m) new (Ok tt)
    → PayloadsStand old.payloads (lasting state) → old.size ≡ state.size → old.size ≡ journal_size old.payloads → IsUp state
    → ItemsStand (items_in One old.payloads ++ message_item key m ∷ []) (own_grown state.keys key m) state.states []
    → desk.payloads ≡ new.payloads → desk.size ≡ new.size → desk.torn ≡ new.torn → Rest desk (after state (call.Propose key m now) (reply.Granted grant)) → grant ≡ grant_for state key m
    → Reply state (call.Propose key m now) (reply.Granted grant) × DeskStands desk (after state (call.Propose key m now) (reply.Granted grant))
proposal_granted faults old new desk state key m now past grant at active passes allowed wrote payloads size journal up own payloads_are size_is torn_is rest is =
    let items = proposal_items (Some past) key m in
    let writes : proposal_items (kept_of state.keys key) key m ≡ items = ap (λ o. proposal_items o key m) at in
    let sizes : ℕ → Type 0 = λ n. HasRoomFor n items in
    let whats : List JournalItem → Type 0 = λ i. HasRoomFor state.size i in (
      ((up, ((active, some_is (kept_of state.keys key) past (λ p. Passes p m) at passes), allowed), subst whats (sym writes) (subst sizes size wrote.0)), is),
      grown faults old new items desk state (after state (call.Propose key m now) (reply.Granted grant)) wrote size journal payloads_are size_is torn_is
          (proposed (items_in One old.payloads) state.keys state.states key m past payloads.items at own) (ap (λ i. state.size + frame_size i) writes) payloads.generation up rest,
    )

-- ---- the disk of a call that failed

rose_at : {D : Type 0} (faults : D → ℕ) (place : Place) (current other now since : D) → Rose (faults current) (faults now) → EitherRose faults (by_place place current other) (by_place place now since)
rose_at faults First current other now since rose = inl rose
rose_at faults Second current other now since rose = inr rose

pub rose_from : {D : Type 0} (faults : D → ℕ) (old new : Journaled D) (items : List JournalItem) (before : Disks D) (f : AppendFault) → Wrote faults old items new (Err f) → refusal_of f ≡ reply.Disk → disks_of old ≡ before → EitherRose faults before (disks_of new)
rose_from {D} faults old new items before fault.Disk wrote is same =
    let P : Disks D → Type 0 = λ d. EitherRose faults d (disks_of new) in
    let Q : Place → Type 0 = λ p. EitherRose faults (disks_of old) (by_place p new.current new.other) in
    subst P same (subst Q (sym (ap (λ j. j.place) wrote.3)) (rose_at faults old.place old.current old.other new.current new.other wrote.2))
rose_from faults old new items before fault.OutOfMemory wrote is same = absurd (let bad : reply.OutOfMemory ≡ reply.Disk = is in cc)
rose_from faults old new items before (fault.Full s w) wrote is same = absurd (let bad : reply.Full s w ≡ reply.Disk = is in cc)

-- a past that has the message, or has it not
own_repeat : (m : Message) → IsRepeat (with_own no_past m) m
own_repeat (message.Block slot root) = inr (root, refl, contains_first (message.Block slot root) [])
own_repeat (message.Vote source target root) = inr (root, refl, contains_first (message.Vote source target root) [])

pub past_of_repeat : (b : Bool) (m : Message) → (past : Past) × (b ≡ repeats past m)
past_of_repeat true m = (with_own no_past m, sym ((repeats_decides (with_own no_past m) m).1 (own_repeat m)))
past_of_repeat false m = (no_past, refl)

-- ---- a key that is closed

-- no refusal holds: the key is kept, it is being closed, and none of its grants is open
pub may_close : (desk : Contents) (state : State) (key : PubKey) (parts : Parts) (k : KeyState) (n : ℕ) (grants : List OpenGrant) → DeskStands desk state → kept_of desk.keys key ≡ Some parts → k ≡ key_state desk.states key → k ≡ Closing
    → n ≡ open_grants grants key → grants ≡ desk.grants → n ≤ 0 → Proceeds state (call.FinishClose key)
may_close desk state key parts k n grants s kept is closing count same none =
    let past = some_at desk.keys state.keys key parts s.keys kept in
    let counted : n ≡ open_grants state.grants key = count ∙ ap (λ l. open_grants l key) (same ∙ s.grants) in
    (is_some_of (kept_of state.keys key) past.0 past.1, closing_at desk.states state.states key s.states (sym closing ∙ is), omega (arith, counted, none))

-- what is handed over of a key that may be closed, and the past that it is of
pub record MayBeClosed (state : State) (key : PubKey) (given : Book) : Type 0 where
  pub proceeds : Proceeds state (call.FinishClose key)
  pub parts : Parts
  pub past : Past
  pub at : kept_of state.keys key ≡ Some past
  pub stands : Stands parts past
  pub book : given ≡ export_of parts

pub may_be_closed : (desk : Contents) (state : State) (key : PubKey) (book : Book) → DeskStands desk state → IsSomeAnd (kept_of desk.keys key) (λ parts. book ≡ export_of parts) → kept_of desk.states key ≡ Some Closing → open_grants desk.grants key ≡ 0
    → MayBeClosed state key book
may_be_closed desk state key book s exported closing idle =
    let parts = past_with (kept_of desk.keys key) (λ parts. book ≡ export_of parts) exported in
    let past = some_at desk.keys state.keys key parts.0 s.keys parts.1 in record {
      proceeds = (
        is_some_of (kept_of state.keys key) past.0 past.1,
        ap (λ l. kept_of l key) (sym s.states) ∙ closing,
        ap (λ l. open_grants l key) (sym s.grants) ∙ idle,
      );
      parts = parts.0;
      past = past.0;
      at = past.1;
      stands = past.2;
      book = parts.2;
    }

pub closing_fault : {D : Type 0} (faults : D → ℕ) (old new : Journaled D) (desk : Contents) (state : State) (key : PubKey) (f : AppendFault) (r : DeskReply) → Proceeds state (call.FinishClose key) → Wrote faults old (item.Close key ∷ []) new (Err f)
    → PayloadsStand old.payloads (lasting state) → old.size ≡ state.size → old.size ≡ journal_size old.payloads → old.torn ≡ None → IsUp state
    → ItemsStand (items_in One old.payloads ++ item.Close key ∷ []) state.keys (with_kept state.states key Closed) []
    → desk.payloads ≡ new.payloads → desk.size ≡ new.size → desk.torn ≡ new.torn → Rest desk state → r ≡ refusal_of f
    → Reply state (call.FinishClose key) r × DeskStands desk (after state (call.FinishClose key) r)
closing_fault faults old new desk state key f r proceeds wrote payloads size journal clean up closed payloads_are size_is torn_is rest is =
    let R : DeskReply → Type 0 = λ x. Reply state (call.FinishClose key) x in
    let A : DeskReply → State = λ x. after state (call.FinishClose key) x in
    let T : DeskReply → Type 0 = λ x. R x × DeskStands desk (A x) in
    subst T (sym is) (by_fault faults old new (item.Close key ∷ []) desk state (call.FinishClose key) f R A wrote payloads size journal clean up payloads_are size_is torn_is
    proceeds refl closed refl refl (λ h. h) (λ s w h. h) (λ h. h) (λ h. h) (λ s w h. h) refl refl (λ s w. refl) rest)

pub closing_done : {D : Type 0} (faults : D → ℕ) (old new : Journaled D) (desk : Contents) (state : State) (key : PubKey) (parts : Parts) (past : Past) (book : Book) → Proceeds state (call.FinishClose key) → Wrote faults old (item.Close key ∷ []) new (Ok tt)
    → PayloadsStand old.payloads (lasting state) → old.size ≡ state.size → old.size ≡ journal_size old.payloads → IsUp state → ItemsStand (items_in One old.payloads ++ item.Close key ∷ []) state.keys (with_kept state.states key Closed) []
    → desk.payloads ≡ new.payloads → desk.size ≡ new.size → desk.torn ≡ new.torn → Rest desk (after state (call.FinishClose key) (reply.Closed book))
    → kept_of state.keys key ≡ Some past → Stands parts past → book ≡ export_of parts
    → Reply state (call.FinishClose key) (reply.Closed book) × DeskStands desk (after state (call.FinishClose key) (reply.Closed book))
closing_done faults old new desk state key parts past book proceeds wrote payloads size journal up closed payloads_are size_is torn_is rest at stands value =
    let sizes : ℕ → Type 0 = λ n. HasRoomFor n (item.Close key ∷ []) in (
      ((up, proceeds, subst sizes size wrote.0), some_is (kept_of state.keys key) past (λ p. IsExport p book) at (record { parts = parts; stands = stands; value = value })),
      grown faults old new (item.Close key ∷ []) desk state (after state (call.FinishClose key) (reply.Closed book)) wrote size journal payloads_are size_is torn_is closed refl payloads.generation up rest,
    )

-- ---- a key that is pruned

-- the book that prunes its record is the one of its past
pub pruned_by : (desk : Contents) (state : State) (key : PubKey) (book : Book) → DeskStands desk state → IsSomeAnd (kept_of desk.keys key) (λ parts. book ≡ prune_book parts) → (past : Past) × (kept_of state.keys key ≡ Some past) × (book ≡ pruning_of past)
pruned_by desk state key book s pruned =
    let parts = past_with (kept_of desk.keys key) (λ parts. book ≡ prune_book parts) pruned in
    let past = some_at desk.keys state.keys key parts.0 s.keys parts.1 in
    (past.0, past.1, parts.2 ∙ pruned_same parts.0 past.0 past.2)

-- ---- the journal of a desk is its own, whose root is the desk's

abbrev with_root : {D : Type 0} → Journaled D → List ℕ → Journaled D
with_root journal root = record { current = journal.current; other = journal.other; place = journal.place; root = root; payloads = journal.payloads; size = journal.size; torn = journal.torn }

rooted : {D : Type 0} (journal : Journaled D) (root : List ℕ) → journal.root ≡ root → journal ≡ with_root journal root
rooted journal root is = ap (λ r. with_root journal r) is

pub desk_moved : {D : Type 0} (moment : D → ℕ) (leaves : D → ℕ → List ℕ → Type 0) (faults : D → ℕ) (before : Seen D) (old new : Journaled D) (root : List ℕ) → old.root ≡ root → with_root old root ≡ journal_of before
    → Moved moment leaves faults old new → Moved moment leaves faults (journal_of before) (with_root new root)
desk_moved {D} moment leaves faults before old new root at same moved =
    let O : Journaled D → Type 0 = λ j. Moved moment leaves faults j (with_root new root) in
    let N : Journaled D → Type 0 = λ j. Moved moment leaves faults old j in
    subst O (rooted old root at ∙ same) (subst N (rooted new root (moved.keeps.root ∙ at)) moved)

pub desk_keeps : {D : Type 0} (moment : D → ℕ) (leaves : D → ℕ → List ℕ → Type 0) (faults : D → ℕ) (before : Seen D) (old new : Journaled D) (root : List ℕ) → old.root ≡ root → with_root old root ≡ journal_of before
    → KeepsJournal moment leaves faults old new → KeepsJournal moment leaves faults (journal_of before) (with_root new root)
desk_keeps {D} moment leaves faults before old new root at same keeps =
    let O : Journaled D → Type 0 = λ j. KeepsJournal moment leaves faults j (with_root new root) in
    let N : Journaled D → Type 0 = λ j. KeepsJournal moment leaves faults old j in
    subst O (rooted old root at ∙ same) (subst N (rooted new root (keeps.root ∙ at)) keeps)
