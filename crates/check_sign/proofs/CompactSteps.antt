-- What a compaction makes of the desk and of its journal.
use Rattle.std.proofs.Common.{◌≡◌, ◌⊎◌, inl, inr, ℕ, ◌+◌, ◌-◌, ◌^◌, ◌<◌, ◌≤◌, List, [], ◌∷◌, ◌++◌, length, map, fold, Option, Some, None, Result, Ok, Err, refl, sym, ◌∙◌, ap, subst, arith}
use Rattle.std.specs.Prelude.{IsSome, sum}
use Rattle.std.specs.Int.{w64, to_le_bytes}
use Rattle.edge_kit.specs.Causes.{Rose}
use Rattle.edge_kit.specs.declared.bytes.PubKey.{PubKey}
use Rattle.journal_frames.specs.Frames.{generation_of, generation_payload}
use Rattle.record_codec.specs.declared.version.JournalVersion.TheVariants.{One}
use Rattle.record_codec.specs.Reading.{bad_at, batch_of}
use Rattle.record_codec.specs.Spelling.{spelling}
use Rattle.record_codec.specs.declared.item.JournalItem.{JournalItem}
use Rattle.record_journal.specs.Journals.{Compacted, FailingCompact, Journaled, MayRead, disks_of, journal_size, next_payloads, with_torn}
use Rattle.record_journal.specs.TwoDisks.{EitherRose, FaultsLater, LeavesPairs, LeftPair, by_place}
use Rattle.record_journal.specs.declared.place.Place.{Place}
use Rattle.record_journal.specs.declared.place.Place.TheVariants.{First, Second}
use Rattle.record_journal.specs.declared.compact.CompactFault.{CompactFault}
use Rattle.record_journal.specs.declared.compact.CompactFault.TheVariants as fault
use Rattle.record_replay.specs.Items.{items_in, items_or_none}
use Rattle.record_replay.specs.Replaying.{ItemsStand}
use Rattle.record_replay.specs.declared.state.KeyState.{KeyState}
use Rattle.key_snapshot.specs.Snapshots.{items_of}
use Rattle.desk_machine.specs.Machine.{IsUp, Reply, after, last_generation, lasting_after}
use Rattle.desk_machine.specs.Snapshots.{snapshot_batches, snapshot_size}
use Rattle.desk_machine.specs.States.{Lasting, State, lasting}
use Rattle.desk_machine.specs.declared.call.DeskCall.TheVariants as call
use Rattle.desk_machine.specs.declared.call.DeskReply.{DeskReply}
use Rattle.desk_machine.specs.declared.call.DeskReply.TheVariants as reply
use Rattle.check_sign.specs.Contents.{Contents}
use Rattle.check_sign.specs.DeskBatches.{AreSpelled, desk_batches}
use Rattle.check_sign.specs.Standing.{DeskStands, PayloadsStand}
use Rattle.check_sign.specs.Writing.{KeepsJournal}
use Rattle.check_sign.proofs.SnapshotLemmas.{batches_same, snapshot_stands}
use Rattle.check_sign.proofs.StepLemmas.{Rest, none_torn, some_torn, whole}

-- ---- the file that is written

sum_from : (n : ℕ) (ns : List ℕ) → fold ◌+◌ n ns ≡ n + sum ns
sum_from n [] = omega arith
sum_from n (m ∷ ns) = omega (arith, sum_from (n + m) ns, sum_from (0 + m) ns)

spelled_size : (bs : List (List JournalItem)) → journal_size (map spelling bs) ≡ 42 + sum (map (λ b. length (spelling b) + 5) bs)
spelled_size [] = refl
spelled_size (b ∷ bs) =
    let f : List JournalItem → ℕ = λ one. length (spelling one) + 5 in
    let more : sum (map f (b ∷ bs)) ≡ 0 + f b + sum (map f bs) = sum_from (0 + f b) (map f bs) in
    omega (arith, spelled_size bs, more)

generation_size : (g : ℕ) → length (generation_payload g) ≡ 9
generation_size g = refl

no_items : (p : List ℕ) → bad_at One p ≡ Some 0 → items_or_none (batch_of One p) ≡ []
no_items p = at (batch_of One p) where
  at : (r : Result (List JournalItem) ℕ) → Rattle.record_codec.specs.Reading.fault_in r ≡ Some 0 → items_or_none r ≡ []
  at (Ok items) bad = absurd (let no : None ≡ Some 0 = bad in cc)
  at (Err k) bad = refl

-- the next payloads stand for what lasts of a compaction, and their size is the one that the state gives
pub record IsSnapshot (state : State) (payloads ps : List (List ℕ)) : Type 0 where
  pub size : journal_size (next_payloads payloads ps) ≡ snapshot_size state
  pub stand : generation_of payloads < 2 ^ 64 - 1 → PayloadsStand (next_payloads payloads ps) (lasting_after state call.Compact)

module _ (desk : Contents) (state : State) (stands : DeskStands desk state) (ps : List (List ℕ)) (spelled : AreSpelled ps (desk_batches desk.states desk.keys)) where
  batches_are : desk_batches desk.states desk.keys ≡ snapshot_batches state
  batches_are =
      batches_same desk.states desk.keys state.keys stands.keys
      ∙ ap (λ (states : List (PubKey × KeyState)). snapshot_batches (record state { states = states })) stands.states

  snapshot_bytes : journal_size (next_payloads desk.payloads ps) ≡ snapshot_size state
  unfolding snapshot_size
  snapshot_bytes =
      let spelt : journal_size ps ≡ 42 + sum (map (λ b. length (spelling b) + 5) (snapshot_batches state)) =
      ap journal_size spelled.spelled ∙ spelled_size (desk_batches desk.states desk.keys) ∙ ap (λ bs. 42 + sum (map (λ b. length (spelling b) + 5) bs)) batches_are in
      omega (arith, spelt, generation_size (generation_of desk.payloads + 1))

  pub is_snapshot : ((number : List ℕ) → bad_at One (6 ∷ number) ≡ Some 0)
      → ((payloads : List (List ℕ)) (batches : List (List JournalItem)) → Rattle.key_snapshot.specs.Restoring.AreRead payloads batches → items_in One payloads ≡ items_of batches)
      → ((payloads snapshot : List (List ℕ)) → generation_of payloads < 2 ^ 64 - 1 → generation_of (next_payloads payloads snapshot) ≡ generation_of payloads + 1)
      → IsSnapshot state desk.payloads ps
  is_snapshot unread read next = record {
    size = snapshot_bytes;
    stand = λ less.
        let gen = generation_payload (generation_of desk.payloads + 1) in
        let items : items_in One (gen ∷ ps) ≡ items_of (desk_batches desk.states desk.keys) =
        ap (λ l. l ++ items_in One ps) (no_items gen (unread (to_le_bytes w64 (generation_of desk.payloads + 1)))) ∙ read ps (desk_batches desk.states desk.keys) spelled.read in
        let S : List (PubKey × KeyState) → Type 0 = λ states. ItemsStand (items_of (desk_batches states desk.keys)) state.keys state.states [] in
        let stand = subst S (sym stands.states) (snapshot_stands (items_in One desk.payloads) desk.keys state.keys state.states stands.payloads.items stands.keys) in
        let I : List JournalItem → Type 0 = λ l. ItemsStand l state.keys state.states [] in record {
          items = subst I (sym items) stand;
          size = sym snapshot_bytes;
          generation = ap (λ n. n + 1) stands.payloads.generation ∙ sym (next desk.payloads ps less);
        };
  }

-- ---- what the journal made of it

abbrev pub reply_to : Result (ℕ × ℕ) CompactFault → DeskReply
reply_to (Ok sizes) = reply.Compacted sizes.0 sizes.1
reply_to (Err fault.Disk) = reply.Disk
reply_to (Err fault.LastGeneration) = reply.LastGeneration
reply_to (Err fault.OutOfMemory) = reply.OutOfMemory
reply_to (Err (fault.Full size wanted)) = reply.Full size wanted

torn_none : (t l : Option Lasting) (x : Lasting) → l ≡ None → Rattle.desk_machine.specs.Machine.torn_first l x ≡ Some x
torn_none t l x e = ap (λ o. Rattle.desk_machine.specs.Machine.torn_first o x) e

module _ {D : Type 0} (faults : D → ℕ) (old new : Journaled D) (desk : Contents) (state : State) (ps : List (List ℕ)) (snapshot : IsSnapshot state old.payloads ps)
    (clean : old.torn ≡ None) (up : IsUp state) (size : old.size ≡ state.size) (stand : PayloadsStand old.payloads (lasting state))
    (payloads_are : desk.payloads ≡ new.payloads) (size_is : desk.size ≡ new.size) (torn_is : desk.torn ≡ new.torn) (rest : Rest desk state) where
  abbrev next : List (List ℕ)
  next = next_payloads old.payloads ps

  below : generation_of old.payloads < 2 ^ 64 - 1 → state.generation < last_generation
  below less = subst (λ (n : ℕ). n < last_generation) (sym stand.generation) less

  short : journal_size next ≤ 2 ^ 40 → snapshot_size state ≤ 2 ^ 40
  short le = subst (λ (n : ℕ). n ≤ 2 ^ 40) snapshot.size le

  as_before : new ≡ old → DeskStands desk state
  as_before same =
      let L : List (List ℕ) → Type 0 = λ l. PayloadsStand l (lasting state) in
      whole desk state rest (size_is ∙ ap (λ j. j.size) same ∙ size) (subst L (sym (payloads_are ∙ ap (λ j. j.payloads) same)) stand)
      (none_torn desk.torn state.torn (torn_is ∙ ap (λ j. j.torn) same ∙ clean) up)

  tore : (torn : Option (List (List ℕ))) → torn ≡ None → FailingCompact faults torn old next new
      → (generation_of old.payloads < 2 ^ 64 - 1) × (journal_size next ≤ 2 ^ 40) × Rose (faults old.other) (faults new.other) × (new ≡ with_torn old next old.current new.other)
  tore None none failing = failing
  tore (Some qs) none failing = absurd (let bad : Some qs ≡ None = none in cc)

  pub compact_step : (result : Result (ℕ × ℕ) CompactFault) → Compacted faults old next new result → Reply state call.Compact (reply_to result) × DeskStands desk (after state call.Compact (reply_to result))
  compact_step (Ok sizes) made =
      let same = made.5 in
      let P : List (List ℕ) → Type 0 = λ l. PayloadsStand l (lasting_after state call.Compact) in
      let sized : new.size ≡ snapshot_size state = ap (λ j. j.size) same ∙ snapshot.size in (
        ((up, below made.1, short made.2), made.3 ∙ size, made.4 ∙ sized),
        whole desk (after state call.Compact (reply.Compacted sizes.0 sizes.1)) (record {
          genesis = rest.genesis;
          keys = rest.keys;
          states = rest.states;
          grants = rest.grants;
          next = rest.next;
          latest = rest.latest;
          watches = rest.watches;
        }) (size_is ∙ sized) (subst P (sym (payloads_are ∙ ap (λ j. j.payloads) same)) (snapshot.stand made.1)) (none_torn desk.torn state.torn (torn_is ∙ ap (λ j. j.torn) same) up),
      )
  compact_step (Err fault.Disk) made =
      let f = tore old.torn clean made in
      let same = f.3 in
      let l = lasting_after state call.Compact in
      let L : List (List ℕ) → Type 0 = λ x. PayloadsStand x (lasting state) in (
        inr (up, below f.0, short f.1),
        whole desk (after state call.Compact reply.Disk) (record {
          genesis = rest.genesis;
          keys = rest.keys;
          states = rest.states;
          grants = rest.grants;
          next = rest.next;
          latest = rest.latest;
          watches = rest.watches;
        }) (size_is ∙ ap (λ j. j.size) same ∙ size) (subst L (sym (payloads_are ∙ ap (λ j. j.payloads) same)) stand)
            (some_torn desk.torn (Rattle.desk_machine.specs.Machine.torn_first state.torn l) next l (torn_is ∙ ap (λ j. j.torn) same) (torn_none None state.torn l up) (snapshot.stand f.0)),
      )
  compact_step (Err fault.LastGeneration) made = ((up, stand.generation ∙ made.1), as_before made.2)
  compact_step (Err fault.OutOfMemory) made = ((up, below made.1), as_before made.2)
  compact_step (Err (fault.Full s w)) made =
      let wanted : w ≡ snapshot_size state = made.3 ∙ snapshot.size in
      ((up, below made.1, (made.2, wanted, made.4)), as_before made.5)

-- ---- the disks

other_rose : {D : Type 0} (faults : D → ℕ) (place : Place) (current other now since : D) → Rose (faults other) (faults since) → EitherRose faults (by_place place current other) (by_place place now since)
other_rose faults First current other now since rose = inr rose
other_rose faults Second current other now since rose = inl rose

module _ {D : Type 0} (faults : D → ℕ) (old new : Journaled D) (qs : List (List ℕ)) (clean : old.torn ≡ None) where
  failed : (torn : Option (List (List ℕ))) → torn ≡ None → FailingCompact faults torn old qs new
      → Rose (faults old.other) (faults new.other) × (new ≡ with_torn old qs old.current new.other)
  failed None none failing = (failing.2, failing.3)
  failed (Some ps) none failing = absurd (let bad : Some ps ≡ None = none in cc)

  pub compact_rose : Compacted faults old qs new (Err fault.Disk) → EitherRose faults (disks_of old) (disks_of new)
  compact_rose made =
      let f = failed old.torn clean made in
      let P : Place → Type 0 = λ p. EitherRose faults (disks_of old) (by_place p new.current new.other) in
      subst P (sym (ap (λ j. j.place) f.1)) (other_rose faults old.place old.current old.other new.current new.other f.0)

  whole_still : new ≡ old → IsSome new.torn → EitherRose faults (disks_of old) (disks_of new)
  whole_still same some = absurd (let bad = subst IsSome (ap (λ j. j.torn) same ∙ clean) some in cc)

  pub compact_fails : (result : Result (ℕ × ℕ) CompactFault) → Compacted faults old qs new result → IsSome new.torn → EitherRose faults (disks_of old) (disks_of new)
  compact_fails (Ok sizes) made some = absurd (let bad = subst IsSome (ap (λ j. j.torn) made.5) some in cc)
  compact_fails (Err fault.Disk) made some = compact_rose made
  compact_fails (Err fault.LastGeneration) made some = whole_still made.2 some
  compact_fails (Err fault.OutOfMemory) made some = whole_still made.2 some
  compact_fails (Err (fault.Full s w)) made some = whole_still made.5 some

  pub compact_root : (result : Result (ℕ × ℕ) CompactFault) → Compacted faults old qs new result → new.root ≡ old.root
  compact_root (Ok sizes) made = ap (λ j. j.root) made.5
  compact_root (Err fault.Disk) made = ap (λ j. j.root) (failed old.torn clean made).1
  compact_root (Err fault.LastGeneration) made = ap (λ j. j.root) made.2
  compact_root (Err fault.OutOfMemory) made = ap (λ j. j.root) made.2
  compact_root (Err (fault.Full s w)) made = ap (λ j. j.root) made.5

  pub compact_keeps : (moment : D → ℕ) (leaves : D → ℕ → List ℕ → Type 0) (result : Result (ℕ × ℕ) CompactFault) → Compacted faults old qs new result
      → LeavesPairs moment leaves (disks_of old) (disks_of new) (λ a b. MayRead old a b ⊎ MayRead new a b) → LeftPair moment leaves (disks_of new) (MayRead new) → FaultsLater faults (disks_of old) (disks_of new)
      → KeepsJournal moment leaves faults old new
  compact_keeps moment leaves result made moments left later = record {
    moments = moments;
    left = left;
    root = compact_root result made;
    later = later;
    fails = λ none some. compact_fails result made some;
  }
