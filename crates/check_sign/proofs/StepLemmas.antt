-- What the writing of a batch makes of the states that a desk stands for.
use Rattle.std.proofs.Common.{◌≡◌, inr, ℕ, ◌+◌, arith, Bool, true, false, cond, nat_eq, ◌&&◌, List, [], ◌∷◌, ◌++◌, length, Option, Some, None, Ok, Err, refl, sym, ◌∙◌, ap, subst, append_assoc, append-nil}
use Rattle.record_codec.specs.declared.version.JournalVersion.TheVariants.{One}
use Rattle.record_codec.specs.Spelling.{spelling}
use Rattle.record_codec.specs.Reading.{batch_of}
use Rattle.record_codec.specs.declared.item.JournalItem.{JournalItem}
use Rattle.record_codec.specs.declared.item.JournalItem.TheVariants as item
use Rattle.journal_frames.specs.Frames.{generation_in, generation_of}
use Rattle.record_journal.specs.Journals.{Journaled, journal_size}
use Rattle.record_journal.specs.declared.log.AppendFault.{AppendFault}
use Rattle.record_journal.specs.declared.log.AppendFault.TheVariants as fault
use Rattle.record_join.specs.BooksPasts.{BooksStand}
use Rattle.record_replay.specs.Items.{items_in, items_or_none}
use Rattle.record_replay.specs.Replaying.{ItemsStand}
use Rattle.check_sign.specs.Contents.{Contents}
use Rattle.desk_machine.specs.States.{State, Lasting, lasting}
use Rattle.desk_machine.specs.Watches.{WatchesStand}
use Rattle.check_sign.specs.Standing.{DeskStands, PayloadsStand, TornStands}
use Rattle.desk_machine.specs.Written.{Overfills, Writes, frame_size, IsOver, IsWritten, written}
use Rattle.desk_machine.specs.Machine.{IsUp, Proceeds, MayFail, MayWant, IsTooMuch, lasting_after, torn_first, latest_after}
use Rattle.check_sign.specs.Writing.{Wrote, IsRead, payloads_of, refusal_of}
use Rattle.desk_machine.specs.declared.call.DeskCall.{DeskCall}
use Rattle.desk_machine.specs.declared.call.DeskReply.{DeskReply}
use Rattle.desk_machine.specs.declared.call.DeskReply.TheVariants as reply

flat_append : (ps qs : List (List ℕ)) → items_in One (ps ++ qs) ≡ items_in One ps ++ items_in One qs
flat_append [] qs = refl
flat_append (p ∷ ps) qs = ap (λ l. items_or_none (batch_of One p) ++ l) (flat_append ps qs) ∙ sym (append_assoc (items_or_none (batch_of One p)) (items_in One ps) (items_in One qs))

items_more : (ps : List (List ℕ)) (p : List ℕ) (items : List JournalItem) → batch_of One p ≡ Ok items → items_in One (ps ++ p ∷ []) ≡ items_in One ps ++ items
items_more ps p items is = flat_append ps (p ∷ []) ∙ ap (λ l. items_in One ps ++ l) (ap (λ r. items_or_none r ++ []) is ∙ append-nil items)

size_more : (ps : List (List ℕ)) (p : List ℕ) → journal_size (ps ++ p ∷ []) ≡ journal_size ps + (length p + 5)
size_more [] p = refl
size_more (q ∷ ps) p = omega (arith, size_more ps p)

-- a batch is no generation: its first byte is a tag of an item
no_tag : (b : Bool) (n : ℕ) → cond (b && false) n 0 ≡ 0
no_tag true n = refl
no_tag false n = refl

generation_none : (i : JournalItem) (items : List JournalItem) → generation_in (spelling (i ∷ items)) ≡ 0
generation_none (item.Block key entry) items = no_tag (nat_eq (length (spelling (item.Block key entry ∷ items))) 9) _
generation_none (item.Vote key entry) items = no_tag (nat_eq (length (spelling (item.Vote key entry ∷ items))) 9) _
generation_none (item.Floors key block vote) items = no_tag (nat_eq (length (spelling (item.Floors key block vote ∷ items))) 9) _
generation_none (item.ActivateUndated key) items = no_tag (nat_eq (length (spelling (item.ActivateUndated key ∷ items))) 9) _
generation_none (item.Activate key epoch) items = no_tag (nat_eq (length (spelling (item.Activate key epoch ∷ items))) 9) _
generation_none (item.Answer key epoch live moment) items = no_tag (nat_eq (length (spelling (item.Answer key epoch live moment ∷ items))) 9) _
generation_none (item.Close key) items = no_tag (nat_eq (length (spelling (item.Close key ∷ items))) 9) _

generation_more : (ps : List (List ℕ)) (i : JournalItem) (items : List JournalItem) → generation_of (ps ++ spelling (i ∷ items) ∷ []) ≡ generation_of ps
generation_more [] i items = generation_none i items
generation_more (p ∷ ps) i items = refl

-- one payload more
payload_stands : (ps : List (List ℕ)) (p : List ℕ) (items : List JournalItem) (l : Lasting) → batch_of One p ≡ Ok items → ItemsStand (items_in One ps ++ items) l.keys l.states [] → l.size ≡ journal_size ps + (length p + 5) → l.generation ≡ generation_of (ps ++ p ∷ []) → PayloadsStand (ps ++ p ∷ []) l
payload_stands ps p items l is stand size generation = let P : List JournalItem → Type 0 = λ i. ItemsStand i l.keys l.states [] in record {
  items = subst P (sym (items_more ps p items is)) stand;
  size = size ∙ sym (size_more ps p);
  generation = generation;
}

-- a batch more, or none
pub batch_stands : (ps : List (List ℕ)) (items : List JournalItem) (size : ℕ) (l : Lasting) → IsRead items → ItemsStand (items_in One ps ++ items) l.keys l.states [] → size ≡ journal_size ps → l.size ≡ size + frame_size items → l.generation ≡ generation_of ps
    → PayloadsStand (ps ++ payloads_of items) l
batch_stands ps [] size l read stand same is generation =
    let P : List JournalItem → Type 0 = λ i. ItemsStand i l.keys l.states [] in
    let Q : List (List ℕ) → Type 0 = λ x. PayloadsStand x l in
    subst Q (sym (append-nil ps)) (record { items = subst P (append-nil (items_in One ps)) stand; size = omega (arith, same, is); generation = generation })
batch_stands ps (i ∷ items) size l read stand same is generation = payload_stands ps (spelling (i ∷ items)) (i ∷ items) l read stand (omega (arith, same, is)) (generation ∙ sym (generation_more ps i items))

-- the same of a batch that is written
written_stands : (ps : List (List ℕ)) (items : List JournalItem) (size : ℕ) (l : Lasting) → IsWritten size items → IsRead items → ItemsStand (items_in One ps ++ items) l.keys l.states [] → size ≡ journal_size ps → l.size ≡ size + frame_size items → l.generation ≡ generation_of ps
    → PayloadsStand (ps ++ spelling items ∷ []) l
written_stands ps [] size l w read stand same is generation = absurd w
written_stands ps (i ∷ items) size l w read stand same is generation = payload_stands ps (spelling (i ∷ items)) (i ∷ items) l read stand (omega (arith, same, is)) (generation ∙ sym (generation_more ps i items))

-- all of a desk but its journal stands for all of a state but what its journal has
pub record Rest (desk : Contents) (state : State) : Type 0 where
  pub genesis : desk.genesis ≡ state.genesis
  pub keys : BooksStand desk.keys state.keys
  pub states : desk.states ≡ state.states
  pub grants : desk.grants ≡ state.grants
  pub next : desk.next ≡ state.next
  pub latest : desk.latest ≡ state.latest
  pub watches : WatchesStand desk.watches state.watching

pub whole : (desk : Contents) (state : State) → Rest desk state → desk.size ≡ state.size → PayloadsStand desk.payloads (lasting state) → TornStands desk.torn state.torn → DeskStands desk state
whole desk state rest size payloads torn = record {
  genesis = rest.genesis;
  keys = rest.keys;
  states = rest.states;
  grants = rest.grants;
  next = rest.next;
  latest = rest.latest;
  watches = rest.watches;
  size = size;
  payloads = payloads;
  torn = torn;
}

-- a desk that is up stands for states that are up, and the other way
pub up_state : (t : Option (List (List ℕ))) (l : Option Lasting) → TornStands t l → t ≡ None → l ≡ None
up_state t None s e = refl
up_state None (Some l) s e = absurd s
up_state (Some p) (Some l) s e = let bad : Some p ≡ None = e in absurd cc

pub down_state : (t : Option (List (List ℕ))) (l : Option Lasting) (p : List (List ℕ)) → TornStands t l → t ≡ Some p → (x : Lasting) × (l ≡ Some x)
down_state t (Some l) p s e = (l, refl)
down_state None None p s e = let bad : None ≡ Some p = e in absurd cc
down_state (Some q) None p s e = absurd s

pub none_torn : (t : Option (List (List ℕ))) (l : Option Lasting) → t ≡ None → l ≡ None → TornStands t l
none_torn t l e f =
    let T : Option (List (List ℕ)) → Type 0 = λ x. TornStands x l in
    let L : Option Lasting → Type 0 = λ x. TornStands None x in
    subst T (sym e) (subst L (sym f) tt)

pub some_torn : (t : Option (List (List ℕ))) (l : Option Lasting) (p : List (List ℕ)) (x : Lasting) → t ≡ Some p → l ≡ Some x → PayloadsStand p x → TornStands t l
some_torn t l p x e f s =
    let T : Option (List (List ℕ)) → Type 0 = λ y. TornStands y l in
    let L : Option Lasting → Type 0 = λ y. TornStands (Some p) y in
    subst T (sym e) (subst L (sym f) s)

-- ---- a batch was written

pub grown : {D : Type 0} (faults : D → ℕ) (old new : Journaled D) (items : List JournalItem) (desk : Contents) (state after : State)
    → Wrote faults old items new (Ok tt) → old.size ≡ state.size → old.size ≡ journal_size old.payloads
    → desk.payloads ≡ new.payloads → desk.size ≡ new.size → desk.torn ≡ new.torn
    → ItemsStand (items_in One old.payloads ++ items) after.keys after.states [] → after.size ≡ state.size + frame_size items → after.generation ≡ generation_of old.payloads → after.torn ≡ None
    → Rest desk after → DeskStands desk after
grown faults old new items desk state after wrote size journal payloads_are size_is torn_is stand grows generation up rest =
    let made = wrote.2 in
    let sized : desk.size ≡ old.size + frame_size items = size_is ∙ ap (λ j. j.size) made in
    let lists : desk.payloads ≡ old.payloads ++ payloads_of items = payloads_are ∙ ap (λ j. j.payloads) made in
    let whole_torn : desk.torn ≡ None = torn_is ∙ ap (λ j. j.torn) made in
    let P : List (List ℕ) → Type 0 = λ l. PayloadsStand l (lasting after) in
    whole desk after rest (sized ∙ ap (λ n. n + frame_size items) size ∙ sym grows)
    (subst P (sym lists) (batch_stands old.payloads items old.size (lasting after) wrote.1 stand journal (grows ∙ ap (λ n. n + frame_size items) (sym size)) generation))
    (none_torn desk.torn after.torn whole_torn up)

-- ---- nothing was written, and the reply says why

-- only the moment, and where the disk failed what the call would have left, may differ
module _ {D : Type 0} (faults : D → ℕ) (old new : Journaled D) (items : List JournalItem) (desk : Contents) (state : State) (c : DeskCall) where
  abbrev moved_on : Option Lasting → State
  moved_on torn = record state { latest = latest_after state.latest c; torn = torn }

  pub by_fault : (f : AppendFault) (R : DeskReply → Type 0) (A : DeskReply → State) → Wrote faults old items new (Err f)
      → PayloadsStand old.payloads (lasting state) → old.size ≡ state.size → old.size ≡ journal_size old.payloads → old.torn ≡ None → IsUp state
      → desk.payloads ≡ new.payloads → desk.size ≡ new.size → desk.torn ≡ new.torn
      → Proceeds state c → written state c ≡ items
      → ItemsStand (items_in One old.payloads ++ items) (lasting_after state c).keys (lasting_after state c).states [] → (lasting_after state c).size ≡ state.size + frame_size items → (lasting_after state c).generation ≡ state.generation → (IsWritten state.size (written state c) → Writes state c) → ((s w : ℕ) → IsOver state.size (written state c) s w → Overfills state c s w)
      → (MayFail state c → R reply.Disk) → (MayWant state c → R reply.OutOfMemory) → ((s w : ℕ) → IsTooMuch state c s w → R (reply.Full s w))
      → A reply.Disk ≡ moved_on (torn_first state.torn (lasting_after state c)) → A reply.OutOfMemory ≡ moved_on state.torn → ((s w : ℕ) → A (reply.Full s w) ≡ moved_on state.torn)
      → Rest desk (moved_on state.torn)
      → R (refusal_of f) × DeskStands desk (A (refusal_of f))
  by_fault fault.Disk R A wrote stand size journal clean up payloads_are size_is torn_is proceeds writes more grows same fits over disk memory full on_disk on_memory on_full rest =
      let made = wrote.3 in
      let l = lasting_after state c in
      let torn : torn_first state.torn l ≡ Some l = ap (λ t. torn_first t l) up in
      let sizes : ℕ → Type 0 = λ n. IsWritten n items in
      let whats : List JournalItem → Type 0 = λ i. IsWritten state.size i in
      let P : State → Type 0 = λ s. DeskStands desk s in
      let lists : desk.payloads ≡ old.payloads = payloads_are ∙ ap (λ j. j.payloads) made in
      let L : List (List ℕ) → Type 0 = λ ps. PayloadsStand ps (lasting state) in (
        disk (inr (up, proceeds, fits (subst whats (sym writes) (subst sizes size wrote.0)))),
        subst P (sym on_disk) (whole desk (moved_on (torn_first state.torn l)) (record {
          genesis = rest.genesis;
          keys = rest.keys;
          states = rest.states;
          grants = rest.grants;
          next = rest.next;
          latest = rest.latest;
          watches = rest.watches;
        }) (size_is ∙ ap (λ j. j.size) made ∙ size) (subst L (sym lists) stand)
            (some_torn desk.torn (torn_first state.torn l) (old.payloads ++ spelling items ∷ []) l (torn_is ∙ ap (λ j. j.torn) made) torn
            (written_stands old.payloads items old.size l wrote.0 wrote.1 more journal (grows ∙ ap (λ n. n + frame_size items) (sym size)) (same ∙ stand.generation)))),
      )
  by_fault fault.OutOfMemory R A wrote stand size journal clean up payloads_are size_is torn_is proceeds writes more grows same fits over disk memory full on_disk on_memory on_full rest =
      let P : State → Type 0 = λ s. DeskStands desk s in
      let L : List (List ℕ) → Type 0 = λ ps. PayloadsStand ps (lasting state) in (
        memory (up, proceeds),
        subst P (sym on_memory) (whole desk (moved_on state.torn) rest (size_is ∙ ap (λ j. j.size) wrote ∙ size) (subst L (sym (payloads_are ∙ ap (λ j. j.payloads) wrote)) stand)
            (none_torn desk.torn state.torn (torn_is ∙ ap (λ j. j.torn) wrote ∙ clean) up)),
      )
  by_fault (fault.Full s w) R A wrote stand size journal clean up payloads_are size_is torn_is proceeds writes more grows same fits over disk memory full on_disk on_memory on_full rest =
      let P : State → Type 0 = λ x. DeskStands desk x in
      let L : List (List ℕ) → Type 0 = λ ps. PayloadsStand ps (lasting state) in
      let sizes : ℕ → Type 0 = λ n. IsOver n items s w in
      let whats : List JournalItem → Type 0 = λ i. IsOver state.size i s w in
      let same = wrote.1 in (
        full s w (up, proceeds, over s w (subst whats (sym writes) (subst sizes size wrote.0))),
        subst P (sym (on_full s w)) (whole desk (moved_on state.torn) rest (size_is ∙ ap (λ j. j.size) same ∙ size) (subst L (sym (payloads_are ∙ ap (λ j. j.payloads) same)) stand)
            (none_torn desk.torn state.torn (torn_is ∙ ap (λ j. j.torn) same ∙ clean) up)),
      )
