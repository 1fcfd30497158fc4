-- The payloads that a compaction writes, and what they stand for.
use Rattle.std.proofs.Common.{◌≡◌, ℕ, zero, suc, ◌+◌, ◌*◌, ◌^◌, ◌<◌, ◌≤◌, List, [], ◌∷◌, ◌++◌, length, get_or, take, map, append_assoc, append-nil, Ok, refl, sym, ◌∙◌, ap, subst, arith}
use Rattle.std.specs.List.{AllByRecursion}
use Rattle.std.proofs.lemmas.Grind.{flat_map-append}
use Rattle.std.proofs.lemmas.List.{map-append, take_more}
use Rattle.edge_kit.specs.declared.bytes.PubKey.{PubKey}
use Rattle.journal_frames.specs.Frames.{IsPayload}
use Rattle.protect_record.specs.Parts.{Parts}
use Rattle.record_codec.specs.declared.version.JournalVersion.TheVariants.{One}
use Rattle.record_codec.specs.Reading.{batch_of}
use Rattle.record_codec.specs.Spelling.{spelling}
use Rattle.record_codec.specs.declared.item.JournalItem.{JournalItem}
use Rattle.record_replay.specs.Batches.{floors_item}
use Rattle.record_replay.specs.declared.state.KeyState.{KeyState}
use Rattle.record_replay.specs.declared.state.KeyState.TheVariants.{Known, Active, Closing, Closed}
use Rattle.key_snapshot.specs.Cuts.{AreFilled, cut}
use Rattle.key_snapshot.specs.Restoring.{AreRead}
use Rattle.key_snapshot.specs.Snapshots.{entry_items, snapshot_of, state_batches}
use Rattle.desk_machine.specs.States.{key_state}
use Rattle.check_sign.specs.DeskBatches.{AreSpelled, desk_batches}

-- ---- batches are spelled, one after another

pub all_more : {X : Type 0} (P : X → Type 0) (xs ys : List X) → AllByRecursion P xs → AllByRecursion P ys → AllByRecursion P (xs ++ ys)
all_more P [] ys first second = second
all_more P (x ∷ xs) ys first second = (first.0, all_more P xs ys first.1 second)

read_more : (ps : List (List ℕ)) (bs : List (List JournalItem)) (p : List ℕ) (b : List JournalItem) → AreRead ps bs → batch_of One p ≡ Ok b → AreRead (ps ++ p ∷ []) (bs ++ b ∷ [])
read_more [] [] p b read is = (is, tt)
read_more [] (c ∷ bs) p b read is = absurd read
read_more (q ∷ ps) [] p b read is = absurd read
read_more (q ∷ ps) (c ∷ bs) p b read is = (read.0, read_more ps bs p b read.1 is)

pub spelled_none : AreSpelled [] []
spelled_none = record { spelled = refl; read = tt; framed = tt }

pub spelled_more : (ps : List (List ℕ)) (bs : List (List JournalItem)) (p : List ℕ) (b : List JournalItem) → AreSpelled ps bs → p ≡ spelling b → batch_of One p ≡ Ok b → IsPayload p → AreSpelled (ps ++ p ∷ []) (bs ++ b ∷ [])
spelled_more ps bs p b are spells reads payload = record {
  spelled = ap (λ l. l ++ p ∷ []) are.spelled ∙ ap (λ x. map spelling bs ++ x ∷ []) spells ∙ sym (map-append spelling bs (b ∷ []));
  read = read_more ps bs p b are.read reads;
  framed = all_more IsPayload ps (p ∷ []) are.framed (payload, tt);
}

pub few_bytes : (b : List JournalItem) → length b ≤ 4096 → 98 * length b < 2 ^ 32
few_bytes b short = omega (arith, short)

-- ---- no batch of a snapshot is long

abbrev pub Short : List JournalItem → Type 0
Short batch = length batch ≤ 4096

filled_short : (bs : List (List JournalItem)) → AreFilled 4096 bs → AllByRecursion Short bs
filled_short [] filled = tt
filled_short (b ∷ []) filled = (filled.1, tt)
filled_short (b ∷ c ∷ bs) filled = (omega (arith, filled.0), filled_short (c ∷ bs) filled.1)

state_short : (key : PubKey) (state : KeyState) → AllByRecursion Short (state_batches key state)
state_short key Known = tt
state_short key Active = (omega arith, tt)
state_short key Closing = (omega arith, tt)
state_short key Closed = (omega arith, tt)

pub snapshot_short : (key : PubKey) (state : KeyState) (parts : Parts) → AreFilled 4096 (cut 4096 (entry_items key parts)) → AllByRecursion Short (snapshot_of key state parts)
snapshot_short key state parts filled =
    all_more Short (cut 4096 (entry_items key parts)) ((floors_item key parts.floors ∷ []) ∷ state_batches key state) (filled_short (cut 4096 (entry_items key parts)) filled) (omega arith, state_short key state)

-- what all mapped elements have, each of them has
pub all_at : {X Y : Type 0} (f : X → Y) (P : Y → Type 0) (xs : List X) (k : ℕ) (x : X) → k < length xs → get_or xs k x ≡ x → AllByRecursion P (map f xs) → P (f x)
all_at f P [] k x lt is all = absurd (omega (arith, lt))
all_at f P (y ∷ xs) zero x lt is all = subst P (ap f is) all.0
all_at f P (y ∷ xs) (suc k) x lt is all = all_at f P xs k x (omega (arith, lt)) is all.1

-- one element more is taken
one_more : {X : Type 0} (xs : List X) (k : ℕ) (x : X) → k < length xs → get_or xs k x ≡ x → take (k + 1) xs ≡ take k xs ++ x ∷ []
one_more xs k x lt is = take_more xs k x lt ∙ ap (λ z. take k xs ++ z ∷ []) is

pub taken_more : {X Y : Type 0} (f : X → Y) (before : List Y) (xs : List X) (k : ℕ) (x : X) → k < length xs → get_or xs k x ≡ x → (before ++ map f (take k xs)) ++ f x ∷ [] ≡ before ++ map f (take (k + 1) xs)
taken_more f before xs k x lt is =
    append_assoc before (map f (take k xs)) (f x ∷ []) ∙ ap (λ l. before ++ l) (sym (ap (λ l. map f l) (one_more xs k x lt is) ∙ map-append f (take k xs) (x ∷ [])))

pub batches_more : (states : List (PubKey × KeyState)) (keys : List (PubKey × Parts)) (k : ℕ) (x : PubKey × Parts) → k < length keys → get_or keys k x ≡ x
    → desk_batches states (take k keys) ++ snapshot_of x.0 (key_state states x.0) x.1 ≡ desk_batches states (take (k + 1) keys)
batches_more states keys k x lt is =
    let f : PubKey × Parts → List (List JournalItem) = λ kept. snapshot_of kept.0 (key_state states kept.0) kept.1 in
    sym (ap (λ l. desk_batches states l) (one_more keys k x lt is) ∙ flat_map-append f (take k keys) (x ∷ []) ∙ ap (λ l. desk_batches states (take k keys) ++ l) (append-nil (f x)))
