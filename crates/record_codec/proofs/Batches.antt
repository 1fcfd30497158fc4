-- A batch that is read is the batch that was written, what was written is read again, and the first item that
-- can't be read is named.
use Rattle.std.proofs.Common.{◌≡◌, ◌⊎◌, ℕ, zero, suc, ◌+◌, ◌-◌, ◌<◌, ◌≤◌, true, false, cond, eqb, List, [], ◌∷◌, ◌++◌, length, Option, Some, None, Result, Ok, Err, refl, sym, ap, subst, ◌∙◌, append_assoc, arith, inl, inr, length-append}
use Rattle.std.specs.List.{AllByRecursion}
use Rattle.std.proofs.lemmas.Bool.{eq-eqb, ne_eqb}
use Rattle.std.proofs.lemmas.List.{append-nil, nil_from_length}
use Rattle.std.proofs.lemmas.List.Concat.{flat_map-cons}
use Rattle.record_codec.specs.declared.item.JournalItem.{JournalItem}
use Rattle.record_codec.specs.declared.item.JournalItem.TheVariants.{Block, Vote, Floors, ActivateUndated, Activate, Answer, Close}
use Rattle.record_codec.specs.declared.version.JournalVersion.{JournalVersion}
use Rattle.record_codec.specs.Spelling.{item_bytes, spelling, is_record, IsBatch, IsOf, MomentFits, Fits, IsFirstBad}
use Rattle.record_codec.specs.Reading.{record_at, state_at, prepend, first_then, rest_of, records_at, state_or, batch_of, fault_in}
use Rattle.std.specs.Prelude.{IfOk, IfErr}
use Rattle.std.specs.Global.{Vec}
use Rattle.std.specs.declared.alloc.AllocError.{AllocError}
use Rattle.record_codec.specs.declared.item.BadAt.{BadAt}
use Rattle.record_codec.specs.Seen.{seen}
use Rattle.record_codec.proofs.Fields.{AreBytes}
use Rattle.record_codec.proofs.Items.{record_takes, record_again, IsState, state_takes, state_again, state_none, some_bytes}

abbrev pub AllRecords : List JournalItem → Type 0
AllRecords items = AllByRecursion (λ i. is_record i ≡ true) items

abbrev pub AllFit : List JournalItem → Type 0
AllFit items = AllByRecursion Fits items

abbrev pub AllOf : JournalVersion → List JournalItem → Type 0
AllOf version items = AllByRecursion (IsOf version) items

abbrev Read : Type 0
Read = Result (List JournalItem) ℕ

ok_is : (xs ys : List JournalItem) → ◌≡◌ {A = Result (List JournalItem) ℕ} (Ok xs) (Ok ys) → xs ≡ ys
ok_is xs ys e = cc

err_is : (i j : ℕ) → ◌≡◌ {A = Result (List JournalItem) ℕ} (Err i) (Err j) → i ≡ j
err_is i j e = cc

spelling-cons : (item : JournalItem) (items : List JournalItem) → spelling (item ∷ items) ≡ item_bytes item ++ spelling items
spelling-cons item items = flat_map-cons item_bytes item items

-- ---- one record more

none_step : (fuel offset : ℕ) (bytes : List ℕ) → record_at bytes ≡ None → records_at (suc fuel) offset bytes ≡ Err offset
unfolding records_at
none_step fuel offset bytes none = ap (λ (o : Option (JournalItem × List ℕ)). first_then offset o (records_at fuel (offset + (length bytes - length (rest_of o))) (rest_of o))) none

some_step : (fuel offset : ℕ) (bytes : List ℕ) (x : JournalItem × List ℕ) → record_at bytes ≡ Some x → records_at (suc fuel) offset bytes ≡ cond (eqb (length x.1) 0) (Ok (x.0 ∷ [])) (prepend x.0 (records_at fuel (offset + (length bytes - length x.1)) x.1))
unfolding records_at
some_step fuel offset bytes x some = ap (λ (o : Option (JournalItem × List ℕ)). first_then offset o (records_at fuel (offset + (length bytes - length (rest_of o))) (rest_of o))) some

pub last_step : (fuel offset : ℕ) (bytes : List ℕ) (item : JournalItem) (rest : List ℕ) → record_at bytes ≡ Some (item, rest) → length rest ≡ 0 → records_at (suc fuel) offset bytes ≡ Ok (item ∷ [])
last_step fuel offset bytes item rest some none = some_step fuel offset bytes (item, rest) some ∙ rw (eq-eqb (length rest) 0 none) refl

pub next_step : (fuel offset : ℕ) (bytes : List ℕ) (item : JournalItem) (rest : List ℕ) → record_at bytes ≡ Some (item, rest) → 0 < length rest → records_at (suc fuel) offset bytes ≡ prepend item (records_at fuel (offset + (length bytes - length rest)) rest)
next_step fuel offset bytes item rest some more = some_step fuel offset bytes (item, rest) some ∙ rw (ne_eqb (length rest) 0 (λ same. absurd (omega arith))) refl

pub bad_step : (fuel offset : ℕ) (bytes : List ℕ) → record_at bytes ≡ None → records_at (suc fuel) offset bytes ≡ Err offset
bad_step = none_step

cases_found : (o : Option (JournalItem × List ℕ)) → (o ≡ None) ⊎ ((x : JournalItem × List ℕ) × (o ≡ Some x))
cases_found None = inl refl
cases_found (Some x) = inr (x, refl)

cases_empty : (bytes : List ℕ) → (length bytes ≡ 0) ⊎ (0 < length bytes)
cases_empty [] = inl refl
cases_empty (b ∷ bytes) = inr (omega arith)

prepend_ok : (item : JournalItem) (r : Result (List JournalItem) ℕ) (items : List JournalItem) → prepend item r ≡ Ok items → (others : List JournalItem) × (r ≡ Ok others) × (item ∷ others ≡ items)
prepend_ok item (Ok others) items e = (others, refl, ok_is (item ∷ others) items e)
prepend_ok item (Err k) items e = absurd cc

prepend_err : (item : JournalItem) (r : Result (List JournalItem) ℕ) (k : ℕ) → prepend item r ≡ Err k → r ≡ Err k
prepend_err item (Ok others) k e = absurd cc
prepend_err item (Err j) k e = e

-- ---- what is read is spelled so

pub record Spelled (bytes : List ℕ) (items : List JournalItem) : Type 0 where
  pub whole : bytes ≡ spelling items
  pub records : AllRecords items
  pub fits : AllFit items
  pub some : 0 < length items

records_take : (fuel offset : ℕ) (bytes : List ℕ) (items : List JournalItem) → AreBytes bytes → records_at fuel offset bytes ≡ Ok items → Spelled bytes items
unfolding records_at
records_take zero offset bytes items fits e = absurd cc
records_take (suc fuel) offset bytes items fits e =
    elim (cases_found (record_at bytes)) [
      | inl none ↦ absurd (differ items (sym (none_step fuel offset bytes none) ∙ e))
      | inr some ↦
          let x = some.0 in
          let one = record_takes bytes x fits some.1 in
          elim (cases_empty x.1) [
            | inl last ↦
                let is : x.0 ∷ [] ≡ items = ok_is (x.0 ∷ []) items (sym (last_step fuel offset bytes x.0 x.1 some.1 last) ∙ e) in
                subst (λ (l : List JournalItem). Spelled bytes l) is
                (record { whole = one.takes.parts ∙ ap (λ (l : List ℕ). item_bytes x.0 ++ l) (nil_from_length x.1 last) ∙ sym (spelling-cons x.0 []); records = (one.is_one, tt); fits = (one.fits, tt); some = omega arith })
            | inr more ↦
                let p = prepend_ok x.0 (records_at fuel (offset + (length bytes - length x.1)) x.1) items (sym (next_step fuel offset bytes x.0 x.1 some.1 more) ∙ e) in
                let others = records_take fuel (offset + (length bytes - length x.1)) x.1 p.0 one.takes.rest_fits p.1 in
                subst (λ (l : List JournalItem). Spelled bytes l) p.2
                (record { whole = one.takes.parts ∙ ap (λ (l : List ℕ). item_bytes x.0 ++ l) others.whole ∙ sym (spelling-cons x.0 p.0); records = (one.is_one, others.records); fits = (one.fits, others.fits); some = omega arith })
          ]
    ]
  where
    differ : (l : List JournalItem) → ◌≡◌ {A = Result (List JournalItem) ℕ} (Err offset) (Ok l) → ⊥
    differ l same = cc

-- ---- what is spelled so is read

records_again : (fuel offset : ℕ) (item : JournalItem) (items : List JournalItem) → length (item ∷ items) ≤ fuel → AllRecords (item ∷ items) → AllFit (item ∷ items) → records_at fuel offset (spelling (item ∷ items)) ≡ Ok (item ∷ items)
records_again zero offset item items enough records fits = absurd (omega arith)
records_again (suc fuel) offset item [] enough records fits =
    ap (λ (l : List ℕ). records_at (suc fuel) offset l) (spelling-cons item [])
    ∙ last_step fuel offset (item_bytes item ++ []) item [] (record_again item [] fits.0 records.0) refl
records_again (suc fuel) offset item (other ∷ items) enough records fits =
    let rest = spelling (other ∷ items) in
    let more : 0 < length rest = omega (arith, ap length (spelling-cons other items), length-append (item_bytes other) (spelling items), some_bytes other) in
    ap (λ (l : List ℕ). records_at (suc fuel) offset l) (spelling-cons item (other ∷ items))
    ∙ next_step fuel offset (item_bytes item ++ rest) item rest (record_again item rest fits.0 records.0) more
    ∙ ap (λ (r : Result (List JournalItem) ℕ). prepend item r) (records_again fuel (offset + (length (item_bytes item ++ rest) - length rest)) other items (omega arith) records.1 fits.1)

many_items : (items : List JournalItem) → length items ≤ length (spelling items)
many_items [] = omega arith
many_items (item ∷ items) = omega (arith, many_items items, ap length (spelling-cons item items), length-append (item_bytes item) (spelling items), some_bytes item)

-- ---- the first that can't be read

pub record Stops (bytes : List ℕ) (place : ℕ) : Type 0 where
  pub before : List JournalItem
  pub rest : List ℕ
  pub split : bytes ≡ spelling before ++ rest
  pub at : place ≡ length (spelling before)
  pub records : AllRecords before
  pub fits : AllFit before
  pub within : (before ≡ [] → ⊥) → 0 < length rest
  pub none : record_at rest ≡ None
  pub rest_fits : AreBytes rest

records_stop : (fuel offset : ℕ) (bytes : List ℕ) (k : ℕ) → AreBytes bytes → length bytes < fuel → records_at fuel offset bytes ≡ Err k → (place : ℕ) × (k ≡ offset + place) × Stops bytes place
records_stop zero offset bytes k fits enough e = absurd (omega arith)
records_stop (suc fuel) offset bytes k fits enough e =
    elim (cases_found (record_at bytes)) [
      | inl none ↦ (0, err_is k (offset + 0) (sym e ∙ none_step fuel offset bytes none ∙ ap Err plus), record { before = []; rest = bytes; split = refl; at = refl; records = tt; fits = tt; within = λ some. absurd (some refl); none = none; rest_fits = fits })
      | inr some ↦
          let x = some.0 in
          let one = record_takes bytes x fits some.1 in
          let long : length bytes ≡ length (item_bytes x.0) + length x.1 = omega (arith, ap length one.takes.parts, length-append (item_bytes x.0) x.1) in
          elim (cases_empty x.1) [
            | inl last ↦ absurd (differ (x.0 ∷ []) (sym (last_step fuel offset bytes x.0 x.1 some.1 last) ∙ e))
            | inr more ↦
                let later = records_stop fuel (offset + (length bytes - length x.1)) x.1 k one.takes.rest_fits (omega (arith, some_bytes x.0)) (prepend_err x.0 (records_at fuel (offset + (length bytes - length x.1)) x.1) k (sym (next_step fuel offset bytes x.0 x.1 some.1 more) ∙ e)) in
                let stop = later.2 in (
                  length (item_bytes x.0) + later.0,
                  omega (arith, later.1),
                  record {
                    before = x.0 ∷ stop.before;
                    rest = stop.rest;
                    split = one.takes.parts ∙ ap (λ (l : List ℕ). item_bytes x.0 ++ l) stop.split ∙ sym (append_assoc (item_bytes x.0) (spelling stop.before) stop.rest) ∙ ap (λ (l : List ℕ). l ++ stop.rest) (sym (spelling-cons x.0 stop.before));
                    at = omega (arith, stop.at, ap length (spelling-cons x.0 stop.before), length-append (item_bytes x.0) (spelling stop.before));
                    records = (one.is_one, stop.records);
                    fits = (one.fits, stop.fits);
                    within = λ filled. some_left stop.before x.1 stop.rest stop.split stop.within more;
                    none = stop.none;
                    rest_fits = stop.rest_fits;
                  },
                )
          ]
    ]
  where
    plus : offset ≡ offset + 0
    plus = omega arith

    differ : (l : List JournalItem) → ◌≡◌ {A = Result (List JournalItem) ℕ} (Ok l) (Err k) → ⊥
    differ l same = cc

    some_left : (before : List JournalItem) (bytes rest : List ℕ) → bytes ≡ spelling before ++ rest → ((before ≡ [] → ⊥) → 0 < length rest) → 0 < length bytes → 0 < length rest
    some_left [] bytes rest split within more = omega (arith, ap length split)
    some_left (item ∷ before) bytes rest split within more = within (λ same. cc)

records_stopped : (fuel offset : ℕ) (before : List JournalItem) (rest : List ℕ) → length before < fuel → AllRecords before → AllFit before → ((before ≡ [] → ⊥) → 0 < length rest) → record_at rest ≡ None → records_at fuel offset (spelling before ++ rest) ≡ Err (offset + length (spelling before))
records_stopped zero offset before rest enough records fits within none = absurd (omega arith)
records_stopped (suc fuel) offset [] rest enough records fits within none = none_step fuel offset rest none ∙ ap Err plus
  where
    plus : offset ≡ offset + 0
    plus = omega arith
records_stopped (suc fuel) offset (item ∷ before) rest enough records fits within none =
    let left = spelling before ++ rest in
    let grouped : spelling (item ∷ before) ++ rest ≡ item_bytes item ++ left = ap (λ (l : List ℕ). l ++ rest) (spelling-cons item before) ∙ append_assoc (item_bytes item) (spelling before) rest in
    let more : 0 < length left = omega (arith, within (λ same. absurd (filled same)), length-append (spelling before) rest) in
    let place : offset + (length (item_bytes item ++ left) - length left) + length (spelling before) ≡ offset + length (spelling (item ∷ before)) =
    omega (arith, length-append (item_bytes item) left, ap length (spelling-cons item before), length-append (item_bytes item) (spelling before)) in
    ap (λ (l : List ℕ). records_at (suc fuel) offset l) grouped
    ∙ next_step fuel offset (item_bytes item ++ left) item left (record_again item left fits.0 records.0) more
    ∙ ap (λ (r : Result (List JournalItem) ℕ). prepend item r) (records_stopped fuel (offset + (length (item_bytes item ++ left) - length left)) before rest (omega arith) records.1 fits.1 (λ some. within (λ same. absurd (filled same))) none)
    ∙ ap Err place
  where
    filled : item ∷ before ≡ [] → ⊥
    filled same = cc

-- ---- a loop over the records of a payload

abbrev pub with_front : List JournalItem → Result (List JournalItem) ℕ → Result (List JournalItem) ℕ
with_front front (Ok items) = Ok (front ++ items)
with_front front (Err offset) = Err offset

front_prepend : (front : List JournalItem) (item : JournalItem) (r : Result (List JournalItem) ℕ) → with_front front (prepend item r) ≡ with_front (front ++ item ∷ []) r
front_prepend front item (Ok items) = ap (λ (l : List JournalItem). Ok l) (sym (append_assoc front (item ∷ []) items))
front_prepend front item (Err offset) = refl

-- what is read up to here, and then what is read of the rest
abbrev pub SoFar : List ℕ → List JournalItem → List ℕ → Type 0
SoFar payload front rest = (fuel : ℕ) → records_at (length front + fuel) 0 payload ≡ with_front front (records_at fuel (length payload - length rest) rest)

pub so_far_none : (payload : List ℕ) → SoFar payload [] payload
so_far_none payload fuel = ap (λ (n : ℕ). records_at n 0 payload) none ∙ ap (λ (n : ℕ). records_at fuel n payload) still ∙ sym (front_none (records_at fuel (length payload - length payload) payload))
  where
    none : 0 + fuel ≡ fuel
    none = omega arith

    still : 0 ≡ length payload - length payload
    still = omega arith

    front_none : (r : Result (List JournalItem) ℕ) → with_front [] r ≡ r
    front_none (Ok items) = refl
    front_none (Err offset) = refl

pub shorter : (bytes : List ℕ) (item : JournalItem) (behind : List ℕ) → AreBytes bytes → record_at bytes ≡ Some (item, behind) → length behind < length bytes
shorter bytes item behind fits some = let one = record_takes bytes (item, behind) fits some in omega (arith, ap length one.takes.parts, length-append (item_bytes item) behind, some_bytes item)

pub so_far_more : (payload : List ℕ) (front now : List JournalItem) (rest : List ℕ) (item : JournalItem) (behind : List ℕ) → AreBytes rest → length rest ≤ length payload → SoFar payload front rest
    → record_at rest ≡ Some (item, behind) → 0 < length behind → now ≡ front ++ item ∷ [] → SoFar payload now behind
so_far_more payload front now rest item behind fits within so_far some more is fuel =
    let less = shorter rest item behind fits some in
    let long : length now + fuel ≡ length front + suc fuel = omega (arith, ap length is, length-append front (item ∷ [])) in
    let place : length payload - length rest + (length rest - length behind) ≡ length payload - length behind = omega arith in
    ap (λ (n : ℕ). records_at n 0 payload) long ∙ so_far (suc fuel)
    ∙ ap (with_front front) (next_step fuel (length payload - length rest) rest item behind some more)
    ∙ front_prepend front item (records_at fuel (length payload - length rest + (length rest - length behind)) behind)
    ∙ ap (λ (n : ℕ). with_front (front ++ item ∷ []) (records_at fuel n behind)) place
    ∙ ap (λ (l : List JournalItem). with_front l (records_at fuel (length payload - length behind) behind)) (sym is)

pub ends_bad : (payload : List ℕ) (front : List JournalItem) (rest : List ℕ) → length front + length rest ≤ length payload → SoFar payload front rest → record_at rest ≡ None
    → (fuel : ℕ) → length payload < fuel → records_at fuel 0 payload ≡ Err (length payload - length rest)
ends_bad payload front rest count so_far none fuel enough =
    let split : fuel ≡ length front + suc (fuel - length front - 1) = omega arith in
    ap (λ (n : ℕ). records_at n 0 payload) split ∙ so_far (suc (fuel - length front - 1)) ∙ ap (with_front front) (none_step (fuel - length front - 1) (length payload - length rest) rest none)

pub ends_well : (payload : List ℕ) (front : List JournalItem) (rest : List ℕ) (item : JournalItem) (behind : List ℕ) → length front + length rest ≤ length payload → SoFar payload front rest → record_at rest ≡ Some (item, behind) → length behind ≡ 0
    → (fuel : ℕ) → length payload < fuel → records_at fuel 0 payload ≡ Ok (front ++ item ∷ [])
ends_well payload front rest item behind count so_far some last fuel enough =
    let split : fuel ≡ length front + suc (fuel - length front - 1) = omega arith in
    ap (λ (n : ℕ). records_at n 0 payload) split ∙ so_far (suc (fuel - length front - 1)) ∙ ap (with_front front) (last_step (fuel - length front - 1) (length payload - length rest) rest item behind some last)

-- ---- a whole payload

batch_records : (items : List JournalItem) → AllRecords items → 0 < length items → IsBatch items
batch_records [] records some = absurd (omega arith)
batch_records (item ∷ []) records some = tt
batch_records (item ∷ other ∷ items) records some = records

cases_state : (o : Option JournalItem) → (o ≡ None) ⊎ ((item : JournalItem) × (o ≡ Some item))
cases_state None = inl refl
cases_state (Some item) = inr (item, refl)

with_state : (version : JournalVersion) (payload : List ℕ) (item : JournalItem) → state_at version payload ≡ Some item → batch_of version payload ≡ Ok (item ∷ [])
unfolding batch_of
with_state version payload item some = ap (λ (o : Option JournalItem). state_or o (records_at (suc (length payload)) 0 payload)) some

without_state : (version : JournalVersion) (payload : List ℕ) → state_at version payload ≡ None → batch_of version payload ≡ records_at (suc (length payload)) 0 payload
unfolding batch_of
without_state version payload none = ap (λ (o : Option JournalItem). state_or o (records_at (suc (length payload)) 0 payload)) none

-- each version has all records
record_of : (version : JournalVersion) (item : JournalItem) → is_record item ≡ true → IsOf version item
record_of version (Block key entry) one = tt
record_of version (Vote key entry) one = tt
record_of version (Floors key block vote) one = tt
record_of version (ActivateUndated key) one = absurd cc
record_of version (Activate key epoch) one = absurd cc
record_of version (Answer key epoch live moment) one = absurd cc
record_of version (Close key) one = tt

pub records_of_each : (version : JournalVersion) (items : List JournalItem) → AllRecords items → AllOf version items
records_of_each version [] records = tt
records_of_each version (item ∷ items) records = (record_of version item records.0, records_of_each version items records.1)

-- and no record has a moment
record_untimed : (item : JournalItem) → is_record item ≡ true → MomentFits item
record_untimed (Block key entry) one = tt
record_untimed (Vote key entry) one = tt
record_untimed (Floors key block vote) one = tt
record_untimed (ActivateUndated key) one = absurd cc
record_untimed (Activate key epoch) one = absurd cc
record_untimed (Answer key epoch live moment) one = absurd cc
record_untimed (Close key) one = absurd cc

pub records_untimed : (items : List JournalItem) → AllRecords items → AllByRecursion MomentFits items
records_untimed [] records = tt
records_untimed (item ∷ items) records = (record_untimed item records.0, records_untimed items records.1)

pub batch_takes : (version : JournalVersion) (payload : List ℕ) (items : List JournalItem) → AreBytes payload → batch_of version payload ≡ Ok items → IsBatch items × AllOf version items × AllFit items × (payload ≡ spelling items)
batch_takes version payload items fits e =
    elim (cases_state (state_at version payload)) [
      | inl none ↦
          let all = records_take (suc (length payload)) 0 payload items fits (sym (without_state version payload none) ∙ e) in
          (batch_records items all.records all.some, records_of_each version items all.records, all.fits, all.whole)
      | inr some ↦
          let state = state_takes version payload some.0 fits some.1 in
          subst (λ (l : List JournalItem). IsBatch l × AllOf version l × AllFit l × (payload ≡ spelling l)) (ok_is (some.0 ∷ []) items (sym (with_state version payload some.0 some.1) ∙ e))
          (tt, (state.of, tt), (state.fits, tt), state.whole ∙ sym (append-nil (item_bytes some.0)) ∙ sym (spelling-cons some.0 []))
    ]

cases_record : (item : JournalItem) → (is_record item ≡ true) ⊎ (is_record item ≡ false)
cases_record (Block key entry) = inl refl
cases_record (Vote key entry) = inl refl
cases_record (Floors key block vote) = inl refl
cases_record (ActivateUndated key) = inr refl
cases_record (Activate key epoch) = inr refl
cases_record (Answer key epoch live moment) = inr refl
cases_record (Close key) = inr refl

records_batch : (version : JournalVersion) (item : JournalItem) (items : List JournalItem) → AllRecords (item ∷ items) → AllFit (item ∷ items) → batch_of version (spelling (item ∷ items)) ≡ Ok (item ∷ items)
records_batch version item items records fits =
    without_state version (spelling (item ∷ items)) (ap (state_at version) (spelling-cons item items) ∙ state_none version item (spelling items) records.0)
    ∙ records_again (suc (length (spelling (item ∷ items)))) 0 item items (omega (arith, many_items (item ∷ items))) records fits

pub batch_again : (version : JournalVersion) (items : List JournalItem) → IsBatch items → AllOf version items → AllFit items → batch_of version (spelling items) ≡ Ok items
batch_again version [] batch of fits = absurd batch
batch_again version (item ∷ []) batch of fits =
    elim (cases_record item) [
      | inl one ↦ records_batch version item [] (one, tt) fits
      | inr state ↦ with_state version (spelling (item ∷ [])) item (ap (state_at version) (spelling-cons item [] ∙ append-nil (item_bytes item)) ∙ state_again version item of.0 fits.0 state)
    ]
batch_again version (item ∷ other ∷ items) batch of fits = records_batch version item (other ∷ items) batch fits

-- ---- the first that can't be read, in a whole payload

pub first_bad_is : (version : JournalVersion) (payload : List ℕ) (k : ℕ) → AreBytes payload → batch_of version payload ≡ Err k → IsFirstBad version payload k
first_bad_is version payload k fits e =
    elim (cases_state (state_at version payload)) [
      | inr some ↦ absurd (differ (some.0 ∷ []) (sym (with_state version payload some.0 some.1) ∙ e))
      | inl none ↦
          let stop = records_stop (suc (length payload)) 0 payload k fits (omega arith) (sym (without_state version payload none) ∙ e) in
          let s = stop.2 in
          record {
            before = s.before;
            rest = s.rest;
            split = s.split;
            place = omega (arith, stop.1, s.at);
            records = s.records;
            fits = s.fits;
            within = s.within;
            unread = λ item behind of fit is. elim (cases_record item) [
              | inl one ↦ absurd (missing item behind (sym (ap record_at is ∙ record_again item behind fit one) ∙ s.none))
              | inr state ↦ (state, λ first last. absurd (absent item (sym (ap (state_at version) (s.split ∙ ap (λ (l : List JournalItem). spelling l ++ s.rest) first ∙ is ∙ ap (λ (l : List ℕ). item_bytes item ++ l) last ∙ append-nil (item_bytes item)) ∙ state_again version item of fit state) ∙ none)))
            ];
          }
    ]
  where
    differ : (l : List JournalItem) → ◌≡◌ {A = Result (List JournalItem) ℕ} (Ok l) (Err k) → ⊥
    differ l same = cc

    missing : (item : JournalItem) (behind : List ℕ) → ◌≡◌ {A = Option (JournalItem × List ℕ)} (Some (item, behind)) None → ⊥
    missing item behind same = cc

    absent : (item : JournalItem) → ◌≡◌ {A = Option JournalItem} (Some item) None → ⊥
    absent item same = cc

AreBytes-rest : (front rest : List ℕ) → AreBytes (front ++ rest) → AreBytes rest
AreBytes-rest [] rest fits = fits
AreBytes-rest (b ∷ front) rest fits = AreBytes-rest front rest (λ i. fits (suc i))

pub first_bad_only : (version : JournalVersion) (payload : List ℕ) (k : ℕ) → AreBytes payload → IsFirstBad version payload k → batch_of version payload ≡ Err k
first_bad_only version payload k fits bad =
    let rest_fits = AreBytes-rest (spelling bad.before) bad.rest (subst (λ (l : List ℕ). AreBytes l) bad.split fits) in
    let none : record_at bad.rest ≡ None = elim (cases_found (record_at bad.rest)) [
      | inl none ↦ none
      | inr some ↦ let one = record_takes bad.rest some.0 rest_fits some.1 in absurd (both some.0.0 one.is_one (bad.unread some.0.0 some.0.1 (record_of version some.0.0 one.is_one) one.fits one.takes.parts).0)
    ] in
    let no_state : state_at version payload ≡ None = elim (cases_state (state_at version payload)) [
      | inl none ↦ none
      | inr some ↦ let state = state_takes version payload some.0 fits some.1 in absurd (alone bad.before bad.rest some.0 bad.split bad.records bad.unread state some.1)
    ] in
    without_state version payload no_state
    ∙ ap (λ (l : List ℕ). records_at (suc (length payload)) 0 l) bad.split
    ∙ records_stopped (suc (length payload)) 0 bad.before bad.rest (omega (arith, ap length bad.split, length-append (spelling bad.before) bad.rest, many_items bad.before)) bad.records bad.fits bad.within none
    ∙ ap Err place
  where
    place : 0 + length (spelling bad.before) ≡ k
    place = omega (arith, bad.place)

    both : (item : JournalItem) → is_record item ≡ true → is_record item ≡ false → ⊥
    both item is isnt = cc

    absent : (item : JournalItem) → ◌≡◌ {A = Option JournalItem} None (Some item) → ⊥
    absent item same = cc

    alone : (before : List JournalItem) (rest : List ℕ) (item : JournalItem) → payload ≡ spelling before ++ rest → AllRecords before
        → ((i : JournalItem) (behind : List ℕ) → IsOf version i → Fits i → rest ≡ item_bytes i ++ behind → (is_record i ≡ false) × (before ≡ [] → behind ≡ [] → ⊥)) → IsState version payload item → state_at version payload ≡ Some item → ⊥
    alone [] rest item split records unread state some = (unread item [] state.of state.fits (sym split ∙ state.whole ∙ sym (append-nil (item_bytes item)))).1 refl refl
    alone (first ∷ before) rest item split records unread state some =
        absent item (sym (ap (state_at version) (split ∙ ap (λ (l : List ℕ). l ++ rest) (spelling-cons first before) ∙ append_assoc (item_bytes first) (spelling before) rest) ∙ state_none version first (spelling before ++ rest) records.0) ∙ some)

-- the same where no item is kept
pub record Counted (payload rest : List ℕ) : Type 0 where
  pub front : List JournalItem
  pub so_far : SoFar payload front rest
  pub count : length front + length rest ≤ length payload
  pub bytes : AreBytes rest

pub counted_none : (payload : List ℕ) → AreBytes payload → Counted payload payload
counted_none payload fits = record { front = []; so_far = so_far_none payload; count = omega arith; bytes = fits }

pub counted_more : (payload rest : List ℕ) (item : JournalItem) (behind : List ℕ) → Counted payload rest → record_at rest ≡ Some (item, behind) → 0 < length behind → Counted payload behind
counted_more payload rest item behind before some more = record {
  front = before.front ++ item ∷ [];
  so_far = so_far_more payload before.front (before.front ++ item ∷ []) rest item behind before.bytes (omega (arith, before.count)) before.so_far some more refl;
  count = omega (arith, before.count, length-append before.front (item ∷ []), shorter rest item behind before.bytes some);
  bytes = (record_takes rest (item, behind) before.bytes some).takes.rest_fits;
}

-- what is found to be bad, or not
pub counted_bad : (payload rest : List ℕ) → Counted payload rest → record_at rest ≡ None → (fuel : ℕ) → length payload < fuel → fault_in (records_at fuel 0 payload) ≡ Some (length payload - length rest)
counted_bad payload rest before none fuel enough = ap fault_in (ends_bad payload before.front rest before.count before.so_far none fuel enough)

pub counted_well : (payload rest : List ℕ) (item : JournalItem) (behind : List ℕ) → Counted payload rest → record_at rest ≡ Some (item, behind) → length behind ≡ 0 → (fuel : ℕ) → length payload < fuel → fault_in (records_at fuel 0 payload) ≡ None
counted_well payload rest item behind before some last fuel enough = ap fault_in (ends_well payload before.front rest item behind before.count before.so_far some last fuel enough)

-- ---- what `decode` gives, by cases

pub found_is : (version : JournalVersion) (payload : List ℕ) (r : Result (Result (Vec JournalItem) BadAt) AllocError) → AreBytes payload → IfOk r (λ read. seen read ≡ batch_of version payload) → IfOk r (λ read. IfOk read (λ items. IsBatch items.items × AllOf version items.items × AllFit items.items × (payload ≡ spelling items.items)))
found_is version payload (Err e) fits given = tt
found_is version payload (Ok (Err bad)) fits given = tt
found_is version payload (Ok (Ok items)) fits given = batch_takes version payload items.items fits (sym given)

pub bad_is : (version : JournalVersion) (payload : List ℕ) (r : Result (Result (Vec JournalItem) BadAt) AllocError) → AreBytes payload → IfOk r (λ read. seen read ≡ batch_of version payload) → IfOk r (λ read. IfErr read (λ bad. IsFirstBad version payload bad.offset))
bad_is version payload (Err e) fits given = tt
bad_is version payload (Ok (Ok items)) fits given = tt
bad_is version payload (Ok (Err bad)) fits given = first_bad_is version payload bad.offset fits (sym given)

pub read_is : (version : JournalVersion) (payload : List ℕ) (to : Result (List JournalItem) ℕ) (r : Result (Result (Vec JournalItem) BadAt) AllocError) → batch_of version payload ≡ to → IfOk r (λ read. seen read ≡ batch_of version payload) → IfOk r (λ read. seen read ≡ to)
read_is version payload to (Err e) same given = tt
read_is version payload to (Ok read) same given = given ∙ same
