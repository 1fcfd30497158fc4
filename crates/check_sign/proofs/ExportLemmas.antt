-- The exports that were found, key by key.
use Rattle.std.proofs.Common.{◌≡◌, Bool, true, false, ◌||◌, List, [], ◌∷◌, ◌++◌, Option, Some, None, refl, sym, ◌∙◌, ap, subst}
use Rattle.std.specs.Prelude.{is_some, option_map}
use Rattle.std.specs.Ordering.{eq_by_cmp}
use Rattle.std.specs.BTreeMap.{is_at}
use Rattle.std.specs.Map.{keys_of}
use Rattle.std.specs.List.Sorted.{IsStrictlySortedBy}
use Rattle.std.proofs.lemmas.List.Folds.{list_any-append}
use Rattle.edge_kit.specs.declared.bytes.PubKey.{PubKey}
use Rattle.slash_defs.specs.declared.book.Book.{Book}
use Rattle.protect_record.specs.Parts.{Parts}
use Rattle.protect_record.specs.Pasts.{Past}
use Rattle.protect_record.specs.Standing.{Stands}
use Rattle.protect_record.specs.Exporting.{export_of}
use Rattle.record_join.specs.Keys.{key_cmp, kept_of}
use Rattle.record_join.specs.BooksPasts.{BooksStand, EachOnce}
use Rattle.std.specs.Bool.{Decides}
use Rattle.std.proofs.lemmas.Map.Keys.{IsDistinct-from_sorted}
use Rattle.std.proofs.lemmas.Map.Made.{AllPairs-from_IsDistinct}
use Rattle.record_join.specs.KeyLaws.{at_itself, same_key}
use Rattle.record_join.specs.EachKeyLaws.{each_none, each_found}
use Rattle.desk_machine.specs.States.{is_among}
use Rattle.check_sign.specs.Exporting.{AreExports, export_at}
use Rattle.desk_machine.specs.Handing.{ExportsOne}

or_false : (b : Bool) → (b || false) ≡ b
or_false true = refl
or_false false = refl

among_one_more : (asked : List PubKey) (k q : PubKey) → is_among (asked ++ k ∷ []) q ≡ (is_among asked q || is_at (key_cmp q) k)
among_one_more asked k q = list_any-append (is_at (key_cmp q)) asked (k ∷ []) ∙ ap (λ b. is_among asked q || b) (or_false (is_at (key_cmp q) k))

-- what is found of a key after one more was asked for
abbrev Finds : Bool → Option Parts → Option Book → Type 0
Finds asked parts found = found ≡ export_at asked parts

abbrev More : List (PubKey × Parts) → List PubKey → List (PubKey × Book) → PubKey → Type 0
More kept asked found k = AreExports kept (asked ++ k ∷ []) found

by_key : (kept : List (PubKey × Parts)) (asked : List PubKey) (old new : List (PubKey × Book)) (k : PubKey) → AreExports kept asked old
    → ((q : PubKey) → is_at (key_cmp q) k ≡ false → kept_of new q ≡ kept_of old q) → ((q : PubKey) → q ≡ k → Finds true (kept_of kept q) (kept_of new q))
    → More kept asked new k
by_key kept asked old new k h apart here q =
    let step = merged (is_among asked q) (is_at (key_cmp q) k) (kept_of kept q) (kept_of old q) (kept_of new q) (h q) (apart q) (λ e. here q (same_key q k e)) in
    let P : Bool → Type 0 = λ b. Finds b (kept_of kept q) (kept_of new q) in
    subst P (sym (among_one_more asked k q)) step where
      merged : (a b : Bool) (parts : Option Parts) (o n : Option Book) → Finds a parts o → (b ≡ false → n ≡ o) → (b ≡ true → Finds true parts n) → Finds (a || b) parts n
      merged true true parts o n h apart here = here refl
      merged true false parts o n h apart here = apart refl ∙ h
      merged false true parts o n h apart here = here refl
      merged false false parts o n h apart here = apart refl ∙ h

-- the key's export was found before
pub found_before : (kept : List (PubKey × Parts)) (asked : List PubKey) (found : List (PubKey × Book)) (k : PubKey) → is_some (kept_of found k) ≡ true → AreExports kept asked found → More kept asked found k
found_before kept asked found k some h = by_key kept asked found found k h (λ q e. refl) (λ q same.
    let P : PubKey → Type 0 = λ x. Finds true (kept_of kept x) (kept_of found x) in
    subst P (sym same) (asked_for (is_among asked k) (kept_of kept k) (kept_of found k) some (h k))) where
      asked_for : (a : Bool) (parts : Option Parts) (o : Option Book) → is_some o ≡ true → Finds a parts o → Finds true parts o
      asked_for true parts o some h = h
      asked_for false parts None some h = absurd (let bad : false ≡ true = some in cc)
      asked_for false parts (Some x) some h = absurd (let bad : Some x ≡ None = h in cc)

-- the key is not kept
pub not_kept : (kept : List (PubKey × Parts)) (asked : List PubKey) (found : List (PubKey × Book)) (k : PubKey) → kept_of kept k ≡ None → AreExports kept asked found → More kept asked found k
not_kept kept asked found k none h = by_key kept asked found found k h (λ q e. refl) (λ q same.
    let P : PubKey → Type 0 = λ x. Finds true (kept_of kept x) (kept_of found x) in
    subst P (sym same) (nothing (is_among asked k) (kept_of kept k) (kept_of found k) none (h k))) where
      nothing : (a : Bool) (parts : Option Parts) (o : Option Book) → parts ≡ None → Finds a parts o → Finds true parts o
      nothing true parts o none h = h
      nothing false parts o none h = h ∙ sym (ap (option_map export_of) none)

-- the key's export was put in
pub put_in : (kept : List (PubKey × Parts)) (asked : List PubKey) (old new : List (PubKey × Book)) (k : PubKey) (parts : Parts) (book : Book) → kept_of kept k ≡ Some parts → book ≡ export_of parts
    → kept_of new k ≡ Some book → ((q : PubKey) → is_at (key_cmp k) q ≡ false → kept_of new q ≡ kept_of old q) → ((q : PubKey) → is_at (key_cmp q) k ≡ false → is_at (key_cmp k) q ≡ false)
    → AreExports kept asked old → More kept asked new k
put_in kept asked old new k parts book is_kept value here others back h = by_key kept asked old new k h (λ q e. others q (back q e)) (λ q same.
    let P : PubKey → Type 0 = λ x. Finds true (kept_of kept x) (kept_of new x) in
    subst P (sym same) (here ∙ ap Some value ∙ sym (ap (option_map export_of) is_kept)))

-- at the pasts that the records stand for
exports_one : (asked : Bool) (parts : Option Parts) (past : Option Past) (book : Option Book) → book ≡ export_at asked parts
    → (parts ≡ None → past ≡ None) → ((p : Parts) → parts ≡ Some p → (x : Past) × (past ≡ Some x) × Stands p x) → ExportsOne asked past book
exports_one false parts past book h none some = h
exports_one true None past book h none some = rw (none refl) h
exports_one true (Some p) past book h none some =
    let x = some p refl in
    rw (x.1, h) (record { parts = p; stands = x.2; value = refl })

pub at_pasts : (kept : List (PubKey × Parts)) (pasts : List (PubKey × Past)) (asked : List PubKey) (found : List (PubKey × Book)) → BooksStand kept pasts → AreExports kept asked found
    → (key : PubKey) → ExportsOne (is_among asked key) (kept_of pasts key) (kept_of found key)
at_pasts kept pasts asked found stand h key =
    exports_one (is_among asked key) (kept_of kept key) (kept_of pasts key) (kept_of found key) (h key) (each_none Stands kept pasts key stand) (λ p is. each_found Stands kept pasts key p stand is)

same_keys : (a b : PubKey) → Decides (eq_by_cmp key_cmp a b) (a ≡ b)
same_keys a b = (same_key a b, λ e. subst (λ (k : PubKey). eq_by_cmp key_cmp a k ≡ true) e (at_itself a))

-- keys that ascend stand once each
pub once : (books : List (PubKey × Book)) → IsStrictlySortedBy key_cmp (keys_of books) → EachOnce books
once books sorted = AllPairs-from_IsDistinct same_keys (keys_of books) (IsDistinct-from_sorted key_cmp (keys_of books) sorted)
