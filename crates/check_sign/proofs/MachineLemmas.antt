-- From a desk that stands for a state to the desk after a call.
use Rattle.std.proofs.Common.{◌≡◌, ℕ, ◌+◌, ◌<◌, ◌≤◌, ◌⊎◌, inl, inr, arith, Bool, true, false, List, length, Option, Some, None, refl, sym, ◌∙◌, ap, subst}
use Rattle.std.specs.Prelude.{IsSome, IsSomeAnd, IsTrue, ◌↔◌, is_some, count_by, not}
use Rattle.edge_kit.specs.declared.bytes.PubKey.{PubKey}
use Rattle.protect_record.specs.Parts.{Parts}
use Rattle.protect_record.specs.Pasts.{Past}
use Rattle.protect_record.specs.Standing.{Stands}
use Rattle.record_join.specs.Keys.{kept_of, EachKey}
use Rattle.record_join.specs.BooksPasts.{BooksStand, new_keys, key_limit}
use Rattle.record_join.specs.EachKeyLaws.{each_found, each_none, each_length, each_absent, each_present}
use Rattle.check_sign.specs.Contents.{Seen}
use Rattle.desk_machine.specs.States.{State}
use Rattle.check_sign.specs.Standing.{DeskStands}

-- a desk as it was opened
pub opened : {D : Type 0} (desk seen : Seen D) (state : State) → seen ≡ desk → DeskStands desk.contents state → DeskStands seen.contents state
opened {D} desk seen state e s = let P : Seen D → Type 0 = λ d. DeskStands d.contents state in subst P (sym e) s

-- ---- what is kept of a key at the state

pub some_at : (kept : List (PubKey × Parts)) (keys : List (PubKey × Past)) (key : PubKey) (parts : Parts) → BooksStand kept keys → kept_of kept key ≡ Some parts → (past : Past) × (kept_of keys key ≡ Some past) × Stands parts past
some_at kept keys key parts each is = each_found Stands kept keys key parts each is

pub none_at : (kept : List (PubKey × Parts)) (keys : List (PubKey × Past)) (key : PubKey) → BooksStand kept keys → kept_of kept key ≡ None → kept_of keys key ≡ None
none_at kept keys key each none = each_none Stands kept keys key each none

is_kept : {X Y : Type 0} (R : X → Y → Type 0) (xs : List (PubKey × X)) (ys : List (PubKey × Y)) → EachKey R xs ys → (key : PubKey) → is_some (kept_of xs key) ≡ is_some (kept_of ys key)
is_kept R xs ys each key = by (is_some (kept_of xs key)) refl where
  by : (b : Bool) → is_some (kept_of xs key) ≡ b → is_some (kept_of xs key) ≡ is_some (kept_of ys key)
  by true e = e ∙ sym (each_present R xs ys key each e)
  by false e = e ∙ sym (ap is_some (each_absent R xs ys key each e))

-- the same keys are new
counted : {Y : Type 0} (p q : PubKey × Y → Bool) → ((x : PubKey × Y) → p x ≡ q x) → (listed : List (PubKey × Y)) → count_by p listed ≡ count_by q listed
counted p q same listed = λ i. count_by (λ x. same x i) listed

pub same_new : {Y : Type 0} (kept : List (PubKey × Parts)) (keys : List (PubKey × Past)) (listed : List (PubKey × Y)) → BooksStand kept keys → new_keys kept listed ≡ new_keys keys listed
same_new kept keys listed each = counted (λ one. not (is_some (kept_of kept one.0))) (λ one. not (is_some (kept_of keys one.0))) (λ x. ap not (is_kept Stands kept keys each x.0)) listed

pub same_length : (kept : List (PubKey × Parts)) (keys : List (PubKey × Past)) → BooksStand kept keys → length kept ≡ length keys
same_length kept keys each = each_length Stands kept keys each

pub is_some_of : {X : Type 0} (o : Option X) (x : X) → o ≡ Some x → IsSome o
is_some_of o x e = rw e refl

-- whether one more key fits, at the state
not_lt : (n m : ℕ) → (n < m → ⊥) → m < n + 1
not_lt n m h = omega (arith, h)

pub not_fits : (b : Bool) (o : Option Parts) (n : ℕ) → (IsTrue b ↔ (IsSome o ⊎ (n < key_limit))) → b ≡ false → (o ≡ None) × (key_limit < n + 1)
not_fits b None n f off = (refl, not_lt n key_limit (λ lt. let bad : true ≡ false = sym (f.1 (inr lt)) ∙ off in cc))
not_fits b (Some p) n f off = absurd (let bad : true ≡ false = sym (f.1 (inl refl)) ∙ off in cc)

pub fits : (b : Bool) (kept : List (PubKey × Parts)) (keys : List (PubKey × Past)) (key : PubKey) → (IsTrue b ↔ (IsSome (kept_of kept key) ⊎ (length kept < key_limit))) → b ≡ true → BooksStand kept keys
    → IsSome (kept_of keys key) ⊎ (length keys < key_limit)
fits b kept keys key f on each = at (f.0 on) where
  at : IsSome (kept_of kept key) ⊎ (length kept < key_limit) → IsSome (kept_of keys key) ⊎ (length keys < key_limit)
  at (inl some) = inl (sym (is_kept Stands kept keys each key) ∙ some)
  at (inr lt) = let L : ℕ → Type 0 = λ n. n < key_limit in inr (subst L (same_length kept keys each) lt)

-- ---- options

pub some_is : {A : Type 0} (o : Option A) (x : A) (P : A → Type 0) → o ≡ Some x → P x → IsSomeAnd o P
some_is o x P e p = rw e p

of_some : {A : Type 0} (o : Option A) (x : A) (P : A → Type 0) → o ≡ Some x → IsSomeAnd o P → P x
of_some {A} o x P e h = let Q : Option A → Type 0 = λ y. IsSomeAnd y P in subst Q e h

-- ---- a merged file

pub fits_file : {Y : Type 0} (kept : List (PubKey × Parts)) (keys : List (PubKey × Past)) (listed : List (PubKey × Y)) → BooksStand kept keys → length kept + new_keys kept listed ≤ key_limit → length keys + new_keys keys listed ≤ key_limit
fits_file kept keys listed each within = omega (arith, within, same_length kept keys each, same_new kept keys listed each)

pub over_file : {Y : Type 0} (kept : List (PubKey × Parts)) (keys : List (PubKey × Past)) (listed : List (PubKey × Y)) (have new : ℕ) → BooksStand kept keys → (have ≡ length kept) × (new ≡ new_keys kept listed) × (key_limit < have + new)
    → (have ≡ length keys) × (new ≡ new_keys keys listed) × (key_limit < have + new)
over_file kept keys listed have new each h = (h.0 ∙ same_length kept keys each, h.1 ∙ same_new kept keys listed each, h.2)
