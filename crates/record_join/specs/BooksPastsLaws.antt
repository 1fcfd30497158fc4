-- Laws of pasts by key: what is kept of one key after something was listed.
use Rattle.std.proofs.Common.{◌≡◌, Bool, true, false, cond, List, [], ◌∷◌, fold, None, Some, refl, sym, ◌∙◌, ap}
use Rattle.std.specs.Ordering.{eq_by_cmp}
use Rattle.std.specs.BTreeMap.{is_at}
use Rattle.std.specs.List.{IsDistinct, AllByRecursion}
use Rattle.std.specs.Map.{keys_of}
use Rattle.std.proofs.lemmas.Map.Keys.{IsDistinct-head, IsDistinct-tail}
use Rattle.edge_kit.specs.declared.bytes.PubKey.{PubKey}
use Rattle.protect_record.specs.Pasts.{Past}
use Rattle.record_join.specs.Keys.{key_cmp, kept_of}
use Rattle.record_join.specs.BooksPasts.{EachOnce, gain, gained, known_past}
use Rattle.record_join.specs.KeyLaws.{same_key, apart_back, distinct_once, kept_here, kept_apart}

-- a key that differs from all that are listed is not among them
none_listed : {X : Type 0} (a : PubKey) (more : List (PubKey × X)) → AllByRecursion (λ y. eq_by_cmp key_cmp a y ≡ false) (keys_of more) → kept_of more a ≡ None
none_listed a [] all = refl
none_listed {X} a (b ∷ more) all = let apart : is_at (key_cmp a) b.0 ≡ false = all.0 in rw apart (none_listed a more all.1)

gained_list : {X : Type 0} (f : Past → X → Past) (pasts : List (PubKey × Past)) (listed : List (PubKey × X)) (key : PubKey) → IsDistinct (eq_by_cmp key_cmp) (keys_of listed)
    → kept_of (fold (gain f) pasts listed) key ≡ gained f (kept_of pasts key) (kept_of listed key)
gained_list f pasts [] key distinct = refl
gained_list {X} f pasts (one ∷ more) key distinct = at (is_at (key_cmp key) one.0) refl (gained_list f (gain f pasts one) more key (IsDistinct-tail (eq_by_cmp key_cmp) one.0 (keys_of more) distinct)) where
  after : Past
  after = f (known_past (kept_of pasts one.0)) one.1

  at : (b : Bool) → is_at (key_cmp key) one.0 ≡ b → kept_of (fold (gain f) (gain f pasts one) more) key ≡ gained f (kept_of (gain f pasts one) key) (kept_of more key)
      → kept_of (fold (gain f) (gain f pasts one) more) key ≡ gained f (kept_of pasts key) (cond b (Some one.1) (kept_of more key))
  at true e rest =
      let same : key ≡ one.0 = same_key key one.0 e in
      let later : kept_of more key ≡ None = ap (λ k. kept_of more k) same ∙ none_listed one.0 more (IsDistinct-head (eq_by_cmp key_cmp) one.0 (keys_of more) distinct) in
      let here : kept_of (gain f pasts one) key ≡ Some (f (known_past (kept_of pasts key)) one.1) =
      ap (λ k. kept_of (gain f pasts one) k) same ∙ kept_here pasts one.0 (f (known_past (kept_of pasts one.0)) one.1) ∙ ap (λ k. Some (f (known_past (kept_of pasts k)) one.1)) (sym same)
      in
      rest ∙ ap (λ o. gained f (kept_of (gain f pasts one) key) o) later ∙ here
  at false e rest = rest ∙ ap (λ o. gained f o (kept_of more key)) (kept_apart pasts one.0 key (f (known_past (kept_of pasts one.0)) one.1) (apart_back key one.0 e))

pub gained_listed : {X : Type 0} (f : Past → X → Past) (pasts : List (PubKey × Past)) (listed : List (PubKey × X)) (key : PubKey) → EachOnce listed
    → kept_of (fold (gain f) pasts listed) key ≡ gained f (kept_of pasts key) (kept_of listed key)
gained_listed f pasts listed key once = gained_list f pasts listed key (distinct_once listed once)
