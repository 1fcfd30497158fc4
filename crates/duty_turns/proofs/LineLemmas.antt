-- Lines up to a place.
use Rattle.std.proofs.Common.{◌≡◌, ℕ, zero, suc, ◌+◌, ◌<◌, ◌≤◌, List, [], ◌∷◌, ◌++◌, length, drop, get_or, Option, Some, None, add-one, append_assoc, refl, sym, ◌∙◌, ap, subst, arith, Bor}
use Rattle.std.specs.Option.{IfSome, MatchOption, option_copied}
use Rattle.std.proofs.lemmas.List.{append-nil, drop_all}
use Rattle.duty_turns.specs.Lines.{lines_by}

-- ---- what a lookup gave

pub none_over : {T A : Type 0} (P : Bor T → Type 0) (o : Option (Bor T)) → option_copied o ≡ None → MatchOption o A P → A
none_over P None h m = m
none_over P (Some x) h m = absurd cc

pub some_below : {T : Type 0} (A B : Type 0) (Q : Bor T → Type 0) (o : Option (Bor T)) (e : T) → option_copied o ≡ Some e → MatchOption o A (λ x. B × Q x) → B
some_below A B Q None e h m = absurd cc
some_below A B Q (Some x) e h m = m.0

pub some_at : {T : Type 0} (rs : List T) (i : ℕ) (o : Option (Bor T)) (e : T) → option_copied o ≡ Some e → IfSome o (λ x. x.now ≡ get_or rs i x.now) → e ≡ get_or rs i e
some_at rs i None e h m = absurd cc
some_at {T} rs i (Some x) e h m = (let same : x.now ≡ e = cc in subst (λ (y : T). y ≡ get_or rs i y) same m)

-- ---- lines

module _ {A R : Type 0} (line : A → R → List ℕ) where
  lines_nil : (xs : List A) → lines_by line xs [] ≡ []
  lines_nil [] = refl
  lines_nil (x ∷ xs) = refl

  lines_from : (xs : List A) (rs : List R) (i : ℕ) (x : A) (e : R) → i < length xs → i < length rs → e ≡ get_or rs i e
      → lines_by line (drop i xs) (drop i rs) ≡ line (get_or xs i x) e ++ lines_by line (drop (suc i) xs) (drop (suc i) rs)
  lines_from [] rs i x e l h at = absurd (omega arith)
  lines_from (y ∷ xs) [] i x e l h at = absurd (omega arith)
  lines_from (y ∷ xs) (r ∷ rs) zero x e l h at = ap (λ (z : R). line y z ++ lines_by line xs rs) (sym at)
  lines_from (y ∷ xs) (r ∷ rs) (suc i) x e l h at = lines_from xs rs i x e (omega arith) (omega arith) at

  lines_short : (xs : List A) (rs : List R) (i : ℕ) → length rs ≤ i → lines_by line (drop i xs) (drop i rs) ≡ []
  lines_short xs rs i h = ap (λ (x : List R). lines_by line (drop i xs) x) (drop_all i rs h) ∙ lines_nil (drop i xs)

  -- one line more
  pub lines_push : (xs : List A) (rs : List R) (i : ℕ) (x : A) (e : R) (new old text all : List ℕ) → i < length xs → i < length rs → e ≡ get_or rs i e
      → new ≡ old ++ text → text ≡ line (get_or xs i x) e
      → old ++ lines_by line (drop i xs) (drop i rs) ≡ all → new ++ lines_by line (drop (i + 1) xs) (drop (i + 1) rs) ≡ all
  lines_push xs rs i x e new old text all l h at pushed is so =
      ap (λ t. t ++ lines_by line (drop (i + 1) xs) (drop (i + 1) rs)) (pushed ∙ ap (λ t. old ++ t) is)
      ∙ append_assoc old (line (get_or xs i x) e) (lines_by line (drop (i + 1) xs) (drop (i + 1) rs))
      ∙ ap (λ n. old ++ (line (get_or xs i x) e ++ lines_by line (drop n xs) (drop n rs))) (add-one i)
      ∙ ap (λ t. old ++ t) (sym (lines_from xs rs i x e l h at)) ∙ so

  -- the results are over
  pub lines_end : (xs : List A) (rs : List R) (i : ℕ) (text all : List ℕ) → length rs ≤ i
      → text ++ lines_by line (drop i xs) (drop i rs) ≡ all → text ≡ all
  lines_end xs rs i text all h so = sym (append-nil text) ∙ ap (λ t. text ++ t) (sym (lines_short xs rs i h)) ∙ so

  -- the others are over
  pub lines_over : (xs : List A) (rs : List R) (i : ℕ) (text all : List ℕ) → length xs ≤ i
      → text ++ lines_by line (drop i xs) (drop i rs) ≡ all → text ≡ all
  lines_over xs rs i text all h so = sym (append-nil text) ∙ ap (λ (x : List A). text ++ lines_by line x (drop i rs)) (sym (drop_all i xs h)) ∙ so
