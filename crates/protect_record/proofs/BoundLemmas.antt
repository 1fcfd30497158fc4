-- Least and greatest: their laws, and a loop that finds them.
use Rattle.std.proofs.Common.{◌≡◌, ℕ, ◌+◌, ◌<◌, ◌≤◌, List, [], ◌∷◌, ◌++◌, Option, Some, None, length, get_or, drop, refl, sym, ◌∙◌, ap, arith}
use Rattle.std.proofs.lemmas.List.{at_drop_more, at_drop_all}
use Rattle.slash_defs.specs.declared.book.Book.{Book}
use Rattle.protect_record.specs.declared.floors.Floors.{Floors}
use Rattle.protect_record.specs.Floors.{lesser, lesser_pair, greater, greater_pair, greater_floors, greatest_by, greatest_pair_by, least_by, least_pair_by, epochs, book_floors, floors_of}

pair_same : (a b c d : ℕ) → a ≡ c → b ≡ d → ◌≡◌ {A = ℕ × ℕ} (a, b) (c, d)
pair_same a b c d p q = let first : ◌≡◌ {A = ℕ × ℕ} (a, b) (c, b) = ap (λ x. (x, b)) p in first ∙ ap (λ y. (c, y)) q

pub lesser-assoc : (p q r : Option ℕ) → lesser (lesser p q) r ≡ lesser p (lesser q r)
lesser-assoc None q r = refl
lesser-assoc (Some x) None r = refl
lesser-assoc (Some x) (Some y) None = refl
lesser-assoc (Some x) (Some y) (Some z) = ap Some (omega arith)

pub lesser-none : (p : Option ℕ) → lesser p None ≡ p
lesser-none None = refl
lesser-none (Some x) = refl

pub lesser_pair-assoc : (p q r : Option (ℕ × ℕ)) → lesser_pair (lesser_pair p q) r ≡ lesser_pair p (lesser_pair q r)
lesser_pair-assoc None q r = refl
lesser_pair-assoc (Some x) None r = refl
lesser_pair-assoc (Some x) (Some y) None = refl
lesser_pair-assoc (Some x) (Some y) (Some z) = ap Some (pair_same _ _ _ _ (omega arith) (omega arith))

pub lesser_pair-none : (p : Option (ℕ × ℕ)) → lesser_pair p None ≡ p
lesser_pair-none None = refl
lesser_pair-none (Some x) = refl

pub greater-assoc : (p q r : Option ℕ) → greater (greater p q) r ≡ greater p (greater q r)
greater-assoc None q r = refl
greater-assoc (Some x) None r = refl
greater-assoc (Some x) (Some y) None = refl
greater-assoc (Some x) (Some y) (Some z) = ap Some (omega arith)

pub greater-none : (p : Option ℕ) → greater p None ≡ p
greater-none None = refl
greater-none (Some x) = refl

greater-comm : (p q : Option ℕ) → greater p q ≡ greater q p
greater-comm None None = refl
greater-comm None (Some y) = refl
greater-comm (Some x) None = refl
greater-comm (Some x) (Some y) = ap Some (omega arith)

greater-same : (p : Option ℕ) → greater p p ≡ p
greater-same None = refl
greater-same (Some x) = ap Some (omega arith)

pub greater_pair-assoc : (p q r : Option (ℕ × ℕ)) → greater_pair (greater_pair p q) r ≡ greater_pair p (greater_pair q r)
greater_pair-assoc None q r = refl
greater_pair-assoc (Some x) None r = refl
greater_pair-assoc (Some x) (Some y) None = refl
greater_pair-assoc (Some x) (Some y) (Some z) = ap Some (pair_same _ _ _ _ (omega arith) (omega arith))

pub greater_pair-none : (p : Option (ℕ × ℕ)) → greater_pair p None ≡ p
greater_pair-none None = refl
greater_pair-none (Some x) = refl

greater_pair-comm : (p q : Option (ℕ × ℕ)) → greater_pair p q ≡ greater_pair q p
greater_pair-comm None None = refl
greater_pair-comm None (Some y) = refl
greater_pair-comm (Some x) None = refl
greater_pair-comm (Some x) (Some y) = ap Some (pair_same _ _ _ _ (omega arith) (omega arith))

greater_pair-same : (p : Option (ℕ × ℕ)) → greater_pair p p ≡ p
greater_pair-same None = refl
greater_pair-same (Some x) = ap Some (pair_same _ _ _ _ (omega arith) (omega arith))

pub same_floors : (f g : Floors) → f.block ≡ g.block → f.vote ≡ g.vote → f ≡ g
same_floors f g p q = ap (λ b. record { block = b; vote = f.vote }) p ∙ ap (λ v. record { block = g.block; vote = v }) q

pub greater_floors-assoc : (f g h : Floors) → greater_floors (greater_floors f g) h ≡ greater_floors f (greater_floors g h)
greater_floors-assoc f g h = same_floors _ _ (greater-assoc f.block g.block h.block) (greater_pair-assoc f.vote g.vote h.vote)

pub greater_floors-comm : (f g : Floors) → greater_floors f g ≡ greater_floors g f
greater_floors-comm f g = same_floors _ _ (greater-comm f.block g.block) (greater_pair-comm f.vote g.vote)

pub greater_floors-same : (f : Floors) → greater_floors f f ≡ f
greater_floors-same f = same_floors _ _ (greater-same f.block) (greater_pair-same f.vote)

greatest_by-append : {X : Type 0} (f : X → Option ℕ) (xs ys : List X) → greatest_by f (xs ++ ys) ≡ greater (greatest_by f xs) (greatest_by f ys)
greatest_by-append f [] ys = refl
greatest_by-append f (x ∷ xs) ys = ap (λ r. greater (f x) r) (greatest_by-append f xs ys) ∙ sym (greater-assoc (f x) (greatest_by f xs) (greatest_by f ys))

greatest_pair_by-append : {X : Type 0} (f : X → Option (ℕ × ℕ)) (xs ys : List X) → greatest_pair_by f (xs ++ ys) ≡ greater_pair (greatest_pair_by f xs) (greatest_pair_by f ys)
greatest_pair_by-append f [] ys = refl
greatest_pair_by-append f (x ∷ xs) ys = ap (λ r. greater_pair (f x) r) (greatest_pair_by-append f xs ys) ∙ sym (greater_pair-assoc (f x) (greatest_pair_by f xs) (greatest_pair_by f ys))

pub floors_of-append : (xs ys : List Book) → floors_of (xs ++ ys) ≡ greater_floors (floors_of xs) (floors_of ys)
floors_of-append xs ys = same_floors _ _ (greatest_by-append (λ b. least_by (λ e. e.slot) b.blocks) xs ys) (greatest_pair_by-append (λ b. least_pair_by epochs b.votes) xs ys)

pub floors_of-one : (b : Book) → floors_of (b ∷ []) ≡ book_floors b
floors_of-one b = same_floors _ _ (greater-none (least_by (λ e. e.slot) b.blocks)) (greater_pair-none (least_pair_by epochs b.votes))

-- a loop that combines what each element has
pub combined_more : {X A : Type 0} (op : Option A → Option A → Option A) → ((p q r : Option A) → op (op p q) r ≡ op p (op q r)) → (F : List X → Option A) (g : X → Option A)
    → ((x : X) (xs : List X) → F (x ∷ xs) ≡ op (g x) (F xs)) → (xs : List X) (i : ℕ) (d : X) (acc total : Option A) → i < length xs
    → op acc (F (drop i xs)) ≡ total → op (op acc (g (get_or xs i d))) (F (drop (i + 1) xs)) ≡ total
combined_more op assoc F g cons xs i d acc total lt so_far =
    assoc acc (g (get_or xs i d)) (F (drop (i + 1) xs)) ∙ ap (λ r. op acc r) (sym (at_drop_more F xs i d lt ∙ cons (get_or xs i d) (drop (i + 1) xs))) ∙ so_far

pub combined_all : {X A : Type 0} (op : Option A → Option A → Option A) → ((p : Option A) → op p None ≡ p) → (F : List X → Option A) → F [] ≡ None
    → (xs : List X) (i : ℕ) (acc total : Option A) → length xs ≤ i → op acc (F (drop i xs)) ≡ total → acc ≡ total
combined_all op none F nil xs i acc total past so_far = sym (none acc) ∙ ap (λ r. op acc r) (sym (at_drop_all F xs i past ∙ nil)) ∙ so_far
