-- Floors: each book with entries has one that is not above the floor, and one book has set it.
use Rattle.std.proofs.Common.{◌≡◌, ◌≢◌, ℕ, ◌<◌, ◌≤◌, ◌⊎◌, inl, inr, min, max, List, [], ◌∷◌, Option, Some, None, refl, sym, ◌∙◌, ap, subst, arith, All, Contains}
use Rattle.std.specs.Option.{option_map}
use Rattle.std.proofs.lemmas.Bool.{cases_lt}
use Rattle.slash_defs.specs.declared.entry.VoteEntry.{VoteEntry}
use Rattle.slash_defs.specs.declared.book.Book.{Book}
use Rattle.protect_record.specs.Floors.{lesser, lesser_pair, least_by, least_pair_by, greater, greater_pair, greatest_by, epochs, floors_of}
use Rattle.protect_record.proofs.MemberLemmas.{All-from_contains, contains_first, contains_later, contains_cases, contains_none}

none≢some : {X A : Type 0} (x : X) → None ≡ Some x → A
none≢some {X} {A} x e = cc

pub some-injective : {X : Type 0} (x y : X) → Some x ≡ Some y → x ≡ y
some-injective {X} x y e = cc

-- the least of the numbers is at most each
pub least_below : {X : Type 0} (f : X → ℕ) (xs : List X) (x : X) → Contains xs x → (l : ℕ) × (least_by f xs ≡ Some l) × (l ≤ f x)
least_below f [] x has = contains_none x has
least_below {X} f (y ∷ ys) x has = at (λ later. least_below f ys x later) (contains_cases y ys x has) where
  here : (r : Option ℕ) → (l : ℕ) × (lesser (Some (f y)) r ≡ Some l) × (l ≤ f y)
  here None = (f y, refl, omega arith)
  here (Some m) = (min (f y) m, refl, omega arith)

  at : (Contains ys x → (l : ℕ) × (least_by f ys ≡ Some l) × (l ≤ f x)) → (y ≡ x) ⊎ Contains ys x → (l : ℕ) × (lesser (Some (f y)) (least_by f ys) ≡ Some l) × (l ≤ f x)
  at rest (inl e) = let h = here (least_by f ys) in (h.0, h.1, subst (λ (z : X). h.0 ≤ f z) e h.2)
  at rest (inr later) = let h = rest later in (min (f y) h.0, ap (λ r. lesser (Some (f y)) r) h.1, omega (arith, h.2))

-- and is that of one of them
pub least_attained : {X : Type 0} (f : X → ℕ) (xs : List X) (l : ℕ) → least_by f xs ≡ Some l → (x : X) × Contains xs x × (f x ≡ l)
least_attained f [] l e = none≢some l e
least_attained {X} f (y ∷ ys) l e = at (λ m is. least_attained f ys m is) (least_by f ys) refl e where
  both : (m : ℕ) → ((x : X) × Contains ys x × (f x ≡ m)) → min (f y) m ≡ l → (f y < m) ⊎ (m ≤ f y) → (x : X) × Contains (y ∷ ys) x × (f x ≡ l)
  both m r h (inl lt) = (y, contains_first y ys, omega arith)
  both m r h (inr ge) = (r.0, contains_later y ys r.0 r.1, omega (arith, r.2))

  at : ((m : ℕ) → least_by f ys ≡ Some m → (x : X) × Contains ys x × (f x ≡ m)) → (r : Option ℕ) → least_by f ys ≡ r → lesser (Some (f y)) r ≡ Some l → (x : X) × Contains (y ∷ ys) x × (f x ≡ l)
  at rest None is h = (y, contains_first y ys, some-injective (f y) l h)
  at rest (Some m) is h = both m (rest m is) (some-injective (min (f y) m) l h) (cases_lt (f y) m)

-- the greatest is at least each
greatest_above : {X : Type 0} (f : X → Option ℕ) (xs : List X) (x : X) (l : ℕ) → Contains xs x → f x ≡ Some l → (m : ℕ) × (greatest_by f xs ≡ Some m) × (l ≤ m)
greatest_above f [] x l has e = contains_none x has
greatest_above {X} f (y ∷ ys) x l has e = at (λ later. greatest_above f ys x l later e) (contains_cases y ys x has) where
  here : (r : Option ℕ) → (m : ℕ) × (greater (Some l) r ≡ Some m) × (l ≤ m)
  here None = (l, refl, omega arith)
  here (Some n) = (max l n, refl, omega arith)

  later : (p : Option ℕ) (n : ℕ) → l ≤ n → (m : ℕ) × (greater p (Some n) ≡ Some m) × (l ≤ m)
  later None n le = (n, refl, le)
  later (Some k) n le = (max k n, refl, omega arith)

  at : (Contains ys x → (m : ℕ) × (greatest_by f ys ≡ Some m) × (l ≤ m)) → (y ≡ x) ⊎ Contains ys x → (m : ℕ) × (greater (f y) (greatest_by f ys) ≡ Some m) × (l ≤ m)
  at rest (inl same) = let h = here (greatest_by f ys) in (h.0, ap (λ p. greater p (greatest_by f ys)) (ap f same ∙ e) ∙ h.1, h.2)
  at rest (inr there) =
      let r = rest there in
      let h = later (f y) r.0 r.2 in
      (h.0, ap (λ q. greater (f y) q) r.1 ∙ h.1, h.2)

pub greatest_attained : {X : Type 0} (f : X → Option ℕ) (xs : List X) (m : ℕ) → greatest_by f xs ≡ Some m → (x : X) × Contains xs x × (f x ≡ Some m)
greatest_attained f [] m e = none≢some m e
greatest_attained {X} f (y ∷ ys) m e = at (λ is. behind (greatest_attained f ys m is)) (f y) refl (greatest_by f ys) refl e where
  behind : ((x : X) × Contains ys x × (f x ≡ Some m)) → (x : X) × Contains (y ∷ ys) x × (f x ≡ Some m)
  behind r = (r.0, contains_later y ys r.0 r.1, r.2)

  both : (greatest_by f ys ≡ Some m → (x : X) × Contains (y ∷ ys) x × (f x ≡ Some m)) → (k n : ℕ) → f y ≡ Some k → greatest_by f ys ≡ Some n → max k n ≡ m → (k < n) ⊎ (n ≤ k) → (x : X) × Contains (y ∷ ys) x × (f x ≡ Some m)
  both rest k n p q h (inl lt) = let same : n ≡ m = omega arith in rest (q ∙ ap Some same)
  both rest k n p q h (inr ge) = let same : k ≡ m = omega arith in (y, contains_first y ys, p ∙ ap Some same)

  at : (greatest_by f ys ≡ Some m → (x : X) × Contains (y ∷ ys) x × (f x ≡ Some m)) → (p : Option ℕ) → f y ≡ p → (q : Option ℕ) → greatest_by f ys ≡ q → greater p q ≡ Some m → (x : X) × Contains (y ∷ ys) x × (f x ≡ Some m)
  at rest None p q is h = rest (is ∙ h)
  at rest (Some k) p None is h = (y, contains_first y ys, p ∙ h)
  at rest (Some k) p (Some n) is h = both rest k n p is (some-injective (max k n) m h) (cases_lt k n)

-- the two floors of votes are such greatests of leasts, each for itself
first-greater : (p q : Option (ℕ × ℕ)) → option_map (λ x. x.0) (greater_pair p q) ≡ greater (option_map (λ x. x.0) p) (option_map (λ x. x.0) q)
first-greater None q = refl
first-greater (Some p) None = refl
first-greater (Some p) (Some q) = refl

second-greater : (p q : Option (ℕ × ℕ)) → option_map (λ x. x.1) (greater_pair p q) ≡ greater (option_map (λ x. x.1) p) (option_map (λ x. x.1) q)
second-greater None q = refl
second-greater (Some p) None = refl
second-greater (Some p) (Some q) = refl

first-lesser : (p q : Option (ℕ × ℕ)) → option_map (λ x. x.0) (lesser_pair p q) ≡ lesser (option_map (λ x. x.0) p) (option_map (λ x. x.0) q)
first-lesser None q = refl
first-lesser (Some p) None = refl
first-lesser (Some p) (Some q) = refl

second-lesser : (p q : Option (ℕ × ℕ)) → option_map (λ x. x.1) (lesser_pair p q) ≡ lesser (option_map (λ x. x.1) p) (option_map (λ x. x.1) q)
second-lesser None q = refl
second-lesser (Some p) None = refl
second-lesser (Some p) (Some q) = refl

book_source : (votes : List VoteEntry) → option_map (λ x. x.0) (least_pair_by epochs votes) ≡ least_by (λ e. e.source) votes
book_source [] = refl
book_source (v ∷ vs) = first-lesser (Some (epochs v)) (least_pair_by epochs vs) ∙ ap (λ r. lesser (Some v.source) r) (book_source vs)

book_target : (votes : List VoteEntry) → option_map (λ x. x.1) (least_pair_by epochs votes) ≡ least_by (λ e. e.target) votes
book_target [] = refl
book_target (v ∷ vs) = second-lesser (Some (epochs v)) (least_pair_by epochs vs) ∙ ap (λ r. lesser (Some v.target) r) (book_target vs)

pub source_floor-is : (books : List Book) → option_map (λ x. x.0) (floors_of books).vote ≡ greatest_by (λ b. least_by (λ e. e.source) b.votes) books
source_floor-is [] = refl
source_floor-is (b ∷ bs) =
    first-greater (least_pair_by epochs b.votes) (floors_of bs).vote
    ∙ ap (λ p. greater p (option_map (λ x. x.0) (floors_of bs).vote)) (book_source b.votes)
    ∙ ap (λ q. greater (least_by (λ e. e.source) b.votes) q) (source_floor-is bs)

pub target_floor-is : (books : List Book) → option_map (λ x. x.1) (floors_of books).vote ≡ greatest_by (λ b. least_by (λ e. e.target) b.votes) books
target_floor-is [] = refl
target_floor-is (b ∷ bs) =
    second-greater (least_pair_by epochs b.votes) (floors_of bs).vote
    ∙ ap (λ p. greater p (option_map (λ x. x.1) (floors_of bs).vote)) (book_target b.votes)
    ∙ ap (λ q. greater (least_by (λ e. e.target) b.votes) q) (target_floor-is bs)

-- a book with entries has one whose number is at most the floor
pub entry_below : {Y : Type 0} (items : Book → List Y) (f : Y → ℕ) (books : List Book) (b : Book) → Contains books b → items b ≢ []
    → (y : Y) × Contains (items b) y × ((m : ℕ) × (greatest_by (λ c. least_by f (items c)) books ≡ Some m) × (f y ≤ m))
entry_below {Y} items f books b has some = at (items b) refl where
  at : (ys : List Y) → items b ≡ ys → (y : Y) × Contains (items b) y × ((m : ℕ) × (greatest_by (λ c. least_by f (items c)) books ≡ Some m) × (f y ≤ m))
  at [] e = absurd (some e)
  at (y ∷ ys) e =
      let there : Contains (items b) y = subst (λ (zs : List Y). Contains zs y) (sym e) (contains_first y ys) in
      let least = least_below f (items b) y there in
      let one = least_attained f (items b) least.0 least.1 in
      let most = greatest_above (λ c. least_by f (items c)) books b least.0 has least.1 in
      (one.0, one.1, (most.0, most.1, omega (arith, one.2, most.2)))

-- one book has set the floor: none of its entries has a lesser number
pub floor_set : {Y : Type 0} (items : Book → List Y) (f : Y → ℕ) (books : List Book) (m : ℕ) → greatest_by (λ c. least_by f (items c)) books ≡ Some m
    → (b : Book) × Contains books b × (items b ≢ []) × ((y : Y) × Contains (items b) y × (f y ≡ m)) × All (λ y. m ≤ f y) (items b)
floor_set {Y} items f books m e =
    let set = greatest_attained (λ c. least_by f (items c)) books m e in
    let b = set.0 in
    let one = least_attained f (items b) m set.2 in
    (b, set.1, (λ none. contains_none one.0 (subst (λ (ys : List Y). Contains ys one.0) none one.1)), one, All-from_contains (λ y. m ≤ f y) (items b) (λ y has. each b set.2 y has)) where
      each : (b : Book) → least_by f (items b) ≡ Some m → (y : Y) → Contains (items b) y → m ≤ f y
      each b is y has = let least = least_below f (items b) y has in let same : least.0 ≡ m = some-injective least.0 m (sym least.1 ∙ is) in omega (arith, same, least.2)
