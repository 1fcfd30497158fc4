-- Lists that are split in two ways.
use Rattle.std.proofs.Common.{◌≡◌, ℕ, ◌≤◌, List, [], ◌∷◌, ◌++◌, length, refl, sym, arith}

-- a list with one more at its end is split before the last, or after it
pub data SnocSplit (a : List ℕ) (x : ℕ) (text rest : List ℕ) : Type 0 where
  behind : rest ≡ [] → text ≡ a ++ x ∷ [] → SnocSplit a x text rest
  before : (front : List ℕ) → rest ≡ front ++ x ∷ [] → a ≡ text ++ front → SnocSplit a x text rest

nil_parts : (a b : List ℕ) → [] ≡ a ++ b → (a ≡ []) × (b ≡ [])
nil_parts [] [] e = (refl, refl)
nil_parts [] (y ∷ ys) e = absurd (let k : [] ≡ y ∷ ys = e in cc)
nil_parts (x ∷ xs) b e = absurd (let k : [] ≡ x ∷ (xs ++ b) = e in cc)

snoc_cons : (y x : ℕ) (ys text rest : List ℕ) (t : ℕ) → y ≡ t → SnocSplit ys x text rest → SnocSplit (y ∷ ys) x (t ∷ text) rest
snoc_cons y x ys text rest t e (behind r p) = behind r (cc)
snoc_cons y x ys text rest t e (before front r p) = before front r (cc)

pub snoc_split : (a : List ℕ) (x : ℕ) (text rest : List ℕ) → a ++ x ∷ [] ≡ text ++ rest → SnocSplit a x text rest
snoc_split [] x [] rest e = before [] (sym e) refl
snoc_split [] x (t ∷ ts) rest e =
    let k : x ∷ [] ≡ t ∷ (ts ++ rest) = e in
    let tail : [] ≡ ts ++ rest = cc in
    let parts = nil_parts ts rest tail in
    behind parts.1 (let p : ts ≡ [] = parts.0 in cc)
snoc_split (y ∷ ys) x [] rest e = before (y ∷ ys) (sym e) refl
snoc_split (y ∷ ys) x (t ∷ ts) rest e =
    let k : y ∷ (ys ++ x ∷ []) ≡ t ∷ (ts ++ rest) = e in
    let tail : ys ++ x ∷ [] ≡ ts ++ rest = cc in
    let head : y ≡ t = cc in
    snoc_cons y x ys ts rest t head (snoc_split ys x ts rest tail)

last_of : (front : List ℕ) (x y : ℕ) → y ∷ [] ≡ front ++ x ∷ [] → y ≡ x
last_of [] x y e = let k : y ∷ [] ≡ x ∷ [] = e in cc
last_of (c ∷ cs) x y e =
    let k : y ∷ [] ≡ c ∷ (cs ++ x ∷ []) = e in
    let tail : [] ≡ cs ++ x ∷ [] = cc in
    let bad : x ∷ [] ≡ [] = (nil_parts cs (x ∷ []) tail).1 in
    absurd (cc)

last_from : (a b : List ℕ) (x y : ℕ) → SnocSplit a x b (y ∷ []) → x ≡ y
last_from a b x y (behind r p) = absurd (cc)
last_from a b x y (before front r p) = sym (last_of front x y r)

-- the last of two equal lists is the same
pub last_same : (a b : List ℕ) (x y : ℕ) → a ++ x ∷ [] ≡ b ++ y ∷ [] → x ≡ y
last_same a b x y e = last_from a b x y (snoc_split a x b (y ∷ []) e)

-- of two fronts of a list the shorter is a front of the longer
pub front_of : (a more text rest : List ℕ) → a ++ more ≡ text ++ rest → length text ≤ length a → (between : List ℕ) × (a ≡ text ++ between) × (rest ≡ between ++ more)
front_of a more [] rest e le = (a, refl, sym e)
front_of [] more (t ∷ ts) rest e le = absurd (omega arith)
front_of (x ∷ xs) more (t ∷ ts) rest e le =
    let k : x ∷ (xs ++ more) ≡ t ∷ (ts ++ rest) = e in
    let tail : xs ++ more ≡ ts ++ rest = cc in
    let head : x ≡ t = cc in
    let below = front_of xs more ts rest tail (omega arith) in
    let b : xs ≡ ts ++ below.0 = below.1 in
    (below.0, cc, below.2)
