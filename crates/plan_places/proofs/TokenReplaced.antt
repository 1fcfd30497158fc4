-- What becomes of the words at the place of the option.
use Rattle.std.proofs.Common.{◌≡◌, ℕ, ◌+◌, true, false, List, [], ◌∷◌, ◌++◌, Option, Some, None, Bor, MatchOption, take, drop, set, map, option_map, codes, sym, ◌∙◌, ap, add-one, append_assoc, arith}
use Rattle.std.specs.Str.Pattern.{FindsTextPrefix, StripsPrefix}
use Rattle.std.proofs.Math.Seq.{take-suc-set}
use Rattle.std.proofs.lemmas.List.{drop-map, drop-set-lt, map-append, map-set, set_split, take-map}
use Rattle.std.proofs.lemmas.Str.Pattern.{starts_text}
use Rattle.plan_places.specs.TokenFiles.{is_joined, token_word, with_token}
use Rattle.plan_places.specs.TokenPlaces.{IsOptionAt}

-- what is cut off a word that has the value too
pub stripped : (word : List ℕ) (rest : Option (Bor (List ℕ))) → MatchOption rest (FindsTextPrefix (codes "--token-file=") word None) (λ x. StripsPrefix (FindsTextPrefix (codes "--token-file=")) word x.now) → is_joined word ≡ true → option_map (λ x. x.now) rest ≡ Some (drop 13 word)
stripped word None absent joined = let no : false ≡ is_joined word = starts_text false (codes "--token-file=") word absent in cc
stripped word (Some rest) (count, found, cut, whole) joined = ap Some (rw found.0 at cut)

-- the option and its value in one word
pub one_replaced : {A : Type 0} (f : A → List ℕ) (items : List A) (index : ℕ) (item : A) (text path : List ℕ) → f item ≡ token_word text → IsOptionAt (map f items) index 1 path → map f (set items index item) ≡ with_token (map f items) text
one_replaced f items index item text path token option =
    let within = option.within in
    rw (map-set, token) (set_split (map f items) index (token_word text) (omega arith) ∙ rw (← add-one index) (sym (option.replaced text)))

-- the option and its value in two words
pub two_replaced : {A : Type 0} (f : A → List ℕ) (items kept : List A) (index : ℕ) (item : A) (text path : List ℕ) → f item ≡ token_word text → kept ≡ take (index + 1) (set items index item) ++ drop (index + 1 + 1) (set items index item) → IsOptionAt (map f items) index 2 path → map f kept ≡ with_token (map f items) text
two_replaced f items kept index item text path token rest option =
    let within = option.within in
    let two : index + 1 + 1 ≡ index + 2 = omega arith in
    let front : take (index + 1) (set (map f items) index (token_word text)) ≡ take index (map f items) ++ (token_word text ∷ []) = rw add-one (take-suc-set (map f items) index (token_word text) (omega arith)) in
    let back : drop (index + 1 + 1) (set (map f items) index (token_word text)) ≡ drop (index + 2) (map f items) = drop-set-lt (index + 1 + 1) (map f items) index (token_word text) (omega arith) ∙ ap (λ (n : ℕ). drop n (map f items)) two in
    ap (map f) rest ∙ rw (map-append, ← take-map, ← drop-map, map-set, token, front, back, append_assoc) (sym (option.replaced text))
