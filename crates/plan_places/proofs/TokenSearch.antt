-- How far words are searched for the option that names the file of the token, and what is found.
use Rattle.std.proofs.Common.{◌≡◌, ℕ, suc, ◌+◌, ◌<◌, ◌≤◌, true, false, List, [], ◌∷◌, ◌++◌, length, take, drop, get_or, map, codes, bytes_eq, refl, sym, ◌∙◌, ap, add-one, append_assoc, append-nil, arith}
use Rattle.std.proofs.Math.ListN.{drop_of_length-le}
use Rattle.std.proofs.Math.Seq.{drop-cons, take-suc}
use Rattle.std.proofs.lemmas.List.{get_or-map, length-map, take-append-drop}
use Rattle.plan_places.specs.TokenFiles.{is_joined, options_with, path_in, token_path, with_token}
use Rattle.plan_places.specs.TokenPlaces.{IsOptionAt, LacksOption}

-- before this index no word is the option or ends the options
pub record IsSearched (words : List (List ℕ)) (index : ℕ) : Type 0 where
  pub named : token_path words ≡ path_in (drop index words)
  pub replaced : (text : List ℕ) → with_token words text ≡ take index words ++ options_with text (drop index words)

-- the word at this index
pub record IsWordAt (words : List (List ℕ)) (index : ℕ) (word : List ℕ) : Type 0 where
  pub within : index < length words
  pub same : get_or words index [] ≡ word

pub word_at : {A : Type 0} (f : A → List ℕ) (items : List A) (index : ℕ) (item : A) (word : List ℕ) → index < length items → item ≡ get_or items index item → word ≡ f item → IsWordAt (map f items) index word
word_at {A} f items index item word inside is same = record {
  within = omega (arith, length-map items f);
  same = get_or-map f items index item [] inside ∙ ap f (sym is) ∙ sym same;
}

-- the words from that index on
here : (words : List (List ℕ)) (index : ℕ) (word : List ℕ) → IsWordAt words index word → drop index words ≡ word ∷ drop (index + 1) words
here words index word w = rw (add-one) (drop-cons words index [] w.within ∙ ap (λ (x : List ℕ). x ∷ drop (suc index) words) w.same)

-- the words up to it
before : (words : List (List ℕ)) (index : ℕ) (word : List ℕ) → IsWordAt words index word → take (index + 1) words ≡ take index words ++ (word ∷ [])
before words index word w = rw (add-one) (take-suc words index [] w.within ∙ ap (λ (x : List ℕ). take index words ++ (x ∷ [])) w.same)

pub ended : (words : List (List ℕ)) (index : ℕ) (word : List ℕ) → IsSearched words index → IsWordAt words index word → bytes_eq word (codes "--") ≡ true → LacksOption words
ended words index word s w ends = record {
  unnamed = s.named ∙ rw (here words index word w, ends) refl;
  replaced = λ text. s.replaced text ∙ rw (here words index word w, ends) (rw (← here words index word w) (take-append-drop index words));
}

pub joined : (words : List (List ℕ)) (index : ℕ) (word : List ℕ) → IsSearched words index → IsWordAt words index word → bytes_eq word (codes "--") ≡ false → is_joined word ≡ true → IsOptionAt words index 1 (drop 13 (get_or words index [])) × (is_joined (get_or words index []) ≡ true)
joined words index word s w goes_on found = (
  record {
    within = omega (arith, w.within);
    named = s.named ∙ rw (here words index word w, goes_on, found, w.same) refl;
    replaced = λ text. s.replaced text ∙ rw (here words index word w, goes_on, found) refl;
  },
  rw w.same found,
)

pub apart : (words : List (List ℕ)) (index : ℕ) (word : List ℕ) → IsSearched words index → IsWordAt words index word → index + 1 < length words → bytes_eq word (codes "--") ≡ false → is_joined word ≡ false → bytes_eq word (codes "--token-file") ≡ true → IsOptionAt words index 2 (get_or words (index + 1) [])
apart words index word s w more goes_on other found =
    let value : List ℕ = get_or words (index + 1) [] in
    let v : IsWordAt words (index + 1) value = record { within = more; same = refl } in
    let two : index + 1 + 1 ≡ index + 2 = omega arith in
    let rest : drop (index + 1) words ≡ value ∷ drop (index + 2) words = here words (index + 1) value v ∙ ap (λ (n : ℕ). value ∷ drop n words) two in
    record {
      within = omega (arith, v.within);
      named = s.named ∙ rw (here words index word w, goes_on, other, found, rest) refl;
      replaced = λ text. s.replaced text ∙ rw (here words index word w, goes_on, other, found, rest) refl;
    }

pub passed : (words : List (List ℕ)) (index : ℕ) (word : List ℕ) → IsSearched words index → IsWordAt words index word → bytes_eq word (codes "--") ≡ false → is_joined word ≡ false → bytes_eq word (codes "--token-file") ≡ false → IsSearched words (index + 1)
passed words index word s w goes_on other another = record {
  named = s.named ∙ rw (here words index word w, goes_on, other, another) refl;
  replaced = λ text. s.replaced text ∙ rw (here words index word w, goes_on, other, another, before words index word w, append_assoc) refl;
}

pub passed_last : (words : List (List ℕ)) (index : ℕ) (word : List ℕ) → IsSearched words index → IsWordAt words index word → length words ≤ index + 1 → bytes_eq word (codes "--") ≡ false → is_joined word ≡ false → bytes_eq word (codes "--token-file") ≡ true → IsSearched words (index + 1)
passed_last words index word s w last goes_on other found =
    let none : drop (index + 1) words ≡ [] = drop_of_length-le words last in
    record {
      named = s.named ∙ rw (here words index word w, goes_on, other, found, none) refl;
      replaced = λ text. s.replaced text ∙ rw (here words index word w, goes_on, other, found, none, before words index word w, append-nil) refl;
    }
