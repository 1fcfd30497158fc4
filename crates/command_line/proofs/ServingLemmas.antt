-- Texts cut at their dots, and addresses that are read one after another.
use Rattle.std.proofs.Common.{◌≡◌, ◌∙◌, ℕ, ◌+◌, ◌<◌, ◌≤◌, Bool, true, false, ◌&&◌, cond, length, List, [], ◌∷◌, ◌++◌, map, Option, Some, None, MatchOption, inl, inr, refl, sym, ap, ap₂, arith, Bor, append_assoc, lt-ltb, drop, get_or, drop-cons, add-one}
use Rattle.std.proofs.lemmas.List.{length-map}
use Rattle.std.specs.Prelude.{count_by, filter_map, is_some}
use Rattle.std.specs.Char.{is_ascii_digit}
use Rattle.std.specs.List.{slice_split, position_or_len, before_first, after_first, list_all, cons_option}
use Rattle.std.proofs.lemmas.Bool.{cases_lt}
use Rattle.std.proofs.lemmas.List.Folds.{list_all_at}
use Rattle.std.proofs.lemmas.List.Splits.{slice_split_first, slice_split_none, length-slice_split}
use Rattle.std.proofs.lemmas.List.Sums.{fails_before_first, passes_at_first}
use Rattle.service_url.specs.Services.{Service, service_at}
use Rattle.clap.specs.Words.{Text}
use Rattle.command_line.specs.Serving.{◌>>=◌, ipv4_of, is_address, is_dot, octet_at, services_of}

-- ---- a text cut at its dots

one_part : (t : Text) → length t ≤ position_or_len is_dot t → slice_split is_dot t ≡ t ∷ []
one_part t none = slice_split_none is_dot t (λ k d lt. fails_before_first is_dot t k d (omega arith))

-- what `split_once` gives is the first part and what the others are cut from
pub cut_at_dot : (t : Text) (r : Option (Bor Text × Bor Text))
    → MatchOption r (position_or_len is_dot t ≡ length t) (λ x. (position_or_len is_dot t < length t) × (x.0.now ≡ before_first is_dot t) × (x.1.now ≡ after_first is_dot t))
    → MatchOption r (slice_split is_dot t ≡ t ∷ []) (λ x. slice_split is_dot t ≡ x.0.now ∷ slice_split is_dot x.1.now)
cut_at_dot t None none = one_part t (omega arith)
cut_at_dot t (Some x) found = slice_split_first is_dot t 0 found.0 ∙ sym (ap₂ (λ a b. a ∷ slice_split is_dot b) found.1 found.2)

-- ---- octets

dot_is : (b : ℕ) → is_dot b ≡ true → is_ascii_digit b ≡ false
dot_is b e = grind arith

third_fails : (a b c d : Bool) → c ≡ false → (a && b && c && d) ≡ false
third_fails true true c d e = rw e refl
third_fails true false c d e = refl
third_fails false b c d e = refl

octet_has_no_dot : (t : Text) → position_or_len is_dot t < length t → octet_at t ≡ None
octet_has_no_dot t found =
    let no_digit : list_all is_ascii_digit t ≡ false = list_all_at is_ascii_digit t (position_or_len is_dot t) 0 found (dot_is _ (passes_at_first is_dot t 0 found)) in
    rw (third_fails _ _ _ _ no_digit) refl

five_parts : (a b c d t : Text) → ipv4_of (a ∷ b ∷ c ∷ d ∷ slice_split is_dot t) ≡ None
five_parts a b c d t = go (slice_split is_dot t) (count_by is_dot t) (length-slice_split is_dot t)
  where
    go : (parts : List Text) (n : ℕ) → length parts ≡ n + 1 → ipv4_of (a ∷ b ∷ c ∷ d ∷ parts) ≡ None
    go [] n e = absurd (omega arith)
    go (x ∷ xs) n e = refl

fourth_fails : (a b c d : Option ℕ) → d ≡ None
    → (a >>= (λ first. b >>= (λ second. c >>= (λ third. d >>= (λ fourth. Some (first ∷ second ∷ third ∷ fourth ∷ [])))))) ≡ None
fourth_fails (Some a) (Some b) (Some c) d e = rw e refl
fourth_fails (Some a) (Some b) None d e = refl
fourth_fails (Some a) None c d e = refl
fourth_fails None b c d e = refl

-- after three parts, the rest of a text is read as the fourth
pub fourth_part : (a b c d : Text) → ipv4_of (a ∷ b ∷ c ∷ d ∷ []) ≡ ipv4_of (a ∷ b ∷ c ∷ slice_split is_dot d)
fourth_part a b c d = elim (cases_lt (position_or_len is_dot d) (length d)) [
  | inl found ↦ fourth_fails (octet_at a) (octet_at b) (octet_at c) (octet_at d) (octet_has_no_dot d found)
      ∙ sym (ap (λ parts. ipv4_of (a ∷ b ∷ c ∷ parts)) (slice_split_first is_dot d 0 found) ∙ five_parts a b c (before_first is_dot d) (after_first is_dot d))
  | inr none ↦ sym (ap (λ parts. ipv4_of (a ∷ b ∷ c ∷ parts)) (one_part d none))
]

-- ---- addresses

abbrev pub Lent : Type 0
Lent = Bor Text

abbrev texts_of : List Lent → List Text
texts_of = map (λ t. t.now)

-- what comes of the services that were found and of the texts that are still to be read
abbrev pub rest_of : List Service → List Lent → Option (List Service)
rest_of found texts = cond (list_all is_address (texts_of texts)) (Some (found ++ filter_map service_at (texts_of texts))) None

-- all texts together are what is read of them where none is found yet
pub rest_of_all : (texts : List Lent) → 0 < length texts → services_of (texts_of texts) ≡ rest_of [] texts
rest_of_all texts some =
    let more : 0 < length (texts_of texts) = rw (length-map texts (λ t. t.now)) some in
    rw (lt-ltb 0 (length (texts_of texts)) more) refl

-- a text that is no address
pub rest_of-none : (found : List Service) (t : Lent) (ts : List Lent) → service_at t.now ≡ None → rest_of found (t ∷ ts) ≡ None
rest_of-none found t ts none = go (service_at t.now) none
  where
    go : (o : Option Service) → o ≡ None
        → cond (is_some o && list_all is_address (texts_of ts)) (Some (found ++ cons_option o (filter_map service_at (texts_of ts)))) None ≡ None
    go None e = refl
    go (Some s) e = absurd (cc)

-- a text that is the address of a service
pub rest_of-some : (found : List Service) (t : Lent) (ts : List Lent) (s : Service) → service_at t.now ≡ Some s → rest_of found (t ∷ ts) ≡ rest_of (found ++ s ∷ []) ts
rest_of-some found t ts s one = go (service_at t.now) one ∙ ap (λ all. cond (list_all is_address (texts_of ts)) (Some all) None) (sym (append_assoc found (s ∷ []) (filter_map service_at (texts_of ts))))
  where
    go : (o : Option Service) → o ≡ Some s
        → cond (is_some o && list_all is_address (texts_of ts)) (Some (found ++ cons_option o (filter_map service_at (texts_of ts)))) None
        ≡ cond (list_all is_address (texts_of ts)) (Some (found ++ s ∷ filter_map service_at (texts_of ts))) None
    go None e = absurd (cc)
    go (Some x) e = let is : x ≡ s = cc in rw is refl

-- the same where the text stands at the next place
pub rest_of-next : (found next : List Service) (texts : List Lent) (i : ℕ) (d : Lent) (s : Service)
    → i < length texts → service_at (get_or texts i d).now ≡ Some s → next ≡ found ++ s ∷ []
    → rest_of found (drop i texts) ≡ rest_of [] texts → rest_of next (drop (i + 1) texts) ≡ rest_of [] texts
rest_of-next found next texts i d s within one grown so_far =
    let cut : drop i texts ≡ get_or texts i d ∷ drop (i + 1) texts = rw add-one (drop-cons texts i d within) in
    ap (λ all. rest_of all (drop (i + 1) texts)) grown ∙ (sym (rest_of-some found (get_or texts i d) (drop (i + 1) texts) s one)
    ∙ (sym (ap (λ ts. rest_of found ts) cut) ∙ so_far))
