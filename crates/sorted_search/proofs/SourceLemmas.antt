-- The bounds of the sources of votes, one place further.
use Rattle.std.proofs.Common.{◌≡◌, ℕ, ◌+◌, ◌-◌, ◌^◌, ◌<◌, ◌≤◌, ◌⊎◌, inl, inr, Bool, true, cond, List, length, get_or, max, min, ap, ◌∙◌, arith}
use Rattle.std.proofs.lemmas.Bool.{cases_lt}
use Rattle.slash_defs.specs.declared.entry.VoteEntry.{VoteEntry}
use Rattle.sorted_search.specs.Sources.{IsGreatestTo, IsLeastFrom}

-- the source at a place
source_at : (votes : List VoteEntry) (n k source : ℕ) → k ≡ n → ((d : VoteEntry) → (get_or votes n d).source ≡ source) → (d : VoteEntry) → (get_or votes k d).source ≡ source
source_at votes n k source same here d = ap (λ i. (get_or votes i d).source) same ∙ here d

-- one vote more
pub greatest_more : (votes : List VoteEntry) (n bound source : ℕ) → ((d : VoteEntry) → (get_or votes n d).source ≡ source) → ((n ≡ 0) × (bound ≡ 0)) ⊎ IsGreatestTo votes (n - 1) bound
    → IsGreatestTo votes n (max source bound)
greatest_more votes n bound source here (inl none) = record {
  none_greater = λ k d le. let e = source_at votes n k source (omega arith) here d in omega arith;
  at = n;
  up_to = omega arith;
  one_equal = λ d. let e = here d in omega arith;
}
greatest_more votes n bound source here (inr before) = record {
  none_greater = λ k d le. bounded k d le (cases_lt k n);
  at = (one (cases_lt bound source)).0;
  up_to = (one (cases_lt bound source)).1;
  one_equal = (one (cases_lt bound source)).2;
} where
  bounded : (k : ℕ) (d : VoteEntry) → k ≤ n → (k < n) ⊎ (n ≤ k) → (get_or votes k d).source ≤ max source bound
  bounded k d le (inl lt) = let h = before.none_greater k d (omega arith) in omega arith
  bounded k d le (inr ge) = let e = source_at votes n k source (omega arith) here d in omega arith

  one : (bound < source) ⊎ (source ≤ bound) → (k : ℕ) × (k ≤ n) × ((d : VoteEntry) → (get_or votes k d).source ≡ max source bound)
  one (inl lt) = (n, omega arith, λ d. let e = here d in omega arith)
  one (inr ge) = (before.at, omega (arith, before.up_to), λ d. let e = before.one_equal d in omega arith)

-- one vote before
pub least_more : (votes : List VoteEntry) (n bound source : ℕ) → n < length votes → source < 2 ^ 64 → ((d : VoteEntry) → (get_or votes n d).source ≡ source)
    → ((n + 1 ≡ length votes) × (bound ≡ 2 ^ 64 - 1)) ⊎ IsLeastFrom votes (n + 1) bound → IsLeastFrom votes n (min source bound)
least_more votes n bound source lt fits here (inl none) = record {
  none_less = λ k d ge within. let e = source_at votes n k source (omega arith) here d in omega arith;
  at = n;
  from = omega arith;
  within = lt;
  one_equal = λ d. let e = here d in omega arith;
}
least_more votes n bound source lt fits here (inr behind) = record {
  none_less = λ k d ge within. bounded k d ge within (cases_lt n k);
  at = (one (cases_lt bound source)).0;
  from = (one (cases_lt bound source)).1;
  within = (one (cases_lt bound source)).2;
  one_equal = (one (cases_lt bound source)).3;
} where
  bounded : (k : ℕ) (d : VoteEntry) → n ≤ k → k < length votes → (n < k) ⊎ (k ≤ n) → min source bound ≤ (get_or votes k d).source
  bounded k d ge within (inl above) = let h = behind.none_less k d (omega arith) within in omega arith
  bounded k d ge within (inr le) = let e = source_at votes n k source (omega arith) here d in omega arith

  one : (bound < source) ⊎ (source ≤ bound) → (k : ℕ) × (n ≤ k) × (k < length votes) × ((d : VoteEntry) → (get_or votes k d).source ≡ min source bound)
  one (inl less) = (behind.at, omega (arith, behind.from), behind.within, λ d. let e = behind.one_equal d in omega arith)
  one (inr ge) = (n, omega arith, lt, λ d. let e = here d in omega arith)

-- what a call leaves that did it
pub when_done : {A : Type 0} (b : Bool) (new done kept : A) → b ≡ true → new ≡ cond b done kept → new ≡ done
when_done b new done kept ok is = is ∙ ap (λ c. cond c done kept) ok
