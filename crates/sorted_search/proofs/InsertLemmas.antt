-- The bounds of the sources of votes, after a vote was added at a place.
use Rattle.std.proofs.Common.{◌≡◌, ℕ, ◌+◌, ◌-◌, ◌^◌, ◌<◌, ◌≤◌, ◌⊎◌, inl, inr, List, None, length, get_or, max, min, ap, sym, ◌∙◌, subst, arith}
use Rattle.std.specs.List.{insert, remove}
use Rattle.std.specs.List.Sorted.{IsNonDecreasingBy}
use Rattle.std.proofs.lemmas.Bool.{cases_lt, cases_order}
use Rattle.std.proofs.lemmas.List.Edits.{length-insert, length-remove, get_or-insert_below, get_or-insert_at, get_or-insert_above, get_or-remove_below, get_or-remove_above}
use Rattle.slash_defs.specs.declared.entry.VoteEntry.{VoteEntry}
use Rattle.sorted_search.specs.Sources.{IsGreatestTo, IsLeastFrom, AreGreatest, AreLeast}
use Rattle.sorted_search.proofs.SourceLemmas.{greatest_more, least_more}

-- the source of a vote before the place, and of one behind it
source_before : (votes : List VoteEntry) (place k : ℕ) (d : VoteEntry) → k < place → place < length votes → (get_or votes k d).source ≡ (get_or (remove votes place) k d).source
source_before votes place k d lt within = ap (λ (e : VoteEntry). e.source) (sym (get_or-remove_below votes place d k lt within))

source_behind : (votes : List VoteEntry) (place k j : ℕ) (d : VoteEntry) → place ≤ k → j ≡ k + 1 → place < length votes → (get_or votes j d).source ≡ (get_or (remove votes place) k d).source
source_behind votes place k j d le next within = ap (λ i. (get_or votes i d).source) next ∙ ap (λ (e : VoteEntry). e.source) (sym (get_or-remove_above votes place d k le within))

source_here : (votes : List VoteEntry) (n k source : ℕ) → k ≡ n → ((d : VoteEntry) → (get_or votes n d).source ≡ source) → (d : VoteEntry) → (get_or votes k d).source ≡ source
source_here votes n k source same here d = ap (λ i. (get_or votes i d).source) same ∙ here d

-- the greatest sources do not fall
pub greatest_rise : (votes : List VoteEntry) (bounds : List ℕ) → AreGreatest votes bounds → IsNonDecreasingBy (λ n. n) bounds
greatest_rise votes bounds are i j d le within =
    let zero : VoteEntry = record { target = 0; source = 0; root = None } in
    let low = are.each i d (omega (arith, are.len)) in
    let high = are.each j d (omega (arith, are.len)) in
    omega (arith, low.one_equal zero, high.none_greater low.at zero (omega (arith, low.up_to)))

-- nor do the least ones
pub least_rise : (votes : List VoteEntry) (bounds : List ℕ) → AreLeast votes bounds → IsNonDecreasingBy (λ n. n) bounds
least_rise votes bounds are i j d le within =
    let zero : VoteEntry = record { target = 0; source = 0; root = None } in
    let low = are.each i d (omega (arith, are.len)) in
    let high = are.each j d (omega (arith, are.len)) in
    omega (arith, high.one_equal zero, low.none_less high.at zero (omega (arith, high.from)) high.within)

-- the greatest source up to a place before the vote
greatest_before : (votes : List VoteEntry) (place k bound : ℕ) → place < length votes → k < place → IsGreatestTo (remove votes place) k bound → IsGreatestTo votes k bound
greatest_before votes place k bound within lt old = record {
  none_greater = λ j d le. omega (arith, source_before votes place j d (omega arith) within, old.none_greater j d le);
  at = old.at;
  up_to = old.up_to;
  one_equal = λ d. source_before votes place old.at d (omega (arith, old.up_to)) within ∙ old.one_equal d;
}

-- and up to a place behind it
greatest_behind : (votes : List VoteEntry) (place k bound source : ℕ) → place < length votes → place ≤ k → ((d : VoteEntry) → (get_or votes place d).source ≡ source) → IsGreatestTo (remove votes place) k bound
    → IsGreatestTo votes (k + 1) (max source bound)
greatest_behind votes place k bound source within le here old = record {
  none_greater = λ j d up. bounded j d up (cases_order j place);
  at = (one (cases_lt bound source) (cases_lt old.at place)).0;
  up_to = (one (cases_lt bound source) (cases_lt old.at place)).1;
  one_equal = (one (cases_lt bound source) (cases_lt old.at place)).2;
} where
  bounded : (j : ℕ) (d : VoteEntry) → j ≤ k + 1 → (j ≡ place) ⊎ ((j < place) ⊎ (place < j)) → (get_or votes j d).source ≤ max source bound
  bounded j d up (inl same) = omega (arith, source_here votes place j source same here d)
  bounded j d up (inr (inl lt)) = omega (arith, source_before votes place j d lt within, old.none_greater j d (omega arith))
  bounded j d up (inr (inr gt)) = omega (arith, source_behind votes place (j - 1) j d (omega arith) (omega arith) within, old.none_greater (j - 1) d (omega arith))

  one : (bound < source) ⊎ (source ≤ bound) → (old.at < place) ⊎ (place ≤ old.at) → (j : ℕ) × (j ≤ k + 1) × ((d : VoteEntry) → (get_or votes j d).source ≡ max source bound)
  one (inl less) o = (place, omega arith, λ d. omega (arith, here d))
  one (inr ge) (inl lt) = (old.at, omega arith, λ d. omega (arith, source_before votes place old.at d lt within, old.one_equal d))
  one (inr ge) (inr gt) = (old.at + 1, omega (arith, old.up_to), λ d. omega (arith, source_behind votes place old.at (old.at + 1) d gt (omega arith) within, old.one_equal d))

-- the least source from a place behind the vote
least_behind : (votes : List VoteEntry) (place k bound : ℕ) → place < length votes → place ≤ k → IsLeastFrom (remove votes place) k bound → IsLeastFrom votes (k + 1) bound
least_behind votes place k bound within le old = record {
  none_less = λ j d ge lt. omega (arith, source_behind votes place (j - 1) j d (omega arith) (omega arith) within, old.none_less (j - 1) d (omega arith) (omega (arith, length-remove votes place within)));
  at = old.at + 1;
  from = omega (arith, old.from);
  within = omega (arith, old.within, length-remove votes place within);
  one_equal = λ d. source_behind votes place old.at (old.at + 1) d (omega (arith, old.from)) (omega arith) within ∙ old.one_equal d;
}

-- and from a place before it
least_before : (votes : List VoteEntry) (place k bound source : ℕ) → place < length votes → k < place → ((d : VoteEntry) → (get_or votes place d).source ≡ source) → IsLeastFrom (remove votes place) k bound
    → IsLeastFrom votes k (min source bound)
least_before votes place k bound source within lt here old = record {
  none_less = λ j d ge inside. bounded j d ge inside (cases_order j place);
  at = (one (cases_lt bound source) (cases_lt old.at place)).0;
  from = (one (cases_lt bound source) (cases_lt old.at place)).1;
  within = (one (cases_lt bound source) (cases_lt old.at place)).2;
  one_equal = (one (cases_lt bound source) (cases_lt old.at place)).3;
} where
  bounded : (j : ℕ) (d : VoteEntry) → k ≤ j → j < length votes → (j ≡ place) ⊎ ((j < place) ⊎ (place < j)) → min source bound ≤ (get_or votes j d).source
  bounded j d ge inside (inl same) = omega (arith, source_here votes place j source same here d)
  bounded j d ge inside (inr (inl below)) = omega (arith, source_before votes place j d below within, old.none_less j d ge (omega (arith, length-remove votes place within)))
  bounded j d ge inside (inr (inr gt)) = omega (arith, source_behind votes place (j - 1) j d (omega arith) (omega arith) within, old.none_less (j - 1) d (omega arith) (omega (arith, length-remove votes place within)))

  one : (bound < source) ⊎ (source ≤ bound) → (old.at < place) ⊎ (place ≤ old.at) → (j : ℕ) × (k ≤ j) × (j < length votes) × ((d : VoteEntry) → (get_or votes j d).source ≡ min source bound)
  one (inr ge) o = (place, omega arith, within, λ d. omega (arith, here d))
  one (inl less) (inl below) = (old.at, omega (arith, old.from), omega arith, λ d. omega (arith, source_before votes place old.at d below within, old.one_equal d))
  one (inl less) (inr gt) = (old.at + 1, omega (arith, old.from), omega (arith, old.within, length-remove votes place within), λ d. omega (arith, source_behind votes place old.at (old.at + 1) d gt (omega arith) within, old.one_equal d))

-- those from the place on raised to the new source, and its own bound put in
pub greatest_with : (votes : List VoteEntry) (old raised new : List ℕ) (place source before : ℕ) → place < length votes → ((d : VoteEntry) → (get_or votes place d).source ≡ source) → AreGreatest (remove votes place) old
    → length raised ≡ length old → ((k d : ℕ) → k < place → get_or raised k d ≡ get_or old k d) → ((k d : ℕ) → place ≤ k → k < length old → get_or raised k d ≡ max source (get_or old k d))
    → ((place ≡ 0) × (before ≡ 0)) ⊎ ((0 < place) × ((d : ℕ) → before ≡ get_or old (place - 1) d)) → new ≡ insert raised place (max source before) → AreGreatest votes new
greatest_with votes old raised new place source before within here are len below above last is = subst (λ (xs : List ℕ). AreGreatest votes xs) (sym is) (record {
  len = omega (arith, grown, len, are.len, shorter);
  each = λ k d lt. at k d lt (cases_order k place);
}) where
  shorter : length (remove votes place) + 1 ≡ length votes
  shorter = length-remove votes place within

  inside : place ≤ length raised
  inside = omega (arith, len, are.len, shorter)

  grown : length (insert raised place (max source before)) ≡ length raised + 1
  grown = length-insert raised place (max source before) inside

  own : ((place ≡ 0) × (before ≡ 0)) ⊎ ((0 < place) × ((d : ℕ) → before ≡ get_or old (place - 1) d)) → ((place ≡ 0) × (before ≡ 0)) ⊎ IsGreatestTo votes (place - 1) before
  own (inl none) = inl none
  own (inr some) = inr (subst (λ (b : ℕ). IsGreatestTo votes (place - 1) b) (sym (some.1 0)) (greatest_before votes place (place - 1) (get_or old (place - 1) 0) within (omega (arith, some.0)) (are.each (place - 1) 0 (omega (arith, shorter, some.0)))))

  at : (k d : ℕ) → k < length votes → (k ≡ place) ⊎ ((k < place) ⊎ (place < k)) → IsGreatestTo votes k (get_or (insert raised place (max source before)) k d)
  at k d lt (inl same) =
      let value : get_or (insert raised place (max source before)) k d ≡ max source before = ap (λ i. get_or (insert raised place (max source before)) i d) same ∙ get_or-insert_at raised place (max source before) d inside in
      subst (λ (b : ℕ). IsGreatestTo votes k b) (sym value) (subst (λ (i : ℕ). IsGreatestTo votes i (max source before)) (sym same) (greatest_more votes place before source here (own last)))
  at k d lt (inr (inl less)) =
      let value : get_or (insert raised place (max source before)) k d ≡ get_or old k d = get_or-insert_below raised place (max source before) d k less inside ∙ below k d less in
      subst (λ (b : ℕ). IsGreatestTo votes k b) (sym value) (greatest_before votes place k (get_or old k d) within less (are.each k d (omega (arith, shorter))))
  at k d lt (inr (inr more)) =
      let next : k ≡ (k - 1) + 1 = omega arith in
      let value : get_or (insert raised place (max source before)) k d ≡ max source (get_or old (k - 1) d) =
      ap (λ i. get_or (insert raised place (max source before)) i d) next ∙ get_or-insert_above raised place (max source before) d (k - 1) (omega arith) inside ∙ above (k - 1) d (omega arith) (omega (arith, are.len, shorter)) in
      subst (λ (b : ℕ). IsGreatestTo votes k b) (sym value) (subst (λ (i : ℕ). IsGreatestTo votes i (max source (get_or old (k - 1) d))) (sym next)
      (greatest_behind votes place (k - 1) (get_or old (k - 1) d) source within (omega arith) here (are.each (k - 1) d (omega (arith, shorter)))))

-- those before the place lowered to the new source, and its own bound put in
pub least_with : (votes : List VoteEntry) (old lowered new : List ℕ) (place source behind : ℕ) → place < length votes → source < 2 ^ 64 → ((d : VoteEntry) → (get_or votes place d).source ≡ source)
    → AreLeast (remove votes place) old → length lowered ≡ length old → ((k d : ℕ) → k < place → get_or lowered k d ≡ min source (get_or old k d)) → ((k d : ℕ) → place ≤ k → get_or lowered k d ≡ get_or old k d)
    → ((place ≡ length old) × (behind ≡ 2 ^ 64 - 1)) ⊎ ((place < length old) × ((d : ℕ) → behind ≡ get_or old place d)) → new ≡ insert lowered place (min source behind) → AreLeast votes new
least_with votes old lowered new place source behind within fits here are len below above next_is is = subst (λ (xs : List ℕ). AreLeast votes xs) (sym is) (record {
  len = omega (arith, grown, len, are.len, shorter);
  each = λ k d lt. at k d lt (cases_order k place);
}) where
  shorter : length (remove votes place) + 1 ≡ length votes
  shorter = length-remove votes place within

  inside : place ≤ length lowered
  inside = omega (arith, len, are.len, shorter)

  grown : length (insert lowered place (min source behind)) ≡ length lowered + 1
  grown = length-insert lowered place (min source behind) inside

  own : ((place ≡ length old) × (behind ≡ 2 ^ 64 - 1)) ⊎ ((place < length old) × ((d : ℕ) → behind ≡ get_or old place d)) → ((place + 1 ≡ length votes) × (behind ≡ 2 ^ 64 - 1)) ⊎ IsLeastFrom votes (place + 1) behind
  own (inl none) = inl (omega (arith, none.0, are.len, shorter), none.1)
  own (inr some) = inr (subst (λ (b : ℕ). IsLeastFrom votes (place + 1) b) (sym (some.1 0)) (least_behind votes place place (get_or old place 0) within (omega arith) (are.each place 0 (omega (arith, are.len, some.0)))))

  at : (k d : ℕ) → k < length votes → (k ≡ place) ⊎ ((k < place) ⊎ (place < k)) → IsLeastFrom votes k (get_or (insert lowered place (min source behind)) k d)
  at k d lt (inl same) =
      let value : get_or (insert lowered place (min source behind)) k d ≡ min source behind = ap (λ i. get_or (insert lowered place (min source behind)) i d) same ∙ get_or-insert_at lowered place (min source behind) d inside in
      subst (λ (b : ℕ). IsLeastFrom votes k b) (sym value) (subst (λ (i : ℕ). IsLeastFrom votes i (min source behind)) (sym same) (least_more votes place behind source within fits here (own next_is)))
  at k d lt (inr (inl less)) =
      let value : get_or (insert lowered place (min source behind)) k d ≡ min source (get_or old k d) = get_or-insert_below lowered place (min source behind) d k less inside ∙ below k d less in
      subst (λ (b : ℕ). IsLeastFrom votes k b) (sym value) (least_before votes place k (get_or old k d) source within less here (are.each k d (omega (arith, shorter))))
  at k d lt (inr (inr more)) =
      let next : k ≡ (k - 1) + 1 = omega arith in
      let value : get_or (insert lowered place (min source behind)) k d ≡ get_or old (k - 1) d =
      ap (λ i. get_or (insert lowered place (min source behind)) i d) next ∙ get_or-insert_above lowered place (min source behind) d (k - 1) (omega arith) inside ∙ above (k - 1) d (omega arith) in
      subst (λ (b : ℕ). IsLeastFrom votes k b) (sym value) (subst (λ (i : ℕ). IsLeastFrom votes i (get_or old (k - 1) d)) (sym next)
      (least_behind votes place (k - 1) (get_or old (k - 1) d) within (omega arith) (are.each (k - 1) d (omega (arith, shorter)))))
