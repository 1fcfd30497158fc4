use Rattle.std.proofs.Common.{◌≡◌, ℕ, ◌+◌, ◌-◌, ◌<◌, ◌≤◌, ◌⊎◌, ◌∷◌, ◌++◌, [], None, true, inl, inr, length, length-append, get_or, is_ok, ap, sym, ◌∙◌, subst, arith, rules, vec_len}
use Rattle.std.proofs.lemmas.Bool.{cases_lt}
use Rattle.std.proofs.lemmas.List.{get_or_default}
use Rattle.slash_defs.specs.declared.entry.VoteEntry.{VoteEntry}
use Rattle.sorted_search.specs.Sources.{IsGreatestTo}
use Rattle.sorted_search.proofs.SourceLemmas.{greatest_more}
use Rattle.sorted_search.proofs.SourceLemmas.{when_done}
use Rattle.sorted_search.proofs.sources.fill_greatest.Goals as goal

pub loop-entry-preserved : goal.loop-entry-preserved
loop-entry-preserved c =
    let n : ℕ = c.loop-entry.entry-index in
    let zero : VoteEntry = record { target = 0; source = 0; root = None } in
    let more : IsGreatestTo c.args.votes.now n c.max-greatest.result =
    subst (λ (b : ℕ). IsGreatestTo c.args.votes.now n b) (sym c.max-greatest.ensures)
    (greatest_more c.args.votes.now n c.loop-entry.greatest (get_or c.args.votes.now n zero).source (λ d. ap (λ (e : VoteEntry). e.source) (get_or_default c.args.votes.now n d zero c.loop-entry-test.true)) c.loop-entry.invariant.last) in
    let ok : is_ok c.push.result ≡ true = c.push.ensures.succeeds (omega arith) in
    let grown : c.push.new.self.items ≡ c.loop-entry.list.items ++ c.max-greatest.result ∷ [] = when_done _ _ _ _ ok c.push.ensures.items in
    record {
      len = omega (arith, ap length grown, length-append c.loop-entry.list.items (c.max-greatest.result ∷ []), c.loop-entry.invariant.len);
      count = search rules;
      room = search rules;
      capacity = search rules;
      each = λ k d lt. at k d lt more ok (cases_lt k n);
      last = inr (let e : n + 1 - 1 ≡ n = omega arith in subst (λ (i : ℕ). IsGreatestTo c.args.votes.now i c.max-greatest.result) (sym e) more);
    } where
      at : (k d : ℕ) → k < c.loop-entry.entry-index + 1 → IsGreatestTo c.args.votes.now c.loop-entry.entry-index c.max-greatest.result → is_ok c.push.result ≡ true
          → (k < c.loop-entry.entry-index) ⊎ (c.loop-entry.entry-index ≤ k) → IsGreatestTo c.args.votes.now k (get_or c.push.new.self.items k d)
      at k d lt more ok (inl below) = subst (λ (b : ℕ). IsGreatestTo c.args.votes.now k b) (sym (c.push.ensures.by_index.0 k d (omega arith))) (c.loop-entry.invariant.each k d below)
      at k d lt more ok (inr here) =
          let same : k ≡ c.loop-entry.entry-index = omega arith in
          let count : vec_len c.loop-entry.list ≡ c.loop-entry.entry-index = c.loop-entry.invariant.count in
          let value : get_or c.push.new.self.items k d ≡ c.max-greatest.result = ap (λ i. get_or c.push.new.self.items i d) (same ∙ sym count) ∙ c.push.ensures.by_index.1 d ok in
          subst (λ (b : ℕ). IsGreatestTo c.args.votes.now k b) (sym value) (subst (λ (i : ℕ). IsGreatestTo c.args.votes.now i c.max-greatest.result) (sym same) more)
