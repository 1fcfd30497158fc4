use Rattle.std.proofs.Common.{◌≡◌, ℕ, ◌+◌, ◌-◌, ◌^◌, ◌<◌, ◌≤◌, ◌⊎◌, None, inl, inr, length, get_or, set, length-set, ap, sym, ◌∙◌, subst, arith, rules}
use Rattle.std.proofs.lemmas.Bool.{cases_lt}
use Rattle.std.proofs.lemmas.List.{get_or_default, get_or-set_other}
use Rattle.std.proofs.lemmas.Grind.{get_or-set_at}
use Rattle.slash_defs.specs.declared.entry.VoteEntry.{VoteEntry}
use Rattle.sorted_search.specs.Sources.{IsLeastFrom}
use Rattle.sorted_search.proofs.SourceLemmas.{least_more}
use Rattle.sorted_search.proofs.sources.fill_least.Goals as goal

pub loop-at-preserved : goal.loop-at-preserved
loop-at-preserved c =
    let n : ℕ = c.loop-at.at - 1 in
    let next : c.loop-at.at ≡ n + 1 = omega arith in
    let zero : VoteEntry = record { target = 0; source = 0; root = None } in
    let lt : n < length c.args.votes.now = omega arith in
    let fits : (get_or c.args.votes.now n zero).source < 2 ^ 64 = search rules in
    let last : ((n + 1 ≡ length c.args.votes.now) × (c.loop-at.least ≡ 2 ^ 64 - 1)) ⊎ IsLeastFrom c.args.votes.now (n + 1) c.loop-at.least =
    subst (λ (i : ℕ). ((i ≡ length c.args.votes.now) × (c.loop-at.least ≡ 2 ^ 64 - 1)) ⊎ IsLeastFrom c.args.votes.now i c.loop-at.least) next c.loop-at.invariant.last in
    let more : IsLeastFrom c.args.votes.now n c.min-least.result =
    subst (λ (b : ℕ). IsLeastFrom c.args.votes.now n b) (sym c.min-least.ensures)
    (least_more c.args.votes.now n c.loop-at.least (get_or c.args.votes.now n zero).source lt fits (λ d. ap (λ (e : VoteEntry). e.source) (get_or_default c.args.votes.now n d zero lt)) last) in
    record {
      within = omega arith;
      len = length-set c.loop-at.list.items n c.min-least.result ∙ c.loop-at.invariant.len;
      count = c.loop-at.invariant.count;
      capacity = c.loop-at.invariant.capacity;
      each = λ k d ge within. at k d ge within more (cases_lt n k);
      last = inr more;
    } where
      at : (k d : ℕ) → c.loop-at.at - 1 ≤ k → k < length c.args.votes.now → IsLeastFrom c.args.votes.now (c.loop-at.at - 1) c.min-least.result → (c.loop-at.at - 1 < k) ⊎ (k ≤ c.loop-at.at - 1)
          → IsLeastFrom c.args.votes.now k (get_or (set c.loop-at.list.items (c.loop-at.at - 1) c.min-least.result) k d)
      at k d ge within more (inl above) =
          subst (λ (b : ℕ). IsLeastFrom c.args.votes.now k b) (sym (get_or-set_other c.loop-at.list.items (c.loop-at.at - 1) k c.min-least.result d (λ e. omega arith)))
          (c.loop-at.invariant.each k d (omega arith) within)
      at k d ge within more (inr le) =
          let same : k ≡ c.loop-at.at - 1 = omega arith in
          let inside : c.loop-at.at - 1 < length c.loop-at.list.items = omega (arith, c.loop-at.invariant.len) in
          subst (λ (b : ℕ). IsLeastFrom c.args.votes.now k b) (sym (get_or-set_at c.loop-at.list.items (c.loop-at.at - 1) k c.min-least.result d same inside))
          (subst (λ (i : ℕ). IsLeastFrom c.args.votes.now i c.min-least.result) (sym same) more)
