use Rattle.std.proofs.Common.{◌≡◌, ℕ, ◌-◌, ◌<◌, ◌⊎◌, None, true, inl, inr, get_or, is_ok, ap, ◌∙◌, arith, rules, vec_len, vec_capacity}
use Rattle.std.specs.List.{insert}
use Rattle.std.proofs.lemmas.List.{get_or_default}
use Rattle.std.proofs.lemmas.List.Edits.{length-remove}
use Rattle.slash_defs.specs.declared.entry.VoteEntry.{VoteEntry}
use Rattle.sorted_search.proofs.SourceLemmas.{when_done}
use Rattle.sorted_search.proofs.InsertLemmas.{greatest_with}
use Rattle.sorted_search.proofs.sources.insert_greatest.Goals as goal
use Rattle.sorted_search.proofs.sources.insert_greatest.Goals.{then-place-eq0, else-place-eq0}

pub returns-clause-greatest : goal.returns-clause-greatest
returns-clause-greatest c =
    let zero : VoteEntry = record { target = 0; source = 0; root = None } in
    let shorter = length-remove c.args.votes.now c.args.place c.requires.within in
    let room : vec_len c.raise_from.new.list < vec_capacity c.raise_from.new.list = search rules in
    let ok : is_ok c.insert.result ≡ true = c.insert.ensures.succeeds room in
    let put : c.insert.new.self.items ≡ insert c.raise_from.new.list.items c.args.place c.max.result = when_done _ _ _ _ ok c.insert.ensures.items in
    let last : ((c.args.place ≡ 0) × (c.if-place-eq0.before ≡ 0)) ⊎ ((0 < c.args.place) × ((d : ℕ) → c.if-place-eq0.before ≡ get_or c.args.list.now.items (c.args.place - 1) d)) =
    elim c.if-place-eq0.branch [
      | then-place-eq0 w ↦ inl (omega arith, w.before-is)
      | else-place-eq0 w ↦ inr (omega arith, λ d. w.before-is ∙ w.index.ensures ∙ get_or_default c.args.list.now.items (c.args.place - 1) w.index.result.now d (omega (arith, shorter, c.requires.without.len)))
    ] in
    greatest_with c.args.votes.now c.args.list.now.items c.raise_from.new.list.items c.insert.new.self.items c.args.place (get_or c.args.votes.now c.args.place zero).source c.if-place-eq0.before
    c.requires.within (λ d. ap (λ (e : VoteEntry). e.source) (get_or_default c.args.votes.now c.args.place d zero c.requires.within)) c.requires.without
    c.raise_from.ensures.len c.raise_from.ensures.before c.raise_from.ensures.behind last (put ∙ ap (λ v. insert c.raise_from.new.list.items c.args.place v) c.max.ensures)
