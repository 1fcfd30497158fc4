use Rattle.std.proofs.Common.{◌≡◌, ℕ, ◌-◌, ◌^◌, ◌<◌, ◌⊎◌, None, true, inl, inr, length, get_or, is_ok, ap, ◌∙◌, arith, rules, vec_len, vec_capacity}
use Rattle.std.specs.List.{insert, remove}
use Rattle.std.proofs.lemmas.List.{get_or_default}
use Rattle.std.proofs.lemmas.List.Edits.{length-remove}
use Rattle.slash_defs.specs.declared.entry.VoteEntry.{VoteEntry}
use Rattle.sorted_search.proofs.SourceLemmas.{when_done}
use Rattle.sorted_search.proofs.InsertLemmas.{least_rise, least_with}
use Rattle.sorted_search.proofs.sources.insert_least.Goals as goal
use Rattle.sorted_search.proofs.sources.insert_least.Goals.{then-place-len, else-place-len}

pub lower_before-requires-clause-rising : goal.lower_before-requires-clause-rising
lower_before-requires-clause-rising c = least_rise (remove c.args.votes.now c.args.place) c.args.list.now.items c.requires.without

pub returns-clause-least : goal.returns-clause-least
returns-clause-least c =
    let zero : VoteEntry = record { target = 0; source = 0; root = None } in
    let shorter = length-remove c.args.votes.now c.args.place c.requires.within in
    let fits : (get_or c.args.votes.now c.args.place zero).source < 2 ^ 64 = search rules in
    let room : vec_len c.lower_before.new.list < vec_capacity c.lower_before.new.list = search rules in
    let ok : is_ok c.insert.result ≡ true = c.insert.ensures.succeeds room in
    let put : c.insert.new.self.items ≡ insert c.lower_before.new.list.items c.args.place c.min.result = when_done _ _ _ _ ok c.insert.ensures.items in
    let count : vec_len c.args.list.now ≡ length c.args.list.now.items = search rules in
    let next : ((c.args.place ≡ length c.args.list.now.items) × (c.if-place-len.behind ≡ 2 ^ 64 - 1)) ⊎ ((c.args.place < length c.args.list.now.items) × ((d : ℕ) → c.if-place-len.behind ≡ get_or c.args.list.now.items c.args.place d)) =
    elim c.if-place-len.branch [
      | then-place-len w ↦ inl (omega arith, w.behind-is)
      | else-place-len w ↦ inr (omega arith, λ d. w.behind-is ∙ w.index.ensures ∙ get_or_default c.args.list.now.items c.args.place w.index.result.now d (omega (arith, shorter, c.requires.without.len)))
    ] in
    least_with c.args.votes.now c.args.list.now.items c.lower_before.new.list.items c.insert.new.self.items c.args.place (get_or c.args.votes.now c.args.place zero).source c.if-place-len.behind
    c.requires.within fits (λ d. ap (λ (e : VoteEntry). e.source) (get_or_default c.args.votes.now c.args.place d zero c.requires.within)) c.requires.without
    c.lower_before.ensures.len c.lower_before.ensures.before c.lower_before.ensures.behind next (put ∙ ap (λ v. insert c.lower_before.new.list.items c.args.place v) c.min.ensures)
