use Rattle.std.proofs.Common.{◌≡◌, ℕ, ◌+◌, ◌++◌, List, length, take, vec_len, sym, ◌∙◌, ap, subst, arith, rules}
use Rattle.std.specs.List.{dedup}
use Rattle.std.specs.List.Sorted.{IsSorted}
use Rattle.std.proofs.lemmas.List.Filters.{dedup_is}
use Rattle.protect_record.proofs.OrderLemmas.{sorted_in_order}
use Rattle.protect_record.proofs.UniteLemmas.{extended_twice, front_is, lent_whole, united_merged, when_done}
use Rattle.protect_record.proofs.sorted.unite.Goals as goal

pub merge_behind-requires-clause-front : goal.merge_behind-requires-clause-front
merge_behind-requires-clause-front g c =
    let count : c.len-count.result ≡ length c.args.list.now.items = search rules in
    let first = c.extend_from_slice.ensures.succeeds (omega arith) in
    let len : vec_len c.extend_from_slice.new.self ≡ vec_len c.args.list.now + length c.args.more.now = when_done {A = ℕ} _ _ _ _ first c.extend_from_slice.ensures.len in
    let second = c.extend_from_slice-2.ensures.succeeds (omega (arith, c.extend_from_slice.ensures.capacity)) in
    let twice : c.deref_mut.result.now ≡ c.args.list.now.items ++ c.args.more.now ++ c.args.more.now =
    c.deref_mut.ensures.value ∙ extended_twice c.args.list.now.items c.args.more.now c.extend_from_slice.new.self.items c.extend_from_slice-2.new.self.items _ _ first c.extend_from_slice.ensures.items second c.extend_from_slice-2.ensures.items in
    subst (λ (xs : List g.row.T.Denot). IsSorted g.T.Ord.cmp xs) (sym (front_is c.args.list.now.items c.args.more.now c.deref_mut.result.now c.len-count.result count twice))
    (sorted_in_order g.T.Ord.cmp g.met.T.Ord.total c.args.list.now.items c.requires.in_order)

pub returns-clause-united : goal.returns-clause-united
returns-clause-united g c =
    let count : c.len-count.result ≡ length c.args.list.now.items = search rules in
    let first = c.extend_from_slice.ensures.succeeds (omega arith) in
    let len : vec_len c.extend_from_slice.new.self ≡ vec_len c.args.list.now + length c.args.more.now = when_done {A = ℕ} _ _ _ _ first c.extend_from_slice.ensures.len in
    let second = c.extend_from_slice-2.ensures.succeeds (omega (arith, c.extend_from_slice.ensures.capacity)) in
    let twice : c.deref_mut.result.now ≡ c.args.list.now.items ++ c.args.more.now ++ c.args.more.now =
    c.deref_mut.ensures.value ∙ extended_twice c.args.list.now.items c.args.more.now c.extend_from_slice.new.self.items c.extend_from_slice-2.new.self.items _ _ first c.extend_from_slice.ensures.items second c.extend_from_slice-2.ensures.items in
    let end : ℕ = c.len-count.result + length c.args.more.now in
    let whole = lent_whole c.extend_from_slice-2.new.self.len c.merge_behind.new.list _ (omega (arith, c.merge_behind.auto.list, c.deref_mut.ensures.len)) in
    united_merged g.T.Ord.cmp g.met.T.Ord.total c.requires.exact g.T.PartialEq.eq g.met.T.Eq.laws g.met.T.Ord.matches_eq c.args.list.now.items c.args.more.now c.deref_mut.result.now _ _ c.len-count.result count twice
    c.merge_behind.ensures (dedup_is _ _ _ c.dedup.ensures.filtered ∙ ap (λ xs. dedup g.T.PartialEq.eq xs) (c.truncate.ensures.items ∙ ap (λ xs. take end xs) whole))
