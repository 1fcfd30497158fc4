use Rattle.std.proofs.Common.{◌≡◌, None, sym, ◌∙◌, subst, arith}
use Rattle.std.specs.List.{position_from}
use Rattle.interchange_io.specs.United.{is_of, ArePlaces}
use Rattle.interchange_io.proofs.ResultLemmas.{OnOk-map, OnOk-map₂}
use Rattle.interchange_io.proofs.GatheredLemmas.{IsJoined, is_joined, with_new_book, joined_at, places_at, places-push}
use Rattle.interchange_io.proofs.gathered.Gathered.add.Goals as goal
use Rattle.interchange_io.proofs.gathered.Gathered.add.Goals.{In_default, In-Some}

is_new : (c : In_default) → position_from (is_of c.args.key) 0 c.args.self.now.books.items ≡ None
is_new c = sym (c.requires c.args.key) ∙ sym c.get.ensures.value ∙ sym c.copied.ensures ∙ c.in_default.is

is_there : (c : In-Some) → IsJoined c.args.self.now.books.items (c.args.key, c.args.book) 0 c.in-Some.place
is_there c = is_joined c.args.self.now.books.items (c.args.key, c.args.book) 0 c.in-Some.place (sym (c.requires c.args.key) ∙ sym c.get.ensures.value ∙ sym c.copied.ensures ∙ c.in-Some.is)

pub returns-in_default-clause-books : goal.returns-in_default-clause-books
returns-in_default-clause-books c =
    let books = c.args.self.now.books.items in
    OnOk-map c.push.result (λ e. e ∙ sym (with_new_book books (c.args.key, c.args.book) 0 (is_new (goal.at.returns-in_default-clause-books c).In_default))) c.push.ensures.books

pub returns-in_default-clause-places : goal.returns-in_default-clause-places
returns-in_default-clause-places c =
    let books = c.args.self.now.books.items in
    OnOk-map₂ c.push.result
    (λ e updates. subst (λ bs. ArePlaces bs c.push.new.self.places) (sym e) (places-push c.args.self.now.places c.push.new.self.places books (c.args.key, c.args.book) c.requires (is_new (goal.at.returns-in_default-clause-places c).In_default) updates))
    c.push.ensures.books c.push.ensures.places

pub index_mut-kept-requires : goal.index_mut-kept-requires
index_mut-kept-requires c = let there = is_there (goal.at.index_mut-kept-requires c).In-Some in omega (arith, there.at, there.below, c.args.self.now.books.ok.0)

pub returns-clause-books : goal.returns-clause-books
returns-clause-books c =
    let there = is_there (goal.at.returns-clause-books c).In-Some in
    OnOk-map c.append_book.result (λ e. joined_at c.args.self.now.books.items (c.args.key, c.args.book) c.in-Some.place c.index_mut-kept.result.now c.append_book.new.kept there c.index_mut-kept.ensures.value e) c.append_book.ensures

pub returns-clause-places : goal.returns-clause-places
returns-clause-places c =
    OnOk-map c.append_book.result (λ e. places_at c.args.self.now.books.items c.in-Some.place c.index_mut-kept.result.now c.append_book.new.kept c.args.self.now.places c.requires c.index_mut-kept.ensures.value) c.append_book.ensures
