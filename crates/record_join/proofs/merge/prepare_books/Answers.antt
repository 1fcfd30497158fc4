use Rattle.std.proofs.Common.{refl, rules}
use Rattle.protect_record.specs.Parts.{SameParts}
use Rattle.record_join.specs.Preparing.{book_size}
use Rattle.record_join.proofs.KeyLemmas.{each_self}
use Rattle.record_join.proofs.BooksLemmas.{all_same_stand, same_itself}
use Rattle.record_join.proofs.FreshLemmas.{ready_none}
use Rattle.record_join.proofs.FileLemmas.{both_same, distinct_once, others_back, prepared_step, ready_step, ready_whole, within_after, within_same}
use Rattle.record_join.proofs.merge.prepare_books.Goals as goal

pub returns-in-Some-clause-same : goal.returns-in-Some-clause-same
returns-in-Some-clause-same c = each_self SameParts same_itself c.args.kept.now.entries

pub returns-then-not-has_room-clause-same : goal.returns-then-not-has_room-clause-same
returns-then-not-has_room-clause-same c = each_self SameParts same_itself c.args.kept.now.entries

pub books-init : goal.books-init
books-init c = ready_none book_size c.args.kept.now.entries _ (search rules)

pub books-preserved : goal.books-preserved
books-preserved c =
    ready_step book_size _ _ _ _ _ _ _ _ _ (distinct_once _ c.requires) c.books-test.true c.listed-item.is
    (both_same _ _ _ _ (search rules) (search rules)) c.books.invariant c.make_room.ensures.makes c.in-Ok.ensures.room c.in-Ok.ensures.noted

pub returns-in_default-make_room-clause-err : goal.returns-in_default-make_room-clause-err
returns-in_default-make_room-clause-err c =
    let prepared = prepared_step _ _ _ _ _ _ _ _ c.books-test.true c.listed-item.is c.books.invariant.prepared c.make_room.ensures.makes in
    λ pasts stand. all_same_stand _ _ pasts (c.take_out.ensures.same _ prepared.absent prepared.same) stand

pub returns-in_default-make_room-clause-limit : goal.returns-in_default-make_room-clause-limit
returns-in_default-make_room-clause-limit c =
    let prepared = prepared_step _ _ _ _ _ _ _ _ c.books-test.true c.listed-item.is c.books.invariant.prepared c.make_room.ensures.makes in
    λ within. within_same _ _ _ (c.take_out.ensures.same _ prepared.absent prepared.same) within

pub returns-in_default-make_room-clause-others : goal.returns-in_default-make_room-clause-others
returns-in_default-make_room-clause-others c =
    let prepared = prepared_step _ _ _ _ _ _ _ _ c.books-test.true c.listed-item.is c.books.invariant.prepared c.make_room.ensures.makes in
    others_back _ _ _ _ _ prepared c.take_out.ensures.others

pub returns-clause-limit : goal.returns-clause-limit
returns-clause-limit c = λ _. within_after book_size _ _ _ _ _ _ (ready_whole book_size _ _ c.args.books.now _ _ c.books.invariant c.books-test.false) refl (search rules)
