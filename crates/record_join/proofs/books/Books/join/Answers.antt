use Rattle.std.proofs.Common.{rules, ◌+◌, ◌≤◌, length}
use Rattle.record_join.specs.BooksPasts.{key_limit, new_keys}
use Rattle.protect_record.specs.Parts.{SameParts}
use Rattle.record_join.specs.Preparing.{parts_size}
use Rattle.record_join.proofs.KeyLemmas.{each_self}
use Rattle.record_join.proofs.BooksLemmas.{all_same_stand, same_itself}
use Rattle.record_join.specs.KeyByKey.{TakesRecord}
use Rattle.record_join.proofs.TakeLemmas.{taken_all, takes_record_from}
use Rattle.record_join.proofs.FileLemmas.{all_joined, length_after, over_is, within_after, within_same}
use Rattle.record_join.proofs.books.Books.join.Goals as goal

pub returns-in-Some-clause-fault : goal.returns-in-Some-clause-fault
returns-in-Some-clause-fault c = rw (← c.self.view_is, ← c.other.view_is) (over_is _ c.other.inside.kept.entries _ _ c.in-Some.fault c.len.ensures.len c.new_records-new.ensures c.in-Some.ensures)

pub returns-in-Some-clause-same : goal.returns-in-Some-clause-same
returns-in-Some-clause-same c = each_self SameParts same_itself c.args.self.now

pub returns-in_default-prepare_records-clause-err : goal.returns-in_default-prepare_records-clause-err
returns-in_default-prepare_records-clause-err c = rw (← c.self.view_is) (λ pasts stand. all_same_stand _ _ pasts c.in_default-prepare_records.ensures.err stand)

pub returns-clause-joined : goal.returns-clause-joined
returns-clause-joined c =
    let ready = c.in-Ok.ensures.ready in
    rw (← c.self.view_is, ← c.other.view_is) (λ pasts more stand each. all_joined _ _ _ _ ready.0 pasts more ready.1.prepared c.join_records.ensures.stands stand each)

pub returns-clause-len : goal.returns-clause-len
returns-clause-len c = rw (← c.self.view_is, ← c.other.view_is) (length_after parts_size _ _ _ _ c.in-Ok.ensures.ready.0 c.in-Ok.ensures.ready.1 c.join_records.ensures.len)

pub returns-clause-each : goal.returns-clause-each
returns-clause-each c =
    let ready = c.in-Ok.ensures.ready in
    rw (← c.self.view_is, ← c.other.view_is) (taken_all TakesRecord takes_record_from _ _ _ _ ready.0 ready.1.prepared c.join_records.ensures.each)

pub invariant_of-self : goal.invariant_of-self
invariant_of-self c = within_same _ _ _ c.in_default-prepare_records.ensures.err c.self.invariant

pub invariant_of-self-2 : goal.invariant_of-self-2
invariant_of-self-2 c =
    let within : length c.self.inside.kept.entries + new_keys c.self.inside.kept.entries c.other.inside.kept.entries ≤ key_limit = search rules in
    within_after parts_size _ _ _ _ _ _ c.in-Ok.ensures.ready.1 c.join_records.ensures.len within
