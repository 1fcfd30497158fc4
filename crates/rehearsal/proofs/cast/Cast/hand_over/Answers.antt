use Rattle.std.proofs.Common.{refl}
use Rattle.std.specs.Vec.{with_item}
use Rattle.rehearsal.specs.declared.cast.Cast.{Cast}
use Rattle.rehearsal.proofs.CastLemmas.{hands_none, hands_over}
use Rattle.rehearsal.proofs.cast.Cast.hand_over.Goals as goal

pub returns-in_default : goal.returns-in_default
returns-in_default c =
    hands_none c.args.self.now _ c.args.client c.args.to c.args.now c.args.key c.index_mut.result.now c.give_up.new.self c.in_ok-book.field-0 (record { within = c.requires.client; items = refl; was_there = c.index_mut.ensures.value }) refl refl c.in_default.is c.in_ok-book.ensures

pub returns : goal.returns
returns c =
    let old = c.args.self.now in
    let mid : Cast = record old { clients = with_item old.clients c.args.client c.give_up.new.self } in
    hands_over old mid _ c.args.client c.args.to c.args.now c.args.key c.index_mut.result.now c.give_up.new.self c.index_mut-2.result.now c.take_in.new.self c.in-Some.book c.in_ok-book.field-0
    (record { within = c.requires.client; items = refl; was_there = c.index_mut.ensures.value }) c.requires.to refl c.index_mut-2.ensures.value refl refl refl refl c.in-Some.is c.in_ok-book.ensures c.in_ok-take_in.ensures
