use Rattle.std.proofs.Common.{◌≡◌, None, Some, rules}
use Rattle.doppel_watch.specs.Watching.{Telling}
use Rattle.record_join.specs.Keys.{kept_of, with_kept}
use Rattle.record_replay.proofs.WatchLemmas.{told, told_none}
use Rattle.record_replay.proofs.watches.tell.Goals as goal

pub returns : goal.returns
returns c =
    let telling : Telling = record { epoch = c.args.epoch; live = c.args.live; moment = c.args.moment } in
    let found : kept_of c.args.watches.now.entries c.args.key ≡ Some c.in-Some.watch.now = search rules in
    let set : (c.get_mut.follows.lender c.answer.new.self).entries ≡ with_kept c.args.watches.now.entries c.args.key c.answer.new.self = search rules in
    told _ _ c.args.key c.in-Some.watch.now c.answer.new.self telling found set c.answer.ensures

pub returns-in_default : goal.returns-in_default
returns-in_default c =
    let telling : Telling = record { epoch = c.args.epoch; live = c.args.live; moment = c.args.moment } in
    let none : kept_of c.args.watches.now.entries c.args.key ≡ None = search rules in
    let same : c.get_mut.follows.lender-at-none.entries ≡ c.args.watches.now.entries = search rules in
    told_none _ _ c.args.key telling none same
