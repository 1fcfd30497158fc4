use Rattle.std.proofs.Common.{◌≡◌, rules}
use Rattle.record_join.specs.Keys.{with_key}
use Rattle.record_replay.proofs.WatchLemmas.{begun}
use Rattle.record_replay.proofs.watches.begin.Goals as goal

pub returns : goal.returns
returns c =
    let put : c.insert.new.self.entries ≡ with_key c.args.watches.now.entries c.args.key c.start.result = search rules in
    begun _ _ c.args.key c.args.epoch c.start.result put c.start.ensures
