use Rattle.std.proofs.Common.{◌≡◌, rules}
use Rattle.std.specs.BTreeMap.{is_at}
use Rattle.std.specs.Map.{remove_entry}
use Rattle.record_join.specs.Keys.{key_cmp}
use Rattle.record_replay.proofs.WatchLemmas.{ended}
use Rattle.record_replay.proofs.watches.end.Goals as goal

pub returns : goal.returns
returns c =
    let gone : c.remove.new.self.entries ≡ remove_entry (is_at (key_cmp c.args.key)) c.args.watches.now.entries = search rules in
    ended _ _ c.args.key gone
