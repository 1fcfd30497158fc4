use Rattle.std.proofs.Common.{rules, ◌≡◌, Some}
use Rattle.record_join.specs.Keys.{kept_of, with_kept}
use Rattle.record_replay.proofs.GatherLemmas.{took_known}
use Rattle.record_replay.proofs.histories.take_key.Goals as goal

pub returns-in-Some : goal.returns-in-Some
returns-in-Some c =
    let found : kept_of c.args.keys.now.entries c.key_of-key.result ≡ Some c.in-Some.gathered.now = search rules in
    let after : (c.get_mut.follows.lender c.take.new.self).entries ≡ with_kept c.args.keys.now.entries c.key_of-key.result c.take.new.self = search rules in
    took_known c.take.result _ _ _ _ _ _ c.get_mut.ensures.ordered c.key_of-key.ensures found after c.take.ensures
