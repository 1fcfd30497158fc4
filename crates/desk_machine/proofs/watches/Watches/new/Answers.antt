use Rattle.std.proofs.Common.{◌≡◌, [], rules}
use Rattle.desk_machine.specs.Watches.{fresh_watching}
use Rattle.desk_machine.proofs.WatchLemmas.{new_stands}
use Rattle.desk_machine.proofs.watches.Watches.new.Goals as goal

pub invariant_of-result : goal.invariant_of-result
invariant_of-result c =
    let none : c.new.result.entries ≡ [] = search rules in
    (c.requires, (fresh_watching c.args.on c.args.now, new_stands c.args.on c.args.now c.new.result.entries none))
