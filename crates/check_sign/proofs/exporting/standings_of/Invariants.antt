use Rattle.std.proofs.Common.{◌≡◌, take}
use Rattle.desk_machine.specs.Watches.{Watching, WatchesStand}
use Rattle.check_sign.proofs.ReadLemmas.{standings_of, states_of, told_states}
use Rattle.check_sign.proofs.exporting.standings_of.Given as goal

abbrev pub invariant-keys : goal.invariant-keys
invariant-keys l =
    (told_states l.listed.items ≡ states_of l.states.entries (take l.key-index l.key-items))
    × ((w : Watching) → WatchesStand l.watches w → l.listed.items ≡ standings_of l.states.entries w (take l.key-index l.key-items))
