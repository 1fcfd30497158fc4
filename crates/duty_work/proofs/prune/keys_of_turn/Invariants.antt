use Rattle.std.proofs.Common.{◌≡◌, ◌+◌, ◌%◌, ◌<◌, take}
use Rattle.duty_turns.specs.Lanes.{dealt}
use Rattle.duty_work.proofs.prune.keys_of_turn.Given as goal

abbrev pub invariant-keys : goal.invariant-keys
invariant-keys l = record {
  turn : l.at ≡ (0 + l.key-index) % 32;
  below : l.at < 32;
  so_far : l.mine.items ≡ dealt 32 (l.slot % 32) 0 (take l.key-index l.keys);
}
