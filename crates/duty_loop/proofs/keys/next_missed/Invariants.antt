use Rattle.std.proofs.Common.{◌≡◌, ◌≤◌, ◌<◌, ℕ, true, false, take}
use Rattle.duty_loop.specs.Missing.{some_misses}
use Rattle.duty_loop.proofs.keys.next_missed.Given as goal

abbrev pub invariant-keys : goal.invariant-keys
invariant-keys l = record {
  begun : l.from ≤ l.next;
  within : l.next ≤ l.until;
  none_before : (epoch : ℕ) → l.from ≤ epoch → epoch < l.next → some_misses epoch (take l.row-index l.listed) ≡ false;
  missed : l.next < l.until → some_misses l.next (take l.row-index l.listed) ≡ true;
}
