use Rattle.std.proofs.Common.{◌+◌, ◌%◌, arith}
use Rattle.std.proofs.lemmas.Nat.{mod_below}
use Rattle.duty_workers.proofs.DealLemmas.{dealt_more}
use Rattle.duty_workers.proofs.TurnLemmas.{lane_turns}
use Rattle.duty_work.proofs.prune.keys_of_turn.Goals as goal

pub keys-preserved : goal.keys-preserved
keys-preserved c = record {
  turn = lane_turns 32 0 c.keys.key-index c.keys.at c.keys.invariant.turn;
  below = mod_below (c.keys.at + 1) 32 (omega arith);
  so_far = dealt_more 32 (c.args.slot % 32) 0 c.keys.key-index c.keys.at c.args.keys.now c.keys.mine.items c.keep.new.mine.items _ c.keys-test.true c.keys.invariant.turn c.keys.invariant.so_far c.in_ok-keep.ensures;
}
