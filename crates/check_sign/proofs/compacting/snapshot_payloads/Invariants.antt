use Rattle.std.proofs.Common.{length, map, take}
use Rattle.check_sign.specs.DeskBatches.{AreSpelled, desk_batches}
use Rattle.check_sign.proofs.compacting.snapshot_payloads.Given as goal

abbrev pub invariant-keys : goal.invariant-keys
invariant-keys l = AreSpelled (map (λ v. v.items) l.payloads.items) (desk_batches l.states.entries (take (length l.yielded) l.books))
