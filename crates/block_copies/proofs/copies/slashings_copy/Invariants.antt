use Rattle.std.proofs.Common.{◌≡◌, take}
use Rattle.block_copies.proofs.copies.slashings_copy.Given as goal

-- the copies so far are of the slashings in front
abbrev pub invariant-slashings : goal.invariant-slashings
invariant-slashings l = l.copies.items ≡ take l.slashing-index l.slashings
