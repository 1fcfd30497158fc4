use Rattle.std.proofs.Common.{◌≡◌, take}
use Rattle.block_copies.proofs.copies.attestations_copy.Given as goal

-- the copies so far are of the votes in front
abbrev pub invariant-votes : goal.invariant-votes
invariant-votes l = l.copies.items ≡ take l.vote-index l.votes
