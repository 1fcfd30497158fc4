use Rattle.std.proofs.Common.{◌≡◌, length}
use Rattle.web3_signer.specs.Readings.{trim_front}
use Rattle.web3_signer.proofs.blanks.without_front.Given as goal

abbrev pub invariant-blanks : goal.invariant-blanks
invariant-blanks l = trim_front l.rest ≡ trim_front l.fn.bytes

abbrev pub decreases-blanks : goal.decreases-blanks
decreases-blanks l = length l.rest
