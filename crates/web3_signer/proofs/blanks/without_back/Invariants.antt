use Rattle.std.proofs.Common.{◌≡◌, length}
use Rattle.web3_signer.proofs.BlankLemmas.{trim_back}
use Rattle.web3_signer.proofs.blanks.without_back.Given as goal

abbrev pub invariant-blanks : goal.invariant-blanks
invariant-blanks l = trim_back l.rest ≡ trim_back l.fn.bytes

abbrev pub decreases-blanks : goal.decreases-blanks
decreases-blanks l = length l.rest
