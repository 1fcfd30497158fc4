-- Blanks are dropped one by one.
use Rattle.std.proofs.Common.{ℕ, List, reverse}
use Rattle.web3_signer.specs.Readings.{trim_front}

-- the bytes without the blanks at their end
abbrev pub trim_back : List ℕ → List ℕ
trim_back bytes = reverse (trim_front (reverse bytes))
