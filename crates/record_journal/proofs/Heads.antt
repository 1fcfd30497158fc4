-- What the head of a file is by a read.
use Rattle.std.proofs.Common.{◌≡◌, ◌∙◌, ℕ, List, length, take, min, ap, arith}
use Rattle.std.proofs.lemmas.List.{take_min}
use Rattle.edge_kit.specs.Disks.{ReadsAt}

pub head_read : (c buffer : List ℕ) (n : ℕ) → length buffer ≡ 55 → ReadsAt c 0 buffer n → take n buffer ≡ take 55 c
head_read c buffer n long read =
    let same : n ≡ min 55 (length c) = omega (arith, read.count, long) in
    read.bytes ∙ ap (λ (k : ℕ). take k c) same ∙ take_min 55 c
