use Rattle.std.proofs.Common.{ℕ, ◌++◌, take, length-append, arith}
use Rattle.std.proofs.lemmas.List.{length-take}
use Rattle.edge_kit.proofs.TellingLemmas.{Consumes-trans}
use Rattle.http_wire.proofs.TakeLemmas.{at_most}
use Rattle.http_wire.proofs.sized.read_sized.Goals as goal

pub returns-in_err-extend_from_slice-clause-bound : goal.returns-in_err-extend_from_slice-clause-bound
returns-in_err-extend_from_slice-clause-bound g c =
    let before = c.pieces.invariant.bytes in
    at_most _ _ _ (before.0 ++ take c.in-Ok.count c.recv.new.buf) (Consumes-trans _ _ _ _ _ before.1 c.in-Ok.ensures.bytes.0) (omega (arith, before.2, c.in-Ok.ensures.bound, length-append {A = ℕ}, length-take {A = ℕ}))
