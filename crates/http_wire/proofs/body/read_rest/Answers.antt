use Rattle.std.proofs.Common.{ℕ, ◌++◌, take, length-append, arith}
use Rattle.std.proofs.lemmas.List.{length-take}
use Rattle.http_wire.proofs.TakeLemmas.{at_most}
use Rattle.std.proofs.lemmas.Result.{err_from_is_err_and}
use Rattle.edge_kit.proofs.TellingLemmas.{Consumes-trans}
use Rattle.http_wire.proofs.body.read_rest.Goals as goal

pub returns-in_err-extend_from_slice-clause-step : goal.returns-in_err-extend_from_slice-clause-step
returns-in_err-extend_from_slice-clause-step g c =
    let p = err_from_is_err_and c.from_residual.result c.from_residual.ensures.1 in
    rw (p.1, p.2) (record {
      bytes = c.pieces.body.items ++ take c.in-Ok.count c.recv.new.buf;
      taken = Consumes-trans _ _ _ _ _ c.pieces.invariant.taken c.in-Ok.ensures.bytes.0;
      holds = tt;
    })

pub returns-in_err-extend_from_slice-clause-bound : goal.returns-in_err-extend_from_slice-clause-bound
returns-in_err-extend_from_slice-clause-bound g c =
    at_most _ _ _ (c.pieces.body.items ++ take c.in-Ok.count c.recv.new.buf) (Consumes-trans _ _ _ _ _ c.pieces.invariant.taken c.in-Ok.ensures.bytes.0) (omega (arith, c.in-Ok.ensures.bound, length-append {A = ℕ}, length-take {A = ℕ}))
