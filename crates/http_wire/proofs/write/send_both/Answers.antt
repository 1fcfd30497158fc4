use Rattle.std.proofs.Common.{ℕ, ◌+◌, ◌≤◌, List, length, length-append, sym, subst, arith}
use Rattle.std.specs.Io.KnownBytes.{Appends}
use Rattle.std.proofs.lemmas.List.{take-append-le}
use Rattle.std.proofs.Math.Seq.{take-append-add}
use Rattle.edge_kit.proofs.TellingLemmas.{Appends-trans}
use Rattle.http_wire.proofs.write.send_both.Goals as goal

pub returns-in-Err-clause-err : goal.returns-in-Err-clause-err
returns-in-Err-clause-err g c =
    let A : List ℕ → Type 0 = λ bs. Appends (g.L.Link.held c.args.link.now) (g.L.Link.held c.send_all.new.link) bs in
    let e = c.in-Err.ensures.err in
    let short : e.0 ≤ length c.args.head.now = omega (arith, e.1) in
    (e.0, omega (arith, e.1, length-append c.args.head.now c.args.body.now), subst A (sym (take-append-le e.0 c.args.head.now c.args.body.now short)) e.2)

pub returns-in-Err-send_all-clause-err : goal.returns-in-Err-send_all-clause-err
returns-in-Err-send_all-clause-err g c =
    let A : List ℕ → Type 0 = λ bs. Appends (g.L.Link.held c.args.link.now) (g.L.Link.held c.send_all-2.new.link) bs in
    let e = c.in-Err-send_all.ensures.err in
    (length c.args.head.now + e.0, omega (arith, e.1, length-append c.args.head.now c.args.body.now), subst A (sym (take-append-add c.args.head.now c.args.body.now e.0)) (Appends-trans _ _ _ _ _ c.in-Ok.ensures.ok e.2))
