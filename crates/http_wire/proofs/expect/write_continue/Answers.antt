use Rattle.std.proofs.Common.{ℕ, List, OnErr, subst}
use Rattle.http_wire.specs.Listening.{AppendsFront}
use Rattle.http_wire.proofs.expect.write_continue.Goals as goal

pub returns-clause-err : goal.returns-clause-err
returns-clause-err g c =
    let F : List ℕ → Type 0 = λ text. OnErr c.send_all.result (AppendsFront (g.L.Link.held c.args.link.now) (g.L.Link.held c.send_all.new.link) text) in
    subst F c.as_bytes.ensures.value c.send_all.ensures.err
