use Rattle.std.proofs.Common.{Result, sym, subst}
use Rattle.session_format.specs.declared.member.Member.{Member}
use Rattle.session_format.specs.declared.request.Request.{Request}
use Rattle.session_format.specs.Steps.{Gives}
use Rattle.session_format.proofs.LineLemmas.{request_of-read, request_of-unread}
use Rattle.session_format.proofs.reading.read_line.Goals as goal

pub returns-in-Ok : goal.returns-in-Ok
returns-in-Ok c =
    let whole = request_of-read c.args.chain.now c.args.line.now _ c.in-Ok.ensures.ok.0 c.in-Ok.ensures.ok.1 in
    subst (λ (read : Result Request Member). Gives c.read_members.result read) (sym whole) c.read_members.ensures

pub returns-else-is_memory : goal.returns-else-is_memory
returns-else-is_memory c =
    request_of-unread c.args.chain.now c.args.line.now (λ u. c.in-Err.ensures.err (λ m. absurd (cc (c.is_memory.ensures.1 m, c.if-is_memory.false))) u)
