use Rattle.std.proofs.Common.{sym}
use Rattle.json_members.proofs.BodyLemmas.{json_of-read, json_of-unread}
use Rattle.json_members.proofs.members.json_of.Goals as goal

pub returns-in-Ok : goal.returns-in-Ok
returns-in-Ok c = sym (json_of-read c.args.bytes.now _ c.in-Ok.ensures.ok.0 c.in-Ok.ensures.ok.1)

pub returns-else-is_memory : goal.returns-else-is_memory
returns-else-is_memory c = sym (json_of-unread c.args.bytes.now (λ u. c.in-Err.ensures.err (λ m. absurd (cc (c.is_memory.ensures.1 m, c.if-is_memory.false))) u))
