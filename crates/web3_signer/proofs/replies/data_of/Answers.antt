use Rattle.std.proofs.Common.{sym}
use Rattle.web3_signer.proofs.ReadingLemmas.{data_of-read, data_of-unread}
use Rattle.web3_signer.proofs.replies.data_of.Goals as goal

pub returns-in-Ok : goal.returns-in-Ok
returns-in-Ok c = sym (data_of-read c.args.bytes.now _ c.in-Ok.ensures.ok.0 c.in-Ok.ensures.ok.1)

pub returns-else-is_memory : goal.returns-else-is_memory
returns-else-is_memory c = sym (data_of-unread c.args.bytes.now (λ u. c.in-Err.ensures.err (λ m. absurd (cc (c.is_memory.ensures.1 m, c.if-is_memory.false))) u))
