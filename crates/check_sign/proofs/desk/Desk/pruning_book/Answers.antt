use Rattle.std.proofs.Common.{rules}
use Rattle.check_sign.proofs.MachineLemmas.{opened, none_at, some_at, is_some_of}
use Rattle.check_sign.proofs.ProposalLemmas.{is_up}
use Rattle.check_sign.proofs.desk.Desk.pruning_book.Goals as goal

pub returns-in_default-clause-machine : goal.returns-in_default-clause-machine
returns-in_default-clause-machine g c = λ state stands.
    let s = opened c.args.self.now _ state c.self.view_is stands in
    ((is_up _ state c.failed.result s c.failed.ensures c.if-failed.false, none_at c.self.inside.books state.keys c.args.key.now s.keys (search rules)), stands)

pub returns-in-Err-clause-machine : goal.returns-in-Err-clause-machine
returns-in-Err-clause-machine g c = λ state stands.
    let s = opened c.args.self.now _ state c.self.view_is stands in
    let at = some_at c.self.inside.books state.keys c.args.key.now c.in-Some.record.now s.keys (search rules) in
    ((is_up _ state c.failed.result s c.failed.ensures c.if-failed.false, is_some_of _ at.0 at.1), stands)
