use Rattle.record_journal.proofs.Opening.{refused_first, refused_second}
use Rattle.record_journal.proofs.choose.decide.Goals as goal

pub returns-in-Err-clause-fault : goal.returns-in-Err-clause-fault
returns-in-Err-clause-fault c = λ a b is is_too. refused_first c.args.root.now a b c.in-Err.fault (c.in-Err.ensures a is)

pub returns-in-Err-begun_or-clause-fault : goal.returns-in-Err-begun_or-clause-fault
returns-in-Err-begun_or-clause-fault c =
    λ a b is is_too. refused_second c.args.root.now a b c.in-Ok.begun c.in-Err-begun_or.fault (c.in-Ok.ensures a is).0 (c.in-Err-begun_or.ensures b is_too)

pub returns-clause-first : goal.returns-clause-first
returns-clause-first c = λ a is. c.choose.ensures.first c.args.root.now a (c.in-Ok.ensures a is).0

pub returns-clause-second : goal.returns-clause-second
returns-clause-second c = λ b is. c.choose.ensures.second c.args.root.now b (c.in-Ok-begun_or.ensures b is).0

pub choose-requires-clause-first : goal.choose-requires-clause-first
choose-requires-clause-first c = (c.in-Ok.ensures c.requires.one.0 c.requires.one.1).1

pub choose-requires-clause-second : goal.choose-requires-clause-second
choose-requires-clause-second c = (c.in-Ok-begun_or.ensures c.requires.other.0 c.requires.other.1).1
