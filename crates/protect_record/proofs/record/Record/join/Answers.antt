use Rattle.protect_record.proofs.GainLemmas.{joined_stands, roomy_gathers}
use Rattle.protect_record.proofs.record.Record.join.Goals as goal

pub returns-clause-joined : goal.returns-clause-joined
returns-clause-joined c = roomy_gathers _ _ _ _ _ _ c.reserve.ensures.same c.join_reserved.ensures.joined

pub returns-clause-stands : goal.returns-clause-stands
returns-clause-stands c p q first second = joined_stands _ _ _ p q (returns-clause-joined c) first second
