use Rattle.protect_record.proofs.GainLemmas.{merged_stands, roomy_gathers}
use Rattle.protect_record.proofs.record.Record.merge_book.Goals as goal

pub returns-clause-merged : goal.returns-clause-merged
returns-clause-merged c = roomy_gathers _ _ _ _ _ _ c.reserve.ensures.same c.merge_reserved.ensures.merged

pub returns-clause-stands : goal.returns-clause-stands
returns-clause-stands c past stands = merged_stands _ _ past _ (returns-clause-merged c) stands
