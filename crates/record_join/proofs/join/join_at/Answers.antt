use Rattle.std.proofs.Common.{rules}
use Rattle.record_join.proofs.CopyLemmas.{copied_of}
use Rattle.record_join.proofs.join.join_at.Goals as goal

pub returns-in-Some-clause-takes : goal.returns-in-Some-clause-takes
returns-in-Some-clause-takes c = record {
  parts = c.in-Some.record.now;
  is_kept = search rules;
  after = c.join_reserved.new.self;
  taken = record { joined = c.join_reserved.ensures.joined; copied = copied_of _ _ _ c.join_laws.ensures.idempotent c.floors.ensures.well_kept c.join_reserved.ensures.joined; stands = c.join_reserved.ensures.stands };
  is = search rules;
}
