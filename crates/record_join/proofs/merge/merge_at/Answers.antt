use Rattle.std.proofs.Common.{rules}
use Rattle.record_join.proofs.merge.merge_at.Goals as goal

pub returns-in-Some-clause-takes : goal.returns-in-Some-clause-takes
returns-in-Some-clause-takes c = record {
  parts = c.in-Some.record.now;
  is_kept = search rules;
  after = c.merge_reserved.new.self;
  taken = record { merged = c.merge_reserved.ensures.merged; stands = c.merge_reserved.ensures.stands };
  is = search rules;
}
