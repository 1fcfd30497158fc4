use Rattle.std.proofs.Common.{rules}
use Rattle.record_join.proofs.JudgeLemmas.{own_grows}
use Rattle.record_join.proofs.message.add.Goals as goal

pub returns-in-Some-clause-takes : goal.returns-in-Some-clause-takes
returns-in-Some-clause-takes c = record {
  parts = c.in-Some.record.now;
  is_kept = search rules;
  after = c.add.new.self;
  taken = record { added = c.add.ensures.added; stands = c.add.ensures.stands };
  is = search rules;
}

pub returns-in-Some-clause-stands : goal.returns-in-Some-clause-stands
returns-in-Some-clause-stands c = λ pasts stand. own_grows c.args.kept.now.entries _ pasts c.args.key.now c.args.message.now (returns-in-Some-clause-takes c) stand
