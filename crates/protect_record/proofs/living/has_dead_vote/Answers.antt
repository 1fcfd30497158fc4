use Rattle.protect_record.proofs.LiveLemmas.{floor_lives}
use Rattle.protect_record.proofs.living.has_dead_vote.Goals as goal

pub returns-then-entry-floor : goal.returns-then-entry-floor
returns-then-entry-floor c = floor_lives c.args.floors c.args.votes.now c.requires c.in-Some.field-0-0 c.in-Some.floor c.in-Some.is c.loop-entry.entry-index _ c.loop-entry-test.true c.loop-entry.invariant c.if-entry-floor.true
