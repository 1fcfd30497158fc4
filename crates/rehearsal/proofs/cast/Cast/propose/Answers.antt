use Rattle.rehearsal.proofs.CastLemmas.{proposes_at, refused_not_torn, sent_not_torn}
use Rattle.rehearsal.proofs.cast.Cast.propose.Goals as goal

pub returns-in-Sent : goal.returns-in-Sent
returns-in-Sent c = proposes_at c.args.self.now _ c.args.client c.args.key c.args.message c.args.now c.in_ok-vote.field-0 c.requires.client (sent_not_torn c.in_ok-vote.field-0 c.in-Sent.is) c.in_ok-vote.ensures

pub returns-in-Refused : goal.returns-in-Refused
returns-in-Refused c = proposes_at c.args.self.now _ c.args.client c.args.key c.args.message c.args.now c.in_ok-vote.field-0 c.requires.client (refused_not_torn c.in_ok-vote.field-0 c.in-Refused.is) c.in_ok-vote.ensures
