use Rattle.std.proofs.Common.{refl, ap, ◌+◌}
use Rattle.rehearsal.proofs.CastLemmas.{votes_at}
use Rattle.rehearsal.proofs.cast.Cast.vote.Goals as goal

pub returns : goal.returns
returns c =
    votes_at c.args.self.now _ c.args.client _ c.propose.new.self c.args.key c.args.message c.args.now _ (record { within = c.requires.client; items = refl; was_there = c.index_mut.ensures.value }) c.in_ok-voted.ensures
    (ap (λ n. c.args.self.now.refused + n) c.refusals.ensures)
