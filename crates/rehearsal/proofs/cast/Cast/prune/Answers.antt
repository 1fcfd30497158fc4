use Rattle.std.proofs.Common.{refl}
use Rattle.desk_machine.specs.declared.call.DeskCall.TheVariants as call
use Rattle.rehearsal.proofs.CastLemmas.{calls_at, prunes_at}
use Rattle.rehearsal.proofs.cast.Cast.prune.Goals as goal

pub returns : goal.returns
returns c = λ now.
    let calls = calls_at c.args.self.now _ c.args.client _ c.prune.new.self (call.Prune c.args.key) (λ client r. refl) (record { within = c.requires.client; items = refl; was_there = c.index_mut.ensures.value }) refl refl c.in_ok-prune.ensures in
    prunes_at c.args.self.now _ c.args.client now c.args.key c.requires.client calls
