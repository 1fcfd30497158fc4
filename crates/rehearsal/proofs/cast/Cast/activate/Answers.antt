use Rattle.std.proofs.Common.{refl}
use Rattle.desk_machine.specs.declared.call.DeskCall.TheVariants as call
use Rattle.rehearsal.proofs.CastLemmas.{calls_at}
use Rattle.rehearsal.proofs.GoLemmas.{on_ok}
use Rattle.rehearsal.proofs.cast.Cast.activate.Goals as goal

pub returns : goal.returns
returns c =
    on_ok _ _ c.activate.result
    (λ asks. calls_at c.args.self.now _ c.args.client _ c.activate.new.self (call.Activate c.args.key c.args.now) (λ client r. refl) (record { within = c.requires.client; items = refl; was_there = c.index_mut.ensures.value }) refl refl asks) c.activate.ensures
