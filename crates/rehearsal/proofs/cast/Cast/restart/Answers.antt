use Rattle.std.proofs.Common.{refl, sym, ◌∙◌}
use Rattle.rehearsal.proofs.CastLemmas.{restarted_at}
use Rattle.rehearsal.proofs.WorldLemmas.{inserted}
use Rattle.rehearsal.proofs.cast.Cast.restart.Goals as goal

pub returns : goal.returns
returns c =
    let items = inserted c.insert.result c.args.self.now.clients.items c.remove.new.self.items _ c.args.client c.in_ok-started.started (sym c.is_err.ensures.value ∙ c.if-is_err.false) c.remove.ensures.items c.insert.ensures.items c.requires.client in
    restarted_at c.args.self.now _ c.args.client c.remove.result c.in_ok-started.started c.args.now (record { within = c.requires.client; items = items; was_there = c.remove.ensures.value }) refl refl c.in_ok-started.ensures
