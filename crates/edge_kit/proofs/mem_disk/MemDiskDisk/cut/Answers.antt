use Rattle.std.proofs.Common.{ap, refl, ◌∙◌, arith, length}
use Rattle.std.proofs.lemmas.List.{length_push}
use Rattle.edge_kit.specs.declared.mem_disk.DiskStep.TheVariants.{Shortened}
use Rattle.edge_kit.proofs.MemDiskLemmas.{current_after, durable_stays, unsynced_stays, elapses_cut}
use Rattle.edge_kit.proofs.mem_disk.MemDiskDisk.cut.Goals as goal

pub invariant_of-self-in-Stops : goal.invariant_of-self-in-Stops
invariant_of-self-in-Stops c =
    let d = c.args.self.now in
    let made = c.in-Ok.ensures in
    record {
      current = current_after d.first.items d.steps.items c.change.new.steps.items d.held.items c.change.new.held.items (Shortened c.args.len) d.current made.steps made.held;
      within = omega (arith, ap length made.steps, length_push d.steps.items (Shortened c.args.len));
      durable = durable_stays d.first.items d.steps.items c.change.new.steps.items d.synced (Shortened c.args.len) d.within made.steps d.durable;
      changes = unsynced_stays d.steps.items c.change.new.steps.items d.synced (Shortened c.args.len) d.within made.steps refl d.changes;
      room = λ some. made.room;
    }

pub invariant_of-self-in_default-turn : goal.invariant_of-self-in_default-turn
invariant_of-self-in_default-turn c =
    let d = c.args.self.now in
    let made = c.in-Ok.ensures in
    record {
      current = current_after d.first.items d.steps.items c.change.new.steps.items d.held.items c.change.new.held.items (Shortened c.args.len) d.current made.steps made.held;
      within = omega (arith, ap length made.steps, length_push d.steps.items (Shortened c.args.len));
      durable = durable_stays d.first.items d.steps.items c.change.new.steps.items d.synced (Shortened c.args.len) d.within made.steps d.durable;
      changes = unsynced_stays d.steps.items c.change.new.steps.items d.synced (Shortened c.args.len) d.within made.steps refl d.changes;
      room = λ some. made.room;
    }

pub returns-in-Stops-clause-time : goal.returns-in-Stops-clause-time
returns-in-Stops-clause-time c = elapses_cut c.args.self.now.first.items c.args.self.now.steps.items c.change.new.steps.items c.args.len c.in-Ok.ensures.steps

pub returns-clause-time : goal.returns-clause-time
returns-clause-time c = elapses_cut c.args.self.now.first.items c.args.self.now.steps.items c.change.new.steps.items c.args.len c.in-Ok.ensures.steps

pub returns-clause-shows : goal.returns-clause-shows
returns-clause-shows c = λ b shown. (c.args.self.now.held.items, refl, shown ∙ c.in-Ok.ensures.held)
