use Rattle.std.proofs.Common.{◌≡◌, ap, refl, sym, ◌∙◌, rules, arith, inl, length, List, ℕ}
use Rattle.std.proofs.lemmas.List.{length_push}
use Rattle.edge_kit.specs.declared.mem_disk.DiskStep.TheVariants.{Wrote}
use Rattle.edge_kit.specs.Disks.{overwrite}
use Rattle.edge_kit.proofs.MemDiskLemmas.{current_after, durable_stays, unsynced_stays, since_push, elapses_wrote}
use Rattle.edge_kit.specs.OnMemDisks.{next_call}
use Rattle.edge_kit.proofs.TurnLemmas.{goes_on, goes_last}
use Rattle.edge_kit.proofs.mem_disk.MemDiskDisk.write_at.Goals as goal

pub invariant_of-self-in-Stops : goal.invariant_of-self-in-Stops
invariant_of-self-in-Stops c =
    let d = c.args.self.now in
    let made = c.in-Ok-change.ensures in
    record {
      current = current_after d.first.items d.steps.items c.change.new.steps.items d.held.items c.change.new.held.items (Wrote c.args.at c.in-Ok.kept) d.current made.steps made.held;
      within = omega (arith, ap length made.steps, length_push d.steps.items (Wrote c.args.at c.in-Ok.kept));
      durable = durable_stays d.first.items d.steps.items c.change.new.steps.items d.synced (Wrote c.args.at c.in-Ok.kept) d.within made.steps d.durable;
      changes = unsynced_stays d.steps.items c.change.new.steps.items d.synced (Wrote c.args.at c.in-Ok.kept) d.within made.steps refl d.changes;
      room = λ some. made.room;
    }

pub invariant_of-self-in_default-turn : goal.invariant_of-self-in_default-turn
invariant_of-self-in_default-turn c =
    let d = c.args.self.now in
    let made = c.in-Ok-change.ensures in
    record {
      current = current_after d.first.items d.steps.items c.change.new.steps.items d.held.items c.change.new.held.items (Wrote c.args.at c.in-Ok.kept) d.current made.steps made.held;
      within = omega (arith, ap length made.steps, length_push d.steps.items (Wrote c.args.at c.in-Ok.kept));
      durable = durable_stays d.first.items d.steps.items c.change.new.steps.items d.synced (Wrote c.args.at c.in-Ok.kept) d.within made.steps d.durable;
      changes = unsynced_stays d.steps.items c.change.new.steps.items d.synced (Wrote c.args.at c.in-Ok.kept) d.within made.steps refl d.changes;
      room = λ some. made.room;
    }

pub returns-in-Stops-clause-time : goal.returns-in-Stops-clause-time
returns-in-Stops-clause-time c = let same : c.in-Ok.kept.items ≡ c.args.bytes.now = search rules in elapses_wrote c.args.self.now.first.items c.args.self.now.steps.items c.change.new.steps.items c.args.at c.in-Ok.kept c.args.bytes.now c.in-Ok-change.ensures.steps same

pub returns-clause-time : goal.returns-clause-time
returns-clause-time c = let same : c.in-Ok.kept.items ≡ c.args.bytes.now = search rules in elapses_wrote c.args.self.now.first.items c.args.self.now.steps.items c.change.new.steps.items c.args.at c.in-Ok.kept c.args.bytes.now c.in-Ok-change.ensures.steps same

pub returns-clause-shows : goal.returns-clause-shows
returns-clause-shows c =
    let same : c.in-Ok.kept.items ≡ c.args.bytes.now = search rules in
    λ b shown. (c.args.self.now.held.items, refl, shown ∙ c.in-Ok-change.ensures.held ∙ ap (λ (l : List ℕ). overwrite c.args.at l c.args.self.now.held.items) same)

pub returns-clause-goes : goal.returns-clause-goes
returns-clause-goes c =
    let same : c.in-Ok.kept.items ≡ c.args.bytes.now = search rules in
    goes_on _ _ _ _ (next_call c.args.self.now) _ (λ is. c.in_default.not-Fails (c.next_turn-turn.ensures.turn ∙ is)) (λ is. c.in_default-turn.not-Stops (c.next_turn-turn.ensures.turn ∙ is)) (
      c.in-Ok.kept,
      same,
      (
        record {
          first = refl;
          bytes = c.in-Ok-change.ensures.held;
          steps = c.in-Ok-change.ensures.steps;
          since = since_push c.args.self.now.steps.items c.change.new.steps.items c.args.self.now.synced (Wrote c.args.at c.in-Ok.kept) c.args.self.now.within c.in-Ok-change.ensures.steps;
        },
        refl,
      ),
    )

pub returns-in-Stops-clause-goes : goal.returns-in-Stops-clause-goes
returns-in-Stops-clause-goes c =
    let same : c.in-Ok.kept.items ≡ c.args.bytes.now = search rules in
    goes_last _ _ _ _ (next_call c.args.self.now) _ (sym c.next_turn-turn.ensures.turn ∙ c.in-Stops.is) (inl (
      c.in-Ok.kept,
      same,
      (
        record {
          first = refl;
          bytes = c.in-Ok-change.ensures.held;
          steps = c.in-Ok-change.ensures.steps;
          since = since_push c.args.self.now.steps.items c.change.new.steps.items c.args.self.now.synced (Wrote c.args.at c.in-Ok.kept) c.args.self.now.within c.in-Ok-change.ensures.steps;
        },
        refl,
      ),
    ))
