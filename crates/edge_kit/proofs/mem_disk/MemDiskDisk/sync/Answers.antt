use Rattle.std.proofs.Common.{◌≡◌, ◌<◌, refl, rules, arith, length, drop}
use Rattle.std.proofs.lemmas.List.{length-drop, drop_all}
use Rattle.edge_kit.specs.declared.mem_disk.DiskStep.TheVariants.{Synced}
use Rattle.edge_kit.proofs.MemDiskLemmas.{current_after, durable_synced, unsynced_synced, elapses_synced, sync_kept, sync_left_out}
use Rattle.edge_kit.proofs.mem_disk.MemDiskDisk.sync.Goals as goal

pub invariant_of-self-2 : goal.invariant_of-self-2
invariant_of-self-2 c =
    let d = c.args.self.now in
    let all : c.len-self.result ≡ length c.keep.new.steps.items = search rules in
    record {
      current = current_after d.first.items d.steps.items c.keep.new.steps.items d.held.items d.held.items Synced d.current c.keep.ensures.steps refl;
      within = omega (arith, all);
      durable = durable_synced d.first.items d.steps.items c.keep.new.steps.items c.len-self.result all c.keep.ensures.steps;
      changes = unsynced_synced c.keep.new.steps.items c.len-self.result all;
      room = λ some. absurd (omega (arith, all));
    }

pub returns-clause-time : goal.returns-clause-time
returns-clause-time c = elapses_synced c.args.self.now.first.items c.args.self.now.steps.items c.keep.new.steps.items c.keep.ensures.steps

pub returns-clause-kept : goal.returns-clause-kept
returns-clause-kept c =
    let d = c.args.self.now in
    let all : c.len-self.result ≡ length c.keep.new.steps.items = search rules in
    let some : 0 < length (drop d.synced d.steps.items) = omega (arith, length-drop d.synced d.steps.items, d.within) in
    record { first = refl; bytes = refl; lacks = refl; steps = sync_kept (drop d.synced d.steps.items) d.steps.items c.keep.new.steps.items some c.keep.ensures.steps; since = drop_all c.len-self.result c.keep.new.steps.items (omega (arith, all)) }

pub returns-then-self-len-clause-kept : goal.returns-then-self-len-clause-kept
returns-then-self-len-clause-kept c =
    let d = c.args.self.now in
    let all : d.synced ≡ length d.steps.items = search rules in
    record { first = refl; bytes = refl; lacks = refl; steps = sync_left_out d.steps.items d.synced all; since = drop_all d.synced d.steps.items (omega (arith, all)) }
