use Rattle.std.proofs.Common.{◌≡◌, ap, subst, refl, map, ℕ, List, Vec, Global, Ok, Err}
use Rattle.journal_frames.proofs.Made.{bad_tag}
use Rattle.key_snapshot.proofs.RestoreLemmas.{items_read}
use Rattle.record_journal.specs.Journals.{Compacted, Journaled, next_payloads}
use Rattle.record_journal.specs.declared.compact.CompactFault.{CompactFault}
use Rattle.record_journal.specs.declared.compact.CompactFault.TheVariants as fault
use Rattle.check_sign.specs.Writing.{journal_of}
use Rattle.check_sign.proofs.CompactSteps.{compact_keeps, compact_step, is_snapshot}
use Rattle.check_sign.proofs.MachineLemmas.{opened}
use Rattle.check_sign.proofs.ProposalLemmas.{desk_keeps}
use Rattle.check_sign.proofs.RefusalLemmas.{not_failed, up_at}
use Rattle.check_sign.proofs.StepLemmas.{up_state}
use Rattle.check_sign.proofs.desk.Desk.compact_journal.Goals as goal

pub returns-in-Err-clause-machine : goal.returns-in-Err-clause-machine
returns-in-Err-clause-machine g c = c.in-Err.ensures.machine

pub returns-in-Err-clause-counted : goal.returns-in-Err-clause-counted
returns-in-Err-clause-counted g c = c.in-Err.ensures.counted

pub returns-in-Err-clause-own : goal.returns-in-Err-clause-own
returns-in-Err-clause-own g c = c.in-Err.ensures.own

pub returns-in-Err-clause-disks : goal.returns-in-Err-clause-disks
returns-in-Err-clause-disks g c = c.in-Err.ensures.disks

pub returns-in-Err-clause-rose : goal.returns-in-Err-clause-rose
returns-in-Err-clause-rose g c = λ disk up. not_failed c.args.self.now.contents c.in-Err.bar _ c.in-Err.ensures.failed disk up

-- as the fault is
module _ {D : Type 0} (faults : D → ℕ) (old new : Journaled D) (qs : List (List ℕ)) (f g : CompactFault) where
  ends_by : f ≡ g → Compacted faults old qs new (Err f) → Compacted faults old qs new (Err g)
  ends_by is ends = subst (λ (x : CompactFault). Compacted faults old qs new (Err x)) is ends

abbrev bytes_of : Vec ℕ Global → List ℕ
bytes_of v = v.items

pub returns-in-Ok-compact-clause-machine : goal.returns-in-Ok-compact-clause-machine
returns-in-Ok-compact-clause-machine g c = λ state stands.
    let s = opened c.args.self.now _ state c.self.view_is stands in
    let clean = (up_at c.args.self.now _ c.self.view_is c.in-Ok.ensures.up) in
    let snapshot = is_snapshot _ state s (map bytes_of c.in-Ok-snapshot_payloads.snapshot.items) c.in-Ok-snapshot_payloads.ensures bad_tag items_read c.pair_law.ensures.next in
    compact_step g.D.Disk.faults c.self.inside.journal c.compact.new.self _ state (map bytes_of c.in-Ok-snapshot_payloads.snapshot.items) snapshot clean (up_state _ _ s.torn clean) s.size s.payloads refl refl refl (record {
      genesis = s.genesis;
      keys = s.keys;
      states = s.states;
      grants = s.grants;
      next = s.next;
      latest = s.latest;
      watches = s.watches;
    }) (Ok (c.in-Ok-compact.before, c.in-Ok-compact.after)) c.in-Ok-compact.ensures.ends

pub returns-in-Ok-compact-clause-keeps : goal.returns-in-Ok-compact-clause-keeps
returns-in-Ok-compact-clause-keeps g c =
    let clean = (up_at c.args.self.now _ c.self.view_is c.in-Ok.ensures.up) in
    let e = c.in-Ok-compact.ensures in
    desk_keeps g.D.Disk.moment g.D.Disk.leaves g.D.Disk.faults c.args.self.now c.self.inside.journal c.compact.new.self c.self.inside.genesis.0 c.self.invariant.0.root (ap journal_of c.self.view_is)
    (compact_keeps g.D.Disk.faults c.self.inside.journal c.compact.new.self (next_payloads c.self.inside.journal.payloads (map bytes_of c.in-Ok-snapshot_payloads.snapshot.items)) clean g.D.Disk.moment g.D.Disk.leaves (Ok (c.in-Ok-compact.before, c.in-Ok-compact.after)) e.ends e.any_moment e.left e.later)

pub returns-in-Err-Disk-clause-machine : goal.returns-in-Err-Disk-clause-machine
returns-in-Err-Disk-clause-machine g c = λ state stands.
    let s = opened c.args.self.now _ state c.self.view_is stands in
    let clean = (up_at c.args.self.now _ c.self.view_is c.in-Ok.ensures.up) in
    let snapshot = is_snapshot _ state s (map bytes_of c.in-Ok-snapshot_payloads.snapshot.items) c.in-Ok-snapshot_payloads.ensures bad_tag items_read c.pair_law.ensures.next in
    compact_step g.D.Disk.faults c.self.inside.journal c.compact.new.self _ state (map bytes_of c.in-Ok-snapshot_payloads.snapshot.items) snapshot clean (up_state _ _ s.torn clean) s.size s.payloads refl refl refl (record {
      genesis = s.genesis;
      keys = s.keys;
      states = s.states;
      grants = s.grants;
      next = s.next;
      latest = s.latest;
      watches = s.watches;
    }) (Err fault.Disk) (ends_by g.D.Disk.faults c.self.inside.journal c.compact.new.self (next_payloads c.self.inside.journal.payloads (map bytes_of c.in-Ok-snapshot_payloads.snapshot.items)) c.in-Err-Disk.field-0 fault.Disk c.in-Err-Disk.field-0-is c.in-Err-Disk.ensures.ends)

pub returns-in-Err-Disk-clause-keeps : goal.returns-in-Err-Disk-clause-keeps
returns-in-Err-Disk-clause-keeps g c =
    let clean = (up_at c.args.self.now _ c.self.view_is c.in-Ok.ensures.up) in
    let e = c.in-Err-Disk.ensures in
    desk_keeps g.D.Disk.moment g.D.Disk.leaves g.D.Disk.faults c.args.self.now c.self.inside.journal c.compact.new.self c.self.inside.genesis.0 c.self.invariant.0.root (ap journal_of c.self.view_is)
    (compact_keeps g.D.Disk.faults c.self.inside.journal c.compact.new.self (next_payloads c.self.inside.journal.payloads (map bytes_of c.in-Ok-snapshot_payloads.snapshot.items)) clean g.D.Disk.moment g.D.Disk.leaves (Err fault.Disk) (ends_by g.D.Disk.faults c.self.inside.journal c.compact.new.self (next_payloads c.self.inside.journal.payloads (map bytes_of c.in-Ok-snapshot_payloads.snapshot.items)) c.in-Err-Disk.field-0 fault.Disk c.in-Err-Disk.field-0-is e.ends) e.any_moment e.left e.later)

pub returns-in-Err-Full-clause-machine : goal.returns-in-Err-Full-clause-machine
returns-in-Err-Full-clause-machine g c = λ state stands.
    let s = opened c.args.self.now _ state c.self.view_is stands in
    let clean = (up_at c.args.self.now _ c.self.view_is c.in-Ok.ensures.up) in
    let snapshot = is_snapshot _ state s (map bytes_of c.in-Ok-snapshot_payloads.snapshot.items) c.in-Ok-snapshot_payloads.ensures bad_tag items_read c.pair_law.ensures.next in
    compact_step g.D.Disk.faults c.self.inside.journal c.compact.new.self _ state (map bytes_of c.in-Ok-snapshot_payloads.snapshot.items) snapshot clean (up_state _ _ s.torn clean) s.size s.payloads refl refl refl (record {
      genesis = s.genesis;
      keys = s.keys;
      states = s.states;
      grants = s.grants;
      next = s.next;
      latest = s.latest;
      watches = s.watches;
    }) (Err (fault.Full c.in-Err-Full.size c.in-Err-Full.wanted)) (ends_by g.D.Disk.faults c.self.inside.journal c.compact.new.self (next_payloads c.self.inside.journal.payloads (map bytes_of c.in-Ok-snapshot_payloads.snapshot.items)) c.in-Err-Full.field-0 (fault.Full c.in-Err-Full.size c.in-Err-Full.wanted) c.in-Err-Full.field-0-is c.in-Err-Full.ensures.ends)
