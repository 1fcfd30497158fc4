use Rattle.std.proofs.Common.{[], max, refl, ap, arith, subst}
use Rattle.record_replay.proofs.MessageLemmas.{recorded}
use Rattle.record_codec.specs.declared.version.JournalVersion.TheVariants.{One}
use Rattle.record_replay.specs.Batches.{message_items}
use Rattle.record_replay.specs.Items.{items_in}
use Rattle.desk_machine.specs.declared.call.DeskCall.TheVariants as call
use Rattle.desk_machine.specs.declared.call.DeskReply.TheVariants as reply
use Rattle.check_sign.specs.Calls.{IsOwn}
use Rattle.check_sign.specs.Contents.{Seen, disks_in}
use Rattle.check_sign.specs.Writing.{journal_of}
use Rattle.check_sign.proofs.DeskLemmas.{sized}
use Rattle.check_sign.proofs.LeaveLemmas.{later_watched}
use Rattle.check_sign.proofs.MachineLemmas.{opened}
use Rattle.check_sign.proofs.ProposalLemmas.{desk_moved}
use Rattle.check_sign.proofs.RecordLemmas.{fresh_of, plain_unable, unable_down, unable_step, unkept_plain, unkept_rose, unkept_step}
use Rattle.check_sign.proofs.RefusalLemmas.{counted_from, plain_counted, up_at}
use Rattle.check_sign.proofs.StepLemmas.{grown}
use Rattle.check_sign.proofs.desk.Desk.record_messages.Goals as goal

pub returns-in-Err-clause-machine : goal.returns-in-Err-clause-machine
returns-in-Err-clause-machine g c = λ state stands.
    let s = opened c.args.self.now _ state c.self.view_is stands in
    let held = later_watched _ state _ _ _ _ _ c.args.now s s.watches refl refl c.max-self-inside.ensures in
    unable_step _ state c.args.proposals c.args.now c.in-Err.bar held (c.in-Err.ensures.barred (record state { latest = max state.latest c.args.now }) held)

pub returns-in-Err-clause-counted : goal.returns-in-Err-clause-counted
returns-in-Err-clause-counted g c =
    counted_from c.args.self.now _ c.self.view_is (call.Record c.args.proposals c.args.now) c.in-Err.bar _
    (plain_counted _ _ _ _ (plain_unable c.args.proposals c.args.now _ c.in-Err.bar c.in-Err.ensures.bar) refl refl c.max-self-inside.ensures refl refl)

pub returns-in-Err-clause-rose : goal.returns-in-Err-clause-rose
returns-in-Err-clause-rose g c = λ disk up. unable_down _ c.in-Err.bar _ c.in-Err.ensures.bar disk (up_at c.args.self.now _ c.self.view_is up)

pub returns-in-Err-keep_messages-clause-machine : goal.returns-in-Err-keep_messages-clause-machine
returns-in-Err-keep_messages-clause-machine g c = λ state stands.
    let s = opened c.args.self.now _ state c.self.view_is stands in
    let held = later_watched _ state _ _ _ _ _ c.args.now s s.watches refl refl c.max-self-inside.ensures in
    let may = c.in-Ok.ensures.may (record state { latest = max state.latest c.args.now }) held in
    unkept_step g.D.Disk.faults c.self.inside.journal c.keep_messages.new.journal _ state c.self.inside.books c.args.proposals c.args.now c.in-Err-keep_messages.told c.in-Err-keep_messages.ensures.unkept
    may.1 s.keys s.payloads s.size c.self.invariant.0.size c.in-Ok.ensures.up may.0 refl refl refl (record {
      genesis = s.genesis;
      keys = c.in-Err-keep_messages.ensures.stands state.keys s.keys;
      states = s.states;
      grants = s.grants;
      next = s.next;
      latest = held.latest;
      watches = s.watches;
    })

pub returns-in-Err-keep_messages-clause-counted : goal.returns-in-Err-keep_messages-clause-counted
returns-in-Err-keep_messages-clause-counted g c =
    counted_from c.args.self.now _ c.self.view_is (call.Record c.args.proposals c.args.now) c.in-Err-keep_messages.told _
    (plain_counted _ _ _ _ (unkept_plain g.D.Disk.faults c.self.inside.journal c.keep_messages.new.journal c.self.inside.books c.args.proposals c.args.now c.in-Err-keep_messages.told c.in-Err-keep_messages.ensures.unkept) refl refl c.max-self-inside.ensures refl refl)

pub returns-in-Err-keep_messages-clause-rose : goal.returns-in-Err-keep_messages-clause-rose
returns-in-Err-keep_messages-clause-rose g c = λ disk up.
    unkept_rose g.D.Disk.faults c.self.inside.journal c.keep_messages.new.journal c.self.inside.books c.args.proposals c.in-Err-keep_messages.told _ c.in-Err-keep_messages.ensures.unkept disk (ap (λ d. disks_in d) c.self.view_is)

pub returns-in-Err-keep_messages-clause-moved : goal.returns-in-Err-keep_messages-clause-moved
returns-in-Err-keep_messages-clause-moved g c =
    desk_moved g.D.Disk.moment g.D.Disk.leaves g.D.Disk.faults c.args.self.now c.self.inside.journal c.keep_messages.new.journal c.self.inside.genesis.0 c.self.invariant.0.root (ap journal_of c.self.view_is) c.keep_messages.ensures.moved

pub invariant_of-self-in-Err-keep_messages : goal.invariant_of-self-in-Err-keep_messages
invariant_of-self-in-Err-keep_messages g c = (c.keep_messages.ensures.holds c.self.inside.genesis c.self.invariant.0, omega (arith, c.max-self-inside.ensures, c.self.invariant.1, c.requires.now))

pub invariant_of-self-2 : goal.invariant_of-self-2
invariant_of-self-2 g c = (c.keep_messages.ensures.holds c.self.inside.genesis c.self.invariant.0, omega (arith, c.max-self-inside.ensures, c.self.invariant.1, c.requires.now))

pub returns-clause-machine : goal.returns-clause-machine
returns-clause-machine g c = λ state stands.
    let s = opened c.args.self.now _ state c.self.view_is stands in
    let held = later_watched _ state _ _ _ _ _ c.args.now s s.watches refl refl c.max-self-inside.ensures in
    let may = c.in-Ok.ensures.may (record state { latest = max state.latest c.args.now }) held in
    let done = c.in-Ok-keep_messages.ensures in (
      (may.0, fresh_of state c.args.proposals may.1 (done.new state.keys s.keys), sized (message_items c.args.proposals) _ _ s.size done.wrote.0),
      grown g.D.Disk.faults c.self.inside.journal c.keep_messages.new.journal (message_items c.args.proposals) _ state _
          done.wrote s.size c.self.invariant.0.size refl refl refl
          (recorded (items_in One c.self.inside.journal.payloads) state.keys state.states [] c.args.proposals s.payloads.items (λ one at. (may.1 one at).0.0)) refl s.payloads.generation may.0
          (record {
            genesis = s.genesis;
            keys = done.taken state.keys s.keys;
            states = s.states;
            grants = s.grants;
            next = s.next;
            latest = held.latest;
            watches = s.watches;
          }),
    )

pub returns-clause-own : goal.returns-clause-own
returns-clause-own g c =
    let done = c.in-Ok-keep_messages.ensures in
    let P : Seen _ → Type 0 = λ d. IsOwn d.contents (call.Record c.args.proposals c.args.now) reply.Recorded (record {
      genesis = c.self.inside.genesis;
      keys = c.keep_messages.new.books;
      states = c.self.inside.states.entries;
      grants = c.self.inside.grants.grants;
      next = c.self.inside.grants.next;
      latest = c.max-self-inside.result;
      watches = c.self.inside.watches;
      events = c.note_record.new.events.items;
      payloads = c.keep_messages.new.journal.payloads;
      size = c.keep_messages.new.journal.size;
      torn = c.keep_messages.new.journal.torn;
    }) in
    subst P c.self.view_is (record {
      up = c.in-Ok.ensures.up;
      may_sign = λ one at. let m = c.in-Ok.ensures.own one at in record { up = m.up; kept = m.kept; active = m.active; allowed = m.allowed };
      unkept = done.own;
      is_written = ap (λ j. j.payloads) done.wrote.2;
      taken = done.taken_in;
      states = refl;
    })

pub returns-clause-moved : goal.returns-clause-moved
returns-clause-moved g c =
    desk_moved g.D.Disk.moment g.D.Disk.leaves g.D.Disk.faults c.args.self.now c.self.inside.journal c.keep_messages.new.journal c.self.inside.genesis.0 c.self.invariant.0.root (ap journal_of c.self.view_is) c.keep_messages.ensures.moved
