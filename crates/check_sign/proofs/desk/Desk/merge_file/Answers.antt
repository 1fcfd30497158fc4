use Rattle.std.proofs.Common.{[], ◌≡◌, refl, ◌∙◌, ap, rules}
use Rattle.interchange_io.specs.WrittenOrder.{canonical}
use Rattle.record_replay.proofs.ChangeLemmas.{merged}
use Rattle.record_codec.specs.declared.version.JournalVersion.TheVariants.{One}
use Rattle.record_replay.specs.Batches.{file_items}
use Rattle.record_replay.specs.Items.{items_in}
use Rattle.desk_machine.specs.declared.call.DeskCall.TheVariants as call
use Rattle.check_sign.specs.Contents.{disks_in}
use Rattle.check_sign.specs.Writing.{journal_of}
use Rattle.check_sign.proofs.DeskLemmas.{none_of, sized}
use Rattle.check_sign.proofs.MachineLemmas.{opened, fits_file}
use Rattle.check_sign.proofs.MergeLemmas.{plain_ungained, ungained_rose, ungained_step}
use Rattle.check_sign.proofs.ProposalLemmas.{desk_moved}
use Rattle.check_sign.proofs.RefusalLemmas.{counted_from, plain_counted}
use Rattle.check_sign.proofs.StepLemmas.{grown, up_state}
use Rattle.check_sign.proofs.desk.Desk.merge_file.Goals as goal

pub returns-in-Err-clause-machine : goal.returns-in-Err-clause-machine
returns-in-Err-clause-machine g c = λ state stands.
    let s = opened c.args.self.now _ state c.self.view_is stands in
    let same : c.args.file.genesis ≡ c.self.inside.genesis = search rules in
    let clean = none_of c.failed.result c.self.inside.journal.torn c.failed.ensures c.if-failed.false in
    ungained_step g.D.Disk.faults c.self.inside.journal c.gain_file.new.journal _ state c.self.inside.books c.args.file c.in-Err.told c.in-Err.ensures.ungained (same ∙ s.genesis) c.requires s.keys s.payloads s.size c.self.invariant.0.size clean
    (up_state _ _ s.torn clean) refl refl refl (record {
      genesis = s.genesis;
      keys = c.in-Err.ensures.kept state.keys s.keys;
      states = s.states;
      grants = s.grants;
      next = s.next;
      latest = s.latest;
      watches = s.watches;
    })

pub returns-in-Err-clause-counted : goal.returns-in-Err-clause-counted
returns-in-Err-clause-counted g c =
    counted_from c.args.self.now _ c.self.view_is (call.Merge c.args.file) c.in-Err.told _
    (plain_counted _ _ _ _ (plain_ungained g.D.Disk.faults c.self.inside.journal c.gain_file.new.journal c.self.inside.books c.args.file c.in-Err.told c.in-Err.ensures.ungained) refl refl refl refl refl)

pub returns-in-Err-clause-rose : goal.returns-in-Err-clause-rose
returns-in-Err-clause-rose g c = λ disk up.
    ungained_rose g.D.Disk.faults c.self.inside.journal c.gain_file.new.journal c.self.inside.books c.args.file c.in-Err.told _ c.in-Err.ensures.ungained disk (ap (λ d. disks_in d) c.self.view_is)

pub returns-in-Err-clause-moved : goal.returns-in-Err-clause-moved
returns-in-Err-clause-moved g c =
    desk_moved g.D.Disk.moment g.D.Disk.leaves g.D.Disk.faults c.args.self.now c.self.inside.journal c.gain_file.new.journal c.self.inside.genesis.0 c.self.invariant.0.root (ap journal_of c.self.view_is) c.gain_file.ensures.moved

pub invariant_of-self-2 : goal.invariant_of-self-2
invariant_of-self-2 g c = (c.gain_file.ensures.holds c.self.inside.genesis c.self.invariant.0, c.self.invariant.1)

pub returns-clause-machine : goal.returns-clause-machine
returns-clause-machine g c = λ state stands.
    let s = opened c.args.self.now _ state c.self.view_is stands in
    let same : c.args.file.genesis ≡ c.self.inside.genesis = search rules in
    let clean = none_of c.failed.result c.self.inside.journal.torn c.failed.ensures c.if-failed.false in
    let up = up_state _ _ s.torn clean in
    let done = c.in-Ok.ensures in (
      ((up, (same ∙ s.genesis, fits_file c.self.inside.books state.keys c.args.file.books s.keys done.within), sized (file_items (canonical c.args.file).books) _ _ s.size done.wrote.0), c.len-keys.ensures),
      grown g.D.Disk.faults c.self.inside.journal c.gain_file.new.journal (file_items (canonical c.args.file).books) _ state _
          done.wrote s.size c.self.invariant.0.size refl refl refl
          (merged (items_in One c.self.inside.journal.payloads) state.keys state.states [] s.payloads.items c.args.file c.requires) refl s.payloads.generation up
          (record {
            genesis = s.genesis;
            keys = done.gained state.keys s.keys;
            states = s.states;
            grants = s.grants;
            next = s.next;
            latest = s.latest;
            watches = s.watches;
          }),
    )

pub returns-clause-moved : goal.returns-clause-moved
returns-clause-moved g c =
    desk_moved g.D.Disk.moment g.D.Disk.leaves g.D.Disk.faults c.args.self.now c.self.inside.journal c.gain_file.new.journal c.self.inside.genesis.0 c.self.invariant.0.root (ap journal_of c.self.view_is) c.gain_file.ensures.moved
