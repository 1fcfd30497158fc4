use Rattle.std.proofs.Common.{ℕ, arith, List, [], ◌∷◌, refl, sym, ◌∙◌, ap, subst, max}
use Rattle.record_join.specs.Keys.{with_key}
use Rattle.record_codec.specs.declared.version.JournalVersion.TheVariants.{One}
use Rattle.record_codec.specs.declared.item.JournalItem.{JournalItem}
use Rattle.record_codec.specs.declared.item.JournalItem.TheVariants as item
use Rattle.record_replay.proofs.ChangeLemmas.{undated}
use Rattle.record_replay.specs.Items.{items_in}
use Rattle.record_replay.specs.declared.state.KeyState.TheVariants.{Active}
use Rattle.desk_machine.specs.Watches.{WatchesStand, with_begun}
use Rattle.desk_machine.specs.Machine.{Reply, after}
use Rattle.desk_machine.specs.Written.{HasRoomFor}
use Rattle.desk_machine.specs.declared.call.DeskCall.TheVariants as call
use Rattle.check_sign.specs.Contents.{disks_in}
use Rattle.check_sign.specs.Writing.{journal_of}
use Rattle.check_sign.proofs.DeskLemmas.{by_reply}
use Rattle.check_sign.proofs.MachineLemmas.{opened}
use Rattle.check_sign.proofs.StepLemmas.{up_state, grown}
use Rattle.check_sign.proofs.MarkLemmas.{later}
use Rattle.check_sign.proofs.ProposalLemmas.{desk_moved, rose_from}
use Rattle.check_sign.proofs.RefusalLemmas.{counted_from, later_counted, later_step, not_failed, plain_activation, plain_counted, up_at}
use Rattle.check_sign.proofs.desk.Desk.activate_key.Goals as goal

pub returns-in-Err-clause-machine : goal.returns-in-Err-clause-machine
returns-in-Err-clause-machine g c = later_step c.args.self.now _ c.self.view_is (call.Activate c.args.key c.args.now) c.in-Err.bar c.args.now _ c.max-self-inside.ensures (c.in-Err.ensures.machine c.args.now)

pub returns-in-Err-clause-counted : goal.returns-in-Err-clause-counted
returns-in-Err-clause-counted g c = later_counted c.args.self.now _ c.self.view_is (call.Activate c.args.key c.args.now) c.in-Err.bar c.args.now _ c.max-self-inside.ensures (c.in-Err.ensures.counted c.args.now)

pub returns-in-Err-clause-rose : goal.returns-in-Err-clause-rose
returns-in-Err-clause-rose g c = λ disk up. not_failed c.args.self.now.contents c.in-Err.bar _ c.in-Err.ensures.failed disk up

pub returns-in_default-clause-machine : goal.returns-in_default-clause-machine
returns-in_default-clause-machine g c = λ state stands.
    let s = opened c.args.self.now _ state c.self.view_is stands in (
      (up_state _ state.torn s.torn (up_at c.args.self.now _ c.self.view_is c.in-Ok.ensures.up), c.in-Ok.ensures.may state stands),
      later _ state _ _ _ _ _ _ _ c.args.now s s.keys refl refl refl (c.reserve.ensures.stands state.watching s.watches) c.max-self-inside.ensures,
    )

pub returns-in-Err-write_active-clause-machine : goal.returns-in-Err-write_active-clause-machine
returns-in-Err-write_active-clause-machine g c = λ state stands.
    let s = opened c.args.self.now _ state c.self.view_is stands in
    let told = c.in-Err-write_active.ensures.wrote in
    by_reply g.D.Disk.faults c.self.inside.journal c.write_active.new.journal (item.ActivateUndated c.args.key ∷ []) _ state (call.Activate c.args.key c.args.now) c.in-Err-write_active.told told.0
    (λ r. Reply state (call.Activate c.args.key c.args.now) r) (λ r. after state (call.Activate c.args.key c.args.now) r)
    told.1 told.2 s.payloads s.size c.self.invariant.0.size (up_at c.args.self.now _ c.self.view_is c.in-Ok.ensures.up) (up_state _ state.torn s.torn (up_at c.args.self.now _ c.self.view_is c.in-Ok.ensures.up)) refl refl refl (c.in-Ok.ensures.may state stands) refl
    (undated (items_in One c.self.inside.journal.payloads) state.keys state.states [] s.payloads.items c.args.key) refl refl (λ h. h) (λ n w h. h) (λ h. h) (λ h. h) (λ n w h. h) refl refl (λ n w. refl) (record {
      genesis = s.genesis;
      keys = c.in-Err-write_active.ensures.kept state.keys s.keys;
      states = c.in-Err-write_active.ensures.unmarked ∙ s.states;
      grants = s.grants;
      next = s.next;
      latest = c.max-self-inside.ensures ∙ ap (λ m. max m c.args.now) s.latest;
      watches = c.reserve.ensures.stands state.watching s.watches;
    })

pub returns-in-Err-write_active-clause-counted : goal.returns-in-Err-write_active-clause-counted
returns-in-Err-write_active-clause-counted g c =
    let told = c.in-Err-write_active.ensures.wrote in
    counted_from c.args.self.now _ c.self.view_is (call.Activate c.args.key c.args.now) c.in-Err-write_active.told _ (plain_counted _ _ _ _ (plain_activation c.args.key c.args.now c.in-Err-write_active.told told.0 told.1) refl refl c.max-self-inside.ensures refl refl)

pub returns-in-Err-write_active-clause-rose : goal.returns-in-Err-write_active-clause-rose
returns-in-Err-write_active-clause-rose g c = λ disk up.
    let told = c.in-Err-write_active.ensures.wrote in
    rose_from g.D.Disk.faults c.self.inside.journal c.write_active.new.journal (item.ActivateUndated c.args.key ∷ []) _ told.0 told.2 (sym told.1 ∙ disk) (ap (λ d. disks_in d) c.self.view_is)

pub returns-in-Err-write_active-clause-moved : goal.returns-in-Err-write_active-clause-moved
returns-in-Err-write_active-clause-moved g c =
    desk_moved g.D.Disk.moment g.D.Disk.leaves g.D.Disk.faults c.args.self.now c.self.inside.journal c.write_active.new.journal c.self.inside.genesis.0 c.self.invariant.0.root (ap journal_of c.self.view_is) c.write_active.ensures.moved

pub invariant_of-self-2 : goal.invariant_of-self-2
invariant_of-self-2 g c = (c.write_active.ensures.holds c.self.inside.genesis c.self.invariant.0, omega (arith, c.max-self-inside.ensures, c.self.invariant.1, c.requires))

pub returns-clause-machine : goal.returns-clause-machine
returns-clause-machine g c = λ state stands.
    let s = opened c.args.self.now _ state c.self.view_is stands in
    let up = up_state _ state.torn s.torn (up_at c.args.self.now _ c.self.view_is c.in-Ok.ensures.up) in
    let items : List JournalItem = item.ActivateUndated c.args.key ∷ [] in
    let wrote = c.in-Ok-write_active.ensures.wrote in
    let moment = c.max-self-inside.ensures ∙ ap (λ m. max m c.args.now) s.latest in
    let W : ℕ → Type 0 = λ n. WatchesStand c.begin.new.self (with_begun state.watching c.args.key n) in
    let watched = subst W moment (c.begin.ensures.stands state.watching (c.reserve.ensures.stands state.watching s.watches)) in
    let H : ℕ → Type 0 = λ n. HasRoomFor n items in (
      (up, c.in-Ok.ensures.may state stands, subst H s.size wrote.0),
      grown g.D.Disk.faults c.self.inside.journal c.write_active.new.journal items _ state _ wrote s.size c.self.invariant.0.size refl refl refl
          (undated (items_in One c.self.inside.journal.payloads) state.keys state.states [] s.payloads.items c.args.key) refl s.payloads.generation up (record {
            genesis = s.genesis;
            keys = c.in-Ok-write_active.ensures.known state.keys s.keys;
            states = c.in-Ok-write_active.ensures.active ∙ ap (λ l. with_key l c.args.key Active) s.states;
            grants = s.grants;
            next = s.next;
            latest = moment;
            watches = watched;
          }),
    )

pub returns-clause-moved : goal.returns-clause-moved
returns-clause-moved g c =
    desk_moved g.D.Disk.moment g.D.Disk.leaves g.D.Disk.faults c.args.self.now c.self.inside.journal c.write_active.new.journal c.self.inside.genesis.0 c.self.invariant.0.root (ap journal_of c.self.view_is) c.write_active.ensures.moved
