use Rattle.std.proofs.Common.{[], refl, ap, ◌∙◌}
use Rattle.record_join.specs.Keys.{with_kept}
use Rattle.record_replay.proofs.ChangeLemmas.{closed}
use Rattle.record_codec.specs.declared.version.JournalVersion.TheVariants.{One}
use Rattle.record_replay.specs.Items.{items_in}
use Rattle.record_replay.specs.declared.state.KeyState.TheVariants.{Closing, Closed}
use Rattle.check_sign.specs.Writing.{journal_of}
use Rattle.check_sign.proofs.MachineLemmas.{opened, is_some_of}
use Rattle.check_sign.proofs.ProposalLemmas.{closing_done, closing_fault, desk_moved, may_be_closed}
use Rattle.check_sign.proofs.RefusalLemmas.{not_failed, state_of_key, up_at}
use Rattle.check_sign.proofs.StepLemmas.{up_state}
use Rattle.check_sign.proofs.desk.Desk.finish_closing.Goals as goal

pub returns-in-Err-clause-machine : goal.returns-in-Err-clause-machine
returns-in-Err-clause-machine g c = c.in-Err.ensures.machine

pub returns-in-Err-clause-counted : goal.returns-in-Err-clause-counted
returns-in-Err-clause-counted g c = c.in-Err.ensures.counted

pub returns-in-Err-clause-rose : goal.returns-in-Err-clause-rose
returns-in-Err-clause-rose g c = λ disk up. not_failed c.args.self.now.contents c.in-Err.bar _ c.in-Err.ensures.failed disk up

pub returns-in-Err-write_items-clause-machine : goal.returns-in-Err-write_items-clause-machine
returns-in-Err-write_items-clause-machine g c = λ state stands.
    let s = opened c.args.self.now _ state c.self.view_is stands in
    let may = may_be_closed _ state c.args.key _ stands c.in-Ok.ensures.book c.in-Ok.ensures.closing c.in-Ok.ensures.idle in
    let proceeds = may.proceeds in
    closing_fault g.D.Disk.faults c.self.inside.journal c.write_items.new.journal _ state c.args.key c.in-Err-write_items.fault c.refusal.result proceeds c.in-Err-write_items.ensures.wrote s.payloads s.size c.self.invariant.0.size
    (up_at c.args.self.now _ c.self.view_is c.in-Ok.ensures.up) (up_state _ state.torn s.torn (up_at c.args.self.now _ c.self.view_is c.in-Ok.ensures.up)) (closed (items_in One c.self.inside.journal.payloads) state.keys state.states [] s.payloads.items c.args.key proceeds.0 (is_some_of _ Closing proceeds.1)) refl refl refl (record {
      genesis = s.genesis;
      keys = s.keys;
      states = s.states;
      grants = s.grants;
      next = s.next;
      latest = s.latest;
      watches = s.watches;
    }) c.refusal.ensures

pub returns-in-Err-write_items-clause-moved : goal.returns-in-Err-write_items-clause-moved
returns-in-Err-write_items-clause-moved g c =
    desk_moved g.D.Disk.moment g.D.Disk.leaves g.D.Disk.faults c.args.self.now c.self.inside.journal c.write_items.new.journal c.self.inside.genesis.0 c.self.invariant.0.root (ap journal_of c.self.view_is) c.write_items.ensures.moved

pub invariant_of-self-2 : goal.invariant_of-self-2
invariant_of-self-2 g c = (c.write_items.ensures.holds c.self.inside.genesis c.self.invariant.0, c.self.invariant.1)

pub returns-clause-machine : goal.returns-clause-machine
returns-clause-machine g c = λ state stands.
    let s = opened c.args.self.now _ state c.self.view_is stands in
    let may = may_be_closed _ state c.args.key _ stands c.in-Ok.ensures.book c.in-Ok.ensures.closing c.in-Ok.ensures.idle in
    let proceeds = may.proceeds in
    closing_done g.D.Disk.faults c.self.inside.journal c.write_items.new.journal _ state c.args.key may.parts may.past c.note_closed.result proceeds c.in_default.ensures.wrote s.payloads s.size c.self.invariant.0.size
    (up_state _ state.torn s.torn (up_at c.args.self.now _ c.self.view_is c.in-Ok.ensures.up)) (closed (items_in One c.self.inside.journal.payloads) state.keys state.states [] s.payloads.items c.args.key proceeds.0 (is_some_of _ Closing proceeds.1)) refl refl refl (record {
      genesis = s.genesis;
      keys = s.keys;
      states = c.set_state.ensures.set (is_some_of _ Closing (state_of_key c.args.self.now _ c.self.view_is c.args.key Closing c.in-Ok.ensures.closing)) ∙ ap (λ l. with_kept l c.args.key Closed) s.states;
      grants = s.grants;
      next = s.next;
      latest = s.latest;
      watches = s.watches;
    }) may.at may.stands (c.note_closed.ensures.book ∙ may.book)

pub returns-clause-moved : goal.returns-clause-moved
returns-clause-moved g c =
    desk_moved g.D.Disk.moment g.D.Disk.leaves g.D.Disk.faults c.args.self.now c.self.inside.journal c.write_items.new.journal c.self.inside.genesis.0 c.self.invariant.0.root (ap journal_of c.self.view_is) c.write_items.ensures.moved
