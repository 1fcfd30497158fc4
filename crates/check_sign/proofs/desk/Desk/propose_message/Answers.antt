use Rattle.std.proofs.Common.{◌+◌, Some, max, refl, sym, ap, ◌∙◌, subst, arith, ◌++◌, ◌∷◌, []}
use Rattle.record_replay.proofs.ChangeLemmas.{own}
use Rattle.record_codec.specs.declared.version.JournalVersion.TheVariants.{One}
use Rattle.record_replay.specs.Items.{items_in}
use Rattle.desk_machine.specs.declared.call.DeskCall.TheVariants as call
use Rattle.desk_machine.specs.declared.call.DeskReply.TheVariants as reply
use Rattle.check_sign.specs.Calls.{IsOwn}
use Rattle.check_sign.specs.Contents.{Seen, disks_in}
use Rattle.check_sign.specs.Writing.{journal_of}
use Rattle.check_sign.proofs.LeaveLemmas.{barred_proposal, forbidden_proposal, later_watched}
use Rattle.check_sign.proofs.MachineLemmas.{opened, is_some_of}
use Rattle.check_sign.proofs.ProposalLemmas.{desk_moved, past_with, proposal_fault, proposal_granted, rose_from}
use Rattle.check_sign.proofs.RefusalLemmas.{counted_from, not_disk, plain_counted, plain_forbidden, plain_proposal}
use Rattle.check_sign.proofs.desk.Desk.propose_message.Goals as goal

pub returns-in-Err-clause-machine : goal.returns-in-Err-clause-machine
returns-in-Err-clause-machine g c = λ state stands.
    let s = opened c.args.self.now _ state c.self.view_is stands in
    let held = later_watched _ state _ _ _ _ _ c.args.now s s.watches refl refl c.max-self-inside.ensures in
    barred_proposal _ state c.args.key c.args.message c.args.now _ held (c.in-Err.ensures.barred (record state { latest = max state.latest c.args.now }) held)

pub returns-in-Err-pass_message-clause-machine : goal.returns-in-Err-pass_message-clause-machine
returns-in-Err-pass_message-clause-machine g c = λ state stands.
    let s = opened c.args.self.now _ state c.self.view_is stands in
    let held = later_watched _ state _ _ _ _ _ c.args.now s s.watches refl refl c.max-self-inside.ensures in
    let may = c.in-Ok.ensures.may (record state { latest = max state.latest c.args.now }) held in
    forbidden_proposal _ state c.args.key c.args.message c.args.now c.in-Err-pass_message.bar (record {
      genesis = s.genesis;
      keys = c.pass_message.ensures.kept state.keys s.keys;
      states = s.states;
      grants = c.pass_message.ensures.grants ∙ s.grants;
      next = c.pass_message.ensures.next ∙ s.next;
      latest = held.latest;
      watches = s.watches;
      size = s.size;
      payloads = s.payloads;
      torn = s.torn;
    }) may.0 may.1 (c.in-Err-pass_message.ensures.forbidden state.keys s.keys)

pub returns-in-Err-pass_message-clause-counted : goal.returns-in-Err-pass_message-clause-counted
returns-in-Err-pass_message-clause-counted g c =
    counted_from c.args.self.now _ c.self.view_is (call.Propose c.args.key c.args.message c.args.now) c.in-Err-pass_message.bar _
    (plain_counted _ _ _ _ (plain_forbidden c.args.key c.args.message c.args.now c.in-Err-pass_message.bar c.in-Err-pass_message.ensures.may_forbid) c.pass_message.ensures.grants c.pass_message.ensures.next c.max-self-inside.ensures refl refl)

pub returns-in-Err-pass_message-clause-rose : goal.returns-in-Err-pass_message-clause-rose
returns-in-Err-pass_message-clause-rose g c = λ disk up. not_disk c.in-Err-pass_message.bar _ c.in-Err-pass_message.ensures.may_forbid disk

pub returns-in-Err-record_message-clause-machine : goal.returns-in-Err-record_message-clause-machine
returns-in-Err-record_message-clause-machine g c = λ state stands.
    let s = opened c.args.self.now _ state c.self.view_is stands in
    let may = c.in-Ok.ensures.may (record state { latest = max state.latest c.args.now }) (later_watched _ state _ _ _ _ _ c.args.now s s.watches refl refl c.max-self-inside.ensures) in
    let at = past_with _ _ (c.in-Ok-pass_message.ensures.passes state.keys s.keys) in
    let told = c.in-Err-record_message.ensures.wrote at.0 at.2.1 in
    proposal_fault g.D.Disk.faults c.self.inside.journal c.record_message.new.journal _ state c.args.key c.args.message c.args.now at.0 told.0 c.in-Err-record_message.told at.1
    may.1.0.1 at.2.0 may.1.1 told.2 s.payloads s.size c.self.invariant.0.size c.in-Ok.ensures.own.up
    may.0 (own (items_in One c.self.inside.journal.payloads) state.keys state.states [] s.payloads.items c.args.key c.args.message (is_some_of _ at.0 at.1)) refl refl refl (record {
      genesis = s.genesis;
      keys = subst (λ l. Rattle.record_join.specs.BooksPasts.BooksStand l state.keys) (sym c.in-Err-record_message.ensures.kept) (c.pass_message.ensures.kept state.keys s.keys);
      states = s.states;
      grants = c.pass_message.ensures.grants ∙ s.grants;
      next = c.pass_message.ensures.next ∙ s.next;
      latest = c.max-self-inside.ensures ∙ ap (λ n. max n c.args.now) s.latest;
      watches = s.watches;
    }) told.1

pub returns-in-Err-record_message-clause-counted : goal.returns-in-Err-record_message-clause-counted
returns-in-Err-record_message-clause-counted g c =
    let told = c.in-Err-record_message.ensures.wrote_own in
    counted_from c.args.self.now _ c.self.view_is (call.Propose c.args.key c.args.message c.args.now) c.in-Err-record_message.told _
    (plain_counted _ _ _ _ (plain_proposal c.args.key c.args.message c.args.now c.in-Err-record_message.told told.0 told.1) c.pass_message.ensures.grants c.pass_message.ensures.next c.max-self-inside.ensures refl refl)

pub returns-in-Err-record_message-clause-rose : goal.returns-in-Err-record_message-clause-rose
returns-in-Err-record_message-clause-rose g c = λ disk up.
    let told = c.in-Err-record_message.ensures.wrote_own in
    rose_from g.D.Disk.faults c.self.inside.journal c.record_message.new.journal _ _ told.0 told.2 (sym told.1 ∙ disk) (ap (λ d. disks_in d) c.self.view_is)

pub returns-in-Err-record_message-clause-moved : goal.returns-in-Err-record_message-clause-moved
returns-in-Err-record_message-clause-moved g c =
    desk_moved g.D.Disk.moment g.D.Disk.leaves g.D.Disk.faults c.args.self.now c.self.inside.journal c.record_message.new.journal c.self.inside.genesis.0 c.self.invariant.0.root (ap journal_of c.self.view_is) c.record_message.ensures.moved

pub invariant_of-self-in-Err-record_message : goal.invariant_of-self-in-Err-record_message
invariant_of-self-in-Err-record_message g c = (c.record_message.ensures.holds c.self.inside.genesis c.self.invariant.0, omega (arith, c.max-self-inside.ensures, c.self.invariant.1, c.requires))

pub invariant_of-self-2 : goal.invariant_of-self-2
invariant_of-self-2 g c = (c.record_message.ensures.holds c.self.inside.genesis c.self.invariant.0, omega (arith, c.max-self-inside.ensures, c.self.invariant.1, c.requires))

pub returns-clause-machine : goal.returns-clause-machine
returns-clause-machine g c = λ state stands.
    let s = opened c.args.self.now _ state c.self.view_is stands in
    let may = c.in-Ok.ensures.may (record state { latest = max state.latest c.args.now }) (later_watched _ state _ _ _ _ _ c.args.now s s.watches refl refl c.max-self-inside.ensures) in
    let at = past_with _ _ (c.in-Ok-pass_message.ensures.passes state.keys s.keys) in
    proposal_granted g.D.Disk.faults c.self.inside.journal c.record_message.new.journal _ state c.args.key c.args.message c.args.now at.0 c.give-grant.result at.1
    may.1.0.1 at.2.0 may.1.1 (c.in-Ok-record_message.ensures.wrote at.0 at.2.1) s.payloads s.size c.self.invariant.0.size
    may.0 (own (items_in One c.self.inside.journal.payloads) state.keys state.states [] s.payloads.items c.args.key c.args.message (is_some_of _ at.0 at.1)) refl refl refl (record {
      genesis = s.genesis;
      keys = c.in-Ok-record_message.ensures.stands state.keys (c.pass_message.ensures.kept state.keys s.keys);
      states = s.states;
      grants = c.give-grant.ensures.kept ∙ ap (λ l. l ++ c.give-grant.result ∷ []) (c.pass_message.ensures.grants ∙ s.grants);
      next = c.give-grant.ensures.next ∙ ap (λ n. n + 1) (c.pass_message.ensures.next ∙ s.next);
      latest = c.max-self-inside.ensures ∙ ap (λ n. max n c.args.now) s.latest;
      watches = s.watches;
    }) (c.give-grant.ensures.grant ∙ ap (λ n. record { number = n; key = c.args.key; message = Some c.args.message }) (c.pass_message.ensures.next ∙ s.next))

pub returns-clause-own : goal.returns-clause-own
returns-clause-own g c =
    let wrote = c.in-Ok-record_message.ensures.wrote_own in
    let P : Seen _ → Type 0 = λ d. IsOwn d.contents (call.Propose c.args.key c.args.message c.args.now) (reply.Granted c.give-grant.result) (record {
      genesis = c.self.inside.genesis;
      keys = c.record_message.new.books;
      states = c.self.inside.states.entries;
      grants = c.give-grant.new.grants.grants;
      next = c.give-grant.new.grants.next;
      latest = c.max-self-inside.result;
      watches = c.self.inside.watches;
      events = c.give-grant.new.events.items;
      payloads = c.record_message.new.journal.payloads;
      size = c.record_message.new.journal.size;
      torn = c.record_message.new.journal.torn;
    }) in
    subst P c.self.view_is (record {
      may_sign = record { up = c.in-Ok.ensures.own.up; kept = c.in-Ok.ensures.own.kept; active = c.in-Ok.ensures.own.active; allowed = c.in-Ok.ensures.own.allowed };
      repeat = c.in-Ok-pass_message.repeat;
      passes = c.in-Ok-pass_message.ensures.by_record;
      is_written = ap (λ j. j.payloads) wrote.2;
      roomier = c.pass_message.new.books;
      same = c.pass_message.ensures.same;
      added = c.in-Ok-record_message.ensures.takes;
      states = refl;
    })

pub returns-clause-moved : goal.returns-clause-moved
returns-clause-moved g c =
    desk_moved g.D.Disk.moment g.D.Disk.leaves g.D.Disk.faults c.args.self.now c.self.inside.journal c.record_message.new.journal c.self.inside.genesis.0 c.self.invariant.0.root (ap journal_of c.self.view_is) c.record_message.ensures.moved
