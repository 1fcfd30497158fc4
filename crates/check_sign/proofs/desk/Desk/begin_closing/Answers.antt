use Rattle.std.proofs.Common.{[], rules, refl}
use Rattle.record_replay.proofs.ChangeLemmas.{closing}
use Rattle.record_codec.specs.declared.version.JournalVersion.TheVariants.{One}
use Rattle.record_replay.specs.Items.{items_in}
use Rattle.record_replay.specs.declared.state.KeyState.TheVariants.{Active}
use Rattle.check_sign.proofs.MachineLemmas.{opened, none_at, some_at, is_some_of}
use Rattle.check_sign.proofs.MarkLemmas.{idle_at, active_at, closing_at, begun_closing}
use Rattle.check_sign.proofs.desk.Desk.begin_closing.Goals as goal

pub returns-in_default-clause-machine : goal.returns-in_default-clause-machine
returns-in_default-clause-machine g c = λ state stands.
    let s = opened c.args.self.now _ state c.self.view_is stands in
    (none_at c.self.inside.books state.keys c.args.key s.keys (search rules), stands)

pub returns-in-Active-clause-machine : goal.returns-in-Active-clause-machine
returns-in-Active-clause-machine g c = λ state stands.
    let s = opened c.args.self.now _ state c.self.view_is stands in
    let at = some_at c.self.inside.books state.keys c.args.key c.in-Some.field-0.now s.keys (search rules) in
    let here = active_at c.state_of.result c.self.inside.states.entries c.self.inside.states.entries c.args.key c.state_of.ensures.value refl c.in-Active.is in
    let active = active_at c.state_of.result c.self.inside.states.entries state.states c.args.key c.state_of.ensures.value s.states c.in-Active.is in (
      (is_some_of _ at.0 at.1, active),
      begun_closing _ state c.args.key _ _ s (c.set_state.ensures.set (is_some_of _ Active here)) (closing (items_in One c.self.inside.journal.payloads) state.keys state.states [] s.payloads.items c.args.key active),
    )

pub returns-in-Closing-clause-machine : goal.returns-in-Closing-clause-machine
returns-in-Closing-clause-machine g c = λ state stands.
    let s = opened c.args.self.now _ state c.self.view_is stands in
    let at = some_at c.self.inside.books state.keys c.args.key c.in-Some.field-0.now s.keys (search rules) in (
      (is_some_of _ at.0 at.1, closing_at c.state_of.result c.self.inside.states.entries state.states c.args.key c.state_of.ensures.value s.states c.in-Closing.is),
      stands,
    )

pub returns-in-Known-clause-machine : goal.returns-in-Known-clause-machine
returns-in-Known-clause-machine g c = λ state stands.
    let s = opened c.args.self.now _ state c.self.view_is stands in
    let at = some_at c.self.inside.books state.keys c.args.key c.in-Some.field-0.now s.keys (search rules) in (
      (is_some_of _ at.0 at.1, idle_at c.state_of.result c.self.inside.states.entries state.states c.args.key c.state_of.ensures.value s.states c.in-Known.is),
      stands,
    )
