use Rattle.std.proofs.Common.{◌≡◌, ◌≢◌, ap, ◌∙◌, refl, rules, sym}
use Rattle.record_replay.specs.declared.state.KeyState.TheVariants.{Closing}
use Rattle.desk_machine.specs.Grants.{open_grants}
use Rattle.desk_machine.specs.States.{key_state}
use Rattle.check_sign.proofs.MachineLemmas.{opened, none_at, some_at, is_some_of}
use Rattle.check_sign.proofs.ProposalLemmas.{closing_at, is_up, may_close}
use Rattle.check_sign.proofs.desk.Desk.closing_book.Goals as goal

pub returns-in_default-clause-machine : goal.returns-in_default-clause-machine
returns-in_default-clause-machine g c = λ state stands.
    let s = opened c.args.self.now _ state c.self.view_is stands in
    ((is_up _ state c.failed.result s c.failed.ensures c.if-failed.false, none_at c.self.inside.books state.keys c.args.key.now s.keys (search rules)), stands)

pub returns-then-ne-clause-machine : goal.returns-then-ne-clause-machine
returns-then-ne-clause-machine g c = λ state stands.
    let s = opened c.args.self.now _ state c.self.view_is stands in
    let at = some_at c.self.inside.books state.keys c.args.key.now c.in-Some.record.now s.keys (search rules) in
    let other : c.state_of-state.result ≢ Closing = search rules in
    ((is_up _ state c.failed.result s c.failed.ensures c.if-failed.false, is_some_of _ at.0 at.1, c.state_of-state.ensures.value ∙ ap (λ l. key_state l c.args.key.now) s.states, other), stands)

pub returns-then-grants-gt0-clause-machine : goal.returns-then-grants-gt0-clause-machine
returns-then-grants-gt0-clause-machine g c = λ state stands.
    let s = opened c.args.self.now _ state c.self.view_is stands in
    let closing : c.state_of-state.result ≡ Closing = search rules in
    let at = some_at c.self.inside.books state.keys c.args.key.now c.in-Some.record.now s.keys (search rules) in (
      (
        is_up _ state c.failed.result s c.failed.ensures c.if-failed.false,
        is_some_of _ at.0 at.1,
        closing_at c.self.inside.states.entries state.states c.args.key.now s.states (sym closing ∙ c.state_of-state.ensures.value),
        c.count_of-grants.ensures ∙ ap (λ l. open_grants l c.args.key.now) s.grants,
        c.if-grants-gt0.true,
      ),
      stands,
    )

pub returns-in-Err-clause-machine : goal.returns-in-Err-clause-machine
returns-in-Err-clause-machine g c = λ state stands.
    let s = opened c.args.self.now _ state c.self.view_is stands in
    let closing : c.state_of-state.result ≡ Closing = search rules in
    ((is_up _ state c.failed.result s c.failed.ensures c.if-failed.false, may_close _ state c.args.key.now c.in-Some.record.now c.state_of-state.result c.count_of-grants.result _ s (search rules) c.state_of-state.ensures.value closing c.count_of-grants.ensures refl c.if-grants-gt0.false), stands)
