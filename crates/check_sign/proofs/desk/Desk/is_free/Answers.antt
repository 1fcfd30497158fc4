use Rattle.std.proofs.Common.{rules, sym}
use Rattle.check_sign.proofs.MachineLemmas.{opened, none_at, some_at, is_some_of}
use Rattle.check_sign.proofs.ProposalLemmas.{active_at, closing_at, idle_at, is_up}
use Rattle.check_sign.proofs.desk.Desk.is_free.Goals as goal

pub returns-in_default-clause-barred : goal.returns-in_default-clause-barred
returns-in_default-clause-barred g c = λ state stands.
    let s = opened c.args.self.now _ state c.self.view_is stands in
    (is_up _ state c.failed.result s c.failed.ensures c.if-failed.false, none_at c.self.inside.books state.keys c.args.key.now s.keys (search rules))

pub returns-in-Closing-clause-barred : goal.returns-in-Closing-clause-barred
returns-in-Closing-clause-barred g c = λ state stands.
    let s = opened c.args.self.now _ state c.self.view_is stands in
    let at = some_at c.self.inside.books state.keys c.args.key.now c.in-Some.field-0.now s.keys (search rules) in
    (is_up _ state c.failed.result s c.failed.ensures c.if-failed.false, is_some_of _ at.0 at.1, closing_at c.self.inside.states.entries state.states c.args.key.now s.states c.in-Closing.ensures.value)

pub returns-in-Known-clause-barred : goal.returns-in-Known-clause-barred
returns-in-Known-clause-barred g c = λ state stands.
    let s = opened c.args.self.now _ state c.self.view_is stands in
    let at = some_at c.self.inside.books state.keys c.args.key.now c.in-Some.field-0.now s.keys (search rules) in
    (is_up _ state c.failed.result s c.failed.ensures c.if-failed.false, is_some_of _ at.0 at.1, idle_at c.self.inside.states.entries state.states c.args.key.now c.state_of.result s.states c.state_of.ensures.value c.in-Known.is)

pub returns-in-Allowed-clause-may : goal.returns-in-Allowed-clause-may
returns-in-Allowed-clause-may g c = λ state stands.
    let s = opened c.args.self.now _ state c.self.view_is stands in
    let at = some_at c.self.inside.books state.keys c.args.key.now c.in-Some.field-0.now s.keys (search rules) in (
      is_up _ state c.failed.result s c.failed.ensures c.if-failed.false,
      ((is_some_of _ at.0 at.1, active_at c.self.inside.states.entries state.states c.args.key.now s.states c.in-Active.ensures.value), sym (c.in-Allowed.ensures.stands state.watching s.watches)),
    )

pub returns-in-Live-clause-barred : goal.returns-in-Live-clause-barred
returns-in-Live-clause-barred g c = λ state stands.
    let s = opened c.args.self.now _ state c.self.view_is stands in
    let at = some_at c.self.inside.books state.keys c.args.key.now c.in-Some.field-0.now s.keys (search rules) in (
      is_up _ state c.failed.result s c.failed.ensures c.if-failed.false,
      (is_some_of _ at.0 at.1, active_at c.self.inside.states.entries state.states c.args.key.now s.states c.in-Active.ensures.value),
      sym (c.in-Live.ensures.stands state.watching s.watches),
    )

pub returns-in-Missing-clause-barred : goal.returns-in-Missing-clause-barred
returns-in-Missing-clause-barred g c = λ state stands.
    let s = opened c.args.self.now _ state c.self.view_is stands in
    let at = some_at c.self.inside.books state.keys c.args.key.now c.in-Some.field-0.now s.keys (search rules) in (
      is_up _ state c.failed.result s c.failed.ensures c.if-failed.false,
      (is_some_of _ at.0 at.1, active_at c.self.inside.states.entries state.states c.args.key.now s.states c.in-Active.ensures.value),
      sym (c.in-Missing.ensures.stands state.watching s.watches),
    )
