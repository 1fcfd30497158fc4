use Rattle.std.proofs.Common.{◌∙◌, ap, max, refl, rules}
use Rattle.check_sign.proofs.MachineLemmas.{opened, none_at, some_at, is_some_of}
use Rattle.check_sign.proofs.ProposalLemmas.{idle_at}
use Rattle.check_sign.proofs.LeaveLemmas.{later_watched, watchable}
use Rattle.check_sign.proofs.desk.Desk.note_answer.Goals as goal

pub returns-in_default-clause-machine : goal.returns-in_default-clause-machine
returns-in_default-clause-machine g c = λ state stands.
    let s = opened c.args.self.now _ state c.self.view_is stands in
    (none_at c.self.inside.books state.keys c.args.key s.keys (search rules), later_watched _ state _ _ _ _ _ c.args.now s s.watches refl refl c.max-self-inside.ensures)

pub returns-in-Known-clause-machine : goal.returns-in-Known-clause-machine
returns-in-Known-clause-machine g c = λ state stands.
    let s = opened c.args.self.now _ state c.self.view_is stands in
    let at = some_at c.self.inside.books state.keys c.args.key c.in-Some.field-0.now s.keys (search rules) in (
      (is_some_of _ at.0 at.1, idle_at c.self.inside.states.entries state.states c.args.key c.state_of.result s.states c.state_of.ensures.value c.in-Known.is),
      later_watched _ state _ _ _ _ _ c.args.now s s.watches refl refl c.max-self-inside.ensures,
    )

pub returns-in_default-reserve-clause-machine : goal.returns-in_default-reserve-clause-machine
returns-in_default-reserve-clause-machine g c = λ state stands.
    let s = opened c.args.self.now _ state c.self.view_is stands in
    let at = some_at c.self.inside.books state.keys c.args.key c.in-Some.field-0.now s.keys (search rules) in (
      (is_some_of _ at.0 at.1, watchable c.state_of.result c.self.inside.states.entries state.states c.args.key c.state_of.ensures.value s.states c.in-Active.is),
      later_watched _ state _ _ _ _ _ c.args.now s (c.reserve.ensures.stands state.watching s.watches) refl refl c.max-self-inside.ensures,
    )

pub returns-clause-machine : goal.returns-clause-machine
returns-clause-machine g c = λ state stands.
    let s = opened c.args.self.now _ state c.self.view_is stands in
    let at = some_at c.self.inside.books state.keys c.args.key c.in-Some.field-0.now s.keys (search rules) in
    let moment = c.max-self-inside.ensures ∙ ap (λ n. max n c.args.now) s.latest in (
      (is_some_of _ at.0 at.1, watchable c.state_of.result c.self.inside.states.entries state.states c.args.key c.state_of.ensures.value s.states c.in-Active.is),
      record {
        genesis = s.genesis;
        keys = s.keys;
        states = s.states;
        grants = s.grants;
        next = s.next;
        latest = moment;
        watches = c.tell.ensures.stands state.watching (c.reserve.ensures.stands state.watching s.watches);
        size = s.size;
        payloads = s.payloads;
        torn = s.torn;
      },
    )
