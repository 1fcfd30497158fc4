use Rattle.std.proofs.Common.{sym, ◌∙◌}
use Rattle.check_sign.proofs.MarkLemmas.{restored, unnoted}
use Rattle.check_sign.proofs.marking.unmark.Goals as goal

pub returns-in-Some : goal.returns-in-Some
returns-in-Some c = record {
  same = λ old marked. restored old c.args.states.now.entries c.set_state.new.states.entries c.args.key.now c.in-Some.state marked.ordered (sym marked.was ∙ c.in-Some.is) marked.now c.set_state.ensures.set;
}

pub returns-in-None : goal.returns-in-None
returns-in-None c = record {
  same = λ old marked. unnoted old c.args.states.now.entries c.remove.new.self.entries c.args.key.now (sym marked.was ∙ c.in-None.is) marked.now c.remove.ensures.entries;
}
