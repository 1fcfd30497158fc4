use Rattle.std.proofs.Common.{List, ℕ, ◌∙◌, take, ap, sym, subst, arith}
use Rattle.std.specs.Io.KnownBytes.{Appends}
use Rattle.std.proofs.lemmas.List.{take_more}
use Rattle.edge_kit.proofs.TellingLemmas.{Appends-nil, Appends-trans}
use Rattle.journal_commands.specs.Showing.{listed_text}
use Rattle.journal_commands.proofs.ShowLemmas.{at_err, listed_more, listed_part}
use Rattle.journal_commands.proofs.keys.show_keys.Goals as goal

pub keys-init : goal.keys-init
keys-init g c = record { shown = Appends-nil _; later = omega arith }

pub keys-preserved : goal.keys-preserved
keys-preserved g c =
    let A : List ℕ → Type 0 = λ t. Appends (g.O.Sink.held c.args.out.now) (g.O.Sink.held c.show_key.new.out) t in
    record {
      shown = subst A
          (sym (listed_more c.args.desk.now.contents.keys (take c.keys.one-index c.args.listed.now) _) ∙ ap (listed_text c.args.desk.now.contents.keys) (sym (take_more c.args.listed.now c.keys.one-index _ c.keys-test.true)))
          (Appends-trans _ _ _ _ _ c.keys.invariant.shown (rw c.state.ensures at c.in_ok-show_key.ensures.shown));
      later = omega (arith, c.keys.invariant.later, c.in_ok-show_key.ensures.later);
    }

pub returns-in_err-show_key-clause-part : goal.returns-in_err-show_key-clause-part
returns-in_err-show_key-clause-part g c =
    let A : List ℕ → Type 0 = λ t. Appends (g.O.Sink.held c.args.out.now) (g.O.Sink.held c.show_key.new.out) t in
    let part = rw c.state.ensures at c.in_err-show_key.ensures.part in
    at_err c.from_residual.result (_, subst A (listed_part c.args.desk.now.contents.keys c.args.listed.now c.keys.one-index _ part.0 c.keys-test.true part.1) (Appends-trans _ _ _ _ _ c.keys.invariant.shown part.2))
