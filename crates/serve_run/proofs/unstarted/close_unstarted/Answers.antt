use Rattle.std.proofs.Common.{◌≡◌, rules, subst}
use Rattle.journal_commands.specs.Views.{output_of}
use Rattle.serve_run.specs.Starting.{ClosesUnstarted}
use Rattle.serve_run.specs.declared.start.Unstarted.{Unstarted}
use Rattle.serve_run.specs.declared.start.Unstarted.TheVariants as unstarted
use Rattle.serve_run.proofs.unstarted.close_unstarted.Goals as goal

pub returns-in-NoNode-clause-closes : goal.returns-in-NoNode-clause-closes
returns-in-NoNode-clause-closes g c =
    let P : Unstarted → Type 0 = λ why. ClosesUnstarted c.args.genesis.now why (output_of g.O.Sink.held g.O.Sink.faults c.args.out.now) (output_of g.O.Sink.held g.O.Sink.faults c.close_no_node.new.out) c.close_no_node.result in
    let is : unstarted.NoNode c.as_slice.result.now ≡ c.args.why = search rules in
    subst P is (c.close_no_node.ensures.closes c.args.genesis.now)
