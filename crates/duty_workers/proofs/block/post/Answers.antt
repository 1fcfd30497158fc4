use Rattle.std.proofs.Common.{refl, sym, ◌∙◌, ap}
use Rattle.std.specs.Option.{option_map}
use Rattle.std.specs.Result.{result_ok}
use Rattle.altair_blocks.specs.declared.any_block.AnyBlock.{AnyBlock}
use Rattle.duty_plans.specs.declared.ended.Unsent.TheVariants as granted
use Rattle.duty_plans.specs.Ends.{left_by}
use Rattle.duty_sends.proofs.StepLemmas.{ends_as, runs_dropped}
use Rattle.duty_workers.proofs.block.post.Goals as goal

pub returns-in-Failed-clause-runs : goal.returns-in-Failed-clause-runs
returns-in-Failed-clause-runs g c = λ s. rw c.in-Failed.is (runs_dropped g.K.DeskCalls.leads g.met.K.DeskCalls.leads_none _ _ s _ c.args.grant _ _ c.settle.ensures.settled c.left_by.ensures)

pub returns-in-Nothing-clause-runs : goal.returns-in-Nothing-clause-runs
returns-in-Nothing-clause-runs g c = λ s. rw c.in-Nothing.is (runs_dropped g.K.DeskCalls.leads g.met.K.DeskCalls.leads_none _ _ s _ c.args.grant _ _ c.settle-in-Nothing.ensures.settled tt)

pub block_posted-requires : goal.block_posted-requires
block_posted-requires g c = (c.args.block, refl)

pub returns-in-Given-clause-runs : goal.returns-in-Given-clause-runs
returns-in-Given-clause-runs g c = λ s.
    let same = ap (λ (b : AnyBlock). option_map (λ by. left_by (granted.Block b) by) (result_ok c.send-posted.result)) (sym c.block_posted.ensures) in
    rw c.in-Given.is (ends_as g.K.DeskCalls.leads g.met.K.DeskCalls.leads_none _ _ _ _ _ (c.left_of.ensures ∙ same) (c.send-posted.ensures.runs s (left_by (granted.Block c.args.block))))
