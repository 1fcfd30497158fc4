use Rattle.std.proofs.Common.{Result, sym, ap, subst, ◌∙◌}
use Rattle.phase0_types.specs.Faults.{read_as}
use Rattle.altair_blocks.specs.AnyBlocks.{block_value}
use Rattle.session_format.specs.Steps.{Gives}
use Rattle.session_format.specs.declared.member.Member.{Member}
use Rattle.session_format.specs.declared.request.Op.{Op}
use Rattle.session_format.proofs.BlockLemmas.{read_whole-read}
use Rattle.session_format.proofs.whole_block.read_block.Goals as goal

pub returns-in-Ok : goal.returns-in-Ok
returns-in-Ok c =
    let whole = read_whole-read c.args.chain.now c.args.key c.in-Ok.block _ (sym (ap (read_as block_value) c.in-Ok.is) ∙ c.in_ok-block.ensures) in
    subst (λ (read : Result Op Member). Gives c.proposal_of.result read) (sym whole) c.proposal_of.ensures
