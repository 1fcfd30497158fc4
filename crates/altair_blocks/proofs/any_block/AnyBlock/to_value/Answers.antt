use Rattle.std.proofs.Common.{◌≡◌, Ok, IfOk, sym, subst}
use Rattle.serde_json.specs.View.{view}
use Rattle.phase0_blocks.specs.Blocks.{beacon_block_value}
use Rattle.altair_blocks.specs.Blocks.{altair_block_value}
use Rattle.altair_blocks.specs.AnyBlocks.{block_value, read_block, version_of}
use Rattle.altair_blocks.specs.declared.any_block.AnyBlock.{AnyBlock}
use Rattle.altair_blocks.specs.declared.version.ConsensusVersion.TheVariants as version
use Rattle.altair_blocks.proofs.AnyLemmas.{block_back}
use Rattle.altair_blocks.proofs.any_block.AnyBlock.to_value.Goals as goal

pub returns-in-Phase0-clause-reads_back : goal.returns-in-Phase0-clause-reads_back
returns-in-Phase0-clause-reads_back c =
    let P : AnyBlock → Type 0 = λ b. IfOk c.to_value.result (λ json. read_block (version_of b) (view json) ≡ Ok (block_value b)) in
    subst P (sym c.in-Phase0.is) (block_back version.Phase0 (beacon_block_value c.in-Phase0.block) c.to_value.result c.to_value.ensures.reads_back)

pub returns-in-Altair-clause-reads_back : goal.returns-in-Altair-clause-reads_back
returns-in-Altair-clause-reads_back c =
    let P : AnyBlock → Type 0 = λ b. IfOk c.to_value-in-Altair.result (λ json. read_block (version_of b) (view json) ≡ Ok (block_value b)) in
    subst P (sym c.in-Altair.is) (block_back version.Altair (altair_block_value c.in-Altair.block) c.to_value-in-Altair.result c.to_value-in-Altair.ensures.reads_back)
