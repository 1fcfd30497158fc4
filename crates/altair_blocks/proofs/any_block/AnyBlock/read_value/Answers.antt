use Rattle.std.proofs.Common.{◌≡◌, Result, Ok, Err, ap, sym, subst, ◌∙◌}
use Rattle.serde_json.specs.View.{view}
use Rattle.phase0_types.specs.Faults.{read_as}
use Rattle.phase0_types.specs.declared.fault.ReadFault.{ReadFault}
use Rattle.phase0_blocks.specs.Blocks.{beacon_block_value}
use Rattle.altair_blocks.specs.Blocks.{altair_block_value}
use Rattle.altair_blocks.specs.AnyBlocks.{BlockValue, read_block}
use Rattle.altair_blocks.specs.declared.version.ConsensusVersion.{ConsensusVersion}
use Rattle.altair_blocks.specs.declared.version.ConsensusVersion.TheVariants as version
use Rattle.altair_blocks.proofs.AnyLemmas.{block_fault, block_given}
use Rattle.altair_blocks.proofs.any_block.AnyBlock.read_value.Goals as goal

pub returns-in-Ok : goal.returns-in-Ok
returns-in-Ok c =
    let P : ConsensusVersion → Type 0 = λ v. Ok (version.Phase0, beacon_block_value c.in-Ok.block) ≡ read_block v (view c.args.json.now) in
    subst P (sym c.in-Phase0.is) (block_given version.Phase0 _ _ (ap (read_as beacon_block_value) (sym c.in-Ok.is) ∙ c.in_ok-block-in-Phase0.ensures))

pub returns-in-Err : goal.returns-in-Err
returns-in-Err c =
    let P : ConsensusVersion → Type 0 = λ v. Err c.in-Err.fault ≡ read_block v (view c.args.json.now) in
    subst P (sym c.in-Phase0.is) (block_fault version.Phase0 _ _ (ap (read_as beacon_block_value) (sym c.in-Err.is) ∙ c.in_ok-block-in-Phase0.ensures))

pub returns-in-Ok-2 : goal.returns-in-Ok-2
returns-in-Ok-2 c =
    let P : ConsensusVersion → Type 0 = λ v. Ok (version.Altair, altair_block_value c.in-Ok-2.block) ≡ read_block v (view c.args.json.now) in
    subst P (sym c.in-Altair.is) (block_given version.Altair _ _ (ap (read_as altair_block_value) (sym c.in-Ok-2.is) ∙ c.in_ok-block-in-Altair.ensures))

pub returns-in-Err-2 : goal.returns-in-Err-2
returns-in-Err-2 c =
    let P : ConsensusVersion → Type 0 = λ v. Err c.in-Err-2.fault ≡ read_block v (view c.args.json.now) in
    subst P (sym c.in-Altair.is) (block_fault version.Altair _ _ (ap (read_as altair_block_value) (sym c.in-Err-2.is) ∙ c.in_ok-block-in-Altair.ensures))
