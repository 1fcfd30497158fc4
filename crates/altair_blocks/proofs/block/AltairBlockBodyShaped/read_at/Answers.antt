use Rattle.std.proofs.Common.{ap, sym, ◌∙◌}
use Rattle.serde_json.specs.View.{view}
use Rattle.phase0_types.specs.Faults.{read_as}
use Rattle.phase0_blocks.specs.Blocks.{beacon_block_body_value}
use Rattle.altair_blocks.specs.Blocks.{sync_aggregate_value}
use Rattle.altair_blocks.proofs.FieldLemmas.{aggregate_fault, body_fault, whole_body}
use Rattle.altair_blocks.proofs.block.AltairBlockBodyShaped.read_at.Goals as goal

pub returns-in-Err : goal.returns-in-Err
returns-in-Err c =
    body_fault c.args.place (view c.args.json.now) c.in-Err.fault (ap (read_as beacon_block_body_value) (sym c.in-Err.is) ∙ c.in_ok-phase0.ensures)

pub returns-in-Ok-2 : goal.returns-in-Ok-2
returns-in-Ok-2 c =
    aggregate_fault c.args.place (view c.args.json.now) (beacon_block_body_value c.in-Ok.phase0) _ (ap (read_as beacon_block_body_value) (sym c.in-Ok.is) ∙ c.in_ok-phase0.ensures) (ap (read_as sync_aggregate_value) (sym c.in-Err-read_field.is) ∙ c.in_Continue-read_field-read_field-in-Ok.ensures)

pub returns-in-Ok-read_field : goal.returns-in-Ok-read_field
returns-in-Ok-read_field c =
    whole_body c.args.place (view c.args.json.now) _ (ap (read_as beacon_block_body_value) (sym c.in-Ok.is) ∙ c.in_ok-phase0.ensures) (ap (read_as sync_aggregate_value) (sym c.in-Ok-read_field.is) ∙ c.in_Continue-read_field-read_field-in-Ok.ensures)
