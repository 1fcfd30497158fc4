-- The lists of a block's body as values of the last fields of its shape.
use Rattle.std.specs.Prelude.{ℕ, zero, suc, map}
use Rattle.phase0_types.specs.Shapes.{Shape, container, Fields, no_fields, field}
use Rattle.phase0_types.specs.Values.{FieldsOf}
use Rattle.phase0_types.specs.Containers.{voluntary_exit, beacon_block_body}
use Rattle.phase0_blocks.specs.Signed.{signed_value}
use Rattle.phase0_blocks.specs.Votes.{attestation_value}
use Rattle.phase0_blocks.specs.Operations.{attester_slashing_value, deposit_value, proposer_slashing_value, voluntary_exit_value}
use Rattle.phase0_blocks.specs.declared.lists.BodyLists.{BodyLists}
use Rattle.phase0_blocks.specs.declared.lists.BodyOperations.{BodyOperations}

abbrev pub drop_fields : ℕ → Fields → Fields
drop_fields zero fields = fields
drop_fields (suc count) no_fields = no_fields
drop_fields (suc count) (field member shape fields) = drop_fields count fields

-- the fields of a container behind the first so many
abbrev pub fields_behind : ℕ → Shape → Fields
fields_behind count (container fields) = drop_fields count fields
fields_behind count _ = no_fields

unfoldable pub body_operations_value : BodyOperations → FieldsOf (fields_behind 5 beacon_block_body)
unfolding beacon_block_body
body_operations_value it = (map attestation_value it.attestations, (map deposit_value it.deposits, (map (signed_value voluntary_exit voluntary_exit_value) it.voluntary_exits, tt)))

unfoldable pub body_lists_value : BodyLists → FieldsOf (fields_behind 3 beacon_block_body)
unfolding beacon_block_body
body_lists_value it = (map proposer_slashing_value it.proposer_slashings, (map attester_slashing_value it.attester_slashings, body_operations_value it.operations))
