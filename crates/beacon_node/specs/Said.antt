-- What an answer says: containers by the values of their fields.
use Rattle.std.specs.Prelude.{ℕ, Bool, List, Result, Ok, Err}
use Rattle.edge_kit.specs.declared.bytes.Root.{Root}
use Rattle.phase0_types.specs.Values.{ValueOf}
use Rattle.phase0_types.specs.Containers.{attestation, attestation_data, fork}
use Rattle.phase0_types.specs.Forks.{fork_value}
use Rattle.phase0_types.specs.Attestations.{attestation_data_value}
use Rattle.phase0_blocks.specs.Votes.{attestation_value}
use Rattle.altair_blocks.specs.AnyBlocks.{BlockValue, block_value}
use Rattle.node_calls.specs.declared.answer.Answer.{Answer}
use Rattle.node_calls.specs.declared.answer.Answer.TheVariants as answer
use Rattle.node_calls.specs.declared.answer.NodeFault.{NodeFault}
use Rattle.node_calls.specs.declared.answer.ValidatorRow.{ValidatorRow}
use Rattle.node_calls.specs.declared.answer.ProposerRow.{ProposerRow}
use Rattle.node_calls.specs.declared.answer.AttesterRow.{AttesterRow}
use Rattle.node_calls.specs.declared.answer.LivenessRow.{LivenessRow}

pub data Said : Type 0 where
  genesis_is : (genesis_time : ℕ) (genesis_validators_root : Root) → Said
  fork_is : ValueOf fork → Said
  syncing_is : Bool → Said
  validators_are : List ValidatorRow → Said
  proposers_are : (dependent_root : Root) → List ProposerRow → Said
  attesters_are : (dependent_root : Root) → List AttesterRow → Said
  data_is : ValueOf attestation_data → Said
  block_is : BlockValue → Said
  aggregate_is : ValueOf attestation → Said
  liveness_is : List LivenessRow → Said

abbrev pub said : Answer → Said
said (answer.Genesis genesis_time root) = genesis_is genesis_time root
said (answer.Fork f) = fork_is (fork_value f)
said (answer.Syncing is_syncing) = syncing_is is_syncing
said (answer.Validators rows) = validators_are rows
said (answer.Proposer root rows) = proposers_are root rows
said (answer.Attester root rows) = attesters_are root rows
said (answer.Data details) = data_is (attestation_data_value details)
said (answer.Block block) = block_is (block_value block)
said (answer.Aggregate aggregate) = aggregate_is (attestation_value aggregate)
said (answer.Liveness rows) = liveness_is rows

-- of a reply
abbrev pub reply_said : Result Answer NodeFault → Result Said NodeFault
reply_said (Ok answer) = Ok (said answer)
reply_said (Err fault) = Err fault
