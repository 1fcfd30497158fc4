-- Slashings, deposits and exits as values of their shapes.
use Rattle.ssz_roots.specs.Trees.{root_chunks}
use Rattle.phase0_types.specs.Values.{ValueOf}
use Rattle.phase0_types.specs.Containers.{beacon_block_header, proposer_slashing, attester_slashing, deposit_data, deposit, voluntary_exit}
use Rattle.phase0_blocks.specs.Signed.{signed_value}
use Rattle.phase0_types.specs.Headers.{beacon_block_header_value}
use Rattle.phase0_blocks.specs.Votes.{indexed_attestation_value}
use Rattle.phase0_blocks.specs.declared.operation.ProposerSlashing.{ProposerSlashing}
use Rattle.phase0_blocks.specs.declared.operation.AttesterSlashing.{AttesterSlashing}
use Rattle.phase0_blocks.specs.declared.operation.DepositData.{DepositData}
use Rattle.phase0_blocks.specs.declared.operation.Deposit.{Deposit}
use Rattle.phase0_blocks.specs.declared.operation.VoluntaryExit.{VoluntaryExit}

unfoldable pub proposer_slashing_value : ProposerSlashing → ValueOf proposer_slashing
unfolding proposer_slashing
proposer_slashing_value it = (signed_value beacon_block_header beacon_block_header_value it.signed_header_1, (signed_value beacon_block_header beacon_block_header_value it.signed_header_2, tt))

unfoldable pub attester_slashing_value : AttesterSlashing → ValueOf attester_slashing
unfolding attester_slashing
attester_slashing_value it = (indexed_attestation_value it.attestation_1, (indexed_attestation_value it.attestation_2, tt))

unfoldable pub deposit_data_value : DepositData → ValueOf deposit_data
unfolding deposit_data
deposit_data_value it = (it.pubkey.0, (it.withdrawal_credentials, (it.amount, (it.signature.0, tt))))

unfoldable pub deposit_value : Deposit → ValueOf deposit
unfolding deposit
deposit_value it = (root_chunks it.proof, (deposit_data_value it.details, tt))

unfoldable pub voluntary_exit_value : VoluntaryExit → ValueOf voluntary_exit
unfolding voluntary_exit
voluntary_exit_value it = (it.epoch, (it.validator_index, tt))
