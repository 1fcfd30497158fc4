-- The objects that messages are made of, by their values, and the messages that they are.
use Rattle.std.specs.Prelude.{ℕ, List}
use Rattle.edge_kit.specs.declared.bytes.Root.{Root}
use Rattle.slash_defs.specs.declared.message.Message.{Message}
use Rattle.slash_defs.specs.declared.message.Message.TheVariants as message
use Rattle.phase0_types.specs.Values.{ValueOf}
use Rattle.phase0_types.specs.Containers.{checkpoint, attestation_data, beacon_block_header}
use Rattle.phase0_types.specs.declared.header.BeaconBlockHeader.{BeaconBlockHeader}
use Rattle.phase0_types.specs.declared.attestation.AttestationData.{AttestationData}
use Rattle.phase0_types.specs.declared.attestation.Checkpoint.{Checkpoint}
use Rattle.sign_roots.specs.declared.domains.Domains.{Domains}
use Rattle.sign_roots.specs.SigningRoots.{block_root_of, attestation_root_of}

abbrev pub root : List ℕ → Root
root bytes = record { 0 = bytes }

-- the header of a value of its shape
unfoldable pub header_from : ValueOf beacon_block_header → BeaconBlockHeader
unfolding beacon_block_header
header_from v = record {
  slot = v.0;
  proposer_index = v.1.0;
  parent_root = root v.1.1.0;
  state_root = root v.1.1.1.0;
  body_root = root v.1.1.1.1.0;
}

-- the checkpoint of a value of its shape
unfoldable pub checkpoint_from : ValueOf checkpoint → Checkpoint
unfolding checkpoint
checkpoint_from v = record { epoch = v.0; root = root v.1.0 }

-- the attestation data of a value of its shape
unfoldable pub details_from : ValueOf attestation_data → AttestationData
unfolding attestation_data
details_from v = record {
  slot = v.0;
  index = v.1.0;
  beacon_block_root = root v.1.1.0;
  source = checkpoint_from v.1.1.1.0;
  target = checkpoint_from v.1.1.1.1.0;
}

-- the block of a header: its slot, and what its proposer signs
abbrev pub block_message : Domains → BeaconBlockHeader → Message
block_message domains header = message.Block header.slot (root (block_root_of domains header))

-- the vote of attestation data: its epochs, and what an attester signs
abbrev pub vote_message : Domains → AttestationData → Message
vote_message domains details = message.Vote details.source.epoch details.target.epoch (root (attestation_root_of domains details))
