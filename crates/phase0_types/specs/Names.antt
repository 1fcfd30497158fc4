-- The members of a container have names of their own.
use Rattle.std.specs.Prelude.{ℕ, ◌≡◌, ◌&&◌, Bool, true, not, List, refl}
use Rattle.std.specs.Str.{bytes_eq}
use Rattle.phase0_types.specs.Shapes.{Shape, byte_vector, uint64, bit_list, uint64_list, list, vector, container, Fields, no_fields, field}
use Rattle.phase0_types.specs.Members.{member_name}
use Rattle.phase0_types.specs.Containers.{signed, fork, fork_data, signing_data, checkpoint, attestation_data, indexed_attestation, attestation, beacon_block_header, proposer_slashing, attester_slashing, deposit_data, deposit, voluntary_exit, eth1_data, beacon_block_body, beacon_block}

-- no field has this name
abbrev pub is_new : List ℕ → Fields → Bool
is_new name no_fields = true
is_new name (field member shape fields) = not (bytes_eq name (member_name member)) && is_new name fields

unfoldable mutual
  -- in each container, no two fields have one name
  pub has_names : Shape → Bool
  has_names (byte_vector n) = true
  has_names uint64 = true
  has_names (bit_list limit) = true
  has_names (uint64_list limit) = true
  has_names (list shape limit) = has_names shape
  has_names (vector shape n) = has_names shape
  has_names (container fields) = have_names fields

  pub have_names : Fields → Bool
  have_names no_fields = true
  have_names (field member shape fields) = is_new (member_name member) fields && (has_names shape && have_names fields)

pub fork_names : has_names fork ≡ true
unfolding has_names fork
fork_names = refl

pub fork_data_names : has_names fork_data ≡ true
unfolding has_names fork_data
fork_data_names = refl

pub signing_data_names : has_names signing_data ≡ true
unfolding has_names signing_data
signing_data_names = refl

pub checkpoint_names : has_names checkpoint ≡ true
unfolding has_names checkpoint
checkpoint_names = refl

pub attestation_data_names : has_names attestation_data ≡ true
unfolding has_names attestation_data checkpoint
attestation_data_names = refl

pub indexed_attestation_names : has_names indexed_attestation ≡ true
unfolding has_names indexed_attestation attestation_data checkpoint
indexed_attestation_names = refl

pub attestation_names : has_names attestation ≡ true
unfolding has_names attestation attestation_data checkpoint
attestation_names = refl

pub beacon_block_header_names : has_names beacon_block_header ≡ true
unfolding has_names beacon_block_header
beacon_block_header_names = refl

pub proposer_slashing_names : has_names proposer_slashing ≡ true
unfolding has_names proposer_slashing signed beacon_block_header
proposer_slashing_names = refl

pub attester_slashing_names : has_names attester_slashing ≡ true
unfolding has_names attester_slashing indexed_attestation attestation_data checkpoint
attester_slashing_names = refl

pub deposit_data_names : has_names deposit_data ≡ true
unfolding has_names deposit_data
deposit_data_names = refl

pub deposit_names : has_names deposit ≡ true
unfolding has_names deposit deposit_data
deposit_names = refl

pub voluntary_exit_names : has_names voluntary_exit ≡ true
unfolding has_names voluntary_exit
voluntary_exit_names = refl

pub eth1_data_names : has_names eth1_data ≡ true
unfolding has_names eth1_data
eth1_data_names = refl

pub beacon_block_body_names : has_names beacon_block_body ≡ true
unfolding has_names beacon_block_body eth1_data proposer_slashing signed beacon_block_header attester_slashing indexed_attestation attestation_data checkpoint attestation deposit deposit_data voluntary_exit
beacon_block_body_names = refl

pub beacon_block_names : has_names beacon_block ≡ true
unfolding has_names beacon_block beacon_block_body eth1_data proposer_slashing signed beacon_block_header attester_slashing indexed_attestation attestation_data checkpoint attestation deposit deposit_data voluntary_exit
beacon_block_names = refl

pub uint64_names : has_names uint64 ≡ true
unfolding has_names
uint64_names = refl

pub bytes_names : (n : ℕ) → has_names (byte_vector n) ≡ true
unfolding has_names
bytes_names n = refl

pub list_names : (shape : Shape) (limit : ℕ) → has_names shape ≡ true → has_names (list shape limit) ≡ true
unfolding has_names
list_names shape limit names = names

pub vector_names : (shape : Shape) (n : ℕ) → has_names shape ≡ true → has_names (vector shape n) ≡ true
unfolding has_names
vector_names shape n names = names

pub uint64_list_names : (limit : ℕ) → has_names (uint64_list limit) ≡ true
unfolding has_names
uint64_list_names limit = refl

pub bit_list_names : (limit : ℕ) → has_names (bit_list limit) ≡ true
unfolding has_names
bit_list_names limit = refl

pub signed_names : (shape : Shape) → has_names shape ≡ true → has_names (signed shape) ≡ true
unfolding has_names signed
signed_names shape names = rw names
