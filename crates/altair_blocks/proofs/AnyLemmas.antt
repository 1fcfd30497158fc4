-- A block of a version is read as a value of that version's container.
use Rattle.std.proofs.Common.{◌≡◌, Result, Ok, Err, IfOk, sym, ap}
use Rattle.std.specs.Prelude.{None}
use Rattle.std.specs.declared.alloc.AllocError.{AllocError}
use Rattle.serde_json.specs.Data.{Data}
use Rattle.serde_json.specs.View.{view}
use Rattle.serde_json.specs.declared.value.Value.{Value}
use Rattle.phase0_types.specs.Values.{ValueOf}
use Rattle.phase0_types.specs.Reading.{read_at}
use Rattle.phase0_types.specs.Faults.{◌>>=◌}
use Rattle.phase0_types.specs.declared.fault.ReadFault.{ReadFault}
use Rattle.altair_blocks.specs.AnyBlocks.{BlockValue, block_shape, read_block}
use Rattle.altair_blocks.specs.declared.version.ConsensusVersion.{ConsensusVersion}

pub block_given : (version : ConsensusVersion) (d : Data) (v : ValueOf (block_shape version)) → Ok v ≡ read_at (block_shape version) None d → Ok (version, v) ≡ read_block version d
block_given version d v is = ap (λ (r : Result (ValueOf (block_shape version)) ReadFault). ◌>>=◌ {B = BlockValue} r (λ value. Ok (version, value))) is

pub block_fault : (version : ConsensusVersion) (d : Data) (e : ReadFault) → Err e ≡ read_at (block_shape version) None d → Err e ≡ read_block version d
block_fault version d e is = ap (λ (r : Result (ValueOf (block_shape version)) ReadFault). ◌>>=◌ {B = BlockValue} r (λ value. Ok (version, value))) is

pub block_back : (version : ConsensusVersion) (v : ValueOf (block_shape version)) (r : Result Value AllocError)
    → IfOk r (λ json. read_at (block_shape version) None (view json) ≡ Ok v) → IfOk r (λ json. read_block version (view json) ≡ Ok (version, v))
block_back version v (Ok json) is = sym (block_given version (view json) v (sym is))
block_back version v (Err e) is = is
