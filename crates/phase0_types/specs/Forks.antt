-- Forks and what is signed as values of their shapes.
use Rattle.phase0_types.specs.Values.{ValueOf}
use Rattle.phase0_types.specs.Containers.{fork, fork_data, signing_data}
use Rattle.phase0_types.specs.declared.fork.Fork.{Fork}
use Rattle.phase0_types.specs.declared.fork.ForkData.{ForkData}
use Rattle.phase0_types.specs.declared.fork.SigningData.{SigningData}

unfoldable pub fork_value : Fork → ValueOf fork
unfolding fork
fork_value it = (it.previous_version, (it.current_version, (it.epoch, tt)))

unfoldable pub fork_data_value : ForkData → ValueOf fork_data
unfolding fork_data
fork_data_value it = (it.current_version, (it.genesis_validators_root.0, tt))

unfoldable pub signing_data_value : SigningData → ValueOf signing_data
unfolding signing_data
signing_data_value it = (it.object_root.0, (it.domain, tt))
