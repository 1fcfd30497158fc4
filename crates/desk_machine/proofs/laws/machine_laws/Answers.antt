use Rattle.desk_machine.proofs.GrantLemmas.{numbered_after}
use Rattle.desk_machine.proofs.KindLemmas.{kind_of}
use Rattle.desk_machine.proofs.laws.machine_laws.Goals as goal

pub returns-clause-numbered : goal.returns-clause-numbered
returns-clause-numbered c = numbered_after

pub returns-clause-kinds : goal.returns-clause-kinds
returns-clause-kinds c = kind_of
