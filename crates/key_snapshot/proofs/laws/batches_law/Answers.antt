use Rattle.key_snapshot.proofs.BatchLemmas.{snapshot_batches_are, snapshot_versions_are}
use Rattle.key_snapshot.proofs.CutLemmas.{cut_filled, cut_joined}
use Rattle.key_snapshot.proofs.RestoreLemmas.{items_read}
use Rattle.key_snapshot.proofs.laws.batches_law.Goals as goal

pub returns-clause-batches : goal.returns-clause-batches
returns-clause-batches c = snapshot_batches_are

pub returns-clause-versions : goal.returns-clause-versions
returns-clause-versions c = snapshot_versions_are

pub returns-clause-joined : goal.returns-clause-joined
returns-clause-joined c = λ limit items some. cut_joined limit items some

pub returns-clause-filled : goal.returns-clause-filled
returns-clause-filled c = λ limit items some. cut_filled limit items some

pub returns-clause-read : goal.returns-clause-read
returns-clause-read c = items_read
