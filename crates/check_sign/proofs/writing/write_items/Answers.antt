use Rattle.check_sign.proofs.ReadLemmas.{moments_old}
use Rattle.check_sign.proofs.writing.write_items.Goals as goal

pub encode-requires-clause-moments : goal.encode-requires-clause-moments
encode-requires-clause-moments g c = moments_old c.args.items.now c.requires.batch.1
