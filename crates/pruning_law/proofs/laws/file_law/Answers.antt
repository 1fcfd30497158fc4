use Rattle.pruning_law.proofs.FileLemmas.{file_kept, file_no_more}
use Rattle.pruning_law.proofs.laws.file_law.Goals as goal

pub returns-clause-kept : goal.returns-clause-kept
returns-clause-kept c = file_kept

pub returns-clause-nothing_more : goal.returns-clause-nothing_more
returns-clause-nothing_more c = file_no_more
