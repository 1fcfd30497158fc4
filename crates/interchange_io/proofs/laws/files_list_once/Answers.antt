use Rattle.interchange_io.proofs.FileLemmas.{lists_once}
use Rattle.interchange_io.proofs.laws.files_list_once.Goals as goal

pub returns : goal.returns
returns c = lists_once
