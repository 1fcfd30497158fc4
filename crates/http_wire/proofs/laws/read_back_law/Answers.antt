use Rattle.http_wire.proofs.ReadBackLemmas as requests
use Rattle.http_wire.proofs.ResponseBackLemmas as responses
use Rattle.http_wire.proofs.laws.read_back_law.Goals as goal

pub returns-clause-request : goal.returns-clause-request
returns-clause-request c = requests.reads_back

pub returns-clause-response : goal.returns-clause-response
returns-clause-response c = responses.reads_back
