use Rattle.http_wire.proofs.RequestLemmas.{request_parts, request_headless}
use Rattle.http_wire.proofs.laws.parts_law.Goals as goal

pub returns-clause-behind : goal.returns-clause-behind
returns-clause-behind c = λ left head read front rest. request_parts left head read front rest

pub returns-clause-headless : goal.returns-clause-headless
returns-clause-headless c = λ left f bytes. request_headless left f bytes
