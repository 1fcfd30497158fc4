use Rattle.std.proofs.Common.{◌+◌, arith}
use Rattle.http_wire.specs.Heads.{head_limit}
use Rattle.http_wire.specs.Bounds.{chunked_limit}
use Rattle.http_wire.proofs.RequestLemmas.{took_parts, took_headless}
use Rattle.http_wire.proofs.TakeLemmas.{at_most_within, at_most_more}
use Rattle.http_wire.proofs.read.read_request.Goals as goal

pub returns-in-Ok-clause-step : goal.returns-in-Ok-clause-step
returns-in-Ok-clause-step g c = took_parts _ _ _ c.in-Ok.head c.read_request_body.result c.in-Ok.ensures.step c.read_request_body.ensures.step

pub returns-in-Err-clause-step : goal.returns-in-Err-clause-step
returns-in-Err-clause-step g c = took_headless _ _ c.in-Err.fault c.in-Err.ensures.step

pub returns-in-Ok-clause-bound : goal.returns-in-Ok-clause-bound
returns-in-Ok-clause-bound g c = at_most_more _ _ _ (head_limit) chunked_limit (head_limit + chunked_limit) c.read_request_head.ensures.bound c.read_request_body.ensures.bound (omega arith)

pub returns-in-Err-clause-bound : goal.returns-in-Err-clause-bound
returns-in-Err-clause-bound g c = at_most_within _ _ (head_limit) _ c.read_request_head.ensures.bound (omega arith)
