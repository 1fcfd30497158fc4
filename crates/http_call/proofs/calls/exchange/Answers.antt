use Rattle.std.proofs.Common.{Err}
use Rattle.http_wire.specs.Spellings.{spelled_request}
use Rattle.http_call.proofs.CallLemmas.{appends_within, sends_all}
use Rattle.http_wire.proofs.ListenLemmas.{Stays-same}
use Rattle.http_call.proofs.calls.exchange.Goals as goal

pub returns-in-Err-read_response-clause-sent : goal.returns-in-Err-read_response-clause-sent
returns-in-Err-read_response-clause-sent g c = sends_all _ _ _ (Err c.in-Err-read_response.fault) (appends_within _ _ _ _ (spelled_request c.args.request.now) (Stays-same (g.L.Link.held c.args.link.now)) c.in-Ok.ensures.ok c.read_response.ensures.listens.held)
