use Rattle.std.proofs.Common.{refl}
use Rattle.keymanager_api.proofs.VisitLemmas.{visits_begun, visits_door, visits_fail, visits_go, visits_none, visits_over}
use Rattle.keymanager_api.proofs.connections.serve_connections.Goals as goal

pub connections-init : goal.connections-init
connections-init g c = record { ready = c.requires.ready; so_far = visits_begun g.K.DeskCalls.leads _ _ _ _ g.met.K.DeskCalls.leads_none g.met.K.DeskCalls.leads_more _ }

pub returns-then-serve_one-clause-serves : goal.returns-then-serve_one-clause-serves
returns-then-serve_one-clause-serves g c =
    visits_fail g.K.DeskCalls.leads _ _ _ _ g.met.K.DeskCalls.leads_none g.met.K.DeskCalls.leads_more _ _ _ _ _ _ _ c.connections-test.true c.connections.invariant.so_far c.if-serve_one.ensures.handles
    (record { accepts = rw c.in-Ok-Some.field-0-is at c.in-Ok-Some.ensures.accepts; finished = c.in-Ok-Some.ensures.finished; later = c.in-Ok-Some.ensures.cause.later })

pub returns-in-Ok-None-clause-serves : goal.returns-in-Ok-None-clause-serves
returns-in-Ok-None-clause-serves g c =
    visits_none g.K.DeskCalls.leads _ _ _ _ _ _ _ _ _ c.connections-test.true c.connections.invariant.so_far
    (record { none = rw c.in-Ok-None.field-0-is at c.in-Ok-None.ensures.accepts; finished = c.in-Ok-None.ensures.finished; later = c.in-Ok-None.ensures.cause.later; seat = refl })

pub returns-in-Err-clause-serves : goal.returns-in-Err-clause-serves
returns-in-Err-clause-serves g c =
    visits_door g.K.DeskCalls.leads _ _ _ _ _ _ _ _ _ c.connections-test.true c.connections.invariant.so_far
    (record { rose = c.in-Err.ensures.cause.failed; coming = c.in-Err.ensures.coming; finished = c.in-Err.ensures.finished; seat = refl })

pub connections-preserved : goal.connections-preserved
connections-preserved g c = record {
  ready = c.if-serve_one.ensures.ready;
  so_far =
      visits_go g.K.DeskCalls.leads _ _ _ _ g.met.K.DeskCalls.leads_none g.met.K.DeskCalls.leads_more _ _ _ _ _ _ c.connections.invariant.so_far c.if-serve_one.ensures.handles
      (record { accepts = rw c.in-Ok-Some.field-0-is at c.in-Ok-Some.ensures.accepts; finished = c.in-Ok-Some.ensures.finished; later = c.in-Ok-Some.ensures.cause.later });
}

pub returns-clause-serves : goal.returns-clause-serves
returns-clause-serves g c = visits_over g.K.DeskCalls.leads _ _ _ _ _ _ _ _ c.connections-test.false c.connections.auto._connection-end c.connections.invariant.so_far
