use Rattle.keymanager_api.specs.Doors.{door_seen, hall, link_seen}
use Rattle.keymanager_api.proofs.VisitLemmas.{VisitedSoFar}
use Rattle.keymanager_api.proofs.connections.serve_connections.Given as goal
use Rattle.client_calls.specs.Seats.{signer_seen}

abbrev pub invariant-connections : goal.invariant-connections
invariant-connections g l = record {
  ready : g.K.DeskCalls.ready l.desk;
  so_far : VisitedSoFar g.K.DeskCalls.leads (link_seen g.R.Conn.Link.left g.R.Conn.Link.held g.R.Conn.Link.faults) (g.C.Clock.start l.clock) l.wanted.token.now l.wanted.genesis_time l._connection
      (hall l.fn.desk (signer_seen g.S.Signer.told g.S.Signer.faults g.S.Signer.denials l.fn.signer) (door_seen g.R.Door.coming g.R.Door.finished g.R.Door.faults l.fn.door))
      (hall l.desk (signer_seen g.S.Signer.told g.S.Signer.faults g.S.Signer.denials l.signer) (door_seen g.R.Door.coming g.R.Door.finished g.R.Door.faults l.door));
}
