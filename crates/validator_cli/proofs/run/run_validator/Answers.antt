use Rattle.std.proofs.Common.{inl, map, refl, string_bytes}
use Rattle.keymanager_api.specs.Doors.{link_seen}
use Rattle.command_line.specs.Plans.{asked_of}
use Rattle.validator_cli.specs.Views.{came_back, disk_view, door_view, handed_in, node_view, signer_view, sink_view, source_view, views}
use Rattle.validator_cli.proofs.RunLemmas.{other_runs, server_runs, unbegun_runs}
use Rattle.validator_cli.proofs.run.run_validator.Goals as goal

pub returns-in-Ok-Some-clause-runs : goal.returns-in-Ok-Some-clause-runs
returns-in-Ok-Some-clause-runs g c =
    let serve_planned = rw c.in-Ok-Some.field-0-is at c.in-Ok-Some.ensures.serve in
    let proxy_planned = rw c.in-Ok-Some.field-0-is at c.in-Ok-Some.ensures.proxy in
    let one = rw c.in-Ok-Some.field-0-is at c.in-Ok-Some.ensures.one in
    server_runs _ _ _ (asked_of (map string_bytes c.args.words.now)) one
    (λ options is. record {
      ended = inl (c.run_server.ensures.serves options (serve_planned options is));
      tells = c.run_server.ensures.causes;
      input = refl;
      signers = c.run_server.ensures.signers options (serve_planned options is);
    })
    (λ options is. record {
      ended = c.run_server.ensures.proxies options (proxy_planned options is);
      tells = c.run_server.ensures.causes;
      input = refl;
      signer = c.run_server.ensures.signer options (proxy_planned options is);
      nodes = c.run_server.ensures.nodes options (proxy_planned options is);
      lanes = c.run_server.ensures.lanes options (proxy_planned options is);
    })

pub returns-in-Ok-None-clause-runs : goal.returns-in-Ok-None-clause-runs
returns-in-Ok-None-clause-runs g c = let other = rw c.in-Ok-None.field-0-is at c.in-Ok-None.ensures.other in other_runs _ _ _ (asked_of (map string_bytes c.args.words.now)) other (record {
  ended = c.run_other.ensures.ending;
  tells = c.run_other.ensures.causes;
  nodes = c.run_other.ensures.nodes;
  door = c.run_other.ensures.door;
  lanes = c.run_other.ensures.lanes;
  signers = c.run_other.ensures.signers;
})

pub returns-clause-runs : goal.returns-clause-runs
returns-clause-runs g c = unbegun_runs _ _ c.unbegun.result (record {
  is = c.unbegun.ensures.status;
  disks = c.unbegun.ensures.disks;
  signer = c.unbegun.ensures.signer;
  nodes = c.unbegun.ensures.nodes;
  door = c.unbegun.ensures.door;
  lanes = c.unbegun.ensures.lanes;
  signers = c.unbegun.ensures.signers;
  events = c.unbegun.ensures.events;
}) (asked_of (map string_bytes c.args.words.now))
