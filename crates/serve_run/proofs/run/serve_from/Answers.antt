use Rattle.std.specs.Prelude.{vec_len}
use Rattle.std.proofs.lemmas.Grind.{common_steps}
use Rattle.std.proofs.Common.{◌≡◌, ◌∙◌, List, [], inr, arith, length, refl}
use Rattle.std.proofs.lemmas.List.{length-map}
use Rattle.serve_run.specs.Clients.{Parts, lane_end_seen, lane_ends_seen, parts_seen}
use Rattle.serve_run.specs.declared.lanes.LaneEnd.{LaneEnd}
use Rattle.serve_run.proofs.EquipLemmas.{lanes_of}
use Rattle.serve_run.proofs.run.serve_from.Goals as goal

pub returns-in-Ok-clause-serves : goal.returns-in-Ok-clause-serves
returns-in-Ok-clause-serves g c =
    let told = g.S.Signer.told in
    let failed = g.S.Signer.faults in
    let denied = g.S.Signer.denials in
    let asked = g.N.Node.told in
    let unheard = g.N.Node.faults in
    let parts : List (LaneEnd g.row.S.Denot g.row.N.Denot) → Parts g.row.R-Conn.Denot = λ lanes. parts_seen told failed denied asked unheard g.R.Door.coming g.R.Door.finished g.R.Door.faults g.O.Sink.held g.O.Sink.faults c.args.signer.now c.args.nodes.now lanes c.args.door.now c.args.out.now in
    let lanes = c.in-Ok.lanes.items in
    let size : length lanes ≡ vec_len c.in-Ok.lanes = grind (arith, common_steps) in
    inr (record {
      equipped = parts lanes;
      has = record {
        lanes = lane_ends_seen told failed denied asked unheard lanes;
        count_is = length-map lanes (lane_end_seen told failed denied asked unheard) ∙ size ∙ c.in-Ok.ensures.count ∙ c.get.ensures.count;
        each = lanes_of told failed denied asked unheard c.args.signer.now c.args.nodes.now (parts []) refl refl lanes c.in-Ok.ensures.each;
        is = refl;
      };
      over = c.serve_journal.ensures.serves;
    })
