use Rattle.std.proofs.Common.{◌≡◌, ◌+◌, ℕ, List, Option, inl, length, map, ap, ◌∙◌, subst, arith}
use Rattle.std.proofs.lemmas.Grind.{common_steps}
use Rattle.check_sign.specs.Contents.{Seen}
use Rattle.desk_lock.specs.Sharing.{given_of, opening, passes_of}
use Rattle.desk_seat.specs.Seats.{DeskPass}
use Rattle.desk_seat.specs.Turns.{Served}
use Rattle.duty_workers.specs.declared.lane.Lane.{Lane}
use Rattle.keymanager_api.specs.Doors.{link_seen}
use Rattle.journal_commands.specs.Views.{output_of}
use Rattle.serve_run.specs.Clients.{Parts, parts_seen}
use Rattle.serve_run.specs.Seating.{AreNew, RanBeside, lane_end}
use Rattle.serve_run.specs.Serving.{wanted_of}
use Rattle.serve_run.specs.declared.lanes.LaneEnd.{LaneEnd}
use Rattle.serve_run.proofs.SeatLemmas.{ends_long}
use Rattle.serve_run.proofs.ShareLemmas.{shares}
use Rattle.serve_run.proofs.shared.serve_desk.Goals as goal

pub serve_seated-loops-requires-clause-given : goal.serve_seated-loops-requires-clause-given
serve_seated-loops-requires-clause-given g c κs within =
    let two : given_of c.pass-2.new.self ≡ 2 = grind (arith, common_steps) in
    subst (λ (n : ℕ). AreNew g.D.Disk.moment g.D.Disk.leaves g.D.Disk.faults c.give_passes.new.owner.shared n (map (λ (lane : Lane (DeskPass g.row.D.Denot) g.row.S.Denot g.row.N.Denot). lane.desk) c.give_passes.new.lanes.items)) two c.give_passes.ensures.new

pub take_back-requires-clause-all : goal.take_back-requires-clause-all
take_back-requires-clause-all g c =
    let ran = c.serve_seated-loops.ensures in
    let lent : passes_of c.in-Ok-lend.owner ≡ length c.args.lanes.items + 2 = grind (arith, common_steps) in
    let same : passes_of c.give_passes.new.owner ≡ passes_of c.in-Ok-lend.owner = c.give_passes.ensures.same.1 ∙ c.pass-2.ensures.same.1 ∙ c.pass.ensures.same.1 in
    let made = ran.made_are.count in
    let as_many = ran.beside.lanes_are in
    let stay = ran.beside.same_lanes in
    let seen = ends_long g.S.Signer.told g.S.Signer.faults g.S.Signer.denials g.N.Node.told g.N.Node.faults in
    let given = ap (λ (l : List (LaneEnd g.row.S.Denot g.row.N.Denot)). length l) c.give_passes.ensures.ends in
    let long = seen (map lane_end c.give_passes.new.lanes.items) ∙ given in
    (omega (arith, lent, same, made, as_many, stay, long), λ k p e. let at = ran.made_are.each k p e in (at.0, at.1))

pub returns : goal.returns
returns g c =
    let moment = g.D.Disk.moment in
    let leaves = g.D.Disk.leaves in
    let faults = g.D.Disk.faults in
    let see = link_seen g.R.Conn.Link.left g.R.Conn.Link.held g.R.Conn.Link.faults in
    let parts = parts_seen g.S.Signer.told g.S.Signer.faults g.S.Signer.denials g.N.Node.told g.N.Node.faults g.R.Door.coming g.R.Door.finished g.R.Door.faults g.O.Sink.held g.O.Sink.faults in
    let before : List (LaneEnd g.row.S.Denot g.row.N.Denot) → Parts g.row.R-Conn.Denot = λ lanes. parts c.args.signer.now c.args.nodes.now lanes c.args.door.now c.args.out.now in
    let new = c.serve_seated-loops.new in
    let mid : Parts g.row.R-Conn.Denot = parts new.signer new.nodes new.ends.items new.door new.out in
    let work = c.work_of-work.result in
    let loops = c.serve_seated-loops.result in
    let shared = c.give_passes.new.owner.shared in
    let passes = new.passes.items in
    let R : Option ℕ → List (LaneEnd g.row.S.Denot g.row.N.Denot) → Type 0 = λ clock lanes.
    RanBeside moment leaves faults shared see clock work.setup (wanted_of work.wanted) (before lanes) mid loops.duties loops.connections passes in
    let clock : Option ℕ = g.C.Clock.start c.args.clock.now in
    let ran = subst (λ (l : List (LaneEnd g.row.S.Denot g.row.N.Denot)). R clock l) c.give_passes.ensures.ends
    (subst (λ (k : Option ℕ). R k (map lane_end c.give_passes.new.lanes.items)) (ap (λ k. g.C.Clock.start k.now) c.work_of-work.ensures.2) c.serve_seated-loops.ensures) in
    let lent : opening c.in-Ok-lend.owner.shared ≡ c.args.desk = grind (arith, common_steps) in
    let opened : opening shared ≡ c.args.desk = ap (λ s. opening s) (c.give_passes.ensures.same.0 ∙ c.pass-2.ensures.same.0 ∙ c.pass.ensures.same.0) ∙ lent in
    let served = subst (λ (d : Seen g.row.D.Denot). Served moment leaves faults d passes c.take_back.result) opened c.take_back.ensures in
    inl (shares moment leaves faults see clock c.args.options.now c.args.start shared c.args.desk c.take_back.result (before c.args.lanes.items) mid work.setup (wanted_of work.wanted) loops.duties loops.connections passes
    c.work_of-work.ensures.0 c.work_of-work.ensures.1 ran served (output_of g.O.Sink.held g.O.Sink.faults c.close_both-status.new.out) c.close_both-status.result c.close_both-status.ensures.closes)
