use Rattle.std.proofs.Common.{◌≡◌, ℕ, List, Option, length, refl, sym, ap, ◌∙◌, subst, arith}
use Rattle.std.proofs.lemmas.Grind.{common_steps}
use Rattle.duty_plans.specs.Seats.{nodes_seen}
use Rattle.duty_turns.specs.TurnSteps.{House, sink_seen}
use Rattle.duty_workers.specs.Working.{lanes_seen}
use Rattle.duty_workers.specs.declared.lane.Lane.{Lane}
use Rattle.duty_work.specs.Houses.{house}
use Rattle.serve_run.specs.Serving.{DutiesRan}
use Rattle.serve_run.proofs.SeatLemmas.{lanes_long, whole_back}
use Rattle.serve_run.proofs.beside.take_turns.Goals as goal

pub returns-clause-ran : goal.returns-clause-ran
returns-clause-ran g c =
    let K : Type 0 = g.row.K.Denot in
    let L : Type 0 = Lane K g.row.S.Denot g.row.N.Denot in
    let leads = g.K.DeskCalls.leads in
    let clock : Option ℕ = g.C.Clock.start c.args.clock.now in
    let seen : List L → _ = lanes_seen g.S.Signer.told g.S.Signer.faults g.S.Signer.denials g.N.Node.told g.N.Node.faults in
    let nodes = nodes_seen g.N.Node.told g.N.Node.faults in
    let sink = sink_seen g.O.Sink.held g.O.Sink.faults in
    let turns = c.do_turns-ended in
    let before : List L = c.args.side.lanes.items in
    let now : List L = turns.new.lanes in
    let a : House K = house c.args.side.desk (seen before) (nodes c.args.side.nodes) (sink c.args.out.now) in
    let b : List L → House K = λ l. house turns.new.desk (seen l) (nodes turns.new.nodes) (sink turns.new.out) in
    let ran : DutiesRan leads clock c.args.setup.now a (b now) turns.result =
    subst (λ (l : List L). DutiesRan leads clock c.args.setup.now (house c.args.side.desk (seen l) (nodes c.args.side.nodes) (sink c.args.out.now)) (b now) turns.result) c.as_mut_slice.ensures.value turns.ensures.ran in
    let long : length now ≡ length before =
    lanes_long g.S.Signer.told g.S.Signer.faults g.S.Signer.denials g.N.Node.told g.N.Node.faults leads a (b now) ran.runs.runs.steps before now ran.guarded refl refl in
    let size : c.args.side.lanes.len ≡ length before = grind (arith, common_steps) in
    subst (λ (l : List L). DutiesRan leads clock c.args.setup.now a (b l) turns.result) (sym (whole_back before now c.args.side.lanes.len size long)) ran

pub returns-clause-count : goal.returns-clause-count
returns-clause-count g c =
    let K : Type 0 = g.row.K.Denot in
    let L : Type 0 = Lane K g.row.S.Denot g.row.N.Denot in
    let seen : List L → _ = lanes_seen g.S.Signer.told g.S.Signer.faults g.S.Signer.denials g.N.Node.told g.N.Node.faults in
    let nodes = nodes_seen g.N.Node.told g.N.Node.faults in
    let sink = sink_seen g.O.Sink.held g.O.Sink.faults in
    let turns = c.do_turns-ended in
    let slice : List L = c.as_mut_slice.result.now in
    let now : List L = turns.new.lanes in
    let long : length now ≡ length slice =
    lanes_long g.S.Signer.told g.S.Signer.faults g.S.Signer.denials g.N.Node.told g.N.Node.faults g.K.DeskCalls.leads
    (house c.args.side.desk (seen slice) (nodes c.args.side.nodes) (sink c.args.out.now)) (house turns.new.desk (seen now) (nodes turns.new.nodes) (sink turns.new.out)) turns.ensures.ran.runs.runs.steps slice now turns.ensures.ran.guarded refl refl in
    let same : length slice ≡ length c.args.side.lanes.items = ap (λ (l : List L). length l) c.as_mut_slice.ensures.value in
    let size : c.args.side.lanes.len ≡ length c.args.side.lanes.items = grind (arith, common_steps) in
    ap (λ (l : List L). length l) (whole_back c.args.side.lanes.items now c.args.side.lanes.len size (long ∙ same)) ∙ long ∙ same
