use denote.Param.{param}
use denote.Exit.{yes}
use denote.Param.Send.{param_send, arg_send}
use Rattle.std.proofs.Common.{◌≡◌, ◌<◌, ◌∷◌, [], ℕ, List, All, Option, Result, Some, get_or, length, map, refl, sym, ap, ◌∙◌, subst, arith, slice_get}
use Rattle.std.proofs.lemmas.List.{get_or-map, length-append, length-map}
use Rattle.std.proofs.lemmas.Option.{slice_get-get_or}
use Rattle.desk_lock.specs.Passes.{made, number}
use Rattle.desk_machine.specs.declared.call.DeskCall.{DeskCall}
use Rattle.desk_machine.specs.declared.call.DeskReply.{DeskReply}
use Rattle.desk_seat.proofs.Crosses.{seated_send}
use Rattle.desk_seat.specs.declared.seated.Seated.{Seated}
use Rattle.desk_seat.specs.Seats.{DeskPass, Grows, IsDeskPass, SharedDesk}
use Rattle.client_calls.specs.Seats.{SignerSeen, signer_seen}
use Rattle.node_fallback.specs.Seen.{Seen}
use Rattle.node_fallback.specs.declared.nodes.Nodes.{Nodes}
use Rattle.duty_plans.specs.Seats.{Seat, nodes_seen}
use Rattle.duty_plans.specs.declared.setup.DutySetup.{DutySetup}
use Rattle.duty_turns.specs.declared.held.DutyEnd.{DutyEnd}
use Rattle.duty_turns.specs.TurnSteps.{House, SinkSeen, sink_seen}
use Rattle.duty_workers.specs.Working.{lanes_seen}
use Rattle.duty_workers.specs.declared.lane.Lane.{Lane}
use Rattle.duty_work.specs.Houses.{end_value, house}
use Rattle.keymanager_api.specs.Doors.{DoorSeen, door_seen, hall, link_seen}
use Rattle.keymanager_api.specs.Visits.{ServesAll}
use Rattle.serve_run.specs.Views.{house_by, seat_by}
use Rattle.serve_run.specs.Views.{Calls, Grew}
use Rattle.serve_run.specs.Clients.{idle_seats, lane_ends_seen, lane_seats}
use Rattle.serve_run.specs.Seating.{HaveMade, lane_end}
use Rattle.serve_run.specs.Serving.{DutiesRan, Wanted, wanted_of}
use Rattle.serve_run.specs.declared.lanes.LaneEnd.{LaneEnd}
use Rattle.serve_run.proofs.SeatLemmas.{ends_long, lane_led, lanes_have, lanes_idle, lanes_long, lanes_made_so}
use Rattle.serve_run.proofs.ShareLemmas.{have_made, two_and_rest}
use Rattle.serve_run.proofs.ViewLemmas.{duties_seen}
use Rattle.serve_run.proofs.shared.serve_seated.Goals as goal

pub take_seats-requires-clause-passes : goal.take_seats-requires-clause-passes
take_seats-requires-clause-passes g c = λ k d lt.
    let f = λ (lane : Lane (DeskPass g.row.D.Denot) g.row.S.Denot g.row.N.Denot). lane.desk in
    let long = length-map c.args.given.items f in
    (c.requires.given k (get_or c.args.given.items k d).desk (slice_get-get_or (map f c.args.given.items) k d.desk (omega (arith, lt, long)) ∙ ap Some (get_or-map f c.args.given.items k d d.desk lt))).0

pub run_beside-side-requires-send-K : goal.run_beside-side-requires-send-K
run_beside-side-requires-send-K g c κs within =
    param_send 1 _ (arg_send _ yes _ (seated_send _ (param 1 g.row.D) (param 0 g.row.T) g.D.Disk c.type_bounds.send-D c.type_bounds.sync-T))

pub leave_seats-requires-clause-room : goal.leave_seats-requires-clause-room
leave_seats-requires-clause-room g c =
    let K : Type 0 = Seated g.row.D.Denot g.row.T.Denot in
    let X : Type 0 = Lane K g.row.S.Denot g.row.N.Denot in
    let back = c.run_beside-side.result.1 in
    let seats0 : List X = c.take_seats.new.seats.items in
    let seats1 : List X = back.lanes.items in
    let f : X → DeskPass g.row.D.Denot = λ lane. lane.desk.pass in
    let h : Lane (DeskPass g.row.D.Denot) g.row.S.Denot g.row.N.Denot → DeskPass g.row.D.Denot = λ lane. lane.desk in
    let given = c.args.given.items in
    let one = length-map seats0 f in
    let two = length-map given h in
    let same = ap (λ (l : List (DeskPass g.row.D.Denot)). length l) c.take_seats.ensures.passes in
    let long : length seats1 ≡ length seats0 = c.run_beside-side.ensures.count in
    let passes = c.requires.passes.1 in
    let none = ap (λ (l : List (DeskPass g.row.D.Denot)). length l) c.requires.passes.0 in
    let ends = c.requires.ends.1 in
    let first = c.push_reserved.ensures.capacity in
    let second = c.push_reserved-2.ensures.capacity in
    let size1 = ap (λ (l : List (DeskPass g.row.D.Denot)). length l) c.push_reserved.ensures.items ∙ length-append c.args.passes.now.items (c.into_pass.result ∷ []) in
    let size2 = ap (λ (l : List (DeskPass g.row.D.Denot)). length l) c.push_reserved-2.ensures.items ∙ length-append c.push_reserved.new.self.items (c.into_pass-2.result ∷ []) in
    (omega (arith, one, two, same, long, passes, none, first, second, size1, size2), omega (arith, one, two, same, long, ends))

pub returns : goal.returns
returns g c =
    let D : Type 0 = g.row.D.Denot in
    let K : Type 0 = Seated D g.row.T.Denot in
    let X : Type 0 = Lane K g.row.S.Denot g.row.N.Denot in
    let Y : Type 0 = Lane (DeskPass D) g.row.S.Denot g.row.N.Denot in
    let E : Type 0 = LaneEnd g.row.S.Denot g.row.N.Denot in
    let moment = g.D.Disk.moment in
    let leaves = g.D.Disk.leaves in
    let faults = g.D.Disk.faults in
    let shared : SharedDesk D = c.args.shared.now in
    let leads : K → List (DeskCall × DeskReply) → K → Type 0 = λ s xs t. (t.shared ≡ s.shared) × Grows s.pass xs t.pass in
    let view : K → Calls = λ s. made s.pass in
    let is : (a b : K) (xs : List (DeskCall × DeskReply)) → leads a xs b → Grew (view a) xs (view b) = λ a b xs p. p.1.made_is in
    let told = g.S.Signer.told in
    let failed = g.S.Signer.faults in
    let denied = g.S.Signer.denials in
    let asked = g.N.Node.told in
    let unheard = g.N.Node.faults in
    let seen : List X → List (Seat K) = λ l. lanes_seen told failed denied asked unheard l in
    let ends_seen = λ (l : List E). lane_ends_seen told failed denied asked unheard l in
    let see = link_seen g.R.Conn.Link.left g.R.Conn.Link.held g.R.Conn.Link.faults in
    let clock : Option ℕ = g.C.Clock.start c.args.work.now.clock.now in
    let setup : DutySetup = c.args.work.now.setup in
    let wanted : Wanted = wanted_of c.args.work.now.wanted in
    let loops = c.run_beside-side in
    let ended : Result (Unit {0}) DutyEnd = loops.result.0.duties in
    let back = loops.result.1 in
    let seats0 : List X = c.take_seats.new.seats.items in
    let seats1 : List X = back.lanes.items in
    let own0 : K = c.new-own.result in
    let own1 : K = back.desk in
    let other0 : K = c.new-other.result in
    let other1 : K = loops.new.other in
    let nodes0 : List Seen = nodes_seen asked unheard c.args.nodes.now in
    let nodes1 : List Seen = nodes_seen asked unheard back.nodes in
    let out0 : SinkSeen = sink_seen g.O.Sink.held g.O.Sink.faults c.args.out.now in
    let out1 : SinkSeen = sink_seen g.O.Sink.held g.O.Sink.faults loops.new.out in
    let a : House K = house own0 (seen seats0) nodes0 out0 in
    let b : House K = house own1 (seen seats1) nodes1 out1 in
    let ran : DutiesRan leads clock setup a b ended = subst (λ (n : Nodes g.row.N.Denot). DutiesRan leads clock setup (house own0 (seen seats0) (nodes_seen asked unheard n) out0) b ended) c.replace.ensures.value loops.ensures.duties in
    let viewed : DutiesRan Grew clock setup (house_by view a) (house_by view b) ended =
    duties_seen leads view is clock setup a b ended ran (c.turns_view_law.ensures view is clock setup a b (end_value ended) ran.runs) in
    -- what the seats had made before
    let f : X → DeskPass D = λ lane. lane.desk.pass in
    let h : Y → DeskPass D = λ lane. lane.desk in
    let given : List Y = c.args.given.items in
    let same : map f seats0 ≡ map h given = c.take_seats.ensures.passes in
    let ends0 : map lane_end seats0 ≡ map lane_end given = c.take_seats.ensures.ends in
    let new = λ (k : ℕ) (p : DeskPass D) (e : slice_get (map f seats0) k ≡ Some p). c.requires.given k p (subst (λ (l : List (DeskPass D)). slice_get l k ≡ Some p) same e) in
    let size0 = length-map seats0 f in
    let idle : All (λ (lane : X). view lane.desk ≡ []) seats0 = λ k d lt.
    (new k (f (get_or seats0 k d)) (slice_get-get_or (map f seats0) k (f d) (omega (arith, lt, size0)) ∙ ap Some (get_or-map f seats0 k d (f d) lt))).1.2 in
    let none_own : view own0 ≡ [] = ap (λ p. made p) c.new-own.ensures.1 ∙ c.requires.own.1.2 in
    let none_other : view other0 ≡ [] = ap (λ p. made p) c.new-other.ensures.1 ∙ c.requires.other.1.2 in
    let lanes0 : map (seat_by view) (seen seats0) ≡ idle_seats (ends_seen (map lane_end given)) =
    lanes_idle told failed denied asked unheard view seats0 idle ∙ ap (λ (l : List E). idle_seats (ends_seen l)) ends0 in
    -- and what they made
    let calls : List Calls = map (λ (lane : X). view lane.desk) seats1 in
    let loop : Calls = view own1 in
    let answered : Calls = view other1 in
    let lanes1 : map (seat_by view) (seen seats1) ≡ lane_seats (ends_seen c.leave_seats.new.ends.items) calls =
    lanes_made_so told failed denied asked unheard view seats1 ∙ ap (λ (l : List E). lane_seats (ends_seen l) calls) (sym c.leave_seats.ensures.ends) in
    let B : House Calls = house_by view b in
    let before = λ (x : Calls) (l : List (Seat Calls)). house x l nodes0 out0 in
    let one : DutiesRan Grew clock setup (before [] (map (seat_by view) (seen seats0))) B ended = subst (λ (x : Calls). DutiesRan Grew clock setup (before x (map (seat_by view) (seen seats0))) B ended) none_own viewed in
    let two : DutiesRan Grew clock setup (before [] (idle_seats (ends_seen (map lane_end given)))) B ended = subst (λ (l : List (Seat Calls)). DutiesRan Grew clock setup (before [] l) B ended) lanes0 one in
    let three : DutiesRan Grew clock setup (before [] (idle_seats (ends_seen (map lane_end given)))) (house loop (lane_seats (ends_seen c.leave_seats.new.ends.items) calls) nodes1 out1) ended =
    subst (λ (l : List (Seat Calls)). DutiesRan Grew clock setup (before [] (idle_seats (ends_seen (map lane_end given)))) (house loop l nodes1 out1) ended) lanes1 two in
    -- the connections
    let signer0 : SignerSeen = signer_seen told failed denied c.args.signer.now in
    let signer1 : SignerSeen = signer_seen told failed denied loops.new.signer in
    let door0 : DoorSeen g.row.R-Conn.Denot = door_seen g.R.Door.coming g.R.Door.finished g.R.Door.faults c.args.door.now in
    let door1 : DoorSeen g.row.R-Conn.Denot = door_seen g.R.Door.coming g.R.Door.finished g.R.Door.faults loops.new.door in
    let serves = loops.ensures.connections in
    let served = (c.connections_view_law.ensures view is see clock wanted.token wanted.genesis_time wanted.count (hall other0 signer0 door0) (hall other1 signer1 door1) loops.result.0.connections serves).serves in
    let connections : ServesAll Grew see clock wanted.token wanted.genesis_time wanted.count (hall [] signer0 door0) (hall answered signer1 door1) loops.result.0.connections =
    subst (λ (x : Calls). ServesAll Grew see clock wanted.token wanted.genesis_time wanted.count (hall x signer0 door0) (hall answered signer1 door1) loops.result.0.connections) none_other served in
    -- the passes
    let led = lane_led told failed denied asked unheard leads a b ran.runs.runs.steps seats0 seats1 ran.guarded refl refl in
    let long : length seats1 ≡ length seats0 = lanes_long told failed denied asked unheard leads a b ran.runs.runs.steps seats0 seats1 ran.guarded refl refl in
    let at : All (λ (lane : X). lane.desk.shared.now ≡ shared) seats0 = c.take_seats.ensures.shared in
    let ready : (k : ℕ) (d : X) → k < length seats1 → IsDeskPass moment leaves faults shared (f (get_or seats1 k d)) = λ k d lt.
    let below : k < length seats0 = omega (arith, lt, long) in
    subst (λ (s : SharedDesk D). IsDeskPass moment leaves faults s (f (get_or seats1 k d))) (ap (λ x. x.now) (led k d below).0 ∙ at k d below) (loops.ensures.lanes k d lt) in
    let own_shared : own1.shared.now ≡ shared = ap (λ x. x.now) (ran.guarded.own.desk.0 ∙ c.new-own.ensures.0) in
    let other_shared : other1.shared.now ≡ shared = ap (λ x. x.now) (serves.desk.0 ∙ c.new-other.ensures.0) in
    let p : DeskPass D = own1.pass in
    let q : DeskPass D = other1.pass in
    let first : IsDeskPass moment leaves faults shared p × (number p ≡ 0) × (made p ≡ loop) =
    (subst (λ (s : SharedDesk D). IsDeskPass moment leaves faults s p) own_shared loops.ensures.ready.0, ran.guarded.own.desk.1.number_is ∙ ap (λ x. number x) c.new-own.ensures.1 ∙ c.requires.own.1.0, refl) in
    let second : IsDeskPass moment leaves faults shared q × (number q ≡ 1) × (made q ≡ answered) =
    (subst (λ (s : SharedDesk D). IsDeskPass moment leaves faults s q) other_shared loops.ensures.ready.1, serves.desk.1.number_is ∙ ap (λ x. number x) c.new-other.ensures.1 ∙ c.requires.other.1.0, refl) in
    let rest = lanes_have moment leaves faults f shared 2 seats0 seats1 new long (λ k d lt. (led k d lt).1.number_is) ready in
    let all = two_and_rest c.args.passes.now.items c.push_reserved.new.self.items c.push_reserved-2.new.self.items c.leave_seats.new.passes.items (map f seats1) c.into_pass.result c.into_pass-2.result p q
    c.requires.passes.0 c.push_reserved.ensures.items c.push_reserved-2.ensures.items c.leave_seats.ensures.passes c.into_pass.ensures c.into_pass-2.ensures in
    let same_calls : map (λ (lane : X). made (f lane)) seats1 ≡ calls = refl in
    let long_calls : length (map f seats1) ≡ length calls = length-map seats1 f ∙ sym (length-map seats1 (λ (lane : X). view lane.desk)) in
    let have : HaveMade moment leaves faults shared (loop ∷ answered ∷ calls) (p ∷ q ∷ map f seats1) = have_made moment leaves faults shared loop answered calls p q (map f seats1) long_calls first second rest in
    let count = λ (l : List E). ends_long told failed denied asked unheard l in
    let ends1 : length c.leave_seats.new.ends.items ≡ length seats1 = ap (λ (l : List E). length l) c.leave_seats.ensures.ends ∙ length-map seats1 lane_end in
    let before_count : length (map lane_end given) ≡ length seats0 = ap (λ (l : List E). length l) (sym ends0) ∙ length-map seats0 lane_end in
    let now_count : length (ends_seen c.leave_seats.new.ends.items) ≡ length seats1 = count c.leave_seats.new.ends.items ∙ ends1 in
    record {
      loop = loop;
      answered = answered;
      lanes = calls;
      beside = record { duties = three; connections = connections; lanes_are = length-map seats1 (λ (lane : X). view lane.desk) ∙ sym now_count; same_lanes = now_count ∙ long ∙ sym (count (map lane_end given) ∙ before_count) };
      made_are = subst (λ (l : List (DeskPass D)). HaveMade moment leaves faults shared (loop ∷ answered ∷ calls) l) (sym all) have;
    }
