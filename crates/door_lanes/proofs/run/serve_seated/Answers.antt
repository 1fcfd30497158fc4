use denote.Param.{param}
use denote.Exit.{yes}
use denote.Param.Send.{param_send, arg_send}
use Rattle.std.proofs.Common.{◌≡◌, ◌++◌, ◌<◌, All, List, None, Option, length, get_or, map, take, drop, sym, ap, ◌∙◌, subst, arith}
use Rattle.std.proofs.lemmas.Grind.{common_steps}
use Rattle.door_lanes.specs.declared.lane.Lane.{Lane}
use Rattle.door_lanes.specs.declared.seat.DoorSeat.{DoorSeat}
use Rattle.door_lanes.specs.Doors.{Asked, returned}
use Rattle.door_lanes.specs.Lanes.{AllWent}
use Rattle.door_lanes.specs.Runs.{AreNew, RanSeated}
use Rattle.door_lanes.specs.Seats.{DoorPass, Grows, IsUsedPass, SharedDoor}
use Rattle.door_lanes.proofs.Crosses.{seat_send}
use Rattle.door_lanes.proofs.LaneLemmas.{went_long}
use Rattle.door_lanes.proofs.ListLemmas.{all_both, all_mapped, all_same, are_passes, are_used, as_long, whole_back}
use Rattle.door_lanes.proofs.RunLemmas.{ran_seated}
use Rattle.door_lanes.proofs.run.serve_seated.Goals as goal

pub take_seats-requires-clause-passes : goal.take_seats-requires-clause-passes
take_seats-requires-clause-passes g c =
    are_passes c.args.shared.now (λ (lane : Lane (DoorPass g.row.R-Conn.Denot) g.row.V.Denot g.row.R-Conn.Denot). lane.taker) 0 c.args.given.items c.requires.given

pub serve_lanes-ended-requires-send-T : goal.serve_lanes-ended-requires-send-T
serve_lanes-ended-requires-send-T g c κs within =
    param_send 2 _ (arg_send _ yes _ (seat_send _ (param 1 g.row.R) (param 0 g.row.X) (param 3 g.row.R-Conn) g.R.Door g.R.Conn.Link c.type_bounds.send-R c.type_bounds.sync-X))

pub serve_lanes-ended-requires-clause-ready : goal.serve_lanes-ended-requires-clause-ready
serve_lanes-ended-requires-clause-ready g c κs within =
    let C : Type 0 = g.row.R-Conn.Denot in
    let V : Type 0 = g.row.V.Denot in
    let X : Type 0 = Lane (DoorSeat g.row.R.Denot g.row.X.Denot C) V C in
    let Y : Type 0 = Lane (DoorPass C) V C in
    let s : SharedDoor C = c.args.shared.now in
    let given : List Y = c.args.given.items in
    let seats : List X = c.take_seats.new.seats.items in
    let used = are_used s (λ (lane : Y). lane.taker) (λ (lane : Y). lane.kept) 0 given c.requires.given c.requires.empty in
    let e = c.take_seats.ensures in
    let Ready : X → Type 0 = λ lane. IsUsedPass lane.taker.shared.now lane.taker.pass (length (returned lane.kept)) × g.V.Serves.ready lane.servant in
    let ready : All Ready seats = λ k d lt. (
      subst (λ (x : SharedDoor C). IsUsedPass x (get_or seats k d).taker.pass (length (returned (get_or seats k d).kept))) (sym (e.shared k d lt))
          (all_both (λ (lane : X). lane.taker.pass) (λ (lane : X). lane.kept) (λ (lane : Y). lane.taker) (λ (lane : Y). lane.kept) (λ p o. IsUsedPass s p (length (returned o))) seats given e.passes e.kept used k d lt),
      all_same (λ (lane : X). lane.servant) (λ (lane : Y). lane.servant) g.V.Serves.ready seats given e.servants c.requires.ready k d lt,
    ) in
    subst (λ (l : List X). All Ready l) (sym c.as_mut_slice.ensures.value) ready

pub returns-clause-ran : goal.returns-clause-ran
returns-clause-ran g c =
    let C : Type 0 = g.row.R-Conn.Denot in
    let V : Type 0 = g.row.V.Denot in
    let T : Type 0 = DoorSeat g.row.R.Denot g.row.X.Denot C in
    let X : Type 0 = Lane T V C in
    let Y : Type 0 = Lane (DoorPass C) V C in
    let s : SharedDoor C = c.args.shared.now in
    let serves = g.V.Serves.serves in
    let pass : T → DoorPass C = λ t. t.pass in
    let at : T → SharedDoor C = λ t. t.shared.now in
    let leads : T → List (Asked C) → T → Type 0 = λ a xs b. (b.shared ≡ a.shared) × Grows a.pass xs b.pass in
    let is : (a b : T) (xs : List (Asked C)) → leads a xs b → (at b ≡ at a) × Grows (pass a) xs (pass b) = λ a b xs p. (ap (λ x. x.now) p.0, p.1) in
    let given : List Y = c.args.given.items in
    let seats : List X = c.take_seats.new.seats.items in
    let e = c.take_seats.ensures in
    let ran = c.serve_lanes-ended in
    let now : List X = ran.new.lanes in
    let went : AllWent leads serves seats now = subst (λ (l : List X). AllWent leads serves l now) c.as_mut_slice.ensures.value ran.ensures.went in
    let long : length now ≡ length seats = went_long leads serves seats now went in
    let size : c.take_seats.new.seats.len ≡ length seats = grind (arith, common_steps) in
    let back : take c.take_seats.new.seats.len (now ++ drop (length now) seats) ≡ now = whole_back seats now c.take_seats.new.seats.len size long in
    let given_some = c.requires.some in
    let as_many : length seats ≡ length given = as_long (λ (l : X). l.servant) (λ (l : Y). l.servant) seats given e.servants in
    let some : 0 < length now = omega (arith, given_some, as_many, long) in
    let new : AreNew s 0 (map (λ (l : X). pass l.taker) seats) = subst (λ (l : List (DoorPass C)). AreNew s 0 l) (sym e.passes) c.requires.given in
    let empty : All (λ (l : X). l.kept ≡ None) seats = all_same (λ (l : X). l.kept) (λ (l : Y). l.kept) (λ k. k ≡ None) seats given e.kept c.requires.empty in
    let R : List V → List (DoorPass C) → List (Option C) → List V → Type 0 = λ vs ps ks ws. RanSeated serves s vs ps ks ws ran.result in
    let passes : List X → List (DoorPass C) = λ l. map (λ (x : X). pass x.taker) l in
    let kept : List X → List (Option C) = λ l. map (λ (x : X). x.kept) l in
    let r : R (map (λ (l : X). l.servant) seats) (passes now) (kept now) (map (λ (l : X). l.servant) now) =
    ran_seated pass at leads is serves s seats now ran.result went some ran.ensures.ends new empty e.shared (λ k d lt. (ran.ensures.ready k d lt).0) in
    let given_are : map (λ (l : X). l.servant) seats ≡ map (λ (l : Y). l.servant) given = e.servants in
    let passes_are : c.leave_seats.new.passes.items ≡ passes now = c.leave_seats.ensures.passes ∙ ap passes back in
    let kept_are : c.leave_seats.new.kept.items ≡ kept now = c.leave_seats.ensures.kept ∙ ap kept back in
    let servants_are : c.leave_seats.new.servants.items ≡ map (λ (l : X). l.servant) now = c.leave_seats.ensures.servants ∙ ap (map (λ (l : X). l.servant)) back in
    let r1 : R (map (λ (l : Y). l.servant) given) (passes now) (kept now) (map (λ (l : X). l.servant) now) = subst (λ (vs : List V). R vs (passes now) (kept now) (map (λ (l : X). l.servant) now)) given_are r in
    let r2 : R (map (λ (l : Y). l.servant) given) c.leave_seats.new.passes.items (kept now) (map (λ (l : X). l.servant) now) = subst (λ (ps : List (DoorPass C)). R (map (λ (l : Y). l.servant) given) ps (kept now) (map (λ (l : X). l.servant) now)) (sym passes_are) r1 in
    let r3 = subst (λ (ks : List (Option C)). R (map (λ (l : Y). l.servant) given) c.leave_seats.new.passes.items ks (map (λ (l : X). l.servant) now)) (sym kept_are) r2 in
    subst (λ (ws : List V). R (map (λ (l : Y). l.servant) given) c.leave_seats.new.passes.items c.leave_seats.new.kept.items ws) (sym servants_are) r3

pub returns-clause-ready : goal.returns-clause-ready
returns-clause-ready g c =
    let C : Type 0 = g.row.R-Conn.Denot in
    let V : Type 0 = g.row.V.Denot in
    let X : Type 0 = Lane (DoorSeat g.row.R.Denot g.row.X.Denot C) V C in
    let s : SharedDoor C = c.args.shared.now in
    let serves = g.V.Serves.serves in
    let T : Type 0 = DoorSeat g.row.R.Denot g.row.X.Denot C in
    let leads : T → List (Asked C) → T → Type 0 = λ a xs b. (b.shared ≡ a.shared) × Grows a.pass xs b.pass in
    let seats : List X = c.take_seats.new.seats.items in
    let ran = c.serve_lanes-ended in
    let now : List X = ran.new.lanes in
    let went : AllWent leads serves seats now = subst (λ (l : List X). AllWent leads serves l now) c.as_mut_slice.ensures.value ran.ensures.went in
    let long : length now ≡ length seats = went_long leads serves seats now went in
    let size : c.take_seats.new.seats.len ≡ length seats = grind (arith, common_steps) in
    let back : take c.take_seats.new.seats.len (now ++ drop (length now) seats) ≡ now = whole_back seats now c.take_seats.new.seats.len size long in
    let servants_are : c.leave_seats.new.servants.items ≡ map (λ (l : X). l.servant) now = c.leave_seats.ensures.servants ∙ ap (map (λ (l : X). l.servant)) back in
    all_mapped (λ (l : X). l.servant) g.V.Serves.ready now c.leave_seats.new.servants.items servants_are (λ k d lt. (ran.ensures.ready k d lt).1)
