use Rattle.std.proofs.Common.{◌≡◌, ℕ, List, Option, inr, length, map, sym, ap, ◌∙◌, subst, arith}
use Rattle.std.proofs.lemmas.Grind.{common_steps}
use Rattle.desk_lock.specs.Sharing.{given_of, opening, passes_of}
use Rattle.door_lanes.specs.declared.lane.Lane.{Lane}
use Rattle.door_lanes.specs.Doors.{AreLent, DoorSeen, TookBack, counted_anew, door_seen, returned_in}
use Rattle.door_lanes.specs.Runs.{AreNew, Ran}
use Rattle.door_lanes.specs.Seats.{DoorPass, SharedDoor}
use Rattle.door_lanes.proofs.ListLemmas.{all_of}
use Rattle.door_lanes.proofs.RunLemmas.{all_passes, as_many_passes, lent_all, ran}
use Rattle.door_lanes.proofs.run.serve_door.Goals as goal

pub serve_seated-ended-requires-clause-given : goal.serve_seated-ended-requires-clause-given
serve_seated-ended-requires-clause-given g c κs within =
    let C : Type 0 = g.row.R-Conn.Denot in
    let none : given_of c.in-Ok-lend_door.owner ≡ 0 = grind (arith, common_steps) in
    subst (λ (n : ℕ). AreNew c.give_passes.new.owner.shared n (map (λ (lane : Lane (DoorPass C) g.row.V.Denot C). lane.taker) c.give_passes.new.lanes.items)) none c.give_passes.ensures.new

pub serve_seated-ended-requires-clause-ready : goal.serve_seated-ended-requires-clause-ready
serve_seated-ended-requires-clause-ready g c κs within =
    let C : Type 0 = g.row.R-Conn.Denot in
    all_of (λ (lane : Lane (DoorPass C) g.row.V.Denot C). lane.servant) g.V.Serves.ready c.give_passes.new.lanes.items c.args.servants.items c.give_passes.ensures.servants c.requires.ready

pub take_door-door-requires-clause-all : goal.take_door-door-requires-clause-all
take_door-door-requires-clause-all g c =
    let C : Type 0 = g.row.R-Conn.Denot in
    let V : Type 0 = g.row.V.Denot in
    let s : SharedDoor C = c.give_passes.new.owner.shared in
    let new = c.serve_seated-ended.new in
    let r = c.serve_seated-ended.ensures.ran in
    let before : List V = map (λ (lane : Lane (DoorPass C) V C). lane.servant) c.give_passes.new.lanes.items in
    let kept : List (Option C) = new.kept.items in
    let long = as_many_passes g.V.Serves.serves s before new.servants.items new.passes.items kept c.serve_seated-ended.result r in
    let same : length before ≡ length c.args.servants.items = ap (λ (l : List V). length l) c.give_passes.ensures.servants in
    let lent : passes_of c.in-Ok-lend_door.owner ≡ length c.args.servants.items = grind (arith, common_steps) in
    let stays : passes_of c.give_passes.new.owner ≡ passes_of c.in-Ok-lend_door.owner = c.give_passes.ensures.same.1 in
    (omega (arith, long, same, lent, stays), all_passes g.V.Serves.serves s before new.servants.items new.passes.items kept c.serve_seated-ended.result r)

pub hand_back_all-requires : goal.hand_back_all-requires
hand_back_all-requires g c =
    let C : Type 0 = g.row.R-Conn.Denot in
    let V : Type 0 = g.row.V.Denot in
    let s : SharedDoor C = c.give_passes.new.owner.shared in
    let new = c.serve_seated-ended.new in
    let t = c.take_door-door.ensures in
    let before : List V = map (λ (lane : Lane (DoorPass C) V C). lane.servant) c.give_passes.new.lanes.items in
    let kept : List (Option C) = new.kept.items in
    record {
      lent = subst (λ (d : DoorSeen C). AreLent d.lent (length (returned_in kept))) (sym t.door)
          (lent_all s (opening s) new.passes.items t.value t.closes g.V.Serves.serves before new.servants.items kept c.serve_seated-ended.result c.serve_seated-ended.ensures.ran);
    }

pub returns-clause-served : goal.returns-clause-served
returns-clause-served g c =
    let C : Type 0 = g.row.R-Conn.Denot in
    let V : Type 0 = g.row.V.Denot in
    let seen = door_seen g.R.Door.coming g.R.Door.finished g.R.Door.lent g.R.Door.faults in
    let serves = g.V.Serves.serves in
    let s : SharedDoor C = c.give_passes.new.owner.shared in
    let new = c.serve_seated-ended.new in
    let result = c.serve_seated-ended.result in
    let t = c.take_door-door.ensures in
    let before : List V = map (λ (lane : Lane (DoorPass C) V C). lane.servant) c.give_passes.new.lanes.items in
    let left : List V = new.servants.items in
    let kept : List (Option C) = new.kept.items in
    let start : DoorSeen C = seen c.args.door in
    let now : DoorSeen C = seen c.hand_back_all.new.door in
    let lent : opening c.in-Ok-lend_door.owner.shared ≡ counted_anew start c.args.wanted = grind (arith, common_steps) in
    let opened : opening s ≡ counted_anew start c.args.wanted = ap (λ x. opening x) c.give_passes.ensures.same.0 ∙ lent in
    let took : TookBack t.value.door (returned_in kept) now = subst (λ (d : DoorSeen C). TookBack d (returned_in kept) now) t.door c.hand_back_all.ensures.took in
    let r : Ran serves c.args.wanted start now before left result =
    ran s (opening s) new.passes.items t.value t.closes serves before left kept result c.serve_seated-ended.ensures.ran start now c.args.wanted opened took in
    inr (subst (λ (vs : List V). Ran serves c.args.wanted start now vs left result) c.give_passes.ensures.servants r)
