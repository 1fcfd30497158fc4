-- A seat at a shared door may go to another thread where the door may, and where what it waits with may be shared.
use denote.RattleType.{RattleType}
use denote.Param.Send.{IsSend, IsSync, sendable, recorded_send}
use denote.Ref.{NamedLft}
use denote.Struct.Field.{unit-field}
use denote.Struct.Struct.{Struct}
use denote.Struct.Declared.{shape}
use Rattle.std.proofs.Crossing.{crosses}
use Rattle.std.specs.contracts.sync.Mutex as mutex
use Rattle.std.specs.contracts.option.Option as option
use Rattle.std.specs.contracts.snapshot.Snapshot as snapshot
use Rattle.edge_kit.specs.declared.door.Door as door
use Rattle.edge_kit.specs.declared.link.Link as link
use Rattle.atomic_table.specs.contracts.shared.Seat as place
use Rattle.atomic_table.proofs.shared.Seat.TheSendSync as seat
use Rattle.desk_lock.proofs.Crosses.{held_send}
use Rattle.desk_lock.proofs.wide.Single.TheSendSync as single
use Rattle.desk_lock.specs.contracts.rule.OneHistory as one
use Rattle.desk_lock.specs.contracts.rule.OneHistoryTableRuleHeldCallReplyViewCallReplySnapshot.TheImpl as rule
use Rattle.desk_lock.specs.contracts.types.Held as held
use Rattle.desk_lock.specs.contracts.types.View as view
use Rattle.desk_lock.specs.contracts.wide.Single as wide
use Rattle.door_lanes.specs.contracts.counted.CountedDoor as counted
use Rattle.door_lanes.specs.contracts.counted.CountedDoorSeq.TheImpl as seq
use Rattle.door_lanes.specs.contracts.counted.Taken as taken
use Rattle.door_lanes.specs.contracts.seat.DoorSeat as seated
use Rattle.door_lanes.proofs.counted.CountedDoor.TheSendSync as sent

pub seat_send : (a : NamedLft) (R W C : RattleType) (d : door.Ghosts R.Denot C.Denot) (l : link.Ghosts C.Denot) → IsSend R → IsSync W → IsSend (seated.the_row a R W C d l)
seat_send a R W C d l send sync =
    let row : RattleType = counted.the_row R C d l in
    let call : RattleType = option.the_row C in
    let answer : RattleType = taken.the_row C in
    let inner : IsSend row = sent.the_send R C d l send in
    let slot : IsSend (held.the_row row call answer) = held_send row call answer inner in
    let pass : IsSend (place.the_row (held.the_row row call answer) (view.the_row row call answer)) =
    seat.the_send (held.the_row row call answer) (view.the_row row call answer) slot in
    let shared : IsSync (wide.the_row (held.the_row row call answer) (view.the_row row call answer) (snapshot.the_row row) (one.the_row row) (rule.ghosts row call answer (seq.ghosts R C d seq.no_dict l seq.no_dict) rule.no_dict)) =
    search (slot, single.the_sync) in
    let lock : IsSync (mutex.the_row unit-field.row) = search (sendable, crosses) depth 20 in
    let fields : IsSend (Struct (shape (seated.the_type a R W C d l))) = search (pass, shared, lock, sync, sendable) depth 20 in
    recorded_send _ _ _ (seated.the_type a R W C d l).to_one fields
