-- A seat may go to another thread where the desk's disk may, and where what it waits with may be shared.
use denote.RattleType.{RattleType}
use denote.Param.Send.{IsSend, IsSync, sendable, recorded_send}
use denote.Ref.{NamedLft}
use denote.Struct.Struct.{Struct}
use denote.Struct.Declared.{shape}
use Rattle.std.specs.contracts.snapshot.Snapshot as snapshot
use Rattle.edge_kit.specs.declared.disk.Disk as disk
use Rattle.atomic_table.specs.contracts.shared.Seat as place
use Rattle.atomic_table.proofs.shared.Seat.TheSendSync as seat
use Rattle.desk_lock.proofs.Crosses.{held_send}
use Rattle.desk_lock.proofs.wide.Single.TheSendSync as single
use Rattle.desk_lock.specs.contracts.rule.OneHistory as one
use Rattle.desk_lock.specs.contracts.rule.OneHistoryTableRuleHeldCallReplyViewCallReplySnapshot.TheImpl as rule
use Rattle.desk_lock.specs.contracts.types.Held as held
use Rattle.desk_lock.specs.contracts.types.View as view
use Rattle.desk_lock.specs.contracts.wide.Single as wide
use Rattle.desk_machine.specs.contracts.call.DeskCall as call
use Rattle.desk_machine.specs.contracts.call.DeskReply as reply
use Rattle.desk_seat.specs.contracts.lent_desk.LentDesk as lent
use Rattle.desk_seat.specs.contracts.lent_desk.LentDeskSeq.TheImpl as seq
use Rattle.desk_seat.proofs.lent_desk.LentDesk.TheSendSync as desk
use Rattle.desk_seat.specs.contracts.seated.Seated as seated

pub seated_send : (a : NamedLft) (D W : RattleType) (d : disk.Ghosts D.Denot) → IsSend D → IsSync W → IsSend (seated.the_row a D W d)
seated_send a D W d send sync =
    let row : RattleType = lent.the_row D d in
    let inner : IsSend row = desk.the_send D d send in
    let slot : IsSend (held.the_row row call.the_row reply.the_row) = held_send row call.the_row reply.the_row inner in
    let pass : IsSend (place.the_row (held.the_row row call.the_row reply.the_row) (view.the_row row call.the_row reply.the_row)) =
    seat.the_send (held.the_row row call.the_row reply.the_row) (view.the_row row call.the_row reply.the_row) slot in
    let shared : IsSync (wide.the_row (held.the_row row call.the_row reply.the_row) (view.the_row row call.the_row reply.the_row) (snapshot.the_row row) (one.the_row row) (rule.ghosts row call.the_row reply.the_row (seq.ghosts D d seq.no_dict) rule.no_dict)) =
    search (slot, single.the_sync) in
    let fields : IsSend (Struct (shape (seated.the_type a D W d))) = search (pass, shared, sync, sendable) depth 20 in
    recorded_send _ _ _ (seated.the_type a D W d).to_one fields
