use Rattle.std.specs.Prelude.{Contains}
use Rattle.std.proofs.Common.{take}
use Rattle.edge_kit.specs.declared.bytes.PubKey.{PubKey}
use Rattle.slash_defs.specs.declared.message.Message.{Message}
use Rattle.desk_machine.specs.Machine.{MaySign}
use Rattle.desk_machine.specs.States.{State}
use Rattle.check_sign.specs.Calls.{MaySignHere}
use Rattle.check_sign.specs.Standing.{DeskStands}
use Rattle.check_sign.proofs.desk.Desk.may_sign_all.Given as goal

abbrev pub invariant-keys : goal.invariant-keys
invariant-keys g l =
    ((state : State) → DeskStands l.fn.self.contents state → (one : PubKey × Message) → Contains (take l.one-index l.one-items) one → MaySign state one.0)
    × ((one : PubKey × Message) → Contains (take l.one-index l.one-items) one → MaySignHere l.fn.self.contents one.0)
