-- Each state that events of a client come to from an empty desk has no state of a key without a past.
use Rattle.std.proofs.Common.{Bool, true, false, List, [], ◌∷◌, Option, Some, None, refl}
use Rattle.edge_kit.specs.declared.bytes.Root.{Root}
use Rattle.desk_machine.specs.States.{State, Lasting, no_state}
use Rattle.desk_machine.specs.Kinds.{IsOkOf}
use Rattle.desk_machine.specs.Machine.{Reply, after}
use Rattle.desk_machine.specs.declared.call.DeskCall.{DeskCall}
use Rattle.desk_machine.specs.declared.call.DeskCall.TheVariants as call
use Rattle.desk_machine.specs.declared.call.DeskReply.{DeskReply}
use Rattle.desk_machine.specs.declared.call.DeskReply.TheVariants as reply
use Rattle.key_custody.specs.Once.{IsWhole}
use Rattle.key_custody.proofs.HoldLemmas.{CanLast, WholeIn, WholeTorn, WholeThrough, leaves, whole_lasting, whole_leaves, whole_opened}
use Rattle.world_law.specs.Worlds.{Event, MayBeDone, MayStop, lasting_done, lasting_stopped, state_after}
use Rattle.world_law.specs.Worlds.Event.{Call, Send, Crash}
use Rattle.world_law.specs.Clients.{RunsFrom, state_over}

-- a call to which success is a possible reply
can_last : (a : State) (c : DeskCall) (r : DeskReply) → IsOkOf c r → Reply a c r → CanLast a c
can_last a (call.BeginClose k) reply.CloseBegun is h = h.1
can_last a (call.FinishClose k) (reply.Closed book) is h = h.0.1.1
can_last a (call.BeginClose k) r is h = absurd is
can_last a (call.FinishClose k) r is h = absurd is
can_last a c r is h = tt

whole_done : (a : State) (torn : Option Lasting) (within : Option DeskCall) → MayBeDone a torn within → WholeIn a.keys a.states → WholeTorn torn → WholeIn (lasting_done a torn within).keys (lasting_done a torn within).states
whole_done a (Some l) within may whole torn = torn
whole_done a None (Some c) may whole torn = whole_lasting a c (can_last a c may.0 may.1 may.2) whole
whole_done a None None may whole torn = absurd may

whole_stopped : (a : State) (within : Option DeskCall) (done : Bool) → MayStop a within done → WholeThrough a → WholeIn (lasting_stopped a within done).keys (lasting_stopped a within done).states
whole_stopped a within true may whole = whole_done a a.torn within may whole.0 whole.1
whole_stopped a within false may whole = whole.0

whole_event : (a : State) (es : List Event) → RunsFrom a es → WholeThrough a → WholeThrough (state_over a es)
whole_event a [] runs whole = whole
whole_event a (Call client c r ∷ es) runs whole = whole_event (after a c r) es runs.1 (whole_leaves a (after a c r) c (leaves a c r runs.0) whole)
whole_event a (Send client grant m ∷ es) runs whole = whole_event a es runs.1 whole
whole_event a (Crash client within done now watch ∷ es) runs whole =
    whole_event (state_after a (Crash client within done now watch)) es runs.1 (whole_opened (lasting_stopped a within done) (whole_stopped a within done runs.0 whole), tt)

pub whole_over : (genesis : Root) (es : List Event) → RunsFrom (no_state genesis) es → IsWhole (state_over (no_state genesis) es)
whole_over genesis es runs = (whole_event (no_state genesis) es runs (λ q e. refl, tt)).0
