-- What comes of one turn.
use Rattle.std.proofs.Common.{◌≡◌, ◌≤◌, ℕ, Bool, false, List, Option, Some, Result, Ok, Err, refl, sym, ◌∙◌, ap}
use Rattle.std.specs.Result.{IsErrAnd}
use Rattle.edge_kit.specs.Causes.{Rose}
use Rattle.edge_kit.specs.Tellings.{Tells}
use Rattle.node_calls.specs.declared.answer.NodeFault.{NodeFault}
use Rattle.node_calls.specs.declared.answer.NodeFault.TheVariants as fault
use Rattle.node_calls.specs.declared.told.NodeCall.{NodeCall}
use Rattle.node_fallback.specs.declared.one_node.Refused.{Refused}
use Rattle.node_fallback.specs.Turns.{IsTurn, came_of, refusal}

pub came_of-value : {A : Type 0} (reply : Result A NodeFault) (value : A) → reply ≡ Ok value → Ok value ≡ came_of (Some reply)
came_of-value {A} reply value e = ap (λ (r : Result A NodeFault). came_of (Some r)) (sym e)

pub came_of-fault : {A : Type 0} (reply : Result A NodeFault) (why : NodeFault) (result : Result A Refused) → reply ≡ Err why → IsErrAnd result (λ refused. refused ≡ refusal why) → result ≡ came_of (Some reply)
came_of-fault reply why (Ok value) e h = absurd h
came_of-fault {A} reply why (Err refused) e h =
    let err : Refused → Result A Refused = λ r. Err r in
    ap err h ∙ ap (λ (r : Result A NodeFault). came_of (Some r)) (sym e)

-- a node that was called had its turn
pub IsTurn-called : {A : Type 0} (told : Result A NodeFault → List NodeCall) (calls calls_now : Option (List NodeCall)) (faults faults_now : ℕ) (syncing : Bool) (reply : Result A NodeFault) (result : Result A Refused)
    → syncing ≡ false → Tells calls calls_now (told reply) → faults ≤ faults_now → (reply ≡ Err fault.Fault → Rose faults faults_now) → result ≡ came_of (Some reply)
    → IsTurn told (record { told = calls; faults = faults; syncing = syncing }) (record { told = calls_now; faults = faults_now; syncing = syncing }) result
IsTurn-called told calls calls_now faults faults_now syncing reply result turn tells later rose came = record {
  reply = Some reply;
  tried = record { turn = turn; syncing = refl; tells = tells; later = later; fault = (λ e. rose cc) };
  came = came;
}
