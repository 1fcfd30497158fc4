-- What is covered stays so, whatever is called.
use Rattle.std.proofs.Common.{Bool, true, false, cond, List, [], ◌∷◌, Option, Some, None}
use Rattle.std.specs.Prelude.{IfSome, IsSomeAnd}
use Rattle.edge_kit.specs.declared.bytes.PubKey.{PubKey}
use Rattle.slash_defs.specs.declared.message.Message.{Message}
use Rattle.protect_record.specs.Pasts.{Past}
use Rattle.protect_record.specs.Passing.{Covers}
use Rattle.desk_machine.specs.States.{State, past_of, key_state, is_active}
use Rattle.desk_machine.specs.Machine.{after}
use Rattle.desk_machine.specs.declared.call.DeskCall.{DeskCall}
use Rattle.desk_machine.specs.declared.call.DeskReply.{DeskReply}
use Rattle.session_run.specs.Durable.{CoversKey}
use Rattle.session_run.specs.Safe.{NowOrLater, CoveredOnceActive}
use Rattle.session_run.proofs.DurableLemmas.{covers_on}
use Rattle.session_run.proofs.KeptLemmas.{keeps_call}

pub covers_call : (state : State) (x : DeskCall × DeskReply) (key : PubKey) (m : Message) → CoversKey state.keys key m → CoversKey (after state x.0 x.1).keys key m
covers_call state x key m h = covers_on state.keys (after state x.0 x.1).keys key m (keeps_call state x.0 x.1) h

on_active : (b : Bool) (o : Option Past) (m : Message) → IsSomeAnd o (λ p. Covers p m) → IfSome (cond b o None) (λ p. Covers p m)
on_active true None m h = absurd h
on_active true (Some p) m h = h
on_active false o m h = tt

now_or_later : (b : Bool) (o : Option Past) (m : Message) (later : Type 0) → IsSomeAnd o (λ p. Covers p m) → later → NowOrLater (cond b o None) m later
now_or_later true None m later h l = absurd h
now_or_later true (Some p) m later h l = h
now_or_later false o m later h l = l

-- what a past covers, it covers whatever is done
pub covered_always : (state : State) (xs : List (DeskCall × DeskReply)) (x : PubKey × Message) → CoversKey state.keys x.0 x.1 → CoveredOnceActive state xs x
covered_always state [] x h = on_active (is_active (key_state state.states x.0)) (past_of state x.0) x.1 h
covered_always state (c ∷ xs) x h =
    now_or_later (is_active (key_state state.states x.0)) (past_of state x.0) x.1 (CoveredOnceActive (after state c.0 c.1) xs x) h
    (covered_always (after state c.0 c.1) xs x (covers_call state c x.0 x.1 h))

-- now, where the key is active, and else later
covered_at : (b : Bool) (o : Option Past) (m : Message) (later : Type 0) → NowOrLater (cond b o None) m later → (IsSomeAnd o (λ p. Covers p m) → later) → later
covered_at true (Some p) m later h k = k h
covered_at true None m later h k = h
covered_at false o m later h k = h

-- after a call it is covered as before it
pub covered_call : (state : State) (c : DeskCall × DeskReply) (xs : List (DeskCall × DeskReply)) (x : PubKey × Message) → CoveredOnceActive state (c ∷ xs) x → CoveredOnceActive (after state c.0 c.1) xs x
covered_call state c xs x h =
    covered_at (is_active (key_state state.states x.0)) (past_of state x.0) x.1 (CoveredOnceActive (after state c.0 c.1) xs x) h
    (λ covers. covered_always (after state c.0 c.1) xs x (covers_call state c x.0 x.1 covers))
