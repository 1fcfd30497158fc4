-- What the desk gives leave for is safe beside what was signed before, and so is what is posted.
use Rattle.std.proofs.Common.{◌≡◌, Bool, true, false, cond, List, [], ◌∷◌, ◌++◌, get_or, Option, Some, None, refl, sym, ◌∙◌, ap, subst, arith, append_assoc}
use Rattle.std.specs.Prelude.{All, Contains, unwrap_or}
use Rattle.std.proofs.lemmas.List.{append-nil}
use Rattle.std.proofs.lemmas.List.Elements.{All-append, All-cons}
use Rattle.std.proofs.lemmas.List.Quantifiers.{all_pairs_push}
use Rattle.edge_kit.specs.declared.bytes.PubKey.{PubKey}
use Rattle.slash_defs.specs.declared.message.Message.{Message}
use Rattle.slash_defs.specs.Lists.{SafeList, IsUnsafe}
use Rattle.protect_record.specs.Pasts.{Past}
use Rattle.protect_record.specs.Passing.{Passes, Covers}
use Rattle.protect_record.specs.PastLaws.{Slashable-sym}
use Rattle.record_replay.specs.declared.state.KeyState.TheVariants.{Known}
use Rattle.desk_machine.specs.States.{State, past_of, key_state, is_active, IsActive, active_past}
use Rattle.desk_machine.specs.Machine.{after, Reply}
use Rattle.desk_machine.specs.declared.call.DeskCall.{DeskCall}
use Rattle.desk_machine.specs.declared.call.DeskCall.TheVariants as call
use Rattle.desk_machine.specs.declared.call.DeskReply.{DeskReply}
use Rattle.desk_machine.specs.declared.call.DeskReply.TheVariants as reply
use Rattle.client_calls.specs.Machines.{CanMake}
use Rattle.duty_plans.specs.Guards.{granted_by, granted_in}
use Rattle.session_run.specs.Durable.{CoversKey}
use Rattle.session_run.specs.Safe.{NowOrLater, CoveredOnceActive}
use Rattle.session_run.proofs.DurableLemmas.{granted}
use Rattle.session_run.proofs.KeptLemmas.{none_some, some_inj, some_of}
use Rattle.duty_safety.proofs.AmongLemmas.{Sent, safe_within}
use Rattle.duty_safety.proofs.CoverLemmas.{covered_always, covered_call}

is_now_active : (state : State) (key : PubKey) → IsActive state key → is_active (key_state state.states key) ≡ true
is_now_active state key h = ap (λ o. is_active (unwrap_or o Known)) h

active_now : (b : Bool) (o : Option Past) (p : Past) → b ≡ true → o ≡ Some p → cond b o None ≡ Some p
active_now true o p e h = h
active_now false o p e h = absurd (let bad : false ≡ true = e in cc)

covered_now : (o : Option Past) (m : Message) (later : Type 0) (p : Past) → o ≡ Some p → NowOrLater o m later → Covers p m
covered_now None m later p e h = absurd (none_some p e)
covered_now (Some z) m later p e h = let P : Past → Type 0 = λ y. Covers y m in subst P (some_inj z p e) h

-- one more message of a key that is active, which its past lets pass
pushed : (state : State) (c : DeskCall × DeskReply) (xs : List (DeskCall × DeskReply)) (key : PubKey) (m : Message) (past : Past) (before : Sent)
    → active_past state key ≡ Some past → Passes past m → SafeList before → All (CoveredOnceActive state (c ∷ xs)) before → SafeList (before ++ (key, m) ∷ [])
pushed state c xs key m past before is passes safe covered =
    all_pairs_push (λ a b. ¬ (IsUnsafe a b)) before (key, m) safe (λ i d lt un.
    let x = get_or before i d in
    let here : active_past state x.0 ≡ Some past = ap (active_past state) un.0 ∙ is in
    covered_now (active_past state x.0) x.1 (CoveredOnceActive (after state c.0 c.1) xs x) past here (covered i d lt) m passes (Slashable-sym _ _ un.1))

-- after one call all is safe, and what the desk gave leave for is covered
abbrev Outcomes : State → DeskCall → DeskReply → Sent → Sent → Type 0
Outcomes state c r before more = SafeList (before ++ more) × All (λ (x : PubKey × Message). CoversKey (after state c r).keys x.0 x.1) more

nothing_more : (state : State) (c : DeskCall) (r : DeskReply) (before more : Sent) → more ≡ [] → SafeList before → Outcomes state c r before more
nothing_more state c r before more none safe =
    let P : Sent → Type 0 = λ l. Outcomes state c r before l in
    let Q : Sent → Type 0 = λ l. SafeList l in
    subst P (sym none) (subst Q (sym (append-nil before)) safe, λ i d lt. absurd (omega arith))

safe_step : (state : State) (c : DeskCall) (r : DeskReply) (rest : List (DeskCall × DeskReply)) (before : Sent) → Reply state c r → SafeList before
    → All (CoveredOnceActive state ((c, r) ∷ rest)) before → Outcomes state c r before (granted_by (c, r))
safe_step state (call.Propose key m now) (reply.Granted grant) rest before can safe covered =
    let act = can.0.1.0 in
    let past = some_of (λ p. Passes p m) (past_of state key) act.1 in
    let active = active_now (is_active (key_state state.states key)) (past_of state key) past.0 (is_now_active state key act.0) past.1 in (
      pushed state (call.Propose key m now, reply.Granted grant) rest key m past.0 before active past.2 safe covered,
      All-cons (λ (x : PubKey × Message). CoversKey (after state (call.Propose key m now) (reply.Granted grant)).keys x.0 x.1) (key, m) [] (granted state key m now grant can).now (λ i d lt. absurd (omega arith)),
    )
safe_step state c r rest before can safe covered = nothing_more state c r before (granted_by (c, r)) refl safe

pub granted_safe : (state : State) (calls : List (DeskCall × DeskReply)) (before : Sent) → CanMake state calls → SafeList before
    → All (CoveredOnceActive state calls) before → SafeList (before ++ granted_in calls)
granted_safe state [] before can safe covered = let P : Sent → Type 0 = λ l. SafeList l in subst P (sym (append-nil before)) safe
granted_safe state ((c, r) ∷ rest) before can safe covered =
    let next = after state c r in
    let more = granted_by (c, r) in
    let one = safe_step state c r rest before can.0 safe covered in
    let after_one : All (CoveredOnceActive next rest) (before ++ more) =
    All-append (CoveredOnceActive next rest) before more (λ i d lt. covered_call state (c, r) rest (get_or before i d) (covered i d lt))
    (λ i d lt. covered_always next rest (get_or more i d) (one.1 i d lt)) in
    let P : Sent → Type 0 = λ l. SafeList l in
    subst P (append_assoc before more (granted_in rest)) (granted_safe next rest (before ++ more) can.1 one.0 after_one)

pub posted_safe : (state : State) (calls : List (DeskCall × DeskReply)) (posted before : Sent) → CanMake state calls
    → ((x : PubKey × Message) → Contains posted x → Contains (granted_in calls) x) → SafeList before → All (CoveredOnceActive state calls) before → SafeList (before ++ posted)
posted_safe state calls posted before can within safe covered = safe_within before (granted_in calls) posted (granted_safe state calls before can safe covered) within
