-- A run sends nothing that is slashable beside what was sent before.
use Rattle.std.proofs.Common.{◌≡◌, ◌⊎◌, ⊎_elim, inl, inr, ℕ, Bool, true, false, cond, List, [], ◌∷◌, ◌++◌, get_or, Option, Some, None, refl, sym, ◌∙◌, ap, subst, arith, append_assoc}
use Rattle.std.specs.Prelude.{All, IfSome, IsSome, IsSomeAnd, unwrap_or}
use Rattle.std.specs.Map.{keys_of}
use Rattle.std.proofs.lemmas.List.{append-nil}
use Rattle.std.proofs.lemmas.Grind.{flat_map-append}
use Rattle.std.proofs.lemmas.List.Elements.{All-append, All-cons}
use Rattle.std.proofs.lemmas.List.Quantifiers.{all_pairs_push}
use Rattle.edge_kit.specs.declared.bytes.PubKey.{PubKey}
use Rattle.slash_defs.specs.declared.message.Message.{Message}
use Rattle.slash_defs.specs.Lists.{SafeList, IsUnsafe}
use Rattle.protect_record.specs.Pasts.{Past}
use Rattle.protect_record.specs.Passing.{Passes, Covers}
use Rattle.protect_record.specs.PastLaws.{Slashable-sym}
use Rattle.session_format.specs.declared.chain.SessionChain.{SessionChain}
use Rattle.signer_link.specs.declared.request.SignRequest.{SignRequest}
use Rattle.signer_link.specs.declared.reply.SignReply.{SignReply}
use Rattle.signer_link.specs.declared.reply.SignReply.TheVariants as signing
use Rattle.record_replay.specs.declared.state.KeyState.TheVariants.{Known}
use Rattle.desk_machine.specs.States.{State, past_of, key_state, is_active, IsActive, active_past}
use Rattle.desk_machine.specs.Machine.{after, Reply}
use Rattle.desk_machine.specs.declared.open_grant.OpenGrant.{OpenGrant}
use Rattle.desk_machine.specs.declared.call.DeskCall.{DeskCall}
use Rattle.desk_machine.specs.declared.call.DeskCall.TheVariants as call
use Rattle.desk_machine.specs.declared.call.DeskReply.{DeskReply}
use Rattle.desk_machine.specs.declared.call.DeskReply.TheVariants as reply
use Rattle.client_calls.specs.Machines.{CanMake, state_after}
use Rattle.client_calls.specs.Steps.{ClientStep, Calls, Signs, Replies, Signed, message_of, step_calls, step_sent, desk_calls, sent_in}
use Rattle.client_calls.proofs.MachineLemmas.{can_split, after_on}
use Rattle.client_calls.proofs.QuietLemmas.{quiet_sent}
use Rattle.session_run.specs.Durable.{CoversKey}
use Rattle.session_run.specs.Plans.{moment_by, outcome_of}
use Rattle.session_run.specs.Safe.{CoveredInTheEnd, NowOrLater, CoveredOnceActive, StaysSafe}
use Rattle.session_run.specs.Turns.{Turn, AllPlanned, calls_of, steps_of, made, sent}
use Rattle.session_run.proofs.DurableLemmas.{covers_on, granted}
use Rattle.session_run.proofs.KeptLemmas.{keeps_call, none_some, some_inj, some_of}
use Rattle.session_run.proofs.ViewLemmas.{ProposalView, TurnView, view_of}

-- ---- what is covered stays so

covers_call : (state : State) (x : DeskCall × DeskReply) (key : PubKey) (m : Message) → CoversKey state.keys key m → CoversKey (after state x.0 x.1).keys key m
covers_call state x key m h = covers_on state.keys (after state x.0 x.1).keys key m (keeps_call state x.0 x.1) h

covers_calls : (state : State) (xs : List (DeskCall × DeskReply)) (key : PubKey) (m : Message) → CoversKey state.keys key m → CoversKey (state_after state xs).keys key m
covers_calls state [] key m h = h
covers_calls state (x ∷ xs) key m h = covers_calls (after state x.0 x.1) xs key m (covers_call state x key m h)

on_active : (b : Bool) (o : Option Past) (m : Message) → IsSomeAnd o (λ p. Covers p m) → IfSome (cond b o None) (λ p. Covers p m)
on_active true None m h = absurd h
on_active true (Some p) m h = h
on_active false o m h = tt

now_or_later : (b : Bool) (o : Option Past) (m : Message) (later : Type 0) → IsSomeAnd o (λ p. Covers p m) → later → NowOrLater (cond b o None) m later
now_or_later true None m later h l = absurd h
now_or_later true (Some p) m later h l = h
now_or_later false o m later h l = l

-- whatever is done
covered_always : (state : State) (xs : List (DeskCall × DeskReply)) (x : PubKey × Message) → CoversKey state.keys x.0 x.1 → CoveredOnceActive state xs x
covered_always state [] x h = on_active (is_active (key_state state.states x.0)) (past_of state x.0) x.1 h
covered_always state (c ∷ xs) x h =
    now_or_later (is_active (key_state state.states x.0)) (past_of state x.0) x.1 (CoveredOnceActive (after state c.0 c.1) xs x) h
    (covered_always (after state c.0 c.1) xs x (covers_call state c x.0 x.1 h))

-- now, where the key is active, and else later
covered_at : (b : Bool) (o : Option Past) (m : Message) (later : Type 0) → NowOrLater (cond b o None) m later → (IsSomeAnd o (λ p. Covers p m) → later) → later
covered_at true (Some p) m later h k = k h
covered_at true None m later h k = h
covered_at false o m later h k = h

covered_call : (state : State) (c : DeskCall × DeskReply) (xs : List (DeskCall × DeskReply)) (x : PubKey × Message) → CoveredOnceActive state (c ∷ xs) x → CoveredOnceActive (after state c.0 c.1) xs x
covered_call state c xs x h =
    covered_at (is_active (key_state state.states x.0)) (past_of state x.0) x.1 (CoveredOnceActive (after state c.0 c.1) xs x) h
    (λ covers. covered_always (after state c.0 c.1) xs x (covers_call state c x.0 x.1 covers))

covered_calls : (state : State) (xs ys : List (DeskCall × DeskReply)) (x : PubKey × Message) → CoveredOnceActive state (xs ++ ys) x → CoveredOnceActive (state_after state xs) ys x
covered_calls state [] ys x h = h
covered_calls state (c ∷ xs) ys x h = covered_calls (after state c.0 c.1) xs ys x (covered_call state c (xs ++ ys) x h)

kept_if : (b : Bool) (o : Option Past) (m : Message) → IfSome (cond b o None) (λ p. Covers p m) → IsSome (cond b o None) → IsSomeAnd o (λ p. Covers p m)
kept_if true None m h some = absurd (let bad : false ≡ true = some in cc)
kept_if true (Some p) m h some = h
kept_if false o m h some = absurd (let bad : false ≡ true = some in cc)

active_covers : (b : Bool) (o : Option Past) (m : Message) (later : Type 0) → NowOrLater (cond b o None) m later → IsSome (cond b o None) → IsSomeAnd o (λ p. Covers p m)
active_covers true None m later h some = absurd (let bad : false ≡ true = some in cc)
active_covers true (Some p) m later h some = h
active_covers false o m later h some = absurd (let bad : false ≡ true = some in cc)

covered_end : (state : State) (xs : List (DeskCall × DeskReply)) (x : PubKey × Message) → CoveredOnceActive state xs x → CoveredInTheEnd state xs x
covered_end state [] x h was = kept_if (is_active (key_state state.states x.0)) (past_of state x.0) x.1 h was
covered_end state (c ∷ xs) x h (inl now) =
    covers_calls state (c ∷ xs) x.0 x.1 (active_covers (is_active (key_state state.states x.0)) (past_of state x.0) x.1 (CoveredOnceActive (after state c.0 c.1) xs x) h now)
covered_end state (c ∷ xs) x h (inr later) = covered_end (after state c.0 c.1) xs x (covered_call state c xs x h) later

-- ---- a message that is sent

abbrev Before : Type 0
Before = List (PubKey × Message)

abbrev AllCover : State → Before → Type 0
AllCover state list = All (λ x. CoversKey state.keys x.0 x.1) list

is_now_active : (state : State) (key : PubKey) → IsActive state key → is_active (key_state state.states key) ≡ true
is_now_active state key h = ap (λ o. is_active (unwrap_or o Known)) h

active_now : (b : Bool) (o : Option Past) (p : Past) → b ≡ true → o ≡ Some p → cond b o None ≡ Some p
active_now true o p e h = h
active_now false o p e h = absurd (let bad : false ≡ true = e in cc)

covered_now : (o : Option Past) (m : Message) (later : Type 0) (p : Past) → o ≡ Some p → NowOrLater o m later → Covers p m
covered_now None m later p e h = absurd (none_some p e)
covered_now (Some z) m later p e h = let P : Past → Type 0 = λ y. Covers y m in subst P (some_inj z p e) h

-- one more message of a key that is active, which its past lets pass
pushed : (state : State) (c : DeskCall × DeskReply) (xs : List (DeskCall × DeskReply)) (key : PubKey) (m : Message) (past : Past) (before : Before)
    → active_past state key ≡ Some past → Passes past m → SafeList before → All (CoveredOnceActive state (c ∷ xs)) before → SafeList (before ++ (key, m) ∷ [])
pushed state c xs key m past before is passes safe covered =
    all_pairs_push (λ a b. ¬ (IsUnsafe a b)) before (key, m) safe (λ i d lt un.
    let x = get_or before i d in
    let here : active_past state x.0 ≡ Some past = ap (active_past state) un.0 ∙ is in
    covered_now (active_past state x.0) x.1 (CoveredOnceActive (after state c.0 c.1) xs x) past here (covered i d lt) m passes (Slashable-sym _ _ un.1))

abbrev Outcomes : State → Before → Before → Type 0
Outcomes state before more = SafeList (before ++ more) × AllCover state more

nothing_more : (state : State) (before more : Before) → more ≡ [] → SafeList before → Outcomes state before more
nothing_more state before more none safe =
    let P : Before → Type 0 = λ l. Outcomes state before l in
    let Q : Before → Type 0 = λ l. SafeList l in
    subst P (sym none) (subst Q (sym (append-nil before)) safe, λ i d lt. absurd (omega arith))

-- a granted proposal
granted_step : (state : State) (key : PubKey) (m message : Message) (now : ℕ) (grant : OpenGrant) (settle : DeskCall × DeskReply) (rest : List (DeskCall × DeskReply)) (more before : Before)
    → Reply state (call.Propose key m now) (reply.Granted grant) → grant.message ≡ Some message → (more ≡ []) ⊎ (more ≡ (grant.key, message) ∷ [])
    → SafeList before → All (CoveredOnceActive state ((call.Propose key m now, reply.Granted grant) ∷ rest)) before
    → Outcomes (after (after state (call.Propose key m now) (reply.Granted grant)) settle.0 settle.1) before more
granted_step state key m message now grant settle rest more before can said (inl none) safe covered =
    nothing_more (after (after state (call.Propose key m now) (reply.Granted grant)) settle.0 settle.1) before more none safe
granted_step state key m message now grant settle rest more before can said (inr one) safe covered =
    let mid = after state (call.Propose key m now) (reply.Granted grant) in
    let end = after mid settle.0 settle.1 in
    let act = can.0.1.0 in
    let past = some_of (λ p. Passes p m) (past_of state key) act.1 in
    let active = active_now (is_active (key_state state.states key)) (past_of state key) past.0 (is_now_active state key act.0) past.1 in
    let same_key : grant.key ≡ key = ap (λ (g : OpenGrant). g.key) can.1 in
    let same_message : message ≡ m = some_inj message m (sym said ∙ ap (λ (g : OpenGrant). g.message) can.1) in
    let is_more : more ≡ (key, m) ∷ [] = one ∙ ap (λ k. (k, message) ∷ []) same_key ∙ ap (λ x. (key, x) ∷ []) same_message in
    let covers = covers_call mid settle key m (granted state key m now grant can).now in
    let P : Before → Type 0 = λ l. Outcomes end before l in
    subst P (sym is_more) (
      pushed state (call.Propose key m now, reply.Granted grant) rest key m past.0 before active past.2 safe covered,
      All-cons (λ x. CoversKey end.keys x.0 x.1) (key, m) [] covers (λ i d lt. absurd (omega arith)),
    )

-- ---- a turn

sent_at : (grant : OpenGrant) (m : Message) (o : Option Message) (request : SignRequest) (s : SignReply) → o ≡ Some m → (step_sent (Signs grant request, Signed s) ≡ []) ⊎ (step_sent (Signs grant request, Signed s) ≡ message_of grant grant.message)
sent_at grant m o request (signing.Signed signature) e = inr refl
sent_at grant m o request (signing.NoKey status) e = inl refl
sent_at grant m o request (signing.Denied status) e = inl refl
sent_at grant m o request signing.Fault e = inl refl
sent_at grant m o request (signing.BadAnswer body) e = inl refl
sent_at grant m o request signing.OutOfMemory e = inl refl

-- what is sent of a granted proposal
sent_of : (request : SignRequest) (c : DeskCall) (grant : OpenGrant) (m : Message) (s : SignReply) (steps : List ClientStep) → grant.message ≡ Some m → steps ≡ (Calls c, Replies (reply.Granted grant)) ∷ (Signs grant request, Signed s) ∷ (Calls (call.Settle grant (outcome_of s)), Replies reply.Settled) ∷ []
    → (sent_in steps ≡ []) ⊎ (sent_in steps ≡ (grant.key, m) ∷ [])
sent_of request c grant m s steps is e =
    let here : sent_in steps ≡ step_sent (Signs grant request, Signed s) = ap sent_in e ∙ append-nil (step_sent (Signs grant request, Signed s)) in
    ⊎_elim (λ none. inl (here ∙ none)) (λ one. inr (here ∙ one ∙ ap (message_of grant) is)) (sent_at grant m grant.message request s is)

turn_safe : (state : State) (t : Turn) (rest : List (DeskCall × DeskReply)) (before : Before) → TurnView t → CanMake state (calls_of t) → SafeList before → All (CoveredOnceActive state (calls_of t ++ rest)) before
    → Outcomes (state_after state (calls_of t)) before (sent_in t.steps)
turn_safe state t rest before (inl quiet) can safe covered = nothing_more (state_after state (calls_of t)) before (sent_in t.steps) (quiet_sent t.steps quiet) safe
turn_safe state t rest before (inr p) can safe covered = by_view p.view where
  by_view : ProposalView p.request (call.Propose p.key p.message p.now) t.steps t.answer → Outcomes (state_after state (calls_of t)) before (sent_in t.steps)
  by_view (inl plain) = nothing_more (state_after state (calls_of t)) before (sent_in t.steps) (ap sent_in plain.steps_are) safe
  by_view (inr g) =
      let settle : DeskCall × DeskReply = (call.Settle g.grant (outcome_of g.signing), reply.Settled) in
      let asks : DeskCall × DeskReply = (call.Propose p.key p.message p.now, reply.Granted g.grant) in
      let calls_are : calls_of t ≡ asks ∷ settle ∷ [] = ap desk_calls g.steps_are in
      let C : List (DeskCall × DeskReply) → Type 0 = λ l. CanMake state l in
      let R : List (DeskCall × DeskReply) → Type 0 = λ l. All (CoveredOnceActive state (l ++ rest)) before in
      let E : List (DeskCall × DeskReply) → Type 0 = λ l. Outcomes (state_after state l) before (sent_in t.steps) in
      subst E (sym calls_are) (granted_step state p.key p.message g.message p.now g.grant settle (settle ∷ rest) (sent_in t.steps) before
      (subst C calls_are can).0 g.is_message (sent_of p.request (call.Propose p.key p.message p.now) g.grant g.message g.signing t.steps g.is_message g.steps_are) safe (subst R calls_are covered))

-- the calls of one turn and then others
pub made_more : (t : Turn) (ts : List Turn) → made (t ∷ ts) ≡ calls_of t ++ made ts
made_more t ts = flat_map-append step_calls t.steps (steps_of ts)

pub sent_more : (t : Turn) (ts : List Turn) → sent (t ∷ ts) ≡ sent_in t.steps ++ sent ts
sent_more t ts = flat_map-append step_sent t.steps (steps_of ts)

cover_all : (state : State) (xs : List (DeskCall × DeskReply)) (list : Before) → AllCover state list → AllCover (state_after state xs) list
cover_all state xs list h i d lt = let x = get_or list i d in covers_calls state xs x.0 x.1 (h i d lt)

safe_turns : (chain : SessionChain) (latest : ℕ) (state : State) (ts : List Turn) (before : Before) → CanMake state (made ts) → AllPlanned chain latest state ts → SafeList before → All (CoveredOnceActive state (made ts)) before
    → Outcomes (state_after state (made ts)) before (sent ts)
safe_turns chain latest state [] before can planned safe covered = nothing_more state before [] refl safe
safe_turns chain latest state (t ∷ ts) before can planned safe covered =
    let C : List (DeskCall × DeskReply) → Type 0 = λ l. CanMake state l in
    let R : List (DeskCall × DeskReply) → Type 0 = λ l. All (CoveredOnceActive state l) before in
    let parts = can_split state (calls_of t) (made ts) (subst C (made_more t ts) can) in
    let now : All (CoveredOnceActive state (calls_of t ++ made ts)) before = subst R (made_more t ts) covered in
    let next = state_after state (calls_of t) in
    let one = turn_safe state t (made ts) before (view_of chain (keys_of state.keys) t latest planned.0) parts.0 safe now in
    let after_one : All (CoveredOnceActive next (made ts)) (before ++ sent_in t.steps) =
    All-append (CoveredOnceActive next (made ts)) before (sent_in t.steps) (λ i d lt. covered_calls state (calls_of t) (made ts) (get_or before i d) (now i d lt))
    (λ i d lt. covered_always next (made ts) (get_or (sent_in t.steps) i d) (one.1 i d lt)) in
    let rest = safe_turns chain (moment_by latest t.request) next ts (before ++ sent_in t.steps) parts.1 planned.1 one.0 after_one in
    let end : state_after state (made (t ∷ ts)) ≡ state_after next (made ts) = ap (state_after state) (made_more t ts) ∙ after_on state (calls_of t) (made ts) in
    let S : State → Type 0 = λ s. Outcomes s before (sent (t ∷ ts)) in
    let M : Before → Type 0 = λ l. Outcomes (state_after next (made ts)) before l in
    let L : Before → Type 0 = λ l. SafeList l in
    subst S (sym end) (subst M (sym (sent_more t ts)) (
      subst L (append_assoc before (sent_in t.steps) (sent ts)) rest.0,
      All-append (λ x. CoversKey (state_after next (made ts)).keys x.0 x.1) (sent_in t.steps) (sent ts) (cover_all next (made ts) (sent_in t.steps) one.1) rest.1,
    ))

-- whatever the turns, nothing slashable is sent
pub safe_run : (chain : SessionChain) (latest : ℕ) (state : State) (ts : List Turn) → CanMake state (made ts) → AllPlanned chain latest state ts → StaysSafe state (steps_of ts)
safe_run chain latest state ts can planned before safe covered =
    let all = safe_turns chain latest state ts before can planned safe covered in (
      all.0,
      All-append (CoveredInTheEnd state (made ts)) before (sent ts) (λ i d lt. covered_end state (made ts) (get_or before i d) (covered i d lt)) (λ i d lt was. all.1 i d lt),
    )
