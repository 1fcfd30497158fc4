-- Behind the close of a key nothing of it is sent until it is active again.
use Rattle.std.proofs.Common.{◌≡◌, inl, inr, ℕ, Bool, true, false, cond, List, [], ◌∷◌, ◌++◌, Option, Some, None, refl, sym, ◌∙◌, ap, subst}
use Rattle.std.specs.Prelude.{◌≢◌, IsSome, unwrap_or}
use Rattle.std.specs.BTreeMap.{is_at}
use Rattle.std.specs.Map.{keys_of}
use Rattle.edge_kit.specs.declared.bytes.PubKey.{PubKey}
use Rattle.slash_defs.specs.declared.message.Message.{Message}
use Rattle.session_format.specs.declared.chain.SessionChain.{SessionChain}
use Rattle.signer_link.specs.declared.request.SignRequest.{SignRequest}
use Rattle.signer_link.specs.declared.reply.SignReply.{SignReply}
use Rattle.signer_link.specs.declared.reply.SignReply.TheVariants as signing
use Rattle.record_join.specs.Keys.{key_cmp, kept_of, with_key, with_kept}
use Rattle.record_join.specs.KeyLaws.{same_key, kept_apart, changed}
use Rattle.record_replay.specs.declared.state.KeyState.{KeyState}
use Rattle.record_replay.specs.declared.state.KeyState.TheVariants.{Known, Active, Closing, Closed}
use Rattle.desk_machine.specs.Making.{AllBusy, ClosesIdle}
use Rattle.desk_machine.specs.States.{State, key_state, is_active, IsActive}
use Rattle.desk_machine.specs.Machine.{Reply, after}
use Rattle.desk_machine.specs.declared.open_grant.OpenGrant.{OpenGrant}
use Rattle.desk_machine.specs.declared.call.DeskCall.{DeskCall}
use Rattle.desk_machine.specs.declared.call.DeskCall.TheVariants as call
use Rattle.desk_machine.specs.declared.call.DeskReply.{DeskReply}
use Rattle.desk_machine.specs.declared.call.DeskReply.TheVariants as reply
use Rattle.client_calls.specs.Machines.{CanMake, state_after}
use Rattle.client_calls.specs.Steps.{ClientCall, ClientReply, ClientStep, Calls, Closes, Signs, SignsPlain, Imports, Deletes, Replies, ClosedBy, Signed, Imported, Deleted, Fits, message_of, step_calls, step_sent, desk_calls}
use Rattle.client_calls.proofs.MachineLemmas.{can_split, after_on}
use Rattle.client_calls.proofs.QuietLemmas.{AllQuiet, IsQuiet}
use Rattle.session_run.specs.Plans.{moment_by, outcome_of}
use Rattle.session_run.specs.Silent.{IsActivation, IsClose, IsAmong, NoneOf, SilentUntilActive, StaysSilent}
use Rattle.session_run.specs.Turns.{Turn, AllPlanned, calls_of, steps_of, made}
use Rattle.session_run.proofs.SafeLemmas.{made_more}
use Rattle.session_run.proofs.ViewLemmas.{ProposalView, TurnView, view_of}

abbrev Standings : Type 0
Standings = List (PubKey × KeyState)

abbrev Is : Bool → State → PubKey → Type 0
Is b state key = is_active (key_state state.states key) ≡ b

true_false : {A : Type 0} (b : Bool) → b ≡ true → b ≡ false → A
true_false b t f = absurd (let bad : true ≡ false = sym t ∙ f in cc)

by_truth : {A : Type 0} (b : Bool) → (b ≡ true → A) → (b ≡ false → A) → A
by_truth true f g = f refl
by_truth false f g = g refl

-- ---- what makes a key active

-- another state at a key that has one leaves each key inactive that was, where it is not this one that becomes active
stays_inactive : (states : Standings) (k key : PubKey) (s : KeyState) → IsSome (kept_of states k) → is_active s ≡ false → is_active (key_state states key) ≡ false → is_active (key_state (with_kept states k s) key) ≡ false
stays_inactive states k key s some closed off = ap (λ o. is_active (unwrap_or o Known)) (changed states k key s some) ∙ at (is_at (key_cmp k) key) where
  at : (b : Bool) → is_active (unwrap_or (cond b (Some s) (kept_of states key)) Known) ≡ false
  at true = closed
  at false = off

some_by : {o : Option KeyState} (s : KeyState) → o ≡ Some s → IsSome o
some_by s e = let P : Option KeyState → Type 0 = λ x. IsSome x in subst P (sym e) refl

activates : (states : Standings) (k key : PubKey) → is_active (key_state states key) ≡ false → is_active (key_state (with_key states k Active) key) ≡ true → k ≡ key
activates states k key off turned = at (is_at (key_cmp k) key) refl where
  at : (b : Bool) → is_at (key_cmp k) key ≡ b → k ≡ key
  at true is = same_key k key is
  at false is = true_false (is_active (key_state states key)) (ap (λ o. is_active (unwrap_or o Known)) (sym (kept_apart states k key Active is)) ∙ turned) off

activated_call : (state : State) (c : DeskCall) (r : DeskReply) (key : PubKey) → Reply state c r → Is false state key → Is true (after state c r) key → IsActivation key (c, r)
activated_call state (call.Activate k now) reply.Active key can off turned = activates state.states k key off turned
activated_call state (call.BeginClose k) reply.CloseBegun key can off turned =
    true_false (is_active (key_state (with_kept state.states k Closing) key)) turned (stays_inactive state.states k key Closing (some_by Active can.1) refl off)
activated_call state (call.FinishClose k) (reply.Closed book) key can off turned =
    true_false (is_active (key_state (with_kept state.states k Closed) key)) turned (stays_inactive state.states k key Closed (some_by Closing can.0.1.1) refl off)
activated_call state (call.Merge file) (reply.Merged keys) key can off turned = true_false (is_active (key_state state.states key)) turned off
activated_call state (call.Propose k m now) (reply.Granted grant) key can off turned = true_false (is_active (key_state state.states key)) turned off
activated_call state (call.Allow k now) (reply.Granted grant) key can off turned = true_false (is_active (key_state state.states key)) turned off
activated_call state (call.Answer k epoch live now) reply.Noted key can off turned = true_false (is_active (key_state state.states key)) turned off
activated_call state (call.Settle grant o) reply.Settled key can off turned = true_false (is_active (key_state state.states key)) turned off
activated_call state (call.Record ps now) reply.Recorded key can off turned = true_false (is_active (key_state state.states key)) turned off
activated_call state (call.Prune k) (reply.Pruned book) key can off turned = true_false (is_active (key_state state.states key)) turned off
activated_call state call.Compact (reply.Compacted before size) key can off turned = true_false (is_active (key_state state.states key)) turned off
activated_call state c reply.Disk key can off turned = true_false (is_active (key_state state.states key)) turned off
activated_call state c r key can off turned = true_false (is_active (key_state state.states key)) turned off

activated_in : (state : State) (xs : List (DeskCall × DeskReply)) (key : PubKey) → CanMake state xs → Is false state key → Is true (state_after state xs) key → IsAmong (IsActivation key) xs
activated_in state [] key can off turned = true_false (is_active (key_state state.states key)) turned off
activated_in state (x ∷ xs) key can off turned =
    by_truth (is_active (key_state (after state x.0 x.1).states key)) (λ e. inl (activated_call state x.0 x.1 key can.0 off e)) (λ e. inr (activated_in (after state x.0 x.1) xs key can.1 e turned))

-- ---- a key that a step closed is not active after it

closed_call : (state : State) (c : DeskCall) (r : DeskReply) (key : PubKey) → Reply state c r → IsClose key (c, r) → Is false (after state c r) key
closed_call state (call.FinishClose k) (reply.Closed book) key can is =
    let P : PubKey → Type 0 = λ q. is_active (key_state (with_kept state.states k Closed) q) ≡ false in
    subst P is (ap (λ o. is_active (unwrap_or o Known)) (changed state.states k k Closed (some_by Closing can.0.1.1)) ∙ at (is_at (key_cmp k) k) refl) where
      at : (b : Bool) → is_at (key_cmp k) k ≡ b → is_active (unwrap_or (cond b (Some Closed) (kept_of state.states k)) Known) ≡ false
      at true e = refl
      at false e = ap (λ o. is_active (unwrap_or o Known)) can.0.1.1
closed_call state (call.FinishClose k) reply.Disk key can is = absurd is
closed_call state (call.FinishClose k) r key can is = absurd is
closed_call state c r key can is = absurd is

-- calls to close a key make none active
abbrev AreCloses : PubKey → List (DeskCall × DeskReply) → Type 0
AreCloses k [] = Unit {0}
AreCloses k (x ∷ xs) = (x.0 ≡ call.FinishClose k) × AreCloses k xs

no_activation : (k key : PubKey) (r : DeskReply) → IsActivation key (call.FinishClose k, r) → ⊥
no_activation k key reply.Active h = h
no_activation k key r h = h

no_activations : (k key : PubKey) (xs : List (DeskCall × DeskReply)) → AreCloses k xs → IsAmong (IsActivation key) xs → ⊥
no_activations k key [] h a = a
no_activations k key (x ∷ xs) h (inl a) = let P : DeskCall → Type 0 = λ c. IsActivation key (c, x.1) in no_activation k key x.1 (subst P h.0 a)
no_activations k key (x ∷ xs) h (inr a) = no_activations k key xs h.1 a

closed_in : (state : State) (k key : PubKey) (xs : List (DeskCall × DeskReply)) → CanMake state xs → AreCloses k xs → IsAmong (IsClose key) xs → Is false (state_after state xs) key
closed_in state k key [] can closes h = absurd h
closed_in state k key (x ∷ xs) can closes (inl h) = at (is_active (key_state (state_after (after state x.0 x.1) xs).states key)) refl where
  at : (b : Bool) → Is b (state_after (after state x.0 x.1) xs) key → Is false (state_after (after state x.0 x.1) xs) key
  at true e = absurd (no_activations k key xs closes.1 (activated_in (after state x.0 x.1) xs key can.1 (closed_call state x.0 x.1 key can.0 h) e))
  at false e = e
closed_in state k key (x ∷ xs) can closes (inr h) = closed_in (after state x.0 x.1) k key xs can.1 closes.1 h

are_busy : (k : PubKey) (xs : List (DeskCall × DeskReply)) (r : DeskReply) → AllBusy (call.FinishClose k) xs → AreCloses k (xs ++ (call.FinishClose k, r) ∷ [])
are_busy k [] r h = (refl, tt)
are_busy k (x ∷ xs) r h = (h.0, are_busy k xs r h.2)

are_closes : (k : PubKey) (r : DeskReply) (made : List (DeskCall × DeskReply)) → ClosesIdle (call.FinishClose k) r made → AreCloses k made
are_closes k r made h = let P : List (DeskCall × DeskReply) → Type 0 = AreCloses k in subst P (sym h.made_is) (are_busy k h.busy r h.all_busy)

closed_step : (state : State) (c : ClientCall) (y : ClientReply) (key : PubKey) → IsQuiet c → Fits c y → CanMake state (step_calls (c, y)) → IsAmong (IsClose key) (step_calls (c, y)) → Is false (state_after state (step_calls (c, y))) key
closed_step state (Calls c) (Replies r) key quiet fits can (inl h) = closed_call state c r key can.0 h
closed_step state (Calls c) (Replies r) key quiet fits can (inr h) = absurd h
closed_step state (Closes k) (ClosedBy made r) key quiet fits can h = closed_in state k key made can (are_closes k r made fits.0) h
closed_step state (Calls c) (ClosedBy made r) key quiet fits can h = absurd fits
closed_step state (Calls c) (Signed r) key quiet fits can h = absurd fits
closed_step state (Calls c) (Imported r) key quiet fits can h = absurd fits
closed_step state (Calls c) (Deleted r) key quiet fits can h = absurd fits
closed_step state (Closes k) (Replies r) key quiet fits can h = absurd fits
closed_step state (Closes k) (Signed r) key quiet fits can h = absurd fits
closed_step state (Closes k) (Imported r) key quiet fits can h = absurd fits
closed_step state (Closes k) (Deleted r) key quiet fits can h = absurd fits
closed_step state (Signs grant q) y key quiet fits can h = absurd quiet
closed_step state (SignsPlain grant q) y key quiet fits can h = absurd h
closed_step state (Imports q) y key quiet fits can h = absurd h
closed_step state (Deletes k) y key quiet fits can h = absurd h

-- ---- steps in which nothing is signed

unsent : (key : PubKey) (c : ClientCall) (y : ClientReply) → IsQuiet c → NoneOf key (step_sent (c, y))
unsent key (Calls c) y h = tt
unsent key (Closes k) y h = tt
unsent key (Signs grant q) y h = absurd h
unsent key (SignsPlain grant q) y h = tt
unsent key (Imports q) y h = tt
unsent key (Deletes k) y h = tt

more_calls : (s : ClientStep) (steps : List ClientStep) → desk_calls (s ∷ steps) ≡ step_calls s ++ desk_calls steps
more_calls s steps = refl

silent_quiet : (state : State) (key : PubKey) (steps rest : List ClientStep) → AllQuiet steps → CanMake state (desk_calls steps) → Is false state key
    → (Is false (state_after state (desk_calls steps)) key → SilentUntilActive key rest) → SilentUntilActive key (steps ++ rest)
silent_quiet state key [] rest quiet can off then = then off
silent_quiet state key (s ∷ steps) rest quiet can off then =
    let parts = can_split state (step_calls s) (desk_calls steps) can in
    let next = state_after state (step_calls s) in
    let P : State → Type 0 = λ st. Is false st key in
    by_truth (is_active (key_state next.states key)) (λ e. inl (activated_in state (step_calls s) key parts.0 off e))
    (λ e. inr (
      unsent key s.0 s.1 quiet.0.0,
      silent_quiet next key steps rest quiet.1 parts.1 e (λ end. then (subst P (sym (after_on state (step_calls s) (desk_calls steps))) end)),
    ))

-- ---- a turn

-- a proposal changes off key's state
proposed_states : (state : State) (k : PubKey) (m : Message) (now : ℕ) (r : DeskReply) → (after state (call.Propose k m now) r).states ≡ state.states
proposed_states state k m now (reply.Granted grant) = refl
proposed_states state k m now reply.Disk = refl
proposed_states state k m now r = refl

-- what is sent under a grant is of its key
sent_message : (key : PubKey) (grant : OpenGrant) (o : Option Message) → grant.key ≢ key → NoneOf key (message_of grant o)
sent_message key grant None other = tt
sent_message key grant (Some m) other = (other, tt)

sent_key : (key : PubKey) (grant : OpenGrant) (request : SignRequest) (s : SignReply) → grant.key ≢ key → NoneOf key (step_sent (Signs grant request, Signed s))
sent_key key grant request (signing.Signed signature) other = sent_message key grant grant.message other
sent_key key grant request (signing.NoKey status) other = tt
sent_key key grant request (signing.Denied status) other = tt
sent_key key grant request signing.Fault other = tt
sent_key key grant request (signing.BadAnswer body) other = tt
sent_key key grant request signing.OutOfMemory other = tt

active_is : (state : State) (k : PubKey) → IsActive state k → Is true state k
active_is state k h = ap (λ o. is_active (unwrap_or o Known)) h

silent_turn : (state : State) (key : PubKey) (t : Turn) (rest : List ClientStep) → TurnView t → CanMake state (calls_of t) → Is false state key
    → (Is false (state_after state (calls_of t)) key → SilentUntilActive key rest) → SilentUntilActive key (t.steps ++ rest)
silent_turn state key t rest (inl quiet) can off then = silent_quiet state key t.steps rest quiet can off then
silent_turn state key t rest (inr p) can off then = by_view p.view where
  by_view : ProposalView p.request (call.Propose p.key p.message p.now) t.steps t.answer → SilentUntilActive key (t.steps ++ rest)
  by_view (inl plain) =
      let mid = after state (call.Propose p.key p.message p.now) plain.reply in
      let still : Is false mid key = ap (λ (l : Standings). is_active (key_state l key)) (proposed_states state p.key p.message p.now plain.reply) ∙ off in
      let T : List ClientStep → Type 0 = λ l. SilentUntilActive key (l ++ rest) in
      let C : List ClientStep → Type 0 = λ l. Is false (state_after state (desk_calls l)) key in
      subst T (sym plain.steps_are) (inr (tt, then (subst C (sym plain.steps_are) still)))
  by_view (inr g) =
      let c = call.Propose p.key p.message p.now in
      let C : List ClientStep → Type 0 = λ l. CanMake state (desk_calls l) in
      let made_now = subst C g.steps_are can in
      let mid = after state c (reply.Granted g.grant) in
      let end = after mid (call.Settle g.grant (outcome_of g.signing)) reply.Settled in
      let same : g.grant.key ≡ p.key = ap (λ (x : OpenGrant). x.key) made_now.0.1 in
      let other : g.grant.key ≢ key = λ e. let P : PubKey → Type 0 = λ k. Is true state k in true_false (is_active (key_state state.states key)) (subst P (sym same ∙ e) (active_is state p.key made_now.0.0.1.0.0)) off in
      let T : List ClientStep → Type 0 = λ l. SilentUntilActive key (l ++ rest) in
      let E : List ClientStep → Type 0 = λ l. Is false (state_after state (desk_calls l)) key in
      let still : Is false end key = off in
      subst T (sym g.steps_are) (inr (tt, inr (sent_key key g.grant p.request g.signing other, inr (tt, then (subst E (sym g.steps_are) still)))))

-- a key that is not active now sends nothing before it is
pub silent_turns : (chain : SessionChain) (latest : ℕ) (state : State) (key : PubKey) (ts : List Turn) → CanMake state (made ts) → AllPlanned chain latest state ts → Is false state key → SilentUntilActive key (steps_of ts)
silent_turns chain latest state key [] can planned off = tt
silent_turns chain latest state key (t ∷ ts) can planned off =
    let C : List (DeskCall × DeskReply) → Type 0 = λ l. CanMake state l in
    let parts = can_split state (calls_of t) (made ts) (subst C (made_more t ts) can) in
    silent_turn state key t (steps_of ts) (view_of chain (keys_of state.keys) t latest planned.0) parts.0 off
    (λ end. silent_turns chain (moment_by latest t.request) (state_after state (calls_of t)) key ts parts.1 planned.1 end)

-- ---- after each close

within_quiet : (state : State) (steps rest : List ClientStep) → AllQuiet steps → CanMake state (desk_calls steps)
    → ((key : PubKey) → Is false (state_after state (desk_calls steps)) key → SilentUntilActive key rest) → StaysSilent rest → StaysSilent (steps ++ rest)
within_quiet state [] rest quiet can then all = all
within_quiet state (s ∷ steps) rest quiet can then all =
    let parts = can_split state (step_calls s) (desk_calls steps) can in
    let next = state_after state (step_calls s) in
    let on : (key : PubKey) → Is false (state_after next (desk_calls steps)) key → SilentUntilActive key rest =
    λ key end. let P : State → Type 0 = λ st. Is false st key in then key (subst P (sym (after_on state (step_calls s) (desk_calls steps))) end) in (
      λ key closes. silent_quiet next key steps rest quiet.1 parts.1 (closed_step state s.0 s.1 key quiet.0.0 quiet.0.1 parts.0 closes) (on key),
      within_quiet next steps rest quiet.1 parts.1 on all,
    )

no_close : (key k : PubKey) (m : Message) (now : ℕ) (r : DeskReply) → IsClose key (call.Propose k m now, r) → ⊥
no_close key k m now (reply.Closed book) h = h
no_close key k m now r h = h

within_turn : (state : State) (t : Turn) (rest : List ClientStep) → TurnView t → CanMake state (calls_of t)
    → ((key : PubKey) → Is false (state_after state (calls_of t)) key → SilentUntilActive key rest) → StaysSilent rest → StaysSilent (t.steps ++ rest)
within_turn state t rest (inl quiet) can then all = within_quiet state t.steps rest quiet can then all
within_turn state t rest (inr p) can then all = by_view p.view where
  none : (key : PubKey) (r : DeskReply) → IsAmong (IsClose key) ((call.Propose p.key p.message p.now, r) ∷ []) → ⊥
  none key r (inl h) = no_close key p.key p.message p.now r h
  none key r (inr h) = h

  unsettled : (key : PubKey) (grant : OpenGrant) (s : SignReply) → IsAmong (IsClose key) ((call.Settle grant (outcome_of s), reply.Settled) ∷ []) → ⊥
  unsettled key grant s (inl h) = h
  unsettled key grant s (inr h) = h

  by_view : ProposalView p.request (call.Propose p.key p.message p.now) t.steps t.answer → StaysSilent (t.steps ++ rest)
  by_view (inl plain) = let T : List ClientStep → Type 0 = λ l. StaysSilent (l ++ rest) in subst T (sym plain.steps_are) (λ key h. absurd (none key plain.reply h), all)
  by_view (inr g) =
      let T : List ClientStep → Type 0 = λ l. StaysSilent (l ++ rest) in
      subst T (sym g.steps_are) (λ key h. absurd (none key (reply.Granted g.grant) h), (λ key h. absurd h, (λ key h. absurd (unsettled key g.grant g.signing h), all)))

pub silent_run : (chain : SessionChain) (latest : ℕ) (state : State) (ts : List Turn) → CanMake state (made ts) → AllPlanned chain latest state ts → StaysSilent (steps_of ts)
silent_run chain latest state [] can planned = tt
silent_run chain latest state (t ∷ ts) can planned =
    let C : List (DeskCall × DeskReply) → Type 0 = λ l. CanMake state l in
    let parts = can_split state (calls_of t) (made ts) (subst C (made_more t ts) can) in
    let next = state_after state (calls_of t) in
    within_turn state t (steps_of ts) (view_of chain (keys_of state.keys) t latest planned.0) parts.0
    (λ key off. silent_turns chain (moment_by latest t.request) next key ts parts.1 planned.1 off)
    (silent_run chain (moment_by latest t.request) next ts parts.1 planned.1)
