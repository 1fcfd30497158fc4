-- A key that is not active gets no grant, and where none of it is open none of its messages is sent, until a call makes it active.
use Rattle.std.proofs.Common.{◌≡◌, inl, inr, ℕ, ◌+◌, ◌==◌, Bool, true, false, cond, List, [], ◌∷◌, ◌++◌, Option, Some, Contains, refl, sym, ◌∙◌, ap, subst, arith}
use Rattle.std.specs.Prelude.{IsSome, unwrap_or}
use Rattle.std.specs.BTreeMap.{is_at}
use Rattle.std.proofs.lemmas.List.Sums.{sum_by-cons, sum_by_push}
use Rattle.edge_kit.specs.declared.bytes.PubKey.{PubKey}
use Rattle.protect_record.proofs.MemberLemmas.{contains_cases, contains_none}
use Rattle.record_join.specs.Keys.{key_cmp, kept_of, with_key, with_kept}
use Rattle.record_join.specs.KeyLaws.{same_key, at_itself, kept_apart, changed}
use Rattle.record_replay.specs.declared.state.KeyState.{KeyState}
use Rattle.record_replay.specs.declared.state.KeyState.TheVariants.{Known, Active, Closing, Closed}
use Rattle.desk_machine.specs.States.{State, key_state, is_active, IsActive}
use Rattle.desk_machine.specs.Machine.{Reply, after}
use Rattle.desk_machine.specs.Grants.{open_grants, without}
use Rattle.desk_machine.specs.declared.open_grant.OpenGrant.{OpenGrant}
use Rattle.desk_machine.specs.declared.call.DeskCall.{DeskCall}
use Rattle.desk_machine.specs.declared.call.DeskCall.TheVariants as call
use Rattle.desk_machine.specs.declared.call.DeskReply.{DeskReply}
use Rattle.desk_machine.specs.declared.call.DeskReply.TheVariants as reply
use Rattle.client_calls.specs.Machines.{CanMake, state_after}
use Rattle.client_calls.proofs.MachineLemmas.{can_split}
use Rattle.session_run.specs.Silent.{IsActivation, IsAmong, IsClose}
use Rattle.serve_world.specs.Silence.{IsGrantOf, IsOff, StaysUngranted, UngrantedUntilActive}

abbrev Standings : Type 0
Standings = List (PubKey × KeyState)

true_false : {A : Type 0} (b : Bool) → b ≡ true → b ≡ false → A
true_false b t f = absurd (let bad : true ≡ false = sym t ∙ f in cc)

by_truth : {A : Type 0} (b : Bool) → (b ≡ true → A) → (b ≡ false → A) → A
by_truth true f g = f refl
by_truth false f g = g refl

-- ---- what makes a key active

some_by : {o : Option KeyState} (s : KeyState) → o ≡ Some s → IsSome o
some_by s e = let P : Option KeyState → Type 0 = λ x. IsSome x in subst P (sym e) refl

-- another state of a key that has one, itself not active, makes none active
stays_off : (states : Standings) (k key : PubKey) (s : KeyState) → IsSome (kept_of states k) → is_active s ≡ false → is_active (key_state states key) ≡ false → is_active (key_state (with_kept states k s) key) ≡ false
stays_off states k key s some closed off = ap (λ o. is_active (unwrap_or o Known)) (changed states k key s some) ∙ at (is_at (key_cmp k) key) where
  at : (b : Bool) → is_active (unwrap_or (cond b (Some s) (kept_of states key)) Known) ≡ false
  at true = closed
  at false = off

activates : (states : Standings) (k key : PubKey) → is_active (key_state states key) ≡ false → is_active (key_state (with_key states k Active) key) ≡ true → k ≡ key
activates states k key off turned = at (is_at (key_cmp k) key) refl where
  at : (b : Bool) → is_at (key_cmp k) key ≡ b → k ≡ key
  at true is = same_key k key is
  at false is = true_false (is_active (key_state states key)) (ap (λ o. is_active (unwrap_or o Known)) (sym (kept_apart states k key Active is)) ∙ turned) off

activated_call : (state : State) (c : DeskCall) (r : DeskReply) (key : PubKey) → Reply state c r → IsOff state key → is_active (key_state (after state c r).states key) ≡ true → IsActivation key (c, r)
activated_call state (call.Activate k now) reply.Active key can off turned = activates state.states k key off turned
activated_call state (call.BeginClose k) reply.CloseBegun key can off turned =
    true_false (is_active (key_state (with_kept state.states k Closing) key)) turned (stays_off state.states k key Closing (some_by Active can.1) refl off)
activated_call state (call.FinishClose k) (reply.Closed book) key can off turned =
    true_false (is_active (key_state (with_kept state.states k Closed) key)) turned (stays_off state.states k key Closed (some_by Closing can.0.1.1) refl off)
activated_call state (call.Merge file) (reply.Merged keys) key can off turned = true_false (is_active (key_state state.states key)) turned off
activated_call state (call.Propose k m now) (reply.Granted grant) key can off turned = true_false (is_active (key_state state.states key)) turned off
activated_call state (call.Allow k now) (reply.Granted grant) key can off turned = true_false (is_active (key_state state.states key)) turned off
activated_call state (call.Answer k epoch live now) reply.Noted key can off turned = true_false (is_active (key_state state.states key)) turned off
activated_call state (call.Settle grant o) reply.Settled key can off turned = true_false (is_active (key_state state.states key)) turned off
activated_call state (call.Record ps now) reply.Recorded key can off turned = true_false (is_active (key_state state.states key)) turned off
activated_call state (call.Prune k) (reply.Pruned book) key can off turned = true_false (is_active (key_state state.states key)) turned off
activated_call state call.Compact (reply.Compacted before size) key can off turned = true_false (is_active (key_state state.states key)) turned off
activated_call state c reply.Disk key can off turned = true_false (is_active (key_state state.states key)) turned off
activated_call state c r key can off turned = true_false (is_active (key_state state.states key)) turned off

activated_in : (state : State) (xs : List (DeskCall × DeskReply)) (key : PubKey) → CanMake state xs → IsOff state key → is_active (key_state (state_after state xs).states key) ≡ true → IsAmong (IsActivation key) xs
activated_in state [] key can off turned = true_false (is_active (key_state state.states key)) turned off
activated_in state (x ∷ xs) key can off turned =
    by_truth (is_active (key_state (after state x.0 x.1).states key)) (λ e. inl (activated_call state x.0 x.1 key can.0 off e)) (λ e. inr (activated_in (after state x.0 x.1) xs key can.1 e turned))

-- a key that a call closed is not active after it
closed_off : (state : State) (c : DeskCall) (r : DeskReply) (key : PubKey) → Reply state c r → IsClose key (c, r) → IsOff (after state c r) key
closed_off state (call.FinishClose k) (reply.Closed book) key can is =
    let P : PubKey → Type 0 = λ q. is_active (key_state (with_kept state.states k Closed) q) ≡ false in
    subst P is (ap (λ o. is_active (unwrap_or o Known)) (changed state.states k k Closed (some_by Closing can.0.1.1)) ∙ at (is_at (key_cmp k) k) refl) where
      at : (b : Bool) → is_at (key_cmp k) k ≡ b → is_active (unwrap_or (cond b (Some Closed) (kept_of state.states k)) Known) ≡ false
      at true e = refl
      at false e = ap (λ o. is_active (unwrap_or o Known)) can.0.1.1
closed_off state (call.FinishClose k) reply.Disk key can is = absurd is
closed_off state (call.FinishClose k) r key can is = absurd is
closed_off state c r key can is = absurd is

-- ---- grants

active_is : (state : State) (k : PubKey) → IsActive state k → is_active (key_state state.states k) ≡ true
active_is state k h = ap (λ o. is_active (unwrap_or o Known)) h

active_along : (state : State) (k key : PubKey) → k ≡ key → IsActive state k → is_active (key_state state.states key) ≡ true
active_along state k key is h = let P : PubKey → Type 0 = λ q. is_active (key_state state.states q) ≡ true in subst P is (active_is state k h)

-- a grant is given for an active key alone
pub granted_active : (state : State) (c : DeskCall) (r : DeskReply) (key : PubKey) → Reply state c r → IsGrantOf key (c, r) → is_active (key_state state.states key) ≡ true
granted_active state (call.Propose k m now) (reply.Granted grant) key can is = active_along state k key is can.0.1.0.0
granted_active state (call.Allow k now) (reply.Granted grant) key can is = active_along state k key is can.0.1.0.1
granted_active state (call.Propose k m now) reply.Disk key can is = absurd is
granted_active state (call.Propose k m now) r key can is = absurd is
granted_active state (call.Allow k now) reply.Disk key can is = absurd is
granted_active state (call.Allow k now) r key can is = absurd is
granted_active state c r key can is = absurd is

ungranted : (state : State) (key : PubKey) (made : List (DeskCall × DeskReply)) → CanMake state made → IsOff state key → UngrantedUntilActive key made
ungranted state key made can off between later x is grants =
    let parts = can_split state between (x ∷ later) (subst (λ (l : List (DeskCall × DeskReply)). CanMake state l) is can) in
    let here : State = state_after state between in
    activated_in state between key parts.0 off (granted_active here x.0 x.1 key parts.1.0 grants)

pub stays_ungranted : (state : State) (made : List (DeskCall × DeskReply)) → CanMake state made → StaysUngranted state made
stays_ungranted state made can = record {
  starts = λ key off. ungranted state key made can off;
  closed = λ before later x key is closes.
      let parts = can_split state before (x ∷ later) (subst (λ (l : List (DeskCall × DeskReply)). CanMake state l) is can) in
      let here : State = state_after state before in
      ungranted (after here x.0 x.1) key later parts.1.1 (closed_off here x.0 x.1 key parts.1.0 closes);
}

-- ---- a key that is not active and of which no grant is open

abbrev pub IsStill : State → PubKey → Type 0
IsStill state key = IsOff state key × (open_grants state.grants key ≡ 0)

open_cons : (g : OpenGrant) (gs : List OpenGrant) (key : PubKey) (b : Bool) → is_at (key_cmp key) g.key ≡ b → open_grants (g ∷ gs) key ≡ cond b 1 0 + open_grants gs key
open_cons g gs key b e = sum_by-cons (λ x. cond (is_at (key_cmp key) x.key) 1 0) g gs ∙ ap (λ t. cond t 1 0 + open_grants gs key) e

open_push : (gs : List OpenGrant) (g : OpenGrant) (key : PubKey) → is_at (key_cmp key) g.key ≡ false → open_grants gs key ≡ 0 → open_grants (gs ++ g ∷ []) key ≡ 0
open_push gs g key other none =
    let more : open_grants (gs ++ g ∷ []) key ≡ open_grants gs key + cond (is_at (key_cmp key) g.key) 1 0 = sum_by_push (λ x. cond (is_at (key_cmp key) x.key) 1 0) gs g in
    let is : open_grants (gs ++ g ∷ []) key ≡ open_grants gs key + 0 = more ∙ ap (λ t. open_grants gs key + cond t 1 0) other in
    omega (arith, is, none)

none_later : (g : OpenGrant) (gs : List OpenGrant) (key : PubKey) → open_grants (g ∷ gs) key ≡ 0 → (is_at (key_cmp key) g.key ≡ false) × (open_grants gs key ≡ 0)
none_later g gs key none = at (is_at (key_cmp key) g.key) refl where
  at : (b : Bool) → is_at (key_cmp key) g.key ≡ b → (is_at (key_cmp key) g.key ≡ false) × (open_grants gs key ≡ 0)
  at true e = let total : 1 + open_grants gs key ≡ 0 = sym (open_cons g gs key true e) ∙ none in absurd (omega (arith, total))
  at false e = let total : 0 + open_grants gs key ≡ 0 = sym (open_cons g gs key false e) ∙ none in (e, omega (arith, total))

open_without : (gs : List OpenGrant) (number : ℕ) (key : PubKey) → open_grants gs key ≡ 0 → open_grants (without gs number) key ≡ 0
open_without [] number key none = none
open_without (g ∷ gs) number key none = at (g.number == number) (none_later g gs key none) (open_without gs number key) where
  at : (b : Bool) → (is_at (key_cmp key) g.key ≡ false) × (open_grants gs key ≡ 0) → (open_grants gs key ≡ 0 → open_grants (without gs number) key ≡ 0) → open_grants (cond b gs (g ∷ without gs number)) key ≡ 0
  at true parts more = parts.1
  at false parts more =
      let rest : open_grants (without gs number) key ≡ 0 = more parts.1 in
      let is : open_grants (g ∷ without gs number) key ≡ 0 + open_grants (without gs number) key = open_cons g (without gs number) key false parts.0 in
      omega (arith, is, rest)

none_open : (grants : List OpenGrant) (key : PubKey) → open_grants grants key ≡ 0 → (g : OpenGrant) → Contains grants g → g.key ≡ key → ⊥
none_open [] key e g has is = contains_none g has
none_open (h ∷ hs) key e g has is = elim (contains_cases h hs g has) [
  | inl same ↦ (
      let P : PubKey → Type 0 = λ q. is_at (key_cmp key) q ≡ false in
      let here : is_at (key_cmp key) key ≡ false = subst P (ap (λ (x : OpenGrant). x.key) same ∙ is) (none_later h hs key e).0 in
      true_false (is_at (key_cmp key) key) (at_itself key) here
      )
  | inr there ↦ none_open hs key (none_later h hs key e).1 g there is
]

-- a grant for another key
other_grant : (state : State) (k key : PubKey) (g : OpenGrant) → g.key ≡ k → IsOff state key → IsActive state k → is_at (key_cmp key) g.key ≡ false
other_grant state k key g of off active = at (is_at (key_cmp key) g.key) refl where
  at : (b : Bool) → is_at (key_cmp key) g.key ≡ b → is_at (key_cmp key) g.key ≡ false
  at true e = let same : k ≡ key = sym of ∙ sym (same_key key g.key e) in true_false (is_active (key_state state.states key)) (active_along state k key same active) off
  at false e = e

grants_still : (state : State) (c : DeskCall) (r : DeskReply) (key : PubKey) → Reply state c r → IsStill state key → open_grants (after state c r).grants key ≡ 0
grants_still state (call.Propose k m now) (reply.Granted grant) key can still = open_push state.grants grant key (other_grant state k key grant (ap (λ (g : OpenGrant). g.key) can.1) still.0 can.0.1.0.0) still.1
grants_still state (call.Allow k now) (reply.Granted grant) key can still = open_push state.grants grant key (other_grant state k key grant (ap (λ (g : OpenGrant). g.key) can.1) still.0 can.0.1.0.1) still.1
grants_still state (call.Settle grant o) reply.Settled key can still = open_without state.grants grant.number key still.1
grants_still state (call.Merge file) (reply.Merged keys) key can still = still.1
grants_still state (call.Activate k now) reply.Active key can still = still.1
grants_still state (call.BeginClose k) reply.CloseBegun key can still = still.1
grants_still state (call.FinishClose k) (reply.Closed book) key can still = still.1
grants_still state (call.Answer k epoch live now) reply.Noted key can still = still.1
grants_still state (call.Record ps now) reply.Recorded key can still = still.1
grants_still state (call.Prune k) (reply.Pruned book) key can still = still.1
grants_still state call.Compact (reply.Compacted before size) key can still = still.1
grants_still state c reply.Disk key can still = still.1
grants_still state c r key can still = still.1

-- a call makes it active, or leaves it so
pub still_or_active : {A : Type 0} (state : State) (c : DeskCall) (r : DeskReply) (key : PubKey) → Reply state c r → IsStill state key → (IsActivation key (c, r) → A) → (IsStill (after state c r) key → A) → A
still_or_active state c r key can still active stays =
    by_truth (is_active (key_state (after state c r).states key)) (λ e. active (activated_call state c r key can still.0 e)) (λ e. stays (e, grants_still state c r key can still))

-- a key is closed only where no grant of it is open
closed_idle : (state : State) (c : DeskCall) (r : DeskReply) (key : PubKey) → Reply state c r → IsClose key (c, r) → open_grants (after state c r).grants key ≡ 0
closed_idle state (call.FinishClose k) (reply.Closed book) key can is = let P : PubKey → Type 0 = λ q. open_grants state.grants q ≡ 0 in subst P is can.0.1.2
closed_idle state (call.FinishClose k) reply.Disk key can is = absurd is
closed_idle state (call.FinishClose k) r key can is = absurd is
closed_idle state c r key can is = absurd is

pub closed_still : (state : State) (c : DeskCall) (r : DeskReply) (key : PubKey) → Reply state c r → IsClose key (c, r) → IsStill (after state c r) key
closed_still state c r key can is = (closed_off state c r key can is, closed_idle state c r key can is)

-- nothing is granted for it, and nothing of it is open
pub still_ungranted : (state : State) (c : DeskCall) (r : DeskReply) (key : PubKey) → Reply state c r → IsStill state key → IsGrantOf key (c, r) → ⊥
still_ungranted state c r key can still is = true_false (is_active (key_state state.states key)) (granted_active state c r key can is) still.0

pub still_unsent : (state : State) (key : PubKey) (g : OpenGrant) → IsStill state key → Contains state.grants g → g.key ≡ key → ⊥
still_unsent state key g still has is = none_open state.grants key still.1 g has is
