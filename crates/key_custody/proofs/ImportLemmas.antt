-- An import over the machine: after the first one each key is active, and a later one finds it so.
use Rattle.std.proofs.Common.{◌≡◌, ◌⊎◌, inl, inr, ◌&&◌, ◌||◌, ℕ, Bool, true, false, cond, List, [], ◌∷◌, ◌++◌, map, Option, Some, None, refl, sym, ◌∙◌, ap, subst, append_assoc}
use Rattle.std.specs.Prelude.{IsSome, is_some, unwrap_or, Contains}
use Rattle.std.specs.List.{list_any, list_all}
use Rattle.std.specs.Map.{keys_of}
use Rattle.std.specs.BTreeMap.{is_at}
use Rattle.edge_kit.specs.declared.bytes.PubKey.{PubKey}
use Rattle.protect_record.specs.Pasts.{Past}
use Rattle.protect_record.proofs.MemberLemmas.{contains_cases, contains_none}
use Rattle.record_join.specs.Keys.{key_cmp, kept_of}
use Rattle.record_join.specs.KeyLaws.{same_key, kept_here}
use Rattle.record_replay.specs.declared.state.KeyState.{KeyState}
use Rattle.record_replay.specs.declared.state.KeyState.TheVariants.{Known, Active, Closing, Closed}
use Rattle.desk_machine.specs.Kinds.{IsKind}
use Rattle.desk_machine.specs.States.{State, past_of, key_state, key_standing, state_in, is_active}
use Rattle.desk_machine.specs.Watches.{standing_of}
use Rattle.desk_machine.specs.Machine.{after, key_standings}
use Rattle.desk_machine.specs.declared.call.KeyStanding.{KeyStanding}
use Rattle.desk_machine.specs.declared.call.DeskCall.{DeskCall}
use Rattle.desk_machine.specs.declared.call.DeskCall.TheVariants as call
use Rattle.desk_machine.specs.declared.call.DeskReply.{DeskReply}
use Rattle.desk_machine.specs.declared.call.DeskReply.TheVariants as reply
use Rattle.signer_link.specs.Signing.{imported}
use Rattle.signer_link.specs.declared.request.ImportCall.{ImportCall}
use Rattle.signer_link.specs.declared.reply.ImportReply.{ImportReply}
use Rattle.signer_link.specs.declared.reply.ImportReply.TheVariants as importing
use Rattle.call_plans.specs.Plans.{Done, each_plan, Follows}
use Rattle.call_plans.proofs.PlanLemmas.{follows_split}
use Rattle.call_plans.proofs.PathLemmas.{path_split}
use Rattle.key_custody.specs.declared.status.KeyStatus.{KeyStatus}
use Rattle.key_custody.specs.declared.status.KeyStatus.TheVariants as status
use Rattle.key_custody.specs.Keystores.{key_of_keystore}
use Rattle.key_custody.specs.Replies.{replied_of, is_active_at, is_active_in}
use Rattle.client_calls.specs.Steps.{ClientCall, ClientReply, ClientStep, Calls, Imports, Replies, ClosedBy, Signed, Imported, Deleted, Fits, step_calls, desk_calls}
use Rattle.key_custody.specs.Plans.{said_in, import_in, activated_plan, activate_plan, taken_plan, imports, standing_plan, key_plan, found_plan, keystore_plan}
use Rattle.key_custody.specs.Once.{MachineRun, Moves, IsWhole, is_fine}
use Rattle.key_custody.proofs.DeleteLemmas.{done_error, each_begins, all_fine, first_fine}
use Rattle.key_custody.proofs.AgainLemmas.{calls_on}
use Rattle.key_custody.proofs.HoldLemmas.{Kept, Grew, grew_self, grew_on, grew_lasting, active_lasting, known_some, whole_activated}

-- ---- the listed keys

standing_back : (s : KeyState) (a : State) (key : PubKey) → state_in (key_standing s (standing_of a.watching key)) ≡ s
standing_back Known a key = refl
standing_back Active a key = refl
standing_back Closing a key = refl
standing_back Closed a key = refl

abbrev pub Listing : State → PubKey → PubKey × KeyStanding
Listing a key = (key, key_standing (key_state a.states key) (standing_of a.watching key))

active_only : (o : Option KeyState) → is_active (unwrap_or o Known) ≡ true → o ≡ Some Active
active_only None e = absurd (let bad : false ≡ true = e in cc)
active_only (Some Known) e = absurd (let bad : false ≡ true = e in cc)
active_only (Some Active) e = refl
active_only (Some Closing) e = absurd (let bad : false ≡ true = e in cc)
active_only (Some Closed) e = absurd (let bad : false ≡ true = e in cc)

both_true : (b t : Bool) → (b && t) ≡ true → (b ≡ true) × (t ≡ true)
both_true true true e = (refl, refl)
both_true true false e = absurd (let bad : false ≡ true = e in cc)
both_true false t e = absurd (let bad : false ≡ true = e in cc)

-- a key that is listed as active is active and kept
listed_back : (a : State) (key : PubKey) (ks : List PubKey) → list_any (is_active_at key) (map (Listing a) ks) ≡ true → (kept_of a.states key ≡ Some Active) × (list_any (is_at (key_cmp key)) ks ≡ true)
listed_back a key [] e = absurd (let bad : false ≡ true = e in cc)
listed_back a key (k ∷ ks) e = at (is_active_at key (Listing a k)) refl e (listed_back a key ks) where
  or_later : (b : Bool) → list_any (is_at (key_cmp key)) ks ≡ true → (b || list_any (is_at (key_cmp key)) ks) ≡ true
  or_later true h = refl
  or_later false h = h

  at : (b : Bool) → is_active_at key (Listing a k) ≡ b → (b || list_any (is_active_at key) (map (Listing a) ks)) ≡ true
      → (list_any (is_active_at key) (map (Listing a) ks) ≡ true → (kept_of a.states key ≡ Some Active) × (list_any (is_at (key_cmp key)) ks ≡ true))
      → (kept_of a.states key ≡ Some Active) × ((is_at (key_cmp key) k || list_any (is_at (key_cmp key)) ks) ≡ true)
  at true is h later =
      let two = both_true (is_active (state_in (key_standing (key_state a.states k) (standing_of a.watching k)))) (is_at (key_cmp key) k) is in
      let state : is_active (key_state a.states k) ≡ true = sym (ap is_active (standing_back (key_state a.states k) a k)) ∙ two.0 in
      let here : kept_of a.states k ≡ Some Active = active_only (kept_of a.states k) state in
      (ap (λ q. kept_of a.states q) (same_key key k two.1) ∙ here, ap (λ t. t || list_any (is_at (key_cmp key)) ks) two.1)
  at false is h later = let r = later h in (r.0, or_later (is_at (key_cmp key) k) r.1)

-- and the other way round
pub listed_forth : (a : State) (key : PubKey) (ks : List PubKey) → kept_of a.states key ≡ Some Active → list_any (is_at (key_cmp key)) ks ≡ true → list_any (is_active_at key) (map (Listing a) ks) ≡ true
listed_forth a key [] active e = absurd (let bad : false ≡ true = e in cc)
listed_forth a key (k ∷ ks) active e = at (is_at (key_cmp key) k) refl e (listed_forth a key ks active) where
  nothing : (b : Bool) (t : Bool) → ((b && false) || t) ≡ t
  nothing true t = refl
  nothing false t = refl

  rest : Bool
  rest = list_any (is_active_at key) (map (Listing a) ks)

  mine : Bool
  mine = is_active (state_in (key_standing (key_state a.states k) (standing_of a.watching k)))

  at : (b : Bool) → is_at (key_cmp key) k ≡ b → (b || list_any (is_at (key_cmp key)) ks) ≡ true → (list_any (is_at (key_cmp key)) ks ≡ true → list_any (is_active_at key) (map (Listing a) ks) ≡ true)
      → ((is_active (state_in (key_standing (key_state a.states k) (standing_of a.watching k))) && is_at (key_cmp key) k) || list_any (is_active_at key) (map (Listing a) ks)) ≡ true
  at true is h later =
      let here : kept_of a.states k ≡ Some Active = ap (λ q. kept_of a.states q) (sym (same_key key k is)) ∙ active in
      let state : key_state a.states k ≡ Active = ap (λ o. unwrap_or o Known) here in
      let on : is_active (state_in (key_standing (key_state a.states k) (standing_of a.watching k))) ≡ true = ap is_active (standing_back (key_state a.states k) a k ∙ state) in
      ap (λ t. (t && is_at (key_cmp key) k) || list_any (is_active_at key) (map (Listing a) ks)) on ∙ ap (λ t. t || list_any (is_active_at key) (map (Listing a) ks)) is
  at false is h later =
      ap (λ t. (is_active (state_in (key_standing (key_state a.states k) (standing_of a.watching k))) && t) || list_any (is_active_at key) (map (Listing a) ks)) is
      ∙ nothing (is_active (state_in (key_standing (key_state a.states k) (standing_of a.watching k)))) (list_any (is_active_at key) (map (Listing a) ks)) ∙ later h

pub kept_any : {X : Type 0} (xs : List (PubKey × X)) (key : PubKey) → is_some (kept_of xs key) ≡ list_any (is_at (key_cmp key)) (keys_of xs)
kept_any [] key = refl
kept_any {X} (x ∷ xs) key = at (is_at (key_cmp key) x.0) (kept_any xs key) where
  at : (b : Bool) → is_some (kept_of xs key) ≡ list_any (is_at (key_cmp key)) (keys_of xs) → is_some (cond b (Some x.1) (kept_of xs key)) ≡ (b || list_any (is_at (key_cmp key)) (keys_of xs))
  at true e = refl
  at false e = e

-- ---- a keystore is taken in, without error

pub record Taken (m n : State) (key : PubKey) : Type 0 where
  pub active : kept_of n.states key ≡ Some Active
  pub past : IsSome (past_of n key)
  pub grew : Grew m.keys n.keys
  pub stays : (q : PubKey) → kept_of m.states q ≡ Some Active → kept_of n.states q ≡ Some Active
  pub whole : IsWhole n
  pub torn : n.torn ≡ m.torn

some_of : {X : Type 0} (o : Option X) → IsSome o → (x : X) × (o ≡ Some x)
some_of None h = absurd (let bad : false ≡ true = h in cc)
some_of (Some x) h = (x, refl)

-- an active key is kept
active_kept : (m : State) (key : PubKey) → IsWhole m → kept_of m.states key ≡ Some Active → IsSome (past_of m key)
active_kept m key whole active = at (past_of m key) refl where
  at : (o : Option Past) → past_of m key ≡ o → IsSome o
  at None e = absurd (let bad : None ≡ Some Active = sym (whole key e) ∙ active in cc)
  at (Some p) e = refl

taken_same : (m n : State) (key : PubKey) → n.keys ≡ m.keys → n.states ≡ m.states → n.torn ≡ m.torn → IsWhole m → kept_of m.states key ≡ Some Active → Taken m n key
taken_same m n key ks ss tn whole active = record {
  active = ap (λ l. kept_of l key) ss ∙ active;
  past = subst (λ (l : Kept). IsSome (kept_of l key)) (sym ks) (active_kept m key whole active);
  grew = subst (Grew m.keys) (sym ks) (grew_self m.keys);
  stays = λ q h. ap (λ l. kept_of l q) ss ∙ h;
  whole = λ q e. ap (λ l. kept_of l q) ss ∙ whole q (ap (λ l. kept_of l q) (sym ks) ∙ e);
  torn = tn;
}

-- the key becomes active
taken_now : (m : State) (key : PubKey) (now : ℕ) → IsWhole m → Taken m (after m (call.Activate key now) reply.Active) key
taken_now m key now whole = record {
  active = kept_here m.states key Active;
  past = known_some m.keys key;
  grew = grew_lasting m (call.Activate key now);
  stays = λ q h. active_lasting m q (call.Activate key now) tt (λ e. e) h;
  whole = whole_activated m.keys m.states key whole;
  torn = refl;
}

activated : (m n1 n : State) (key : PubKey) (now : ℕ) (r : DeskReply) (steps : List ClientStep) (s : KeyStatus) → IsWhole m → IsKind (call.Activate key now) r → Follows Fits (activated_plan (replied_of r)) steps (Some s) → is_fine s ≡ true
    → Moves m (call.Activate key now, r) n1 → MachineRun n1 (desk_calls steps) n → Taken m n key
activated m n1 n key now reply.Active [] s whole kind f fine moves p = subst (λ (x : State). Taken m x key) (sym (p ∙ moves.1)) (taken_now m key now whole)
activated m n1 n key now reply.Active (x ∷ xs) s whole kind f fine moves p = absurd f
activated m n1 n key now reply.Already [] s whole kind f fine moves p =
    let is : n ≡ after m (call.Activate key now) reply.Already = p ∙ moves.1 in
    taken_same m n key (ap (λ (x : State). x.keys) is) (ap (λ (x : State). x.states) is) (ap (λ (x : State). x.torn) is) whole moves.0.1
activated m n1 n key now reply.Already (x ∷ xs) s whole kind f fine moves p = absurd f
activated m n1 n key now reply.Closing steps s whole kind f fine moves p = done_error _ steps s f fine
activated m n1 n key now (reply.TooManyKeys have new) steps s whole kind f fine moves p = done_error _ steps s f fine
activated m n1 n key now (reply.Full size wanted) steps s whole kind f fine moves p = done_error _ steps s f fine
activated m n1 n key now reply.Disk steps s whole kind f fine moves p = done_error _ steps s f fine
activated m n1 n key now reply.OutOfMemory [] s whole kind f fine moves p = absurd f
activated m n1 n key now reply.OutOfMemory (x ∷ xs) s whole kind f fine moves p = absurd f
activated m n1 n key now r steps s whole kind f fine moves p = absurd kind

activate_reply : (m n : State) (key : PubKey) (now : ℕ) (y : ClientReply) (steps : List ClientStep) (s : KeyStatus) → IsWhole m → Fits (Calls (call.Activate key now)) y → Follows Fits (activated_plan (said_in y)) steps (Some s) → is_fine s ≡ true
    → MachineRun m (step_calls (Calls (call.Activate key now), y) ++ desk_calls steps) n → Taken m n key
activate_reply m n key now (Replies r) steps s whole fits f fine p = activated m p.0 n key now r steps s whole fits f fine p.1 p.2
activate_reply m n key now (ClosedBy made r) steps s whole fits f fine p = absurd fits
activate_reply m n key now (Signed r) steps s whole fits f fine p = absurd fits
activate_reply m n key now (Imported r) steps s whole fits f fine p = absurd fits
activate_reply m n key now (Deleted r) steps s whole fits f fine p = absurd fits

activate_run : (m n : State) (key : PubKey) (now : ℕ) (steps : List ClientStep) (s : KeyStatus) → IsWhole m → Follows Fits (activate_plan now key) steps (Some s) → is_fine s ≡ true → MachineRun m (desk_calls steps) n → Taken m n key
activate_run m n key now [] s whole f fine p = absurd f
activate_run m n key now (x ∷ xs) s whole f fine p = activate_reply m n key now x.1 xs s whole f.1 f.2 fine (subst (λ (c : ClientCall). MachineRun m (step_calls (c, x.1) ++ desk_calls xs) n) f.0 p)

taken_in : (m n : State) (key : PubKey) (now : ℕ) (r : ImportReply) (steps : List ClientStep) (s : KeyStatus) → IsWhole m → Follows Fits (taken_plan now key r) steps (Some s) → is_fine s ≡ true → MachineRun m (desk_calls steps) n → Taken m n key
taken_in m n key now importing.Imported steps s whole f fine p = activate_run m n key now steps s whole f fine p
taken_in m n key now importing.Duplicate steps s whole f fine p = activate_run m n key now steps s whole f fine p
taken_in m n key now (importing.Refused text) steps s whole f fine p = done_error _ steps s f fine
taken_in m n key now importing.Fault steps s whole f fine p = done_error _ steps s f fine
taken_in m n key now (importing.BadAnswer body) steps s whole f fine p = done_error _ steps s f fine
taken_in m n key now importing.OutOfMemory [] s whole f fine p = absurd f
taken_in m n key now importing.OutOfMemory (x ∷ xs) s whole f fine p = absurd f

import_reply : (m n : State) (key : PubKey) (now : ℕ) (q : ImportCall) (y : ClientReply) (steps : List ClientStep) (s : KeyStatus) → IsWhole m → Fits (Imports q) y → Follows Fits (taken_plan now key (import_in y)) steps (Some s) → is_fine s ≡ true
    → MachineRun m (step_calls (Imports q, y) ++ desk_calls steps) n → Taken m n key
import_reply m n key now q (Imported r) steps s whole fits f fine p = taken_in m n key now r steps s whole f fine p
import_reply m n key now q (Replies r) steps s whole fits f fine p = absurd fits
import_reply m n key now q (ClosedBy made r) steps s whole fits f fine p = absurd fits
import_reply m n key now q (Signed r) steps s whole fits f fine p = absurd fits
import_reply m n key now q (Deleted r) steps s whole fits f fine p = absurd fits

imports_run : (m n : State) (key : PubKey) (now : ℕ) (q : ImportCall) (steps : List ClientStep) (s : KeyStatus) → IsWhole m → Follows Fits (imports q (λ r. taken_plan now key r)) steps (Some s) → is_fine s ≡ true
    → MachineRun m (desk_calls steps) n → Taken m n key
imports_run m n key now q [] s whole f fine p = absurd f
imports_run m n key now q (x ∷ xs) s whole f fine p = import_reply m n key now q x.1 xs s whole f.1 f.2 fine (subst (λ (c : ClientCall). MachineRun m (step_calls (c, x.1) ++ desk_calls xs) n) f.0 p)

done_here : (m n : State) (steps : List ClientStep) (x s : KeyStatus) → Follows Fits (Done x) steps (Some s) → MachineRun m (desk_calls steps) n → n ≡ m
done_here m n [] x s f p = p
done_here m n (y ∷ ys) x s f p = absurd f

listed_run : (m n : State) (key : PubKey) (now : ℕ) (keystore password : List ℕ) (listed : List (PubKey × KeyStanding)) (steps : List ClientStep) (s : KeyStatus) (b : Bool) → is_active_in listed key ≡ b → listed ≡ key_standings m → IsWhole m
    → Follows Fits (cond b (Done status.Duplicate) (imports (imported key keystore password) (λ r. taken_plan now key r))) steps (Some s) → is_fine s ≡ true → MachineRun m (desk_calls steps) n → Taken m n key
listed_run m n key now keystore password listed steps s true e is whole f fine p =
    let same : n ≡ m = done_here m n steps status.Duplicate s f p in
    let back = listed_back m key (keys_of m.keys) (ap (λ l. is_active_in l key) (sym is) ∙ e) in
    taken_same m n key (ap (λ (x : State). x.keys) same) (ap (λ (x : State). x.states) same) (ap (λ (x : State). x.torn) same) whole back.0
listed_run m n key now keystore password listed steps s false e is whole f fine p = imports_run m n key now (imported key keystore password) steps s whole f fine p

standing_run : (m m1 n : State) (key : PubKey) (now : ℕ) (keystore password : List ℕ) (r : DeskReply) (steps : List ClientStep) (s : KeyStatus) → IsWhole m → IsKind call.Keys r
    → Follows Fits (standing_plan now keystore password key (replied_of r)) steps (Some s) → is_fine s ≡ true → Moves m (call.Keys, r) m1 → MachineRun m1 (desk_calls steps) n → Taken m n key
standing_run m m1 n key now keystore password (reply.Keys listed) steps s whole kind f fine moves p =
    listed_run m n key now keystore password listed steps s (is_active_in listed key) refl moves.0 whole f fine (subst (λ (x : State). MachineRun x (desk_calls steps) n) moves.1 p)
standing_run m m1 n key now keystore password reply.OutOfMemory [] s whole kind f fine moves p = absurd f
standing_run m m1 n key now keystore password reply.OutOfMemory (x ∷ xs) s whole kind f fine moves p = absurd f
standing_run m m1 n key now keystore password r steps s whole kind f fine moves p = absurd kind

keys_reply : (m n : State) (key : PubKey) (now : ℕ) (keystore password : List ℕ) (y : ClientReply) (steps : List ClientStep) (s : KeyStatus) → IsWhole m → Fits (Calls call.Keys) y
    → Follows Fits (standing_plan now keystore password key (said_in y)) steps (Some s) → is_fine s ≡ true → MachineRun m (step_calls (Calls call.Keys, y) ++ desk_calls steps) n → Taken m n key
keys_reply m n key now keystore password (Replies r) steps s whole fits f fine p = standing_run m p.0 n key now keystore password r steps s whole fits f fine p.1 p.2
keys_reply m n key now keystore password (ClosedBy made r) steps s whole fits f fine p = absurd fits
keys_reply m n key now keystore password (Signed r) steps s whole fits f fine p = absurd fits
keys_reply m n key now keystore password (Imported r) steps s whole fits f fine p = absurd fits
keys_reply m n key now keystore password (Deleted r) steps s whole fits f fine p = absurd fits

key_run : (m n : State) (key : PubKey) (now : ℕ) (keystore password : List ℕ) (steps : List ClientStep) (s : KeyStatus) → IsWhole m → Follows Fits (key_plan now keystore password key) steps (Some s) → is_fine s ≡ true
    → MachineRun m (desk_calls steps) n → Taken m n key
key_run m n key now keystore password [] s whole f fine p = absurd f
key_run m n key now keystore password (x ∷ xs) s whole f fine p =
    keys_reply m n key now keystore password x.1 xs s whole f.1 f.2 fine (subst (λ (c : ClientCall). MachineRun m (step_calls (c, x.1) ++ desk_calls xs) n) f.0 p)

keystore_run : (m n : State) (now : ℕ) (k : List ℕ × List ℕ) (steps : List ClientStep) (s : KeyStatus) (o : Option PubKey) → key_of_keystore k.0 ≡ o → IsWhole m → Follows Fits (found_plan now k.0 k.1 o) steps (Some s) → is_fine s ≡ true
    → MachineRun m (desk_calls steps) n → (key : PubKey) × (key_of_keystore k.0 ≡ Some key) × Taken m n key
keystore_run m n now k steps s None e whole f fine p = done_error _ steps s f fine
keystore_run m n now k steps s (Some key) e whole f fine p = (key, e, key_run m n key now k.0 k.1 steps s whole f fine p)

-- ---- each keystore

abbrev pub IsTakenAt : State → List ℕ × List ℕ → Type 0
IsTakenAt n k = (key : PubKey) × (key_of_keystore k.0 ≡ Some key) × (kept_of n.states key ≡ Some Active) × IsSome (past_of n key)

pub record AllTaken (keystores : List (List ℕ × List ℕ)) (m n : State) : Type 0 where
  pub each : (k : List ℕ × List ℕ) → Contains keystores k → IsTakenAt n k
  pub grew : Grew m.keys n.keys
  pub stays : (q : PubKey) → kept_of m.states q ≡ Some Active → kept_of n.states q ≡ Some Active
  pub torn : n.torn ≡ m.torn

pub past_on : (xs ys : Kept) (q : PubKey) → Grew xs ys → IsSome (kept_of xs q) → IsSome (kept_of ys q)
past_on xs ys q grew h = let x = some_of (kept_of xs q) h in let g = grew q x.0 x.1 in ap is_some g.1

pub first_keystores : (keystores : List (List ℕ × List ℕ)) (m n : State) (now : ℕ) (got all : List KeyStatus) (steps : List ClientStep) → IsWhole m
    → Follows Fits (each_plan (λ k. keystore_plan now k) got keystores) steps (Some all) → list_all is_fine all ≡ true → MachineRun m (desk_calls steps) n → AllTaken keystores m n
first_keystores [] m n now got all [] whole f fine p =
    let P : State → Type 0 = λ x. AllTaken [] m x in subst P (sym p) (record { each = λ k h. contains_none k h; grew = grew_self m.keys; stays = λ q h. h; torn = refl })
first_keystores [] m n now got all (x ∷ xs) whole f fine p = absurd f
first_keystores (k ∷ ks) m n now got all steps whole f fine p =
    let r = follows_split Fits (keystore_plan now k) (λ s. each_plan (λ z. keystore_plan now z) (got ++ s ∷ []) ks) steps all f in
    let s : KeyStatus = r.2 in
    let begins = each_begins (λ z. keystore_plan now z) ks (got ++ s ∷ []) all r.1 r.5 in
    let shape : all ≡ got ++ s ∷ begins.0 = begins.1 ∙ append_assoc got (s ∷ []) begins.0 in
    let fine_here : is_fine s ≡ true = first_fine s begins.0 (all_fine got (s ∷ begins.0) (sym (ap (list_all is_fine) shape) ∙ fine)) in
    let parts = path_split Moves m n (desk_calls r.0) (desk_calls r.1) (subst (λ (l : List (DeskCall × DeskReply)). MachineRun m l n) (calls_on steps r.0 r.1 r.3) p) in
    let one = keystore_run m parts.0 now k r.0 s (key_of_keystore k.0) refl whole r.4 fine_here parts.1 in
    let rest = first_keystores ks parts.0 n now (got ++ s ∷ []) all r.1 one.2.whole r.5 fine parts.2 in
    record {
      each = λ z h. at z (contains_cases k ks z h) (one.0, one.1, rest.stays one.0 one.2.active, past_on parts.0.keys n.keys one.0 rest.grew one.2.past) (rest.each z);
      grew = grew_on m.keys parts.0.keys n.keys one.2.grew rest.grew;
      stays = λ q h. rest.stays q (one.2.stays q h);
      torn = rest.torn ∙ one.2.torn;
    } where
      at : (z : List ℕ × List ℕ) → (k ≡ z) ⊎ Contains ks z → IsTakenAt n k → (Contains ks z → IsTakenAt n z) → IsTakenAt n z
      at z (inl e) here later = subst (IsTakenAt n) e here
      at z (inr h) here later = later h
