-- An import that comes again next to other calls: the first one's calls show that each key is active and that the file is there, and so the
-- second's change no record.
use Rattle.std.proofs.Common.{◌≡◌, inl, inr, ◌&&◌, ◌||◌, ℕ, Bool, true, false, cond, List, [], ◌∷◌, ◌++◌, map, Option, Some, None, refl, sym, ◌∙◌, ap, subst, append_assoc}
use Rattle.std.specs.Prelude.{Contains, IfSome, IsSome, unwrap_or}
use Rattle.std.specs.BTreeMap.{is_at}
use Rattle.std.specs.List.{list_all, list_any}
use Rattle.std.specs.Map.{keys_of}
use Rattle.edge_kit.specs.declared.bytes.PubKey.{PubKey}
use Rattle.slash_defs.specs.declared.book.File.{File}
use Rattle.protect_record.specs.Pasts.{Past}
use Rattle.protect_record.proofs.MemberLemmas.{contains_cases, contains_first, contains_later, contains_none}
use Rattle.record_join.specs.Keys.{key_cmp, kept_of}
use Rattle.record_join.specs.KeyLaws.{same_key, kept_here}
use Rattle.record_join.specs.BooksPasts.{EachOnce}
use Rattle.record_replay.specs.declared.state.KeyState.{KeyState}
use Rattle.record_replay.specs.declared.state.KeyState.TheVariants.{Known, Active, Closing, Closed}
use Rattle.desk_machine.specs.Kinds.{IsKind}
use Rattle.desk_machine.specs.States.{State, is_active, key_standing, key_state, past_of, state_in}
use Rattle.desk_machine.specs.Watches.{standing_of}
use Rattle.desk_machine.specs.Machine.{IsUp, Reply, after}
use Rattle.desk_machine.specs.declared.call.KeyStanding.{KeyStanding}
use Rattle.desk_machine.specs.declared.call.DeskCall.{DeskCall}
use Rattle.desk_machine.specs.declared.call.DeskCall.TheVariants as call
use Rattle.desk_machine.specs.declared.call.DeskReply.{DeskReply}
use Rattle.desk_machine.specs.declared.call.DeskReply.TheVariants as reply
use Rattle.desk_lock.specs.Histories.{entry, own}
use Rattle.signer_link.specs.Signing.{imported}
use Rattle.signer_link.specs.declared.request.ImportCall.{ImportCall}
use Rattle.signer_link.specs.declared.reply.ImportReply.{ImportReply}
use Rattle.signer_link.specs.declared.reply.ImportReply.TheVariants as importing
use Rattle.call_plans.specs.Plans.{Done, bind, each_plan, Follows}
use Rattle.call_plans.proofs.PlanLemmas.{follows_split, follows_cases}
use Rattle.client_calls.specs.Machines.{CanMake, state_after}
use Rattle.client_calls.specs.Steps.{ClientCall, ClientPlan, ClientReply, ClientStep, Calls, Imports, Replies, ClosedBy, Signed, Imported, Deleted, Fits, step_calls, desk_calls, told_in}
use Rattle.client_calls.proofs.MachineLemmas.{can_split, after_on}
use Rattle.key_custody.specs.declared.status.KeyStatus.{KeyStatus}
use Rattle.key_custody.specs.declared.status.KeyStatus.TheVariants as status
use Rattle.key_custody.specs.declared.import.ImportEnd.{ImportEnd}
use Rattle.key_custody.specs.declared.import.ImportEnd.TheVariants as ending
use Rattle.key_custody.specs.Keystores.{key_of_keystore}
use Rattle.key_custody.specs.Once.{AreFine, IsKeyOf, IsWhole, LeavesAll, SameRecord, is_fine}
use Rattle.key_custody.specs.Plans.{said_in, import_in, activated_plan, activate_plan, taken_plan, imports, standing_plan, key_plan, found_plan, keystore_plan, keystores_plan, treated_plan, merged_plan, import_plan}
use Rattle.key_custody.specs.Replies.{replied_of, is_active_at, is_active_in}
use Rattle.key_custody.proofs.AgainLemmas.{calls_on as steps_on, told_on}
use Rattle.key_custody.proofs.DeleteLemmas.{all_fine, done_error, each_begins, first_fine}
use Rattle.key_custody.proofs.HoldLemmas.{BeginsCall, Grew, HasBooks, Kept, Leaves, WholeThrough, active_lasting, grew_lasting, grew_self, has_on, leaves, merged_has, merged_same, same_self}
use Rattle.key_custody.proofs.ImportLemmas.{Listing, kept_any, listed_forth}
use Rattle.desk_seat.specs.Spans.{History}
use Rattle.desk_seat.specs.Turns.{calls_of}
use Rattle.session_run.specs.Silent.{IsAmong}
use Rattle.serve_world.specs.Retrying.{Begins, ImportsAgain}
use Rattle.serve_world.proofs.AmongLemmas.{Call, EachIs, among_left, among_own, among_right, calls_on, each_on, each_turn}
use Rattle.serve_world.proofs.DeleteAgainLemmas.{asked_is, whole_after, whole_step, whole_up}

-- ---- keys that are active

abbrev IsOn : State → PubKey → Type 0
IsOn a key = kept_of a.states key ≡ Some Active

begins_call : (key : PubKey) (c : DeskCall) (r : DeskReply) → BeginsCall key c → Begins key (c, r)
begins_call key (call.BeginClose k) r h = h
begins_call key c r h = absurd h

on_leaves : (a b : State) (key : PubKey) (c : DeskCall) → Leaves a c b → ¬ (BeginsCall key c) → IsOn a key → IsOn b key
on_leaves a b key c (inl s) apart h = ap (λ l. kept_of l key) s.states ∙ h
on_leaves a b key c (inr (inl s)) apart h = ap (λ l. kept_of l key) s.states ∙ active_lasting a key c s.can apart h
on_leaves a b key c (inr (inr s)) apart h = ap (λ l. kept_of l key) s.states ∙ h

-- an active key stays so until its deletion is begun
on_step : (a : State) (key : PubKey) (c : DeskCall) (r : DeskReply) → Reply a c r → ¬ (Begins key (c, r)) → IsOn a key → IsOn (after a c r) key
on_step a key c r ok apart h = on_leaves a (after a c r) key c (leaves a c r ok) (λ e. apart (begins_call key c r e)) h

on_through : (a : State) (key : PubKey) (made : List Call) → CanMake a made → ¬ (IsAmong (Begins key) made) → IsOn a key → IsOn (state_after a made) key
on_through a key [] can apart h = h
on_through a key (x ∷ made) can apart h = on_through (after a x.0 x.1) key made can.1 (λ later. apart (inr later)) (on_step a key x.0 x.1 can.0 (λ here. apart (inl here)) h)

-- the call shows that the key is active: it became so, was so, or was listed so
abbrev ShowsOn : PubKey → Call → Type 0
ShowsOn key (call.Activate k now, reply.Active) = k ≡ key
ShowsOn key (call.Activate k now, reply.Already) = k ≡ key
ShowsOn key (call.Keys, reply.Keys listed) = is_active_in listed key ≡ true
ShowsOn key x = ⊥

standing_back : (s : KeyState) (a : State) (key : PubKey) → state_in (key_standing s (standing_of a.watching key)) ≡ s
standing_back Known a key = refl
standing_back Active a key = refl
standing_back Closing a key = refl
standing_back Closed a key = refl

active_only : (o : Option KeyState) → is_active (unwrap_or o Known) ≡ true → o ≡ Some Active
active_only None e = absurd (let bad : false ≡ true = e in cc)
active_only (Some Known) e = absurd (let bad : false ≡ true = e in cc)
active_only (Some Active) e = refl
active_only (Some Closing) e = absurd (let bad : false ≡ true = e in cc)
active_only (Some Closed) e = absurd (let bad : false ≡ true = e in cc)

both_true : (b t : Bool) → (b && t) ≡ true → (b ≡ true) × (t ≡ true)
both_true true true e = (refl, refl)
both_true true false e = absurd (let bad : false ≡ true = e in cc)
both_true false t e = absurd (let bad : false ≡ true = e in cc)

-- a key that is listed as active is active
listed_on : (a : State) (key : PubKey) (ks : List PubKey) → list_any (is_active_at key) (map (Listing a) ks) ≡ true → IsOn a key
listed_on a key [] e = absurd (let bad : false ≡ true = e in cc)
listed_on a key (k ∷ ks) e = at (is_active_at key (Listing a k)) refl e (listed_on a key ks) where
  at : (b : Bool) → is_active_at key (Listing a k) ≡ b → (b || list_any (is_active_at key) (map (Listing a) ks)) ≡ true → (list_any (is_active_at key) (map (Listing a) ks) ≡ true → IsOn a key) → IsOn a key
  at true is h later =
      let two = both_true (is_active (state_in (key_standing (key_state a.states k) (standing_of a.watching k)))) (is_at (key_cmp key) k) is in
      let state : is_active (key_state a.states k) ≡ true = sym (ap is_active (standing_back (key_state a.states k) a k)) ∙ two.0 in
      ap (λ q. kept_of a.states q) (same_key key k two.1) ∙ active_only (kept_of a.states k) state
  at false is h later = later h

along : (states : List (PubKey × KeyState)) (k key : PubKey) → k ≡ key → kept_of states k ≡ Some Active → kept_of states key ≡ Some Active
along states k key is h = subst (λ (q : PubKey). kept_of states q ≡ Some Active) is h

shows_on : (a : State) (key : PubKey) (c : DeskCall) (r : DeskReply) → Reply a c r → ShowsOn key (c, r) → IsOn (after a c r) key
shows_on a key (call.Activate k now) reply.Active ok is = along (after a (call.Activate k now) reply.Active).states k key is (kept_here a.states k Active)
shows_on a key (call.Activate k now) reply.Already ok is = along a.states k key is ok.1
shows_on a key call.Keys (reply.Keys listed) ok is = listed_on a key (keys_of a.keys) (ap (λ l. is_active_in l key) (sym ok) ∙ is)
shows_on a key (call.Activate k now) reply.Disk ok is = absurd is
shows_on a key (call.Activate k now) r ok is = absurd is
shows_on a key call.Keys reply.Disk ok is = absurd is
shows_on a key call.Keys r ok is = absurd is
shows_on a key c r ok is = absurd is

shown_on : (a : State) (key : PubKey) (made : List Call) → CanMake a made → ¬ (IsAmong (Begins key) made) → IsAmong (ShowsOn key) made → IsOn (state_after a made) key
shown_on a key [] can apart h = absurd h
shown_on a key (x ∷ made) can apart (inl here) = on_through (after a x.0 x.1) key made can.1 (λ later. apart (inr later)) (shows_on a key x.0 x.1 can.0 here)
shown_on a key (x ∷ made) can apart (inr later) = shown_on (after a x.0 x.1) key made can.1 (λ more. apart (inr more)) later

-- a call whose list has the key not active
abbrev ListsOff : PubKey → Call → Type 0
ListsOff key (call.Keys, reply.Keys listed) = is_active_in listed key ≡ false
ListsOff key x = ⊥

active_kept : (a : State) (key : PubKey) → IsWhole a → IsOn a key → IsSome (past_of a key)
active_kept a key whole on = at (past_of a key) refl where
  at : (o : Option Past) → past_of a key ≡ o → IsSome o
  at None e = absurd (let bad : None ≡ Some Active = sym (whole key e) ∙ on in cc)
  at (Some p) e = refl

lists_none : (a : State) (key : PubKey) (c : DeskCall) (r : DeskReply) → IsWhole a → Reply a c r → IsOn a key → ¬ (ListsOff key (c, r))
lists_none a key call.Keys (reply.Keys listed) whole ok on is =
    let there : is_active_in listed key ≡ true = ap (λ l. is_active_in l key) ok ∙ listed_forth a key (keys_of a.keys) on (sym (kept_any a.keys key) ∙ active_kept a key whole on) in
    absurd (let bad : true ≡ false = sym there ∙ is in cc)
lists_none a key call.Keys reply.Disk whole ok on is = is
lists_none a key call.Keys r whole ok on is = is
lists_none a key c r whole ok on is = is

none_listed : (a : State) (key : PubKey) (made : List Call) → CanMake a made → WholeThrough a → ¬ (IsAmong (Begins key) made) → IsOn a key → ¬ (IsAmong (ListsOff key) made)
none_listed a key [] can whole apart on h = h
none_listed a key (x ∷ made) can whole apart on (inl here) = lists_none a key x.0 x.1 whole.0 can.0 on here
none_listed a key (x ∷ made) can whole apart on (inr later) =
    none_listed (after a x.0 x.1) key made can.1 (whole_step a x.0 x.1 can.0 whole) (λ more. apart (inr more)) (on_step a key x.0 x.1 can.0 (λ here. apart (inl here)) on) later

-- ---- pasts that have the file

grew_leaves : (a b : State) (c : DeskCall) → Leaves a c b → Grew a.keys b.keys
grew_leaves a b c (inl s) = subst (λ (l : Kept). Grew a.keys l) (sym s.keys) (grew_self a.keys)
grew_leaves a b c (inr (inl s)) = subst (λ (l : Kept). Grew a.keys l) (sym s.keys) (grew_lasting a c)
grew_leaves a b c (inr (inr s)) = subst (λ (l : Kept). Grew a.keys l) (sym s.keys) (grew_self a.keys)

abbrev HasFile : File → State → Type 0
HasFile f a = HasBooks f.books a.keys

file_through : (f : File) (a : State) (made : List Call) → CanMake a made → HasFile f a → HasFile f (state_after a made)
file_through f a [] can h = h
file_through f a (x ∷ made) can h =
    file_through f (after a x.0 x.1) made can.1 (has_on f.books a.keys (after a x.0 x.1).keys (grew_leaves a (after a x.0 x.1) x.0 (leaves a x.0 x.1 can.0)) h)

-- the call merged the file
abbrev Merges : File → Call → Type 0
Merges f (call.Merge g, reply.Merged n) = g ≡ f
Merges f x = ⊥

merges_file : (f : File) (a : State) (c : DeskCall) (r : DeskReply) → EachOnce f.books → Merges f (c, r) → HasFile f (after a c r)
merges_file f a (call.Merge g) (reply.Merged n) once is = subst (λ (x : File). HasFile f (after a (call.Merge x) (reply.Merged n))) (sym is) (merged_has a.keys f.books once)
merges_file f a (call.Merge g) reply.Disk once is = absurd is
merges_file f a (call.Merge g) r once is = absurd is
merges_file f a c r once is = absurd is

merged_in : (f : File) (a : State) (made : List Call) → EachOnce f.books → CanMake a made → IsAmong (Merges f) made → HasFile f (state_after a made)
merged_in f a [] once can h = absurd h
merged_in f a (x ∷ made) once can (inl here) = file_through f (after a x.0 x.1) made can.1 (merges_file f a x.0 x.1 once here)
merged_in f a (x ∷ made) once can (inr later) = merged_in f (after a x.0 x.1) made once can.1 later

-- ---- the first import shows each key active

-- one of the steps' calls is such
abbrev CallsOne : (Call → Type 0) → List ClientStep → Type 0
CallsOne P steps = IsAmong P (desk_calls steps)

front_calls : (P : Call → Type 0) (steps xs ys : List ClientStep) → steps ≡ xs ++ ys → CallsOne P xs → CallsOne P steps
front_calls P steps xs ys e h = subst (IsAmong P) (sym (steps_on steps xs ys e)) (among_left P (desk_calls xs) (desk_calls ys) h)

back_calls : (P : Call → Type 0) (steps xs ys : List ClientStep) → steps ≡ xs ++ ys → CallsOne P ys → CallsOne P steps
back_calls P steps xs ys e h = subst (IsAmong P) (sym (steps_on steps xs ys e)) (among_right P (desk_calls xs) (desk_calls ys) h)

activated : (key : PubKey) (now : ℕ) (r : DeskReply) (steps : List ClientStep) (s : KeyStatus) → IsKind (call.Activate key now) r → Follows Fits (activated_plan (replied_of r)) steps (Some s) → is_fine s ≡ true → ShowsOn key (call.Activate key now, r)
activated key now reply.Active steps s kind f fine = refl
activated key now reply.Already steps s kind f fine = refl
activated key now reply.Closing steps s kind f fine = done_error _ steps s f fine
activated key now (reply.TooManyKeys have new) steps s kind f fine = done_error _ steps s f fine
activated key now (reply.Full size wanted) steps s kind f fine = done_error _ steps s f fine
activated key now reply.Disk steps s kind f fine = done_error _ steps s f fine
activated key now reply.OutOfMemory [] s kind f fine = absurd f
activated key now reply.OutOfMemory (x ∷ xs) s kind f fine = absurd f
activated key now r steps s kind f fine = absurd kind

activate_reply : (key : PubKey) (now : ℕ) (y : ClientReply) (steps : List ClientStep) (s : KeyStatus) → Fits (Calls (call.Activate key now)) y → Follows Fits (activated_plan (said_in y)) steps (Some s) → is_fine s ≡ true → CallsOne (ShowsOn key) ((Calls (call.Activate key now), y) ∷ steps)
activate_reply key now (Replies r) steps s fits f fine = inl (activated key now r steps s fits f fine)
activate_reply key now (ClosedBy made r) steps s fits f fine = absurd fits
activate_reply key now (Signed r) steps s fits f fine = absurd fits
activate_reply key now (Imported r) steps s fits f fine = absurd fits
activate_reply key now (Deleted r) steps s fits f fine = absurd fits

activate_run : (key : PubKey) (now : ℕ) (steps : List ClientStep) (s : KeyStatus) → Follows Fits (activate_plan now key) steps (Some s) → is_fine s ≡ true → CallsOne (ShowsOn key) steps
activate_run key now [] s f fine = absurd f
activate_run key now (x ∷ xs) s f fine = asked_is (CallsOne (ShowsOn key)) (Calls (call.Activate key now)) x xs f.0 (activate_reply key now x.1 xs s f.1 f.2 fine)

taken_in : (key : PubKey) (now : ℕ) (r : ImportReply) (steps : List ClientStep) (s : KeyStatus) → Follows Fits (taken_plan now key r) steps (Some s) → is_fine s ≡ true → CallsOne (ShowsOn key) steps
taken_in key now importing.Imported steps s f fine = activate_run key now steps s f fine
taken_in key now importing.Duplicate steps s f fine = activate_run key now steps s f fine
taken_in key now (importing.Refused text) steps s f fine = done_error _ steps s f fine
taken_in key now importing.Fault steps s f fine = done_error _ steps s f fine
taken_in key now (importing.BadAnswer body) steps s f fine = done_error _ steps s f fine
taken_in key now importing.OutOfMemory [] s f fine = absurd f
taken_in key now importing.OutOfMemory (x ∷ xs) s f fine = absurd f

import_reply : (key : PubKey) (now : ℕ) (q : ImportCall) (y : ClientReply) (steps : List ClientStep) (s : KeyStatus) → Fits (Imports q) y → Follows Fits (taken_plan now key (import_in y)) steps (Some s) → is_fine s ≡ true → CallsOne (ShowsOn key) ((Imports q, y) ∷ steps)
import_reply key now q (Imported r) steps s fits f fine = taken_in key now r steps s f fine
import_reply key now q (Replies r) steps s fits f fine = absurd fits
import_reply key now q (ClosedBy made r) steps s fits f fine = absurd fits
import_reply key now q (Signed r) steps s fits f fine = absurd fits
import_reply key now q (Deleted r) steps s fits f fine = absurd fits

imports_run : (key : PubKey) (now : ℕ) (q : ImportCall) (steps : List ClientStep) (s : KeyStatus) → Follows Fits (imports q (λ r. taken_plan now key r)) steps (Some s) → is_fine s ≡ true → CallsOne (ShowsOn key) steps
imports_run key now q [] s f fine = absurd f
imports_run key now q (x ∷ xs) s f fine = asked_is (CallsOne (ShowsOn key)) (Imports q) x xs f.0 (import_reply key now q x.1 xs s f.1 f.2 fine)

listed_run : (key : PubKey) (now : ℕ) (keystore password : List ℕ) (listed : List (PubKey × KeyStanding)) (steps : List ClientStep) (s : KeyStatus) (b : Bool) → is_active_in listed key ≡ b
    → Follows Fits (cond b (Done status.Duplicate) (imports (imported key keystore password) (λ r. taken_plan now key r))) steps (Some s) → is_fine s ≡ true → CallsOne (ShowsOn key) ((Calls call.Keys, Replies (reply.Keys listed)) ∷ steps)
listed_run key now keystore password listed steps s true e f fine = inl e
listed_run key now keystore password listed steps s false e f fine = inr (imports_run key now (imported key keystore password) steps s f fine)

standing_run : (key : PubKey) (now : ℕ) (keystore password : List ℕ) (r : DeskReply) (steps : List ClientStep) (s : KeyStatus) → IsKind call.Keys r
    → Follows Fits (standing_plan now keystore password key (replied_of r)) steps (Some s) → is_fine s ≡ true → CallsOne (ShowsOn key) ((Calls call.Keys, Replies r) ∷ steps)
standing_run key now keystore password (reply.Keys listed) steps s kind f fine = listed_run key now keystore password listed steps s (is_active_in listed key) refl f fine
standing_run key now keystore password reply.OutOfMemory [] s kind f fine = absurd f
standing_run key now keystore password reply.OutOfMemory (x ∷ xs) s kind f fine = absurd f
standing_run key now keystore password r steps s kind f fine = absurd kind

keys_reply : (key : PubKey) (now : ℕ) (keystore password : List ℕ) (y : ClientReply) (steps : List ClientStep) (s : KeyStatus) → Fits (Calls call.Keys) y
    → Follows Fits (standing_plan now keystore password key (said_in y)) steps (Some s) → is_fine s ≡ true → CallsOne (ShowsOn key) ((Calls call.Keys, y) ∷ steps)
keys_reply key now keystore password (Replies r) steps s fits f fine = standing_run key now keystore password r steps s fits f fine
keys_reply key now keystore password (ClosedBy made r) steps s fits f fine = absurd fits
keys_reply key now keystore password (Signed r) steps s fits f fine = absurd fits
keys_reply key now keystore password (Imported r) steps s fits f fine = absurd fits
keys_reply key now keystore password (Deleted r) steps s fits f fine = absurd fits

key_run : (key : PubKey) (now : ℕ) (keystore password : List ℕ) (steps : List ClientStep) (s : KeyStatus) → Follows Fits (key_plan now keystore password key) steps (Some s) → is_fine s ≡ true → CallsOne (ShowsOn key) steps
key_run key now keystore password [] s f fine = absurd f
key_run key now keystore password (x ∷ xs) s f fine = asked_is (CallsOne (ShowsOn key)) (Calls call.Keys) x xs f.0 (keys_reply key now keystore password x.1 xs s f.1 f.2 fine)

-- the keystore has a key, which a call of the steps shows active
abbrev ShownBy : List ClientStep → List ℕ × List ℕ → Type 0
ShownBy steps k = (key : PubKey) × (key_of_keystore k.0 ≡ Some key) × CallsOne (ShowsOn key) steps

keystore_run : (now : ℕ) (k : List ℕ × List ℕ) (steps : List ClientStep) (s : KeyStatus) (o : Option PubKey) → key_of_keystore k.0 ≡ o → Follows Fits (found_plan now k.0 k.1 o) steps (Some s) → is_fine s ≡ true → ShownBy steps k
keystore_run now k steps s None e f fine = done_error _ steps s f fine
keystore_run now k steps s (Some key) e f fine = (key, e, key_run key now k.0 k.1 steps s f fine)

shown_each : (keystores : List (List ℕ × List ℕ)) (now : ℕ) (got all : List KeyStatus) (steps : List ClientStep) → Follows Fits (each_plan (λ k. keystore_plan now k) got keystores) steps (Some all) → list_all is_fine all ≡ true
    → (k : List ℕ × List ℕ) → Contains keystores k → ShownBy steps k
shown_each [] now got all steps f fine k has = contains_none k has
shown_each (q ∷ ks) now got all steps f fine k has =
    let r = follows_split Fits (keystore_plan now q) (λ s. each_plan (λ z. keystore_plan now z) (got ++ s ∷ []) ks) steps all f in
    let s : KeyStatus = r.2 in
    let begins = each_begins (λ z. keystore_plan now z) ks (got ++ s ∷ []) all r.1 r.5 in
    let shape : all ≡ got ++ s ∷ begins.0 = begins.1 ∙ append_assoc got (s ∷ []) begins.0 in
    let fine_here : is_fine s ≡ true = first_fine s begins.0 (all_fine got (s ∷ begins.0) (sym (ap (list_all is_fine) shape) ∙ fine)) in
    elim (contains_cases q ks k has) [
      | inl same ↦ (
          let one : ShownBy r.0 k = subst (ShownBy r.0) same (keystore_run now q r.0 s (key_of_keystore q.0) refl r.4 fine_here) in
          (one.0, one.1, front_calls (ShowsOn one.0) steps r.0 r.1 r.3 one.2)
          )
      | inr later ↦ (
          let rest : ShownBy r.1 k = shown_each ks now (got ++ s ∷ []) all r.1 r.5 fine k later in
          (rest.0, rest.1, back_calls (ShowsOn rest.0) steps r.0 r.1 r.3 rest.2)
          )
    ]

statuses_in : ImportEnd → List KeyStatus
statuses_in (ending.Treated got) = got
statuses_in (ending.MergeRefused d) = []

treated_end : (got statuses : List KeyStatus) (steps : List ClientStep) → Follows Fits (Done (ending.Treated got)) steps (Some (ending.Treated statuses)) → statuses ≡ got
unfolding statuses_in
treated_end got statuses [] f = ap statuses_in f
treated_end got statuses (x ∷ xs) f = absurd f

treated_shows : (keystores : List (List ℕ × List ℕ)) (now : ℕ) (steps : List ClientStep) (statuses : List KeyStatus) → Follows Fits (treated_plan now keystores) steps (Some (ending.Treated statuses)) → AreFine statuses
    → (k : List ℕ × List ℕ) → Contains keystores k → ShownBy steps k
treated_shows keystores now steps statuses f fine k has =
    let r = follows_split Fits (keystores_plan now keystores) (λ got. Done (ending.Treated got)) steps (ending.Treated statuses) f in
    let one : ShownBy r.0 k = shown_each keystores now [] r.2 r.0 r.4 (subst AreFine (treated_end r.2 statuses r.1 r.5) fine) k has in
    (one.0, one.1, front_calls (ShowsOn one.0) steps r.0 r.1 r.3 one.2)

-- ---- and merges the file first

abbrev MergedBy : Option File → List ClientStep → Type 0
MergedBy None steps = Unit {0}
MergedBy (Some f) steps = CallsOne (Merges f) steps

pub record FirstShows (file : Option File) (keystores : List (List ℕ × List ℕ)) (steps : List ClientStep) : Type 0 where
  pub shown : (k : List ℕ × List ℕ) → Contains keystores k → ShownBy steps k
  pub merged : MergedBy file steps

refused_not : {A : Type 0} (x : ImportEnd) (statuses : List KeyStatus) (steps : List ClientStep) → ((ending.Treated statuses ≡ x) → A) → Follows Fits (Done x) steps (Some (ending.Treated statuses)) → A
refused_not x statuses [] differs f = differs f
refused_not x statuses (y ∷ ys) differs f = absurd f

merged_shows : (file : File) (keystores : List (List ℕ × List ℕ)) (now : ℕ) (r : DeskReply) (steps : List ClientStep) (statuses : List KeyStatus) → IsKind (call.Merge file) r
    → Follows Fits (merged_plan now keystores (replied_of r)) steps (Some (ending.Treated statuses)) → AreFine statuses → FirstShows (Some file) keystores ((Calls (call.Merge file), Replies r) ∷ steps)
merged_shows file keystores now (reply.Merged n) steps statuses kind f fine = record {
  shown = λ k has. let one : ShownBy steps k = treated_shows keystores now steps statuses f fine k has in (one.0, one.1, inr one.2);
  merged = inl refl;
}
merged_shows file keystores now reply.Disk steps statuses kind f fine = refused_not _ statuses steps (λ e. absurd cc) f
merged_shows file keystores now (reply.GenesisDiffers kept given) steps statuses kind f fine = refused_not _ statuses steps (λ e. absurd cc) f
merged_shows file keystores now (reply.TooManyKeys have new) steps statuses kind f fine = refused_not _ statuses steps (λ e. absurd cc) f
merged_shows file keystores now (reply.Full size wanted) steps statuses kind f fine = refused_not _ statuses steps (λ e. absurd cc) f
merged_shows file keystores now reply.OutOfMemory [] statuses kind f fine = absurd f
merged_shows file keystores now reply.OutOfMemory (x ∷ xs) statuses kind f fine = absurd f
merged_shows file keystores now r steps statuses kind f fine = absurd kind

merge_reply : (file : File) (keystores : List (List ℕ × List ℕ)) (now : ℕ) (y : ClientReply) (steps : List ClientStep) (statuses : List KeyStatus) → Fits (Calls (call.Merge file)) y
    → Follows Fits (merged_plan now keystores (said_in y)) steps (Some (ending.Treated statuses)) → AreFine statuses → FirstShows (Some file) keystores ((Calls (call.Merge file), y) ∷ steps)
merge_reply file keystores now (Replies r) steps statuses fits f fine = merged_shows file keystores now r steps statuses fits f fine
merge_reply file keystores now (ClosedBy made r) steps statuses fits f fine = absurd fits
merge_reply file keystores now (Signed r) steps statuses fits f fine = absurd fits
merge_reply file keystores now (Imported r) steps statuses fits f fine = absurd fits
merge_reply file keystores now (Deleted r) steps statuses fits f fine = absurd fits

import_shows : (file : Option File) (keystores : List (List ℕ × List ℕ)) (now : ℕ) (steps : List ClientStep) (statuses : List KeyStatus) → Follows Fits (import_plan file now keystores) steps (Some (ending.Treated statuses)) → AreFine statuses → FirstShows file keystores steps
import_shows None keystores now steps statuses f fine = record { shown = treated_shows keystores now steps statuses f fine; merged = tt }
import_shows (Some file) keystores now [] statuses f fine = absurd f
import_shows (Some file) keystores now (x ∷ xs) statuses f fine = asked_is (FirstShows (Some file) keystores) (Calls (call.Merge file)) x xs f.0 (merge_reply file keystores now x.1 xs statuses f.1 f.2 fine)

-- ---- the second import changes no record

-- a merge of the file, or a list of the keys
abbrev IsSmall : Option File → Call → Type 0
IsSmall file (call.Merge g, r) = file ≡ Some g
IsSmall file (call.Keys, r) = Unit {0}
IsSmall file x = ⊥

pub record IsSlight (file : Option File) (steps : List ClientStep) : Type 0 where
  pub calls : EachIs (IsSmall file) (desk_calls steps)
  pub told : told_in steps ≡ []

-- the keystore has a key, which no list of the steps has not active
abbrev ListedOn : List ClientStep → List ℕ × List ℕ → Type 0
ListedOn steps k = (key : PubKey) × (key_of_keystore k.0 ≡ Some key) × ¬ (CallsOne (ListsOff key) steps)

slight_both : (file : Option File) (steps xs ys : List ClientStep) → steps ≡ xs ++ ys → IsSlight file xs → IsSlight file ys → IsSlight file steps
slight_both file steps xs ys e one two = record {
  calls = subst (EachIs (IsSmall file)) (sym (steps_on steps xs ys e)) (each_on (IsSmall file) (desk_calls xs) (desk_calls ys) one.calls two.calls);
  told = ap (λ l. told_in l) e ∙ told_on xs ys one.told two.told;
}

slight_more : (file : Option File) (c : DeskCall) (r : DeskReply) (steps : List ClientStep) → IsSmall file (c, r) → IsSlight file steps → IsSlight file ((Calls c, Replies r) ∷ steps)
slight_more file c r steps here more = record { calls = (here, more.calls); told = more.told }

not_false : (b : Bool) → ¬ (b ≡ false) → b ≡ true
not_false true h = refl
not_false false h = absurd (h refl)

standing_again : (file : Option File) (key : PubKey) (now : ℕ) (keystore password : List ℕ) (r : DeskReply) (steps : List ClientStep) (v : Option (List KeyStatus)) (next_by : KeyStatus → ClientPlan (List KeyStatus))
    → IsKind call.Keys r → ¬ (ListsOff key (call.Keys, r)) → Follows Fits (bind (standing_plan now keystore password key (replied_of r)) next_by) steps v
    → (Follows Fits (next_by status.Duplicate) steps v → IsSlight file steps) → IsSlight file ((Calls call.Keys, Replies r) ∷ steps)
standing_again file key now keystore password (reply.Keys listed) steps v next_by kind off f on =
    let there : is_active_in listed key ≡ true = not_false (is_active_in listed key) off in
    let go : Follows Fits (next_by status.Duplicate) steps v =
    subst (λ (b : Bool). Follows Fits (bind (cond b (Done status.Duplicate) (imports (imported key keystore password) (λ r. taken_plan now key r))) next_by) steps v) there f in
    slight_more file call.Keys (reply.Keys listed) steps tt (on go)
standing_again file key now keystore password reply.OutOfMemory [] v next_by kind off f on = record { calls = (tt, tt); told = refl }
standing_again file key now keystore password reply.OutOfMemory (x ∷ xs) v next_by kind off f on = absurd f
standing_again file key now keystore password r steps v next_by kind off f on = absurd kind

key_again : (file : Option File) (key : PubKey) (now : ℕ) (keystore password : List ℕ) (steps : List ClientStep) (v : Option (List KeyStatus)) (next_by : KeyStatus → ClientPlan (List KeyStatus))
    → ¬ (CallsOne (ListsOff key) steps) → Follows Fits (bind (key_plan now keystore password key) next_by) steps v
    → ((first : ClientStep) (rest : List ClientStep) → steps ≡ first ∷ rest → Follows Fits (next_by status.Duplicate) rest v → IsSlight file rest) → IsSlight file steps
key_again file key now keystore password [] v next_by off f on = record { calls = tt; told = refl }
key_again file key now keystore password (x ∷ xs) v next_by off f on =
    asked_is (IsSlight file) (Calls call.Keys) x xs f.0 (at x.1 f.1 f.2 (subst (λ (c : ClientCall). ¬ (IsAmong (ListsOff key) (step_calls (c, x.1) ++ desk_calls xs))) f.0 off) (λ g. on x xs refl g)) where
      at : (y : ClientReply) → Fits (Calls call.Keys) y → Follows Fits (bind (standing_plan now keystore password key (said_in y)) next_by) xs v → ¬ (IsAmong (ListsOff key) (step_calls (Calls call.Keys, y) ++ desk_calls xs))
          → (Follows Fits (next_by status.Duplicate) xs v → IsSlight file xs) → IsSlight file ((Calls call.Keys, y) ∷ xs)
      at (Replies r) fits g none more = standing_again file key now keystore password r xs v next_by fits (λ here. none (inl here)) g more
      at (ClosedBy made r) fits g none more = absurd fits
      at (Signed r) fits g none more = absurd fits
      at (Imported r) fits g none more = absurd fits
      at (Deleted r) fits g none more = absurd fits

listed_later : (steps rest : List ClientStep) (x : ClientStep) (k : List ℕ × List ℕ) → steps ≡ x ∷ rest → ListedOn steps k → ListedOn rest k
listed_later steps rest x k e on = (on.0, on.1, λ h. on.2 (back_calls (ListsOff on.0) steps (x ∷ []) rest e h))

slight_each : (file : Option File) (keystores : List (List ℕ × List ℕ)) (now : ℕ) (got : List KeyStatus) (steps : List ClientStep) (v : Option (List KeyStatus)) → ((k : List ℕ × List ℕ) → Contains keystores k → ListedOn steps k)
    → Follows Fits (each_plan (λ k. keystore_plan now k) got keystores) steps v → IsSlight file steps
slight_each file [] now got [] v on f = record { calls = tt; told = refl }
slight_each file [] now got (x ∷ xs) v on f = absurd f
slight_each file (k ∷ ks) now got steps v on f =
    let here : ListedOn steps k = on k (contains_first k ks) in
    let go : Follows Fits (bind (key_plan now k.0 k.1 here.0) (λ s. each_plan (λ z. keystore_plan now z) (got ++ s ∷ []) ks)) steps v =
    subst (λ (o : Option PubKey). Follows Fits (bind (found_plan now k.0 k.1 o) (λ s. each_plan (λ z. keystore_plan now z) (got ++ s ∷ []) ks)) steps v) here.1 f in
    key_again file here.0 now k.0 k.1 steps v (λ s. each_plan (λ z. keystore_plan now z) (got ++ s ∷ []) ks) here.2 go
    (λ x rest e g. slight_each file ks now (got ++ status.Duplicate ∷ []) rest v (λ z has. listed_later steps rest x z e (on z (contains_later k ks z has))) g)

ends_there : (file : Option File) (x : ImportEnd) (steps : List ClientStep) (v : Option ImportEnd) → Follows Fits (Done x) steps v → IsSlight file steps
ends_there file x [] v f = record { calls = tt; told = refl }
ends_there file x (y ∷ ys) v f = absurd f

listed_front : (steps xs ys : List ClientStep) (k : List ℕ × List ℕ) → steps ≡ xs ++ ys → ListedOn steps k → ListedOn xs k
listed_front steps xs ys k e on = (on.0, on.1, λ h. on.2 (front_calls (ListsOff on.0) steps xs ys e h))

slight_treated : (file : Option File) (keystores : List (List ℕ × List ℕ)) (now : ℕ) (steps : List ClientStep) (v : Option ImportEnd) → ((k : List ℕ × List ℕ) → Contains keystores k → ListedOn steps k) → Follows Fits (treated_plan now keystores) steps v → IsSlight file steps
slight_treated file keystores now steps v on f = elim (follows_cases Fits (keystores_plan now keystores) (λ got. Done (ending.Treated got)) steps v f) [
  | inl h ↦ slight_each file keystores now [] steps None on h.1
  | inr r ↦ slight_both file steps r.0 r.1 r.3 (slight_each file keystores now [] r.0 (Some r.2) (λ k has. listed_front steps r.0 r.1 k r.3 (on k has)) r.4) (ends_there file (ending.Treated r.2) r.1 v r.5)
]

merged_slight : (file : File) (keystores : List (List ℕ × List ℕ)) (now : ℕ) (r : DeskReply) (steps : List ClientStep) (v : Option ImportEnd) → IsKind (call.Merge file) r → ((k : List ℕ × List ℕ) → Contains keystores k → ListedOn steps k)
    → Follows Fits (merged_plan now keystores (replied_of r)) steps v → IsSlight (Some file) steps
merged_slight file keystores now (reply.Merged n) steps v kind on f = slight_treated (Some file) keystores now steps v on f
merged_slight file keystores now reply.Disk steps v kind on f = ends_there (Some file) _ steps v f
merged_slight file keystores now (reply.GenesisDiffers kept given) steps v kind on f = ends_there (Some file) _ steps v f
merged_slight file keystores now (reply.TooManyKeys have new) steps v kind on f = ends_there (Some file) _ steps v f
merged_slight file keystores now (reply.Full size wanted) steps v kind on f = ends_there (Some file) _ steps v f
merged_slight file keystores now reply.OutOfMemory [] v kind on f = record { calls = tt; told = refl }
merged_slight file keystores now reply.OutOfMemory (x ∷ xs) v kind on f = absurd f
merged_slight file keystores now r steps v kind on f = absurd kind

slight_import : (file : Option File) (keystores : List (List ℕ × List ℕ)) (now : ℕ) (steps : List ClientStep) (v : Option ImportEnd) → ((k : List ℕ × List ℕ) → Contains keystores k → ListedOn steps k) → Follows Fits (import_plan file now keystores) steps v → IsSlight file steps
slight_import None keystores now steps v on f = slight_treated None keystores now steps v on f
slight_import (Some file) keystores now [] v on f = record { calls = tt; told = refl }
slight_import (Some file) keystores now (x ∷ xs) v on f =
    asked_is (IsSlight (Some file)) (Calls (call.Merge file)) x xs f.0 (at x.1 f.1 f.2 (λ k has. listed_later (x ∷ xs) xs x k refl (on k has))) where
      at : (y : ClientReply) → Fits (Calls (call.Merge file)) y → Follows Fits (merged_plan now keystores (said_in y)) xs v → ((k : List ℕ × List ℕ) → Contains keystores k → ListedOn xs k) → IsSlight (Some file) ((Calls (call.Merge file), y) ∷ xs)
      at (Replies r) fits g later = slight_more (Some file) (call.Merge file) r xs refl (merged_slight file keystores now r xs v fits later g)
      at (ClosedBy made r) fits g later = absurd fits
      at (Signed r) fits g later = absurd fits
      at (Imported r) fits g later = absurd fits
      at (Deleted r) fits g later = absurd fits

-- ---- each such call

leaves_self : (a b : State) → b.keys ≡ a.keys → b.states ≡ a.states → b.watching ≡ a.watching → b.grants ≡ a.grants → b.next ≡ a.next → LeavesAll a b
leaves_self a b keys states watching grants next = record {
  records = λ key. subst (λ (l : Kept). SameRecord (past_of a key) (kept_of l key)) (sym keys) (same_self (past_of a key));
  states = states;
  watching = watching;
  grants = grants;
  next = next;
}

merge_leaves : (g : File) (a : State) (r : DeskReply) → EachOnce g.books → HasFile g a → LeavesAll a (after a (call.Merge g) r)
merge_leaves g a (reply.Merged n) once has = record { records = λ key. merged_same a.keys g.books once has key; states = refl; watching = refl; grants = refl; next = refl }
merge_leaves g a reply.Disk once has = leaves_self a (after a (call.Merge g) reply.Disk) refl refl refl refl refl
merge_leaves g a r once has = leaves_self a (after a (call.Merge g) r) refl refl refl refl refl

keys_leaves : (a : State) (r : DeskReply) → LeavesAll a (after a call.Keys r)
keys_leaves a reply.Disk = leaves_self a (after a call.Keys reply.Disk) refl refl refl refl refl
keys_leaves a r = leaves_self a (after a call.Keys r) refl refl refl refl refl

abbrev Found : Option File → State → Type 0
Found None a = Unit {0}
Found (Some f) a = HasFile f a

some_file : (o : Option File) (g : File) (a : State) → o ≡ Some g → IfSome o (λ f. EachOnce f.books) → Found o a → EachOnce g.books × HasFile g a
some_file None g a e once has = absurd cc
some_file (Some f) g a e once has = let same : f ≡ g = cc in subst (λ (x : File). EachOnce x.books × HasFile x a) same (once, has)

small_leaves : (file : Option File) (a : State) (c : DeskCall) (r : DeskReply) → IfSome file (λ f. EachOnce f.books) → Found file a → IsSmall file (c, r) → LeavesAll a (after a c r)
small_leaves file a (call.Merge g) r once has is = let two = some_file file g a is once has in merge_leaves g a r two.0 two.1
small_leaves file a call.Keys r once has is = keys_leaves a r
small_leaves file a c r once has is = absurd is

found_through : (file : Option File) (a : State) (made : List Call) → CanMake a made → Found file a → Found file (state_after a made)
found_through None a made can has = tt
found_through (Some f) a made can has = file_through f a made can has

found_first : (file : Option File) (a : State) (made : List Call) (steps : List ClientStep) → IfSome file (λ f. EachOnce f.books) → CanMake a made → ((P : Call → Type 0) → CallsOne P steps → IsAmong P made) → MergedBy file steps → Found file (state_after a made)
found_first None a made steps once can among merged = tt
found_first (Some f) a made steps once can among merged = merged_in f a made once can (among (Merges f) merged)

-- ---- in a history

pub imports_again : (state : State) (log : History) → CanMake state (calls_of log) → IsWhole state → IsUp state → ImportsAgain state log
imports_again state log can whole up file keystores now later front first between second back k l one two statuses v once is own_one f fine own_two g none =
    let here : State = state_after state (calls_of front) in
    let there : State = state_after here (calls_of first) in
    let late : State = state_after there (calls_of between) in
    let calls : calls_of log ≡ calls_of front ++ (calls_of first ++ (calls_of between ++ (calls_of second ++ calls_of back))) =
    ap calls_of is ∙ calls_on front (first ++ (between ++ (second ++ back)))
    ∙ ap (λ (m : List Call). calls_of front ++ m) (calls_on first (between ++ (second ++ back)) ∙ ap (λ (m : List Call). calls_of first ++ m) (calls_on between (second ++ back) ∙ ap (λ (m : List Call). calls_of between ++ m) (calls_on second back))) in
    let parts = can_split state (calls_of front) (calls_of first ++ (calls_of between ++ (calls_of second ++ calls_of back))) (subst (λ (m : List Call). CanMake state m) calls can) in
    let one_on = can_split here (calls_of first) (calls_of between ++ (calls_of second ++ calls_of back)) parts.1 in
    let more = can_split there (calls_of between) (calls_of second ++ calls_of back) one_on.1 in
    let two_on = can_split late (calls_of second) (calls_of back) more.1 in
    let apart : calls_of (first ++ (between ++ second)) ≡ calls_of first ++ (calls_of between ++ calls_of second) = calls_on first (between ++ second) ∙ ap (λ (m : List Call). calls_of first ++ m) (calls_on between second) in
    let kept : (key : PubKey) → IsKeyOf keystores key → ¬ (IsAmong (Begins key) (calls_of first ++ (calls_of between ++ calls_of second))) = λ key of. subst (λ (m : List Call). ¬ (IsAmong (Begins key) m)) apart (none key of) in
    let shows : FirstShows file keystores one = import_shows file keystores now one statuses f fine in
    let whole_late : WholeThrough late = whole_after there (calls_of between) more.0 (whole_after here (calls_of first) one_on.0 (whole_after state (calls_of front) parts.0 (whole_up state whole up))) in
    let among_first : (P : Call → Type 0) → CallsOne P one → IsAmong P (calls_of first) = λ P h. among_own P k first (subst (IsAmong P) (sym own_one) h) in
    let found : Found file late = found_through file there (calls_of between) more.0 (found_first file here (calls_of first) one once one_on.0 among_first shows.merged) in
    let listed : (z : List ℕ × List ℕ) → Contains keystores z → ListedOn two z =
    λ z has.
    (let s : ShownBy one z = shows.shown z has in
    let key : PubKey = s.0 in
    let apart_all = kept key (z, has, s.1) in
    let on_there : IsOn there key = shown_on here key (calls_of first) one_on.0 (λ h. apart_all (among_left (Begins key) (calls_of first) (calls_of between ++ calls_of second) h)) (among_first (ShowsOn key) s.2) in
    let on_late : IsOn late key =
    on_through there key (calls_of between) more.0 (λ h. apart_all (among_right (Begins key) (calls_of first) (calls_of between ++ calls_of second) (among_left (Begins key) (calls_of between) (calls_of second) h))) on_there in
    let off : ¬ (IsAmong (ListsOff key) (calls_of second)) =
    none_listed late key (calls_of second) two_on.0 whole_late (λ h. apart_all (among_right (Begins key) (calls_of first) (calls_of between ++ calls_of second) (among_right (Begins key) (calls_of between) (calls_of second) h))) on_late in
    (key, s.1, λ h. off (among_own (ListsOff key) l second (subst (IsAmong (ListsOff key)) (sym own_two) h)))) in
    let slight : IsSlight file two = slight_import file keystores later two v listed g in
    let each : EachIs (IsSmall file) (own l second) = subst (EachIs (IsSmall file)) (sym own_two) slight.calls in
    let late_is : state_after state (calls_of (front ++ (first ++ between))) ≡ late =
    ap (λ (m : List Call). state_after state m) (calls_on front (first ++ between) ∙ ap (λ (m : List Call). calls_of front ++ m) (calls_on first between))
    ∙ after_on state (calls_of front) (calls_of first ++ calls_of between) ∙ after_on here (calls_of first) (calls_of between) in (
      λ before rest c r turns.
          let at_turn : calls_of second ≡ calls_of before ++ calls_of (entry l c r ∷ rest) = ap calls_of turns ∙ calls_on before (entry l c r ∷ rest) in
          let come = can_split late (calls_of before) (calls_of (entry l c r ∷ rest)) (subst (λ (m : List Call). CanMake late m) at_turn two_on.0) in
          let E : State → Type 0 = λ x. LeavesAll (state_after x (calls_of before)) (after (state_after x (calls_of before)) c r) in
          subst E (sym late_is) (small_leaves file (state_after late (calls_of before)) c r once (found_through file late (calls_of before) come.0 found) (each_turn (IsSmall file) l second before rest c r each turns)),
      slight.told,
    )
