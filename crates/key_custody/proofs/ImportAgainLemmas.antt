-- An import that comes again: each key is found active, and each book is there.
use Rattle.std.proofs.Common.{◌≡◌, inl, inr, ℕ, Bool, true, cond, List, [], ◌∷◌, ◌++◌, Option, Some, None, refl, sym, ◌∙◌, ap, subst}
use Rattle.std.specs.Prelude.{IsSome, IfSome, Contains}
use Rattle.std.specs.Map.{keys_of}
use Rattle.edge_kit.specs.declared.bytes.PubKey.{PubKey}
use Rattle.slash_defs.specs.declared.book.File.{File}
use Rattle.protect_record.proofs.MemberLemmas.{contains_first, contains_later}
use Rattle.record_join.specs.Keys.{kept_of}
use Rattle.record_join.specs.BooksPasts.{EachOnce, with_file}
use Rattle.record_replay.specs.declared.state.KeyState.TheVariants.{Active}
use Rattle.desk_machine.specs.Kinds.{IsKind}
use Rattle.desk_machine.specs.States.{State, past_of}
use Rattle.desk_machine.specs.Machine.{after}
use Rattle.desk_machine.specs.declared.call.DeskCall.{DeskCall}
use Rattle.desk_machine.specs.declared.call.DeskCall.TheVariants as call
use Rattle.desk_machine.specs.declared.call.DeskReply.{DeskReply}
use Rattle.desk_machine.specs.declared.call.DeskReply.TheVariants as reply
use Rattle.signer_link.specs.Signing.{imported}
use Rattle.call_plans.specs.Plans.{Done, bind, each_plan, Follows}
use Rattle.call_plans.proofs.PlanLemmas.{follows_split, follows_cases}
use Rattle.call_plans.proofs.PathLemmas.{path_split}
use Rattle.key_custody.specs.declared.status.KeyStatus.{KeyStatus}
use Rattle.key_custody.specs.declared.status.KeyStatus.TheVariants as status
use Rattle.key_custody.specs.declared.import.ImportEnd.{ImportEnd}
use Rattle.key_custody.specs.declared.import.ImportEnd.TheVariants as ending
use Rattle.key_custody.specs.Replies.{replied_of, is_active_in}
use Rattle.client_calls.specs.Steps.{ClientCall, ClientReply, ClientStep, Calls, Replies, ClosedBy, Signed, Imported, Deleted, Fits, step_calls, desk_calls, told_in, ClientPlan}
use Rattle.key_custody.specs.Plans.{said_in, taken_plan, imports, standing_plan, key_plan, found_plan, keystore_plan, keystores_plan, treated_plan, merged_plan, import_plan}
use Rattle.key_custody.specs.Once.{MachineRun, Moves, IsWhole, AreFine, LeavesAll, ImportsOnce}
use Rattle.key_custody.proofs.AgainLemmas.{calls_on, told_on}
use Rattle.key_custody.proofs.HoldLemmas.{Kept, Grew, grew_self, grew_file, HasBooks, merged_has, has_on, merged_same, same_self, Holds, HeldTorn, holds_between, Since, SinceTorn, since_between, was_none}
use Rattle.key_custody.proofs.ImportLemmas.{IsTakenAt, AllTaken, first_keystores, listed_forth, kept_any, past_on}

-- ---- the first import

abbrev pub HasFile : Option File → Kept → Type 0
HasFile None keys = Unit {0}
HasFile (Some f) keys = HasBooks f.books keys

pub record FirstTaken (file : Option File) (keystores : List (List ℕ × List ℕ)) (b : State) : Type 0 where
  pub each : (k : List ℕ × List ℕ) → Contains keystores k → IsTakenAt b k
  pub books : HasFile file b.keys
  pub torn : b.torn ≡ None

statuses_in : ImportEnd → List KeyStatus
statuses_in (ending.Treated got) = got
statuses_in (ending.MergeRefused d) = []

treated_end : (got statuses : List KeyStatus) (steps : List ClientStep) (m n : State) → Follows Fits (Done (ending.Treated got)) steps (Some (ending.Treated statuses)) → MachineRun m (desk_calls steps) n → (statuses ≡ got) × (n ≡ m)
unfolding statuses_in
treated_end got statuses [] m n f p = (ap statuses_in f, p)
treated_end got statuses (x ∷ xs) m n f p = absurd f

treated_run : (keystores : List (List ℕ × List ℕ)) (m n : State) (now : ℕ) (steps : List ClientStep) (statuses : List KeyStatus) → IsWhole m → Follows Fits (treated_plan now keystores) steps (Some (ending.Treated statuses)) → AreFine statuses
    → MachineRun m (desk_calls steps) n → AllTaken keystores m n
treated_run keystores m n now steps statuses whole f fine p =
    let r = follows_split Fits (keystores_plan now keystores) (λ got. Done (ending.Treated got)) steps (ending.Treated statuses) f in
    let got : List KeyStatus = r.2 in
    let parts = path_split Moves m n (desk_calls r.0) (desk_calls r.1) (subst (λ (l : List (DeskCall × DeskReply)). MachineRun m l n) (calls_on steps r.0 r.1 r.3) p) in
    let end = treated_end got statuses r.1 parts.0 n r.5 parts.2 in
    let taken : AllTaken keystores m parts.0 = first_keystores keystores m parts.0 now [] got r.0 whole r.4 (subst AreFine end.0 fine) parts.1 in
    subst (λ (x : State). AllTaken keystores m x) (sym end.1) taken

-- a merge leaves each state
merged_whole : (a : State) (file : File) (n : ℕ) → IsWhole a → IsWhole (after a (call.Merge file) (reply.Merged n))
merged_whole a file n whole q e = whole q (was_none a.keys (with_file a.keys file.books) q (grew_file a.keys file.books) e)

refused_not : {A : Type 0} (x : ImportEnd) (statuses : List KeyStatus) (steps : List ClientStep) → ((ending.Treated statuses ≡ x) → A) → Follows Fits (Done x) steps (Some (ending.Treated statuses)) → A
refused_not x statuses [] differs f = differs f
refused_not x statuses (y ∷ ys) differs f = absurd f

merged_run : (file : File) (keystores : List (List ℕ × List ℕ)) (a m b : State) (now : ℕ) (r : DeskReply) (steps : List ClientStep) (statuses : List KeyStatus) → EachOnce file.books → IsWhole a → a.torn ≡ None → IsKind (call.Merge file) r
    → Follows Fits (merged_plan now keystores (replied_of r)) steps (Some (ending.Treated statuses)) → AreFine statuses → Moves a (call.Merge file, r) m → MachineRun m (desk_calls steps) b → FirstTaken (Some file) keystores b
merged_run file keystores a m b now (reply.Merged n) steps statuses once whole up kind f fine moves p =
    let start : State = after a (call.Merge file) (reply.Merged n) in
    let run : MachineRun start (desk_calls steps) b = subst (λ (x : State). MachineRun x (desk_calls steps) b) moves.1 p in
    let taken : AllTaken keystores start b = treated_run keystores start b now steps statuses (merged_whole a file n whole) f fine run in
    record { each = taken.each; books = has_on file.books start.keys b.keys taken.grew (merged_has a.keys file.books once); torn = taken.torn ∙ up }
merged_run file keystores a m b now reply.Disk steps statuses once whole up kind f fine moves p = refused_not _ statuses steps (λ e. absurd cc) f
merged_run file keystores a m b now (reply.GenesisDiffers kept given) steps statuses once whole up kind f fine moves p = refused_not _ statuses steps (λ e. absurd cc) f
merged_run file keystores a m b now (reply.TooManyKeys have new) steps statuses once whole up kind f fine moves p = refused_not _ statuses steps (λ e. absurd cc) f
merged_run file keystores a m b now (reply.Full size wanted) steps statuses once whole up kind f fine moves p = refused_not _ statuses steps (λ e. absurd cc) f
merged_run file keystores a m b now reply.OutOfMemory [] statuses once whole up kind f fine moves p = absurd f
merged_run file keystores a m b now reply.OutOfMemory (x ∷ xs) statuses once whole up kind f fine moves p = absurd f
merged_run file keystores a m b now r steps statuses once whole up kind f fine moves p = absurd kind

merge_reply : (file : File) (keystores : List (List ℕ × List ℕ)) (a b : State) (now : ℕ) (y : ClientReply) (steps : List ClientStep) (statuses : List KeyStatus) → EachOnce file.books → IsWhole a → a.torn ≡ None → Fits (Calls (call.Merge file)) y
    → Follows Fits (merged_plan now keystores (said_in y)) steps (Some (ending.Treated statuses)) → AreFine statuses → MachineRun a (step_calls (Calls (call.Merge file), y) ++ desk_calls steps) b → FirstTaken (Some file) keystores b
merge_reply file keystores a b now (Replies r) steps statuses once whole up fits f fine p = merged_run file keystores a p.0 b now r steps statuses once whole up fits f fine p.1 p.2
merge_reply file keystores a b now (ClosedBy made r) steps statuses once whole up fits f fine p = absurd fits
merge_reply file keystores a b now (Signed r) steps statuses once whole up fits f fine p = absurd fits
merge_reply file keystores a b now (Imported r) steps statuses once whole up fits f fine p = absurd fits
merge_reply file keystores a b now (Deleted r) steps statuses once whole up fits f fine p = absurd fits

pub first_taken : (file : Option File) (keystores : List (List ℕ × List ℕ)) (a b : State) (now : ℕ) (first : List ClientStep) (statuses : List KeyStatus) → IfSome file (λ f. EachOnce f.books) → IsWhole a → a.torn ≡ None
    → MachineRun a (desk_calls first) b → Follows Fits (import_plan file now keystores) first (Some (ending.Treated statuses)) → AreFine statuses → FirstTaken file keystores b
first_taken None keystores a b now first statuses once whole up p f fine =
    let taken : AllTaken keystores a b = treated_run keystores a b now first statuses whole f fine p in record { each = taken.each; books = tt; torn = taken.torn ∙ up }
first_taken (Some file) keystores a b now [] statuses once whole up p f fine = absurd f
first_taken (Some file) keystores a b now (x ∷ xs) statuses once whole up p f fine =
    merge_reply file keystores a b now x.1 xs statuses once whole up f.1 f.2 fine (subst (λ (c : ClientCall). MachineRun a (step_calls (c, x.1) ++ desk_calls xs) b) f.0 p)

-- ---- each keystore again

pub record AgainTaken (c d : State) (steps : List ClientStep) : Type 0 where
  pub same : d ≡ c
  pub told : told_in steps ≡ []

again_standing : (m m1 d : State) (key : PubKey) (now : ℕ) (keystore password : List ℕ) (r : DeskReply) (steps : List ClientStep) (v : Option (List KeyStatus)) (next_by : KeyStatus → ClientPlan (List KeyStatus))
    → kept_of m.states key ≡ Some Active → IsSome (past_of m key) → IsKind call.Keys r
    → Follows Fits (bind (standing_plan now keystore password key (replied_of r)) next_by) steps v → Moves m (call.Keys, r) m1 → MachineRun m1 (desk_calls steps) d
    → (Follows Fits (next_by status.Duplicate) steps v → MachineRun m (desk_calls steps) d → AgainTaken m d steps) → AgainTaken m d ((Calls call.Keys, Replies r) ∷ steps)
again_standing m m1 d key now keystore password (reply.Keys listed) steps v next_by active past kind f moves p on =
    let there : is_active_in listed key ≡ true = ap (λ l. is_active_in l key) moves.0 ∙ listed_forth m key (keys_of m.keys) active (sym (kept_any m.keys key) ∙ past) in
    let go : Follows Fits (next_by status.Duplicate) steps v =
    subst (λ (b : Bool). Follows Fits (bind (cond b (Done status.Duplicate) (imports (imported key keystore password) (λ r. taken_plan now key r))) next_by) steps v) there f in
    let rest : AgainTaken m d steps = on go (subst (λ (x : State). MachineRun x (desk_calls steps) d) moves.1 p) in
    record { same = rest.same; told = rest.told }
again_standing m m1 d key now keystore password reply.OutOfMemory [] v next_by active past kind f moves p on = record { same = p ∙ moves.1; told = refl }
again_standing m m1 d key now keystore password reply.OutOfMemory (x ∷ xs) v next_by active past kind f moves p on = absurd f
again_standing m m1 d key now keystore password r steps v next_by active past kind f moves p on = absurd kind

again_key : (m d : State) (key : PubKey) (now : ℕ) (keystore password : List ℕ) (steps : List ClientStep) (v : Option (List KeyStatus)) (next_by : KeyStatus → ClientPlan (List KeyStatus))
    → kept_of m.states key ≡ Some Active → IsSome (past_of m key) → Follows Fits (bind (key_plan now keystore password key) next_by) steps v → MachineRun m (desk_calls steps) d
    → ((rest : List ClientStep) → Follows Fits (next_by status.Duplicate) rest v → MachineRun m (desk_calls rest) d → AgainTaken m d rest) → AgainTaken m d steps
again_key m d key now keystore password [] v next_by active past f p on = record { same = p; told = refl }
again_key m d key now keystore password (x ∷ xs) v next_by active past f p on =
    subst (λ (q : ClientCall). AgainTaken m d ((q, x.1) ∷ xs)) (sym f.0) (at x.1 f.1 f.2 (subst (λ (q : ClientCall). MachineRun m (step_calls (q, x.1) ++ desk_calls xs) d) f.0 p)) where
      at : (y : ClientReply) → Fits (Calls call.Keys) y → Follows Fits (bind (standing_plan now keystore password key (said_in y)) next_by) xs v → MachineRun m (step_calls (Calls call.Keys, y) ++ desk_calls xs) d
          → AgainTaken m d ((Calls call.Keys, y) ∷ xs)
      at (Replies r) fits g q = again_standing m q.0 d key now keystore password r xs v next_by active past fits g q.1 q.2 (on xs)
      at (ClosedBy made r) fits g q = absurd fits
      at (Signed r) fits g q = absurd fits
      at (Imported r) fits g q = absurd fits
      at (Deleted r) fits g q = absurd fits

again_keystores : (keystores : List (List ℕ × List ℕ)) (c d : State) (now : ℕ) (got : List KeyStatus) (steps : List ClientStep) (v : Option (List KeyStatus)) → ((k : List ℕ × List ℕ) → Contains keystores k → IsTakenAt c k)
    → Follows Fits (each_plan (λ k. keystore_plan now k) got keystores) steps v → MachineRun c (desk_calls steps) d → AgainTaken c d steps
again_keystores [] c d now got [] v taken f p = record { same = p; told = refl }
again_keystores [] c d now got (x ∷ xs) v taken f p = absurd f
again_keystores (k ∷ ks) c d now got steps v taken f p =
    let here : IsTakenAt c k = taken k (contains_first k ks) in
    let go : Follows Fits (bind (key_plan now k.0 k.1 here.0) (λ s. each_plan (λ z. keystore_plan now z) (got ++ s ∷ []) ks)) steps v =
    subst (λ (o : Option PubKey). Follows Fits (bind (found_plan now k.0 k.1 o) (λ s. each_plan (λ z. keystore_plan now z) (got ++ s ∷ []) ks)) steps v) here.1 f in
    again_key c d here.0 now k.0 k.1 steps v (λ s. each_plan (λ z. keystore_plan now z) (got ++ s ∷ []) ks) here.2 here.3 go p
    (λ rest g q. again_keystores ks c d now (got ++ status.Duplicate ∷ []) rest v (λ z h. taken z (contains_later k ks z h)) g q)

ends_there : (m d : State) (x : ImportEnd) (steps : List ClientStep) (v : Option ImportEnd) → Follows Fits (Done x) steps v → MachineRun m (desk_calls steps) d → AgainTaken m d steps
ends_there m d x [] v f p = record { same = p; told = refl }
ends_there m d x (y ∷ ys) v f p = absurd f

again_treated : (keystores : List (List ℕ × List ℕ)) (c d : State) (now : ℕ) (steps : List ClientStep) (v : Option ImportEnd) → ((k : List ℕ × List ℕ) → Contains keystores k → IsTakenAt c k)
    → Follows Fits (treated_plan now keystores) steps v → MachineRun c (desk_calls steps) d → AgainTaken c d steps
again_treated keystores c d now steps v taken f p = elim (follows_cases Fits (keystores_plan now keystores) (λ got. Done (ending.Treated got)) steps v f) [
  | inl h ↦ again_keystores keystores c d now [] steps None taken h.1 p
  | inr r ↦ (
      let parts = path_split Moves c d (desk_calls r.0) (desk_calls r.1) (subst (λ (l : List (DeskCall × DeskReply)). MachineRun c l d) (calls_on steps r.0 r.1 r.3) p) in
      let one : AgainTaken c parts.0 r.0 = again_keystores keystores c parts.0 now [] r.0 (Some r.2) taken r.4 parts.1 in
      let two : AgainTaken parts.0 d r.1 = ends_there parts.0 d (ending.Treated r.2) r.1 v r.5 parts.2 in
      record { same = two.same ∙ one.same; told = ap (λ l. told_in l) r.3 ∙ told_on r.0 r.1 one.told two.told }
      )
]

-- ---- the file again

leaves_self : (c : State) → LeavesAll c c
leaves_self c = record { records = λ key. same_self (past_of c key); states = refl; watching = refl; grants = refl; next = refl }

pub record AgainAll (c d : State) (steps : List ClientStep) : Type 0 where
  pub all : LeavesAll c d
  pub told : told_in steps ≡ []

again_all : (c m d : State) (steps : List ClientStep) → LeavesAll c m → AgainTaken m d steps → AgainAll c d steps
again_all c m d steps all a = record { all = subst (LeavesAll c) (sym a.same) all; told = a.told }

merged_again : (file : File) (keystores : List (List ℕ × List ℕ)) (c m d : State) (now : ℕ) (r : DeskReply) (steps : List ClientStep) (v : Option ImportEnd) → EachOnce file.books → HasBooks file.books c.keys
    → ((k : List ℕ × List ℕ) → Contains keystores k → IsTakenAt c k) → IsKind (call.Merge file) r → Follows Fits (merged_plan now keystores (replied_of r)) steps v → Moves c (call.Merge file, r) m → MachineRun m (desk_calls steps) d
    → AgainAll c d steps
merged_again file keystores c m d now (reply.Merged n) steps v once has taken kind f moves p =
    let start : State = after c (call.Merge file) (reply.Merged n) in
    let run : MachineRun start (desk_calls steps) d = subst (λ (x : State). MachineRun x (desk_calls steps) d) moves.1 p in
    let all : LeavesAll c start = record { records = λ key. merged_same c.keys file.books once has key; states = refl; watching = refl; grants = refl; next = refl } in
    again_all c start d steps all
    (again_treated keystores start d now steps v (λ k h. let t = taken k h in (t.0, t.1, t.2, past_on c.keys start.keys t.0 (grew_file c.keys file.books) t.3)) f run)
merged_again file keystores c m d now reply.Disk steps v once has taken kind f moves p =
    again_all c m d steps (subst (LeavesAll c) (sym moves.1) (record { records = λ key. same_self (past_of c key); states = refl; watching = refl; grants = refl; next = refl })) (ends_there m d _ steps v f p)
merged_again file keystores c m d now (reply.GenesisDiffers kept given) steps v once has taken kind f moves p = again_all c m d steps (subst (LeavesAll c) (sym moves.1) (leaves_self c)) (ends_there m d _ steps v f p)
merged_again file keystores c m d now (reply.TooManyKeys have new) steps v once has taken kind f moves p = again_all c m d steps (subst (LeavesAll c) (sym moves.1) (leaves_self c)) (ends_there m d _ steps v f p)
merged_again file keystores c m d now (reply.Full size wanted) steps v once has taken kind f moves p = again_all c m d steps (subst (LeavesAll c) (sym moves.1) (leaves_self c)) (ends_there m d _ steps v f p)
merged_again file keystores c m d now reply.OutOfMemory [] v once has taken kind f moves p = again_all c m d [] (subst (LeavesAll c) (sym moves.1) (leaves_self c)) (record { same = p; told = refl })
merged_again file keystores c m d now reply.OutOfMemory (x ∷ xs) v once has taken kind f moves p = absurd f
merged_again file keystores c m d now r steps v once has taken kind f moves p = absurd kind

pub second_taken : (file : Option File) (keystores : List (List ℕ × List ℕ)) (c d : State) (now : ℕ) (second : List ClientStep) (v : Option ImportEnd) → IfSome file (λ f. EachOnce f.books) → HasFile file c.keys
    → ((k : List ℕ × List ℕ) → Contains keystores k → IsTakenAt c k) → MachineRun c (desk_calls second) d → Follows Fits (import_plan file now keystores) second v → AgainAll c d second
second_taken None keystores c d now second v once has taken p f = again_all c c d second (leaves_self c) (again_treated keystores c d now second v taken f p)
second_taken (Some file) keystores c d now [] v once has taken p f = again_all c c d [] (leaves_self c) (record { same = p; told = refl })
second_taken (Some file) keystores c d now (x ∷ xs) v once has taken p f =
    subst (λ (q : ClientCall). AgainAll c d ((q, x.1) ∷ xs)) (sym f.0) (at x.1 f.1 f.2 (subst (λ (q : ClientCall). MachineRun c (step_calls (q, x.1) ++ desk_calls xs) d) f.0 p)) where
      at : (y : ClientReply) → Fits (Calls (call.Merge file)) y → Follows Fits (merged_plan now keystores (said_in y)) xs v → MachineRun c (step_calls (Calls (call.Merge file), y) ++ desk_calls xs) d
          → AgainAll c d ((Calls (call.Merge file), y) ∷ xs)
      at (Replies r) fits g q = let a = merged_again file keystores c q.0 d now r xs v once has taken fits g q.1 q.2 in record { all = a.all; told = a.told }
      at (ClosedBy made r) fits g q = absurd fits
      at (Signed r) fits g q = absurd fits
      at (Imported r) fits g q = absurd fits
      at (Deleted r) fits g q = absurd fits

-- ---- the law

file_on : (file : Option File) (xs ys : Kept) → Grew xs ys → HasFile file xs → HasFile file ys
file_on None xs ys grew h = tt
file_on (Some f) xs ys grew h = has_on f.books xs ys grew h

pub imports_once : ImportsOnce
imports_once file keystores now later a b c d first second between statuses v once whole up p f fine way never q g =
    let done : FirstTaken file keystores b = first_taken file keystores a b now first statuses once whole up p f fine in
    let since : Since b.keys c = since_between b.keys b c between way (grew_self b.keys, torn_since b done.torn) in
    let taken : (k : List ℕ × List ℕ) → Contains keystores k → IsTakenAt c k = λ k h.
    (let t = done.each k h in
    let held : Holds b.keys t.0 c = holds_between b.keys b c t.0 between way (never t.0 (k, h, t.1)) ((t.2, grew_self b.keys), torn_held b t.0 done.torn) in
    (t.0, t.1, held.0.0, past_on b.keys c.keys t.0 held.0.1 t.3)) in
    let again : AgainAll c d second = second_taken file keystores c d later second v once (file_on file b.keys c.keys since.0 done.books) taken q g in
    (again.all, again.told) where
      torn_since : (b : State) → b.torn ≡ None → SinceTorn b.keys b.torn
      torn_since b e = subst (SinceTorn b.keys) (sym e) tt

      torn_held : (b : State) (key : PubKey) → b.torn ≡ None → HeldTorn b.keys key b.torn
      torn_held b key e = subst (HeldTorn b.keys key) (sym e) tt
