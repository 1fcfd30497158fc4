-- A deletion over the machine: the first one closes each key, and a later one finds it closed.
use Rattle.std.proofs.Common.{◌≡◌, ◌⊎◌, inl, inr, ◌&&◌, Bool, true, false, cond, List, [], ◌∷◌, ◌++◌, flat_map, filter, Option, Some, None, refl, sym, ◌∙◌, ap, subst, append_assoc}
use Rattle.std.specs.Prelude.{IsSome, is_some, Contains}
use Rattle.std.specs.List.{list_all}
use Rattle.std.proofs.lemmas.List.{append-nil}
use Rattle.edge_kit.specs.declared.bytes.PubKey.{PubKey}
use Rattle.protect_record.specs.Pasts.{Past}
use Rattle.protect_record.proofs.MemberLemmas.{contains_cases, contains_none}
use Rattle.record_join.specs.Keys.{kept_of, with_kept}
use Rattle.record_join.specs.KeyLaws.{changed, at_itself}
use Rattle.record_replay.specs.declared.state.KeyState.{KeyState}
use Rattle.record_replay.specs.declared.state.KeyState.TheVariants.{Active, Closing, Closed}
use Rattle.desk_machine.specs.Kinds.{IsKind}
use Rattle.desk_machine.specs.Making.{IsBusy, AllBusy, ClosesIdle}
use Rattle.desk_machine.specs.States.{State, past_of, IsActive, IsClosing}
use Rattle.desk_machine.specs.Machine.{after}
use Rattle.desk_machine.specs.declared.call.DeskCall.{DeskCall}
use Rattle.desk_machine.specs.declared.call.DeskCall.TheVariants as call
use Rattle.desk_machine.specs.declared.call.DeskReply.{DeskReply}
use Rattle.desk_machine.specs.declared.call.DeskReply.TheVariants as reply
use Rattle.signer_link.specs.declared.reply.DeleteReply.{DeleteReply}
use Rattle.signer_link.specs.declared.reply.DeleteReply.TheVariants as deleting
use Rattle.call_plans.specs.Plans.{Done, Ask, each_plan, Follows}
use Rattle.call_plans.proofs.PlanLemmas.{follows_split}
use Rattle.call_plans.proofs.PathLemmas.{path_split}
use Rattle.key_custody.specs.declared.status.KeyStatus.{KeyStatus}
use Rattle.key_custody.specs.declared.status.KeyStatus.TheVariants as status
use Rattle.key_custody.specs.declared.status.Reason.{Reason}
use Rattle.key_custody.specs.Statuses.{is_handed, handed_keys}
use Rattle.key_custody.specs.Replies.{replied_of}
use Rattle.client_calls.specs.Steps.{ClientCall, ClientReply, ClientStep, Calls, Closes, Deletes, Replies, ClosedBy, Signed, Imported, Deleted, Fits, step_calls, desk_calls, ClientPlan}
use Rattle.key_custody.specs.Plans.{said_in, deletion_in, closed_plan, close_plan, given_up_plan, closing_plan, delete_plan}
use Rattle.key_custody.specs.Once.{MachineRun, Moves, is_fine}
use Rattle.key_custody.proofs.RestLemmas.{AtRest, RestsIn, idle_rests, not_active, rests_with_kept}

pub flat_map_on : {X A : Type 0} (f : X → List A) (xs ys : List X) → flat_map f (xs ++ ys) ≡ flat_map f xs ++ flat_map f ys
flat_map_on f [] ys = refl
flat_map_on f (x ∷ xs) ys = ap (λ l. f x ++ l) (flat_map_on f xs ys) ∙ sym (append_assoc (f x) (flat_map f xs) (flat_map f ys))

false_true : {A : Type 0} → false ≡ true → A
false_true e = absurd cc

-- ---- a key is closed

-- while grants are open nothing changes
busy_one : (k : PubKey) (m b : State) (c : DeskCall) (r : DeskReply) → c ≡ call.FinishClose k → IsBusy r → Moves m (c, r) b → b ≡ m
busy_one k m b c (reply.Busy n) e busy moves = let P : DeskCall → Type 0 = λ x. after m x (reply.Busy n) ≡ m in moves.1 ∙ subst P (sym e) refl
busy_one k m b c r e busy moves = absurd busy

busy_same : (k : PubKey) (m b : State) (busy : List (DeskCall × DeskReply)) → AllBusy (call.FinishClose k) busy → MachineRun m busy b → b ≡ m
busy_same k m b [] all p = p
busy_same k m b (x ∷ xs) all p = busy_same k p.0 b xs all.2 p.2 ∙ busy_one k m p.0 x.0 x.1 all.0 all.1 p.1

-- what the closing of a key does
pub record IsClosedOf (k : PubKey) (m b : State) (s : KeyStatus) : Type 0 where
  pub closing : IsClosing m k
  pub states : b.states ≡ with_kept m.states k Closed
  pub keys : b.keys ≡ m.keys
  pub genesis : b.genesis ≡ m.genesis
  pub torn : b.torn ≡ m.torn
  pub handed : is_handed s ≡ true

error_not_fine : {A : Type 0} (s : KeyStatus) (why : Reason) → s ≡ status.Error why → is_fine s ≡ true → A
error_not_fine s why e fine = false_true (sym (ap is_fine e) ∙ fine)

-- a plan that is done with an error
pub done_error : {A : Type 0} (why : Reason) (steps : List ClientStep) (s : KeyStatus) → Follows Fits (Done (status.Error why)) steps (Some s) → is_fine s ≡ true → A
done_error why [] s f fine = error_not_fine s why f fine
done_error why (x ∷ xs) s f fine = absurd f

closed_end : (k : PubKey) (m m1 b : State) (r : DeskReply) (last : List ClientStep) (s : KeyStatus) → IsKind (call.FinishClose k) r → Follows Fits (closed_plan (replied_of r)) last (Some s) → is_fine s ≡ true
    → Moves m (call.FinishClose k, r) m1 → MachineRun m1 (desk_calls last) b → IsClosedOf k m b s
closed_end k m m1 b (reply.Closed book) [] s kind f fine moves p =
    let now : b ≡ after m (call.FinishClose k) (reply.Closed book) = p ∙ moves.1 in record {
      closing = moves.0.0.1.1;
      states = ap (λ (x : State). x.states) now;
      keys = ap (λ (x : State). x.keys) now;
      genesis = ap (λ (x : State). x.genesis) now;
      torn = ap (λ (x : State). x.torn) now;
      handed = ap is_handed f;
    }
closed_end k m m1 b (reply.Closed book) (x ∷ xs) s kind f fine moves p = absurd f
closed_end k m m1 b reply.Disk last s kind f fine moves p = done_error _ last s f fine
closed_end k m m1 b reply.Unknown last s kind f fine moves p = done_error _ last s f fine
closed_end k m m1 b (reply.NotClosing is) last s kind f fine moves p = done_error _ last s f fine
closed_end k m m1 b (reply.Busy n) last s kind f fine moves p = done_error _ last s f fine
closed_end k m m1 b (reply.Full size wanted) last s kind f fine moves p = done_error _ last s f fine
closed_end k m m1 b reply.OutOfMemory [] s kind f fine moves p = absurd f
closed_end k m m1 b reply.OutOfMemory (x ∷ xs) s kind f fine moves p = absurd f
closed_end k m m1 b r last s kind f fine moves p = absurd kind

closed_by : (k : PubKey) (m b : State) (made : List (DeskCall × DeskReply)) (r : DeskReply) (last : List ClientStep) (s : KeyStatus) → ClosesIdle (call.FinishClose k) r made → IsKind (call.FinishClose k) r
    → Follows Fits (closed_plan (replied_of r)) last (Some s) → is_fine s ≡ true → MachineRun m (made ++ desk_calls last) b → IsClosedOf k m b s
closed_by k m b made r last s idle kind f fine p =
    let whole = path_split Moves m b made (desk_calls last) p in
    let first : MachineRun m (idle.busy ++ (call.FinishClose k, r) ∷ []) whole.0 = subst (λ (l : List (DeskCall × DeskReply)). MachineRun m l whole.0) idle.made_is whole.1 in
    let parts = path_split Moves m whole.0 idle.busy ((call.FinishClose k, r) ∷ []) first in
    let same : parts.0 ≡ m = busy_same k m parts.0 idle.busy idle.all_busy parts.1 in
    let step : Moves m (call.FinishClose k, r) parts.2.0 = subst (λ (x : State). Moves x (call.FinishClose k, r) parts.2.0) same parts.2.1 in
    let rest : MachineRun parts.2.0 (desk_calls last) b = subst (λ (x : State). MachineRun x (desk_calls last) b) parts.2.2 whole.2 in
    closed_end k m parts.2.0 b r last s kind f fine step rest

close_reply : (k : PubKey) (m b : State) (y : ClientReply) (last : List ClientStep) (s : KeyStatus) → Fits (Closes k) y → Follows Fits (closed_plan (said_in y)) last (Some s) → is_fine s ≡ true
    → MachineRun m (step_calls (Closes k, y) ++ desk_calls last) b → IsClosedOf k m b s
close_reply k m b (ClosedBy made r) last s fits f fine p = closed_by k m b made r last s fits.0 fits.1 f fine p
close_reply k m b (Replies r) last s fits f fine p = absurd fits
close_reply k m b (Signed r) last s fits f fine p = absurd fits
close_reply k m b (Imported r) last s fits f fine p = absurd fits
close_reply k m b (Deleted r) last s fits f fine p = absurd fits

close_run : (k : PubKey) (m b : State) (steps : List ClientStep) (s : KeyStatus) → Follows Fits (close_plan k) steps (Some s) → is_fine s ≡ true → MachineRun m (desk_calls steps) b → IsClosedOf k m b s
close_run k m b [] s f fine p = absurd f
close_run k m b (x ∷ xs) s f fine p =
    close_reply k m b x.1 xs s f.1 f.2 fine (subst (λ (c : ClientCall). MachineRun m (step_calls (c, x.1) ++ desk_calls xs) b) f.0 p)

given_up : (k : PubKey) (m b : State) (r : DeleteReply) (steps : List ClientStep) (s : KeyStatus) → Follows Fits (given_up_plan k r) steps (Some s) → is_fine s ≡ true → MachineRun m (desk_calls steps) b → IsClosedOf k m b s
given_up k m b deleting.Deleted steps s f fine p = close_run k m b steps s f fine p
given_up k m b deleting.NotActive steps s f fine p = close_run k m b steps s f fine p
given_up k m b deleting.NotFound steps s f fine p = close_run k m b steps s f fine p
given_up k m b (deleting.Refused text) steps s f fine p = done_error _ steps s f fine
given_up k m b deleting.Fault steps s f fine p = done_error _ steps s f fine
given_up k m b (deleting.BadAnswer body) steps s f fine p = done_error _ steps s f fine
given_up k m b deleting.OutOfMemory [] s f fine p = absurd f
given_up k m b deleting.OutOfMemory (x ∷ xs) s f fine p = absurd f

delete_reply : (k : PubKey) (m b : State) (y : ClientReply) (steps : List ClientStep) (s : KeyStatus) → Fits (Deletes k) y → Follows Fits (given_up_plan k (deletion_in y)) steps (Some s) → is_fine s ≡ true
    → MachineRun m (step_calls (Deletes k, y) ++ desk_calls steps) b → IsClosedOf k m b s
delete_reply k m b (Deleted r) steps s fits f fine p = given_up k m b r steps s f fine p
delete_reply k m b (Replies r) steps s fits f fine p = absurd fits
delete_reply k m b (ClosedBy made r) steps s fits f fine p = absurd fits
delete_reply k m b (Signed r) steps s fits f fine p = absurd fits
delete_reply k m b (Imported r) steps s fits f fine p = absurd fits

-- the signer gives the key up, and the desk closes it
deletes_run : (k : PubKey) (m b : State) (steps : List ClientStep) (s : KeyStatus) → Follows Fits (Ask (Deletes k) (λ r. given_up_plan k (deletion_in r))) steps (Some s) → is_fine s ≡ true
    → MachineRun m (desk_calls steps) b → IsClosedOf k m b s
deletes_run k m b [] s f fine p = absurd f
deletes_run k m b (x ∷ xs) s f fine p =
    delete_reply k m b x.1 xs s f.1 f.2 fine (subst (λ (c : ClientCall). MachineRun m (step_calls (c, x.1) ++ desk_calls xs) b) f.0 p)

-- ---- a key is deleted, without error

pub record Gone (k : PubKey) (a b : State) (s : KeyStatus) : Type 0 where
  pub keys : b.keys ≡ a.keys
  pub genesis : b.genesis ≡ a.genesis
  pub torn : b.torn ≡ a.torn
  pub keeps : (q : PubKey) → RestsIn q a.states → RestsIn q b.states
  pub rests : RestsIn k b.states
  pub handed : is_handed s ≡ is_some (past_of a k)

-- a key that is closed is at rest, and others stay so
some_is : {X : Type 0} (o : Option X) (x : X) → o ≡ Some x → IsSome o
some_is o x e = ap is_some e

closed_rests : (k : PubKey) (states : List (PubKey × KeyState)) → IsSome (kept_of states k) → RestsIn k (with_kept states k Closed)
closed_rests k states has =
    let is : kept_of (with_kept states k Closed) k ≡ Some Closed = changed states k k Closed has ∙ ap (λ b. cond b (Some Closed) (kept_of states k)) (at_itself k) in
    let P : Option KeyState → Type 0 = AtRest in subst P (sym is) tt

closing_gone : (k : PubKey) (m b : State) (s : KeyStatus) → IsSome (past_of m k) → IsClosedOf k m b s → Gone k m b s
closing_gone k m b s past c = record {
  keys = c.keys;
  genesis = c.genesis;
  torn = c.torn;
  keeps = λ q h. subst (RestsIn q) (sym c.states) (rests_with_kept q k m.states Closed (some_is (kept_of m.states k) Closing c.closing) (λ e. tt) h);
  rests = subst (RestsIn k) (sym c.states) (closed_rests k m.states (some_is (kept_of m.states k) Closing c.closing));
  handed = c.handed ∙ sym past;
}

gone_same : (k : PubKey) (a : State) (s : KeyStatus) → RestsIn k a.states → is_handed s ≡ is_some (past_of a k) → Gone k a a s
gone_same k a s rests handed = record { keys = refl; genesis = refl; torn = refl; keeps = λ q h. h; rests = rests; handed = handed }

-- no more is granted for the key from now on, and then it is closed
begun_gone : (k : PubKey) (a b : State) (s : KeyStatus) → IsSome (past_of a k) → IsActive a k → Gone k (after a (call.BeginClose k) reply.CloseBegun) b s → Gone k a b s
begun_gone k a b s past active g = record {
  keys = g.keys;
  genesis = g.genesis;
  torn = g.torn;
  keeps = λ q h. g.keeps q (rests_with_kept q k a.states Closing (some_is (kept_of a.states k) Active active) (λ e. not_active q a.states h (subst (λ (x : PubKey). kept_of a.states x ≡ Some Active) e active)) h);
  rests = g.rests;
  handed = g.handed;
}

begun : (k : PubKey) (a m b : State) (r : DeskReply) (steps : List ClientStep) (s : KeyStatus) → (past_of a k ≡ None → RestsIn k a.states) → IsKind (call.BeginClose k) r
    → Follows Fits (closing_plan k (replied_of r)) steps (Some s) → is_fine s ≡ true → Moves a (call.BeginClose k, r) m → MachineRun m (desk_calls steps) b → Gone k a b s
begun k a m b reply.Unknown [] s quiet kind f fine moves p =
    subst (λ (x : State). Gone k a x s) (sym (p ∙ moves.1)) (gone_same k a s (quiet moves.0) (ap is_handed f ∙ sym (ap is_some moves.0)))
begun k a m b reply.Unknown (x ∷ xs) s quiet kind f fine moves p = absurd f
begun k a m b reply.NotActive [] s quiet kind f fine moves p =
    subst (λ (x : State). Gone k a x s) (sym (p ∙ moves.1)) (gone_same k a s (idle_rests (kept_of a.states k) moves.0.1.0 moves.0.1.1) (ap is_handed f ∙ sym moves.0.0))
begun k a m b reply.NotActive (x ∷ xs) s quiet kind f fine moves p = absurd f
begun k a m b reply.CloseBegun steps s quiet kind f fine moves p =
    let run : MachineRun (after a (call.BeginClose k) reply.CloseBegun) (desk_calls steps) b = subst (λ (x : State). MachineRun x (desk_calls steps) b) moves.1 p in
    begun_gone k a b s moves.0.0 moves.0.1 (closing_gone k (after a (call.BeginClose k) reply.CloseBegun) b s moves.0.0 (deletes_run k (after a (call.BeginClose k) reply.CloseBegun) b steps s f fine run))
begun k a m b reply.AlreadyClosing steps s quiet kind f fine moves p =
    let run : MachineRun a (desk_calls steps) b = subst (λ (x : State). MachineRun x (desk_calls steps) b) moves.1 p in
    closing_gone k a b s moves.0.0 (deletes_run k a b steps s f fine run)
begun k a m b r steps s quiet kind f fine moves p = absurd kind

begin_reply : (k : PubKey) (a b : State) (y : ClientReply) (steps : List ClientStep) (s : KeyStatus) → (past_of a k ≡ None → RestsIn k a.states) → Fits (Calls (call.BeginClose k)) y
    → Follows Fits (closing_plan k (said_in y)) steps (Some s) → is_fine s ≡ true → MachineRun a (step_calls (Calls (call.BeginClose k), y) ++ desk_calls steps) b → Gone k a b s
begin_reply k a b (Replies r) steps s quiet fits f fine p = begun k a p.0 b r steps s quiet fits f fine p.1 p.2
begin_reply k a b (ClosedBy made r) steps s quiet fits f fine p = absurd fits
begin_reply k a b (Signed r) steps s quiet fits f fine p = absurd fits
begin_reply k a b (Imported r) steps s quiet fits f fine p = absurd fits
begin_reply k a b (Deleted r) steps s quiet fits f fine p = absurd fits

pub delete_one : (k : PubKey) (a b : State) (steps : List ClientStep) (s : KeyStatus) → (past_of a k ≡ None → RestsIn k a.states) → Follows Fits (delete_plan k) steps (Some s) → is_fine s ≡ true
    → MachineRun a (desk_calls steps) b → Gone k a b s
delete_one k a b [] s quiet f fine p = absurd f
delete_one k a b (x ∷ xs) s quiet f fine p =
    begin_reply k a b x.1 xs s quiet f.1 f.2 fine (subst (λ (c : ClientCall). MachineRun a (step_calls (c, x.1) ++ desk_calls xs) b) f.0 p)

-- ---- each key

-- those of the keys of which a past is kept
abbrev pub kept_keys : State → List PubKey → List PubKey
kept_keys a keys = filter (λ k. is_some (past_of a k)) keys

pub record AllGone (asked : List PubKey) (a b : State) (statuses : List KeyStatus) : Type 0 where
  pub keys : b.keys ≡ a.keys
  pub genesis : b.genesis ≡ a.genesis
  pub torn : b.torn ≡ a.torn
  pub keeps : (q : PubKey) → RestsIn q a.states → RestsIn q b.states
  pub rest : (k : PubKey) → Contains asked k → RestsIn k b.states
  pub handed : handed_keys asked statuses ≡ kept_keys a asked

handed_one : (b : Bool) (k : PubKey) (keys xs : List PubKey) (s : KeyStatus) (statuses : List KeyStatus) → is_handed s ≡ b → handed_keys keys statuses ≡ xs → handed_keys (k ∷ keys) (s ∷ statuses) ≡ cond b (k ∷ xs) xs
handed_one b k keys xs s statuses e f = ap (λ t. cond t (k ∷ handed_keys keys statuses) (handed_keys keys statuses)) e ∙ ap (λ l. cond b (k ∷ l) l) f

pub same_filter : (a b : State) (keys : List PubKey) → b.keys ≡ a.keys → kept_keys b keys ≡ kept_keys a keys
same_filter a b keys e = ap (λ (l : List (PubKey × Past)). filter (λ k. is_some (kept_of l k)) keys) e

-- the statuses so far, and those of the rest
pub record FirstEach (asked : List PubKey) (a b : State) (got all : List KeyStatus) : Type 0 where
  pub statuses : List KeyStatus
  pub whole : all ≡ got ++ statuses
  pub gone : AllGone asked a b statuses

pub all_fine : (xs ys : List KeyStatus) → list_all is_fine (xs ++ ys) ≡ true → list_all is_fine ys ≡ true
all_fine [] ys h = h
all_fine (x ∷ xs) ys h = all_fine xs ys (both (is_fine x) h) where
  both : (t : Bool) → (t && list_all is_fine (xs ++ ys)) ≡ true → list_all is_fine (xs ++ ys) ≡ true
  both true h = h
  both false h = false_true h

-- what each plan gives begins with what was given before
pub each_begins : {A : Type 0} (plan : A → ClientPlan KeyStatus) (xs : List A) (got all : List KeyStatus) (steps : List ClientStep) → Follows Fits (each_plan plan got xs) steps (Some all) → (more : List KeyStatus) × (all ≡ got ++ more)
each_begins plan [] got all [] f = ([], f ∙ sym (append-nil got))
each_begins plan [] got all (x ∷ xs) f = absurd f
each_begins plan (a ∷ others) got all steps f =
    let r = follows_split Fits (plan a) (λ s. each_plan plan (got ++ s ∷ []) others) steps all f in
    let rest = each_begins plan others (got ++ r.2 ∷ []) all r.1 r.5 in
    (r.2 ∷ rest.0, rest.1 ∙ append_assoc got (r.2 ∷ []) rest.0)

pub first_fine : (s : KeyStatus) (ys : List KeyStatus) → list_all is_fine (s ∷ ys) ≡ true → is_fine s ≡ true
first_fine s ys h = both (is_fine s) h where
  both : (t : Bool) → (t && list_all is_fine ys) ≡ true → t ≡ true
  both true h = refl
  both false h = h

pub first_each : (keys : List PubKey) (a b : State) (got all : List KeyStatus) (steps : List ClientStep) → ((q : PubKey) → past_of a q ≡ None → RestsIn q a.states)
    → Follows Fits (each_plan delete_plan got keys) steps (Some all) → list_all is_fine all ≡ true → MachineRun a (desk_calls steps) b → FirstEach keys a b got all
first_each [] a b got all [] quiet f fine p = record {
  statuses = [];
  whole = f ∙ sym (append-nil got);
  gone = let P : State → Type 0 = λ x. AllGone [] a x [] in subst P (sym p) (record { keys = refl; genesis = refl; torn = refl; keeps = λ q h. h; rest = λ k h. contains_none k h; handed = refl });
}
first_each [] a b got all (x ∷ xs) quiet f fine p = absurd f
first_each (k ∷ keys) a b got all steps quiet f fine p =
    let r = follows_split Fits (delete_plan k) (λ s. each_plan delete_plan (got ++ s ∷ []) keys) steps all f in
    let s : KeyStatus = r.2 in
    let begins = each_begins delete_plan keys (got ++ s ∷ []) all r.1 r.5 in
    let whole : all ≡ got ++ s ∷ begins.0 = begins.1 ∙ append_assoc got (s ∷ []) begins.0 in
    let fine_here : is_fine s ≡ true = first_fine s begins.0 (all_fine got (s ∷ begins.0) (sym (ap (list_all is_fine) whole) ∙ fine)) in
    let calls : desk_calls steps ≡ desk_calls r.0 ++ desk_calls r.1 = ap (λ l. flat_map step_calls l) r.3 ∙ flat_map_on step_calls r.0 r.1 in
    let parts = path_split Moves a b (desk_calls r.0) (desk_calls r.1) (subst (λ (l : List (DeskCall × DeskReply)). MachineRun a l b) calls p) in
    let m : State = parts.0 in
    let one : Gone k a m s = delete_one k a m r.0 s (quiet k) r.4 fine_here parts.1 in
    let quiet_on : (q : PubKey) → past_of m q ≡ None → RestsIn q m.states = λ q none. one.keeps q (quiet q (ap (λ l. kept_of l q) (sym one.keys) ∙ none)) in
    let rest = first_each keys m b (got ++ s ∷ []) all r.1 quiet_on r.5 fine parts.2 in
    record {
      statuses = s ∷ rest.statuses;
      whole = rest.whole ∙ append_assoc got (s ∷ []) rest.statuses;
      gone = record {
        keys = rest.gone.keys ∙ one.keys;
        genesis = rest.gone.genesis ∙ one.genesis;
        torn = rest.gone.torn ∙ one.torn;
        keeps = λ q h. rest.gone.keeps q (one.keeps q h);
        rest = λ q h. at q (contains_cases k keys q h) (rest.gone.keeps k one.rests) (rest.gone.rest q);
        handed = handed_one (is_some (past_of a k)) k keys (kept_keys a keys) s rest.statuses one.handed (rest.gone.handed ∙ same_filter a m keys one.keys);
      };
    } where
      at : (q : PubKey) → (k ≡ q) ⊎ Contains keys q → RestsIn k b.states → (Contains keys q → RestsIn q b.states) → RestsIn q b.states
      at q (inl e) here later = subst (λ (x : PubKey). RestsIn x b.states) e here
      at q (inr h) here later = later h
