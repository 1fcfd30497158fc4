-- A deletion that comes again next to other calls: the first one's calls show that each key came to rest, and so the second's change nothing.
use Rattle.std.proofs.Common.{◌≡◌, inl, inr, true, cond, List, [], ◌∷◌, ◌++◌, Option, Some, None, refl, sym, ◌∙◌, ap, subst, append_assoc}
use Rattle.std.specs.Prelude.{Contains, IsSome, is_some}
use Rattle.std.specs.List.{list_all}
use Rattle.edge_kit.specs.declared.bytes.PubKey.{PubKey}
use Rattle.protect_record.proofs.MemberLemmas.{contains_cases, contains_first, contains_later, contains_none}
use Rattle.record_join.specs.Keys.{kept_of, with_kept}
use Rattle.record_join.specs.KeyLaws.{changed, at_itself}
use Rattle.record_replay.specs.declared.state.KeyState.{KeyState}
use Rattle.record_replay.specs.declared.state.KeyState.TheVariants.{Active, Closing, Closed}
use Rattle.desk_machine.specs.Kinds.{IsKind}
use Rattle.desk_machine.specs.Making.{ClosesIdle}
use Rattle.desk_machine.specs.States.{State}
use Rattle.desk_machine.specs.Machine.{IsUp, Reply, after}
use Rattle.desk_machine.specs.declared.call.DeskCall.{DeskCall}
use Rattle.desk_machine.specs.declared.call.DeskCall.TheVariants as call
use Rattle.desk_machine.specs.declared.call.DeskReply.{DeskReply}
use Rattle.desk_machine.specs.declared.call.DeskReply.TheVariants as reply
use Rattle.desk_lock.specs.Histories.{own}
use Rattle.signer_link.specs.declared.reply.DeleteReply.{DeleteReply}
use Rattle.signer_link.specs.declared.reply.DeleteReply.TheVariants as deleting
use Rattle.call_plans.specs.Plans.{Ask, bind, each_plan, Follows}
use Rattle.call_plans.proofs.PlanLemmas.{follows_split, follows_cases}
use Rattle.client_calls.specs.Machines.{CanMake, state_after}
use Rattle.client_calls.specs.Steps.{ClientCall, ClientReply, ClientStep, Calls, Closes, Deletes, Replies, ClosedBy, Signed, Imported, Deleted, Fits, step_calls, desk_calls, told_in}
use Rattle.client_calls.proofs.MachineLemmas.{can_split}
use Rattle.key_custody.specs.declared.status.KeyStatus.{KeyStatus}
use Rattle.key_custody.specs.declared.status.KeyStatus.TheVariants as status
use Rattle.key_custody.specs.declared.delete.Deletion.{Deletion}
use Rattle.key_custody.specs.Once.{AreFine, IsWhole, is_fine}
use Rattle.key_custody.specs.Plans.{said_in, deletion_in, closed_plan, close_plan, given_up_plan, closing_plan, delete_plan, statuses_plan, exported_plan, export_plan, deletion_plan}
use Rattle.key_custody.specs.Replies.{replied_of}
use Rattle.key_custody.specs.Statuses.{handed_keys}
use Rattle.key_custody.proofs.DeleteLemmas.{all_fine, done_error, each_begins, first_fine}
use Rattle.key_custody.proofs.AgainLemmas.{calls_on as steps_on, told_on}
use Rattle.key_custody.proofs.HoldLemmas.{WholeIn, WholeThrough, WholeTorn, leaves, whole_leaves}
use Rattle.key_custody.proofs.RestLemmas.{AtRest, RestsIn, idle_rests, not_active, not_closing, rests_with_key, rests_with_kept}
use Rattle.desk_seat.specs.Spans.{History}
use Rattle.desk_seat.specs.Turns.{calls_of}
use Rattle.session_run.specs.Silent.{IsActivation, IsAmong}
use Rattle.serve_world.specs.Retrying.{DeletesAgain}
use Rattle.serve_world.proofs.AmongLemmas.{Call, EachIs, among_left, among_own, among_right, calls_on, each_on, each_turn}

-- ---- keys at rest

some_is : (o : Option KeyState) (s : KeyState) → o ≡ Some s → IsSome o
some_is o s e = ap is_some e

-- a key at rest stays so until it is made active
rests_step : (a : State) (key : PubKey) (c : DeskCall) (r : DeskReply) → Reply a c r → ¬ (IsActivation key (c, r)) → RestsIn key a.states → RestsIn key (after a c r).states
rests_step a key (call.Activate k now) reply.Active ok apart h = rests_with_key key k a.states Active apart h
rests_step a key (call.BeginClose k) reply.CloseBegun ok apart h =
    rests_with_kept key k a.states Closing (some_is (kept_of a.states k) Active ok.1) (λ e. not_active key a.states h (subst (λ (q : PubKey). kept_of a.states q ≡ Some Active) e ok.1)) h
rests_step a key (call.FinishClose k) (reply.Closed book) ok apart h = rests_with_kept key k a.states Closed (some_is (kept_of a.states k) Closing ok.0.1.1) (λ e. tt) h
rests_step a key (call.Merge file) (reply.Merged n) ok apart h = h
rests_step a key (call.Propose k m now) (reply.Granted g) ok apart h = h
rests_step a key (call.Allow k now) (reply.Granted g) ok apart h = h
rests_step a key (call.Answer k e l now) reply.Noted ok apart h = h
rests_step a key (call.Settle g o) reply.Settled ok apart h = h
rests_step a key (call.Record ps now) reply.Recorded ok apart h = h
rests_step a key (call.Prune k) (reply.Pruned book) ok apart h = h
rests_step a key call.Compact (reply.Compacted before size) ok apart h = h
rests_step a key c reply.Disk ok apart h = h
rests_step a key c r ok apart h = h

rests_through : (a : State) (key : PubKey) (made : List Call) → CanMake a made → ¬ (IsAmong (IsActivation key) made) → RestsIn key a.states → RestsIn key (state_after a made).states
rests_through a key [] can apart h = h
rests_through a key (x ∷ made) can apart h = rests_through (after a x.0 x.1) key made can.1 (λ later. apart (inr later)) (rests_step a key x.0 x.1 can.0 (λ here. apart (inl here)) h)

-- the call shows that the key came to rest: it has no past, or was not active, or was closed
abbrev Settles : PubKey → Call → Type 0
Settles key (call.BeginClose k, reply.Unknown) = k ≡ key
Settles key (call.BeginClose k, reply.NotActive) = k ≡ key
Settles key (call.FinishClose k, reply.Closed book) = k ≡ key
Settles key x = ⊥

closed_here : (states : List (PubKey × KeyState)) (k : PubKey) → IsSome (kept_of states k) → RestsIn k (with_kept states k Closed)
closed_here states k has =
    let is : kept_of (with_kept states k Closed) k ≡ Some Closed = changed states k k Closed has ∙ ap (λ b. cond b (Some Closed) (kept_of states k)) (at_itself k) in
    subst AtRest (sym is) tt

along : (states : List (PubKey × KeyState)) (k key : PubKey) → k ≡ key → RestsIn k states → RestsIn key states
along states k key is h = subst (λ (q : PubKey). RestsIn q states) is h

settles_rests : (a : State) (key : PubKey) (c : DeskCall) (r : DeskReply) → WholeIn a.keys a.states → Reply a c r → Settles key (c, r) → RestsIn key (after a c r).states
settles_rests a key (call.BeginClose k) reply.Unknown whole ok is = along a.states k key is (subst AtRest (sym (whole k ok)) tt)
settles_rests a key (call.BeginClose k) reply.NotActive whole ok is = along a.states k key is (idle_rests (kept_of a.states k) ok.1.0 ok.1.1)
settles_rests a key (call.FinishClose k) (reply.Closed book) whole ok is = along (with_kept a.states k Closed) k key is (closed_here a.states k (some_is (kept_of a.states k) Closing ok.0.1.1))
settles_rests a key (call.BeginClose k) reply.Disk whole ok is = absurd is
settles_rests a key (call.BeginClose k) r whole ok is = absurd is
settles_rests a key (call.FinishClose k) reply.Disk whole ok is = absurd is
settles_rests a key (call.FinishClose k) r whole ok is = absurd is
settles_rests a key c r whole ok is = absurd is

pub whole_step : (a : State) (c : DeskCall) (r : DeskReply) → Reply a c r → WholeThrough a → WholeThrough (after a c r)
whole_step a c r ok h = whole_leaves a (after a c r) c (leaves a c r ok) h

pub whole_after : (a : State) (made : List Call) → CanMake a made → WholeThrough a → WholeThrough (state_after a made)
whole_after a [] can h = h
whole_after a (x ∷ made) can h = whole_after (after a x.0 x.1) made can.1 (whole_step a x.0 x.1 can.0 h)

pub whole_up : (a : State) → IsWhole a → IsUp a → WholeThrough a
whole_up a whole up = (whole, subst WholeTorn (sym up) tt)

-- after such a call it is at rest, where no other made it active
settled : (a : State) (key : PubKey) (made : List Call) → CanMake a made → WholeThrough a → ¬ (IsAmong (IsActivation key) made) → IsAmong (Settles key) made → RestsIn key (state_after a made).states
settled a key [] can whole apart h = absurd h
settled a key (x ∷ made) can whole apart (inl here) = rests_through (after a x.0 x.1) key made can.1 (λ later. apart (inr later)) (settles_rests a key x.0 x.1 whole.0 can.0 here)
settled a key (x ∷ made) can whole apart (inr later) = settled (after a x.0 x.1) key made can.1 (whole_step a x.0 x.1 can.0 whole) (λ more. apart (inr more)) later

-- a call that finds the key active, or being closed
abbrev FindsOn : PubKey → Call → Type 0
FindsOn key (call.BeginClose k, reply.CloseBegun) = k ≡ key
FindsOn key (call.BeginClose k, reply.AlreadyClosing) = k ≡ key
FindsOn key x = ⊥

finds_none : (a : State) (key : PubKey) (c : DeskCall) (r : DeskReply) → Reply a c r → RestsIn key a.states → ¬ (FindsOn key (c, r))
finds_none a key (call.BeginClose k) reply.CloseBegun ok rests is = not_active key a.states rests (subst (λ (q : PubKey). kept_of a.states q ≡ Some Active) is ok.1)
finds_none a key (call.BeginClose k) reply.AlreadyClosing ok rests is = not_closing key a.states rests (subst (λ (q : PubKey). kept_of a.states q ≡ Some Closing) is ok.1)
finds_none a key (call.BeginClose k) reply.Disk ok rests is = is
finds_none a key (call.BeginClose k) r ok rests is = is
finds_none a key c r ok rests is = is

none_found : (a : State) (key : PubKey) (made : List Call) → CanMake a made → ¬ (IsAmong (IsActivation key) made) → RestsIn key a.states → ¬ (IsAmong (FindsOn key) made)
none_found a key [] can apart rests h = h
none_found a key (x ∷ made) can apart rests (inl here) = finds_none a key x.0 x.1 can.0 rests here
none_found a key (x ∷ made) can apart rests (inr later) =
    none_found (after a x.0 x.1) key made can.1 (λ more. apart (inr more)) (rests_step a key x.0 x.1 can.0 (λ here. apart (inl here)) rests) later

-- ---- the first deletion settles each key

closed_end : (k : PubKey) (r : DeskReply) (last : List ClientStep) (s : KeyStatus) → IsKind (call.FinishClose k) r → Follows Fits (closed_plan (replied_of r)) last (Some s) → is_fine s ≡ true → Settles k (call.FinishClose k, r)
closed_end k (reply.Closed book) last s kind f fine = refl
closed_end k reply.Disk last s kind f fine = done_error _ last s f fine
closed_end k reply.Unknown last s kind f fine = done_error _ last s f fine
closed_end k (reply.NotClosing is) last s kind f fine = done_error _ last s f fine
closed_end k (reply.Busy n) last s kind f fine = done_error _ last s f fine
closed_end k (reply.Full size wanted) last s kind f fine = done_error _ last s f fine
closed_end k reply.OutOfMemory [] s kind f fine = absurd f
closed_end k reply.OutOfMemory (x ∷ xs) s kind f fine = absurd f
closed_end k r last s kind f fine = absurd kind

-- one of the steps' calls settles the key
abbrev SettledBy : PubKey → List ClientStep → Type 0
SettledBy k steps = IsAmong (Settles k) (desk_calls steps)

closed_by : (k : PubKey) (made : List Call) (r : DeskReply) (last : List ClientStep) (s : KeyStatus) → ClosesIdle (call.FinishClose k) r made → IsKind (call.FinishClose k) r
    → Follows Fits (closed_plan (replied_of r)) last (Some s) → is_fine s ≡ true → IsAmong (Settles k) made
closed_by k made r last s idle kind f fine =
    subst (IsAmong (Settles k)) (sym idle.made_is) (among_right (Settles k) idle.busy ((call.FinishClose k, r) ∷ []) (inl (closed_end k r last s kind f fine)))

close_reply : (k : PubKey) (y : ClientReply) (last : List ClientStep) (s : KeyStatus) → Fits (Closes k) y → Follows Fits (closed_plan (said_in y)) last (Some s) → is_fine s ≡ true → SettledBy k ((Closes k, y) ∷ last)
close_reply k (ClosedBy made r) last s fits f fine = among_left (Settles k) made (desk_calls last) (closed_by k made r last s fits.0 fits.1 f fine)
close_reply k (Replies r) last s fits f fine = absurd fits
close_reply k (Signed r) last s fits f fine = absurd fits
close_reply k (Imported r) last s fits f fine = absurd fits
close_reply k (Deleted r) last s fits f fine = absurd fits

-- a step is what the plan asks
pub asked_is : (P : List ClientStep → Type 0) (c : ClientCall) (x : ClientStep) (xs : List ClientStep) → x.0 ≡ c → P ((c, x.1) ∷ xs) → P (x ∷ xs)
asked_is P c x xs e h = subst (λ (q : ClientCall). P ((q, x.1) ∷ xs)) (sym e) h

close_run : (k : PubKey) (steps : List ClientStep) (s : KeyStatus) → Follows Fits (close_plan k) steps (Some s) → is_fine s ≡ true → SettledBy k steps
close_run k [] s f fine = absurd f
close_run k (x ∷ xs) s f fine = asked_is (SettledBy k) (Closes k) x xs f.0 (close_reply k x.1 xs s f.1 f.2 fine)

given_up : (k : PubKey) (r : DeleteReply) (steps : List ClientStep) (s : KeyStatus) → Follows Fits (given_up_plan k r) steps (Some s) → is_fine s ≡ true → SettledBy k steps
given_up k deleting.Deleted steps s f fine = close_run k steps s f fine
given_up k deleting.NotActive steps s f fine = close_run k steps s f fine
given_up k deleting.NotFound steps s f fine = close_run k steps s f fine
given_up k (deleting.Refused text) steps s f fine = done_error _ steps s f fine
given_up k deleting.Fault steps s f fine = done_error _ steps s f fine
given_up k (deleting.BadAnswer body) steps s f fine = done_error _ steps s f fine
given_up k deleting.OutOfMemory [] s f fine = absurd f
given_up k deleting.OutOfMemory (x ∷ xs) s f fine = absurd f

delete_reply : (k : PubKey) (y : ClientReply) (steps : List ClientStep) (s : KeyStatus) → Fits (Deletes k) y → Follows Fits (given_up_plan k (deletion_in y)) steps (Some s) → is_fine s ≡ true → SettledBy k ((Deletes k, y) ∷ steps)
delete_reply k (Deleted r) steps s fits f fine = given_up k r steps s f fine
delete_reply k (Replies r) steps s fits f fine = absurd fits
delete_reply k (ClosedBy made r) steps s fits f fine = absurd fits
delete_reply k (Signed r) steps s fits f fine = absurd fits
delete_reply k (Imported r) steps s fits f fine = absurd fits

deletes_run : (k : PubKey) (steps : List ClientStep) (s : KeyStatus) → Follows Fits (Ask (Deletes k) (λ r. given_up_plan k (deletion_in r))) steps (Some s) → is_fine s ≡ true → SettledBy k steps
deletes_run k [] s f fine = absurd f
deletes_run k (x ∷ xs) s f fine = asked_is (SettledBy k) (Deletes k) x xs f.0 (delete_reply k x.1 xs s f.1 f.2 fine)

begun : (k : PubKey) (r : DeskReply) (steps : List ClientStep) (s : KeyStatus) → IsKind (call.BeginClose k) r → Follows Fits (closing_plan k (replied_of r)) steps (Some s) → is_fine s ≡ true → SettledBy k ((Calls (call.BeginClose k), Replies r) ∷ steps)
begun k reply.Unknown steps s kind f fine = inl refl
begun k reply.NotActive steps s kind f fine = inl refl
begun k reply.CloseBegun steps s kind f fine = inr (deletes_run k steps s f fine)
begun k reply.AlreadyClosing steps s kind f fine = inr (deletes_run k steps s f fine)
begun k r steps s kind f fine = absurd kind

begin_reply : (k : PubKey) (y : ClientReply) (steps : List ClientStep) (s : KeyStatus) → Fits (Calls (call.BeginClose k)) y → Follows Fits (closing_plan k (said_in y)) steps (Some s) → is_fine s ≡ true → SettledBy k ((Calls (call.BeginClose k), y) ∷ steps)
begin_reply k (Replies r) steps s fits f fine = begun k r steps s fits f fine
begin_reply k (ClosedBy made r) steps s fits f fine = absurd fits
begin_reply k (Signed r) steps s fits f fine = absurd fits
begin_reply k (Imported r) steps s fits f fine = absurd fits
begin_reply k (Deleted r) steps s fits f fine = absurd fits

delete_one : (k : PubKey) (steps : List ClientStep) (s : KeyStatus) → Follows Fits (delete_plan k) steps (Some s) → is_fine s ≡ true → SettledBy k steps
delete_one k [] s f fine = absurd f
delete_one k (x ∷ xs) s f fine = asked_is (SettledBy k) (Calls (call.BeginClose k)) x xs f.0 (begin_reply k x.1 xs s f.1 f.2 fine)

settled_front : (k : PubKey) (steps xs ys : List ClientStep) → steps ≡ xs ++ ys → SettledBy k xs → SettledBy k steps
settled_front k steps xs ys e h = subst (IsAmong (Settles k)) (sym (steps_on steps xs ys e)) (among_left (Settles k) (desk_calls xs) (desk_calls ys) h)

settled_back : (k : PubKey) (steps xs ys : List ClientStep) → steps ≡ xs ++ ys → SettledBy k ys → SettledBy k steps
settled_back k steps xs ys e h = subst (IsAmong (Settles k)) (sym (steps_on steps xs ys e)) (among_right (Settles k) (desk_calls xs) (desk_calls ys) h)

settles_each : (keys : List PubKey) (got all : List KeyStatus) (steps : List ClientStep) → Follows Fits (each_plan delete_plan got keys) steps (Some all) → list_all is_fine all ≡ true → (k : PubKey) → Contains keys k → SettledBy k steps
settles_each [] got all steps f fine k has = contains_none k has
settles_each (q ∷ keys) got all steps f fine k has =
    let r = follows_split Fits (delete_plan q) (λ s. each_plan delete_plan (got ++ s ∷ []) keys) steps all f in
    let s : KeyStatus = r.2 in
    let begins = each_begins delete_plan keys (got ++ s ∷ []) all r.1 r.5 in
    let whole : all ≡ got ++ s ∷ begins.0 = begins.1 ∙ append_assoc got (s ∷ []) begins.0 in
    let fine_here : is_fine s ≡ true = first_fine s begins.0 (all_fine got (s ∷ begins.0) (sym (ap (list_all is_fine) whole) ∙ fine)) in
    elim (contains_cases q keys k has) [
      | inl same ↦ settled_front k steps r.0 r.1 r.3 (subst (λ (x : PubKey). SettledBy x r.0) same (delete_one q r.0 s r.4 fine_here))
      | inr later ↦ settled_back k steps r.0 r.1 r.3 (settles_each keys (got ++ s ∷ []) all r.1 r.5 fine k later)
    ]

-- what a deletion says became of the keys is what was found
exported_so : (statuses : List KeyStatus) (r : DeskReply) (last : List ClientStep) (x : Deletion) (asked : List PubKey) → IsKind (call.Export asked) r → Follows Fits (exported_plan statuses (replied_of r)) last (Some x) → x.statuses ≡ statuses
exported_so statuses (reply.Exported file) [] x asked kind f = ap (λ (y : Deletion). y.statuses) f
exported_so statuses (reply.Exported file) (y ∷ ys) x asked kind f = absurd f
exported_so statuses reply.OutOfMemory [] x asked kind f = absurd f
exported_so statuses reply.OutOfMemory (y ∷ ys) x asked kind f = absurd f
exported_so statuses r last x asked kind f = absurd kind

export_said : (statuses : List KeyStatus) (y : ClientReply) (last : List ClientStep) (x : Deletion) (asked : List PubKey) → Fits (Calls (call.Export asked)) y → Follows Fits (exported_plan statuses (said_in y)) last (Some x) → x.statuses ≡ statuses
export_said statuses (Replies r) last x asked fits f = exported_so statuses r last x asked fits f
export_said statuses (ClosedBy made r) last x asked fits f = absurd fits
export_said statuses (Signed r) last x asked fits f = absurd fits
export_said statuses (Imported r) last x asked fits f = absurd fits
export_said statuses (Deleted r) last x asked fits f = absurd fits

export_gives : (keys : List PubKey) (statuses : List KeyStatus) (steps : List ClientStep) (x : Deletion) → Follows Fits (export_plan keys statuses) steps (Some x) → x.statuses ≡ statuses
export_gives keys statuses [] x f = absurd f
export_gives keys statuses (y ∷ ys) x f = export_said statuses y.1 ys x (handed_keys keys statuses) f.1 f.2

deletion_settles : (keys : List PubKey) (steps : List ClientStep) (deletion : Deletion) → Follows Fits (deletion_plan keys) steps (Some deletion) → AreFine deletion.statuses → (k : PubKey) → Contains keys k → SettledBy k steps
deletion_settles keys steps deletion f fine k has =
    let r = follows_split Fits (statuses_plan keys) (λ st. export_plan keys st) steps deletion f in
    let same : deletion.statuses ≡ r.2 = export_gives keys r.2 r.1 deletion r.5 in
    settled_front k steps r.0 r.1 r.3 (settles_each keys [] r.2 r.0 r.4 (subst AreFine same fine) k has)

-- ---- the second deletion changes nothing

-- a call that leaves the state that it finds
abbrev LeavesIt : Call → Type 0
LeavesIt (call.BeginClose k, reply.Unknown) = Unit {0}
LeavesIt (call.BeginClose k, reply.NotActive) = Unit {0}
LeavesIt (call.Export keys, reply.Exported file) = Unit {0}
LeavesIt (call.Export keys, reply.OutOfMemory) = Unit {0}
LeavesIt x = ⊥

leaves_it : (a : State) (c : DeskCall) (r : DeskReply) → LeavesIt (c, r) → after a c r ≡ a
leaves_it a (call.BeginClose k) reply.Unknown h = refl
leaves_it a (call.BeginClose k) reply.NotActive h = refl
leaves_it a (call.Export keys) (reply.Exported file) h = refl
leaves_it a (call.Export keys) reply.OutOfMemory h = refl
leaves_it a (call.BeginClose k) r h = absurd h
leaves_it a (call.Export keys) r h = absurd h
leaves_it a c r h = absurd h

pub record IsIdle (steps : List ClientStep) : Type 0 where
  pub calls : EachIs LeavesIt (desk_calls steps)
  pub told : told_in steps ≡ []

-- none of the steps' calls finds one of the keys active or being closed
abbrev NoneOn : List PubKey → List ClientStep → Type 0
NoneOn keys steps = (k : PubKey) → Contains keys k → ¬ (IsAmong (FindsOn k) (desk_calls steps))

idle_more : (c : DeskCall) (r : DeskReply) (steps : List ClientStep) → LeavesIt (c, r) → IsIdle steps → IsIdle ((Calls c, Replies r) ∷ steps)
idle_more c r steps here more = record { calls = (here, more.calls); told = more.told }

begun_again : (k : PubKey) (keys : List PubKey) (got : List KeyStatus) (r : DeskReply) (steps : List ClientStep) (v : Option (List KeyStatus)) → IsKind (call.BeginClose k) r
    → Follows Fits (bind (closing_plan k (replied_of r)) (λ s. each_plan delete_plan (got ++ s ∷ []) keys)) steps v → ¬ (FindsOn k (call.BeginClose k, r))
    → ((s : KeyStatus) → Follows Fits (each_plan delete_plan (got ++ s ∷ []) keys) steps v → IsIdle steps) → IsIdle ((Calls (call.BeginClose k), Replies r) ∷ steps)
begun_again k keys got reply.Unknown steps v kind f off on = idle_more (call.BeginClose k) reply.Unknown steps tt (on status.NotFound f)
begun_again k keys got reply.NotActive steps v kind f off on = idle_more (call.BeginClose k) reply.NotActive steps tt (on status.NotActive f)
begun_again k keys got reply.CloseBegun steps v kind f off on = absurd (off refl)
begun_again k keys got reply.AlreadyClosing steps v kind f off on = absurd (off refl)
begun_again k keys got r steps v kind f off on = absurd kind

-- what none of more calls does, none of the later ones does
on_later : (P : Call → Type 0) (xs ys : List Call) → ¬ (IsAmong P (xs ++ ys)) → ¬ (IsAmong P ys)
on_later P xs ys none h = none (among_right P xs ys h)

idle_each : (keys : List PubKey) (got : List KeyStatus) (steps : List ClientStep) (v : Option (List KeyStatus)) → Follows Fits (each_plan delete_plan got keys) steps v → NoneOn keys steps → IsIdle steps
idle_each [] got [] v f none = record { calls = tt; told = refl }
idle_each [] got (x ∷ xs) v f none = absurd f
idle_each (k ∷ keys) got [] v f none = record { calls = tt; told = refl }
idle_each (k ∷ keys) got (x ∷ xs) v f none =
    asked_is IsIdle (Calls (call.BeginClose k)) x xs f.0 (at x.1 f.1 f.2 (λ q has. subst (λ (c : ClientCall). ¬ (IsAmong (FindsOn q) (step_calls (c, x.1) ++ desk_calls xs))) f.0 (none q has)) (λ s g later. idle_each keys (got ++ s ∷ []) xs v g later)) where
      at : (y : ClientReply) → Fits (Calls (call.BeginClose k)) y → Follows Fits (bind (closing_plan k (said_in y)) (λ s. each_plan delete_plan (got ++ s ∷ []) keys)) xs v
          → NoneOn (k ∷ keys) ((Calls (call.BeginClose k), y) ∷ xs)
          → ((s : KeyStatus) → Follows Fits (each_plan delete_plan (got ++ s ∷ []) keys) xs v → NoneOn keys xs → IsIdle xs) → IsIdle ((Calls (call.BeginClose k), y) ∷ xs)
      at (Replies r) fits g off on =
          begun_again k keys got r xs v fits g (λ here. off k (contains_first k keys) (inl here)) (λ s h. on s h (λ q has later. off q (contains_later k keys q has) (inr later)))
      at (ClosedBy made r) fits g off on = absurd fits
      at (Signed r) fits g off on = absurd fits
      at (Imported r) fits g off on = absurd fits
      at (Deleted r) fits g off on = absurd fits

exported_idle : (statuses : List KeyStatus) (asked : List PubKey) (r : DeskReply) (last : List ClientStep) (v : Option Deletion) → IsKind (call.Export asked) r → Follows Fits (exported_plan statuses (replied_of r)) last v → IsIdle ((Calls (call.Export asked), Replies r) ∷ last)
exported_idle statuses asked (reply.Exported file) [] v kind f = record { calls = (tt, tt); told = refl }
exported_idle statuses asked (reply.Exported file) (x ∷ xs) v kind f = absurd f
exported_idle statuses asked reply.OutOfMemory [] v kind f = record { calls = (tt, tt); told = refl }
exported_idle statuses asked reply.OutOfMemory (x ∷ xs) v kind f = absurd f
exported_idle statuses asked r last v kind f = absurd kind

export_idle : (keys : List PubKey) (statuses : List KeyStatus) (steps : List ClientStep) (v : Option Deletion) → Follows Fits (export_plan keys statuses) steps v → IsIdle steps
export_idle keys statuses [] v f = record { calls = tt; told = refl }
export_idle keys statuses (x ∷ xs) v f = asked_is IsIdle (Calls (call.Export (handed_keys keys statuses))) x xs f.0 (at x.1 f.1 f.2) where
  at : (y : ClientReply) → Fits (Calls (call.Export (handed_keys keys statuses))) y → Follows Fits (exported_plan statuses (said_in y)) xs v → IsIdle ((Calls (call.Export (handed_keys keys statuses)), y) ∷ xs)
  at (Replies r) fits g = exported_idle statuses (handed_keys keys statuses) r xs v fits g
  at (ClosedBy made r) fits g = absurd fits
  at (Signed r) fits g = absurd fits
  at (Imported r) fits g = absurd fits
  at (Deleted r) fits g = absurd fits

idle_both : (steps xs ys : List ClientStep) → steps ≡ xs ++ ys → IsIdle xs → IsIdle ys → IsIdle steps
idle_both steps xs ys e one two = record {
  calls = subst (EachIs LeavesIt) (sym (steps_on steps xs ys e)) (each_on LeavesIt (desk_calls xs) (desk_calls ys) one.calls two.calls);
  told = ap (λ l. told_in l) e ∙ told_on xs ys one.told two.told;
}

idle_deletion : (keys : List PubKey) (steps : List ClientStep) (v : Option Deletion) → Follows Fits (deletion_plan keys) steps v → NoneOn keys steps → IsIdle steps
idle_deletion keys steps v f none = elim (follows_cases Fits (statuses_plan keys) (λ st. export_plan keys st) steps v f) [
  | inl h ↦ idle_each keys [] steps None h.1 none
  | inr r ↦ (
      let front : NoneOn keys r.0 = λ k has here. none k has (subst (IsAmong (FindsOn k)) (sym (steps_on steps r.0 r.1 r.3)) (among_left (FindsOn k) (desk_calls r.0) (desk_calls r.1) here)) in
      idle_both steps r.0 r.1 r.3 (idle_each keys [] r.0 (Some r.2) r.4 front) (export_idle keys r.2 r.1 v r.5)
      )
]

-- ---- in a history

pub deletes_again : (state : State) (log : History) → CanMake state (calls_of log) → IsWhole state → IsUp state → DeletesAgain state log
deletes_again state log can whole up keys front first between second back k l one two deletion v is own_one f fine own_two g none =
    let here : State = state_after state (calls_of front) in
    let there : State = state_after here (calls_of first) in
    let late : State = state_after there (calls_of between) in
    let calls : calls_of log ≡ calls_of front ++ (calls_of first ++ (calls_of between ++ (calls_of second ++ calls_of back))) =
    ap calls_of is ∙ calls_on front (first ++ (between ++ (second ++ back)))
    ∙ ap (λ (m : List Call). calls_of front ++ m) (calls_on first (between ++ (second ++ back)) ∙ ap (λ (m : List Call). calls_of first ++ m) (calls_on between (second ++ back) ∙ ap (λ (m : List Call). calls_of between ++ m) (calls_on second back))) in
    let parts = can_split state (calls_of front) (calls_of first ++ (calls_of between ++ (calls_of second ++ calls_of back))) (subst (λ (m : List Call). CanMake state m) calls can) in
    let one_on = can_split here (calls_of first) (calls_of between ++ (calls_of second ++ calls_of back)) parts.1 in
    let more = can_split there (calls_of between) (calls_of second ++ calls_of back) one_on.1 in
    let two_on = can_split late (calls_of second) (calls_of back) more.1 in
    let apart : calls_of (first ++ (between ++ second)) ≡ calls_of first ++ (calls_of between ++ calls_of second) = calls_on first (between ++ second) ∙ ap (λ (m : List Call). calls_of first ++ m) (calls_on between second) in
    let quiet : (key : PubKey) → Contains keys key → ¬ (IsAmong (IsActivation key) (calls_of first ++ (calls_of between ++ calls_of second))) = λ key has. subst (λ (m : List Call). ¬ (IsAmong (IsActivation key) m)) apart (none key has) in
    let whole_here : WholeThrough here = whole_after state (calls_of front) parts.0 (whole_up state whole up) in
    let rests : (key : PubKey) → Contains keys key → RestsIn key late.states =
    λ key has.
    (let among : IsAmong (Settles key) (calls_of first) = among_own (Settles key) k first (subst (IsAmong (Settles key)) (sym own_one) (deletion_settles keys one deletion f fine key has)) in
    let at_first : RestsIn key there.states = settled here key (calls_of first) one_on.0 whole_here (λ h. quiet key has (among_left (IsActivation key) (calls_of first) (calls_of between ++ calls_of second) h)) among in
    rests_through there key (calls_of between) more.0 (λ h. quiet key has (among_right (IsActivation key) (calls_of first) (calls_of between ++ calls_of second) (among_left (IsActivation key) (calls_of between) (calls_of second) h))) at_first) in
    let off : NoneOn keys two =
    λ key has h. none_found late key (calls_of second) two_on.0 (λ m. quiet key has (among_right (IsActivation key) (calls_of first) (calls_of between ++ calls_of second) (among_right (IsActivation key) (calls_of between) (calls_of second) m))) (rests key has)
    (among_own (FindsOn key) l second (subst (IsAmong (FindsOn key)) (sym own_two) h)) in
    let idle : IsIdle two = idle_deletion keys two v g off in
    let each : EachIs LeavesIt (own l second) = subst (EachIs LeavesIt) (sym own_two) idle.calls in (
      λ before later c r turns. leaves_it (state_after (state_after state (calls_of (front ++ (first ++ between)))) (calls_of before)) c r (each_turn LeavesIt l second before later c r each turns),
      idle.told,
    )
