-- In which order keys are given up and taken in.
use Rattle.std.proofs.Common.{◌≡◌, ◌⊎◌, inl, inr, ℕ, zero, suc, Bool, true, false, cond, List, [], ◌∷◌, ◌++◌, Option, Some, None, slice_get, refl, sym, ap, ◌∙◌, subst, append_assoc, append-nil, Contains}
use Rattle.edge_kit.specs.declared.bytes.PubKey.{PubKey}
use Rattle.slash_defs.specs.declared.book.Book.{Book}
use Rattle.slash_defs.specs.declared.book.File.{File}
use Rattle.desk_machine.specs.Kinds.{IsKind}
use Rattle.desk_machine.specs.Making.{AllBusy, ClosesIdle}
use Rattle.desk_machine.specs.declared.call.DeskCall.{DeskCall}
use Rattle.desk_machine.specs.declared.call.DeskCall.TheVariants as call
use Rattle.desk_machine.specs.declared.call.DeskReply.{DeskReply}
use Rattle.desk_machine.specs.declared.call.DeskReply.TheVariants as reply
use Rattle.protect_record.proofs.MemberLemmas.{contains_first, contains_later, contains_cases, contains_none}
use Rattle.signer_link.specs.Signing.{imported}
use Rattle.signer_link.specs.declared.reply.ImportReply.{ImportReply}
use Rattle.signer_link.specs.declared.reply.ImportReply.TheVariants as importing
use Rattle.signer_link.specs.declared.reply.DeleteReply.{DeleteReply}
use Rattle.signer_link.specs.declared.reply.DeleteReply.TheVariants as deleting
use Rattle.call_plans.specs.Plans.{Follows, Done, Stop, Ask, bind, each_plan}
use Rattle.call_plans.proofs.PlanLemmas.{follows_split}
use Rattle.client_calls.specs.Steps.{ClientCall, ClientReply, ClientStep, ClientPlan, Calls, Closes, Deletes, Replies, ClosedBy, Signed, Imported, Deleted, Fits, step_calls, desk_calls}
use Rattle.desk_machine.specs.declared.call.KeyStanding.{KeyStanding}
use Rattle.key_custody.specs.declared.status.DeskRefusal.{DeskRefusal}
use Rattle.key_custody.specs.declared.status.KeyStatus.{KeyStatus}
use Rattle.key_custody.specs.declared.status.KeyStatus.TheVariants as status
use Rattle.key_custody.specs.declared.status.Reason.{Reason}
use Rattle.key_custody.specs.declared.status.Reason.TheVariants as reason
use Rattle.key_custody.specs.declared.delete.Deletion.{Deletion}
use Rattle.key_custody.specs.declared.import.ImportEnd.{ImportEnd}
use Rattle.key_custody.specs.declared.import.ImportEnd.TheVariants as ending
use Rattle.key_custody.specs.Keystores.{key_of_keystore}
use Rattle.key_custody.specs.Replies.{replied_of, is_active_in}
use Rattle.key_custody.specs.Statuses.{handed_keys}
use Rattle.key_custody.specs.Plans.{said_in, import_in, deletion_in, closed_plan, close_plan, given_up_plan, closing_plan, delete_plan, statuses_plan, export_plan, exported_plan, deletion_plan}
use Rattle.key_custody.specs.Plans.{imports, activated_plan, activate_plan, taken_plan, listed_plan, standing_plan, key_plan, found_plan, keystore_plan, keystores_plan, treated_plan, merged_plan}
use Rattle.key_custody.proofs.AgainLemmas.{calls_on}
use Rattle.serve_world.specs.Custody.{IsActivation, NoneActivates, ClosedThenHanded, DeletionsInOrder, MadeActive, MergedFirst, ImportsInOrder}

-- ---- one key

-- among these calls the key was closed
record IsClosed (key : PubKey) (made : List (DeskCall × DeskReply)) : Type 0 where
  front : List (DeskCall × DeskReply)
  book : Book
  back : List (DeskCall × DeskReply)
  are : made ≡ front ++ (call.FinishClose key, reply.Closed book) ∷ back

behind : (key : PubKey) (xs ys : List (DeskCall × DeskReply)) → IsClosed key ys → IsClosed key (xs ++ ys)
behind key xs ys c = record {
  front = xs ++ c.front;
  book = c.book;
  back = c.back;
  are = ap (λ (l : List (DeskCall × DeskReply)). xs ++ l) c.are ∙ sym (append_assoc xs c.front ((call.FinishClose key, reply.Closed c.book) ∷ c.back));
}

before : (key : PubKey) (xs ys : List (DeskCall × DeskReply)) → IsClosed key xs → IsClosed key (xs ++ ys)
before key xs ys c = record {
  front = c.front;
  book = c.book;
  back = c.back ++ ys;
  are = ap (λ (l : List (DeskCall × DeskReply)). l ++ ys) c.are ∙ append_assoc c.front ((call.FinishClose key, reply.Closed c.book) ∷ c.back) ys;
}

-- a plan that is done otherwise
not_so : {A : Type 0} (s : KeyStatus) (steps : List ClientStep) → (status.Deleted ≡ s → ⊥) → Follows Fits (Done s) steps (Some status.Deleted) → A
not_so s [] differs f = absurd (differs f)
not_so s (x ∷ steps) differs f = absurd f

not_error : (why : Reason) → status.Deleted ≡ status.Error why → ⊥
not_error why e = cc e

not_stopped : {A : Type 0} (steps : List ClientStep) → Follows Fits Stop steps (Some status.Deleted) → A
not_stopped [] f = absurd f
not_stopped (x ∷ steps) f = absurd f

closed_end : (key : PubKey) (made : List (DeskCall × DeskReply)) (r : DeskReply) (last : List ClientStep) → IsKind (call.FinishClose key) r → ClosesIdle (call.FinishClose key) r made → Follows Fits (closed_plan (replied_of r)) last (Some status.Deleted)
    → IsClosed key made
closed_end key made (reply.Closed book) last kind idle f = record { front = idle.busy; book = book; back = []; are = idle.made_is }
closed_end key made reply.Disk last kind idle f = not_so _ last (λ e. not_error _ e) f
closed_end key made reply.Unknown last kind idle f = not_so _ last (λ e. not_error _ e) f
closed_end key made (reply.NotClosing is) last kind idle f = not_so _ last (λ e. not_error _ e) f
closed_end key made (reply.Busy n) last kind idle f = not_so _ last (λ e. not_error _ e) f
closed_end key made (reply.Full size wanted) last kind idle f = not_so _ last (λ e. not_error _ e) f
closed_end key made reply.OutOfMemory last kind idle f = not_stopped last f
closed_end key made r last kind idle f = absurd kind

close_reply : (key : PubKey) (y : ClientReply) (last : List ClientStep) → Fits (Closes key) y → Follows Fits (closed_plan (said_in y)) last (Some status.Deleted) → IsClosed key (step_calls (Closes key, y))
close_reply key (ClosedBy made r) last fits f = closed_end key made r last fits.1 fits.0 f
close_reply key (Replies r) last fits f = absurd fits
close_reply key (Signed r) last fits f = absurd fits
close_reply key (Imported r) last fits f = absurd fits
close_reply key (Deleted r) last fits f = absurd fits

close_run : (key : PubKey) (steps : List ClientStep) → Follows Fits (close_plan key) steps (Some status.Deleted) → IsClosed key (desk_calls steps)
close_run key [] f = absurd f
close_run key (s ∷ steps) f =
    let P : ClientCall → Type 0 = λ c. IsClosed key (step_calls (c, s.1)) in
    before key (step_calls s) (desk_calls steps) (subst P (sym f.0) (close_reply key s.1 steps f.1 f.2))

given_up : (key : PubKey) (r : DeleteReply) (steps : List ClientStep) → Follows Fits (given_up_plan key r) steps (Some status.Deleted) → IsClosed key (desk_calls steps)
given_up key deleting.Deleted steps f = close_run key steps f
given_up key deleting.NotActive steps f = close_run key steps f
given_up key deleting.NotFound steps f = close_run key steps f
given_up key (deleting.Refused text) steps f = not_so _ steps (λ e. not_error _ e) f
given_up key deleting.Fault steps f = not_so _ steps (λ e. not_error _ e) f
given_up key (deleting.BadAnswer body) steps f = not_so _ steps (λ e. not_error _ e) f
given_up key deleting.OutOfMemory steps f = not_stopped steps f

deletes_run : (key : PubKey) (steps : List ClientStep) → Follows Fits (Ask (Deletes key) (λ r. given_up_plan key (deletion_in r))) steps (Some status.Deleted) → IsClosed key (desk_calls steps)
deletes_run key [] f = absurd f
deletes_run key (s ∷ steps) f = behind key (step_calls s) (desk_calls steps) (given_up key (deletion_in s.1) steps f.2)

begin_end : (key : PubKey) (r : DeskReply) (steps : List ClientStep) → IsKind (call.BeginClose key) r → Follows Fits (closing_plan key (replied_of r)) steps (Some status.Deleted) → IsClosed key (desk_calls steps)
begin_end key reply.CloseBegun steps kind f = deletes_run key steps f
begin_end key reply.AlreadyClosing steps kind f = deletes_run key steps f
begin_end key reply.Unknown steps kind f = not_so status.NotFound steps (λ e. cc e) f
begin_end key reply.NotActive steps kind f = not_so status.NotActive steps (λ e. cc e) f
begin_end key r steps kind f = absurd kind

begin_reply : (key : PubKey) (y : ClientReply) (steps : List ClientStep) → Fits (Calls (call.BeginClose key)) y → Follows Fits (closing_plan key (said_in y)) steps (Some status.Deleted) → IsClosed key (desk_calls steps)
begin_reply key (Replies r) steps fits f = begin_end key r steps fits f
begin_reply key (ClosedBy made r) steps fits f = absurd fits
begin_reply key (Signed r) steps fits f = absurd fits
begin_reply key (Imported r) steps fits f = absurd fits
begin_reply key (Deleted r) steps fits f = absurd fits

delete_run : (key : PubKey) (steps : List ClientStep) → Follows Fits (delete_plan key) steps (Some status.Deleted) → IsClosed key (desk_calls steps)
delete_run key [] f = absurd f
delete_run key (s ∷ steps) f = behind key (step_calls s) (desk_calls steps) (begin_reply key s.1 steps f.1 f.2)

-- ---- each key of a deletion

record Each (keys : List PubKey) (got all : List KeyStatus) (made : List (DeskCall × DeskReply)) : Type 0 where
  statuses : List KeyStatus
  are : all ≡ got ++ statuses
  closed : (at : ℕ) (key : PubKey) → slice_get keys at ≡ Some key → slice_get statuses at ≡ Some status.Deleted → IsClosed key made

each_first : (key : PubKey) (keys : List PubKey) (got all : List KeyStatus) (x : KeyStatus) (first rest : List ClientStep) → Follows Fits (delete_plan key) first (Some x) → Each keys (got ++ x ∷ []) all (desk_calls rest)
    → Each (key ∷ keys) got all (desk_calls first ++ desk_calls rest)
each_first key keys got all x first rest f more = record {
  statuses = x ∷ more.statuses;
  are = more.are ∙ append_assoc got (x ∷ []) more.statuses;
  closed = closes;
}
  where
    closes : (at : ℕ) (k : PubKey) → slice_get (key ∷ keys) at ≡ Some k → slice_get (x ∷ more.statuses) at ≡ Some status.Deleted → IsClosed k (desk_calls first ++ desk_calls rest)
    closes zero k is deleted =
        let same : key ≡ k = cc is in
        let so : x ≡ status.Deleted = cc deleted in
        let F : KeyStatus → Type 0 = λ s. Follows Fits (delete_plan key) first (Some s) in
        let K : PubKey → Type 0 = λ q. IsClosed q (desk_calls first ++ desk_calls rest) in
        subst K same (before key (desk_calls first) (desk_calls rest) (delete_run key first (subst F so f)))
    closes (suc at) k is deleted = behind k (desk_calls first) (desk_calls rest) (more.closed at k is deleted)

each : (keys : List PubKey) (got all : List KeyStatus) (steps : List ClientStep) → Follows Fits (each_plan delete_plan got keys) steps (Some all) → Each keys got all (desk_calls steps)
each [] got all [] f = record { statuses = []; are = f ∙ sym (append-nil got); closed = λ at key is deleted. absurd (none at key is) } where
  none : (at : ℕ) (key : PubKey) → slice_get [] at ≡ Some key → ⊥
  none at key is = cc is
each [] got all (s ∷ steps) f = absurd f
each (key ∷ keys) got all steps f =
    let parts = follows_split Fits (delete_plan key) (λ x. each_plan delete_plan (got ++ x ∷ []) keys) steps all f in
    let E : List (DeskCall × DeskReply) → Type 0 = λ l. Each (key ∷ keys) got all l in
    subst E (sym (calls_on steps parts.0 parts.1 parts.3)) (each_first key keys got all parts.2 parts.0 parts.1 parts.4 (each keys (got ++ parts.2 ∷ []) all parts.1 parts.5))

-- ---- the export

record IsExported (handed : List PubKey) (statuses : List KeyStatus) (deletion : Deletion) (made : List (DeskCall × DeskReply)) : Type 0 where
  statuses_are : deletion.statuses ≡ statuses
  are : made ≡ (call.Export handed, reply.Exported deletion.file) ∷ []

export_end : (handed : List PubKey) (statuses : List KeyStatus) (r : DeskReply) (last : List ClientStep) (deletion : Deletion) → IsKind (call.Export handed) r → Follows Fits (exported_plan statuses (replied_of r)) last (Some deletion)
    → IsExported handed statuses deletion ((call.Export handed, r) ∷ desk_calls last)
export_end handed statuses (reply.Exported file) [] deletion kind f = record {
  statuses_are = ap (λ (d : Deletion). d.statuses) f;
  are = ap (λ (g : File). (call.Export handed, reply.Exported g) ∷ []) (sym (ap (λ (d : Deletion). d.file) f));
}
export_end handed statuses (reply.Exported file) (x ∷ last) deletion kind f = absurd f
export_end handed statuses reply.OutOfMemory [] deletion kind f = absurd f
export_end handed statuses reply.OutOfMemory (x ∷ last) deletion kind f = absurd f
export_end handed statuses r last deletion kind f = absurd kind

export_run : (keys : List PubKey) (statuses : List KeyStatus) (steps : List ClientStep) (deletion : Deletion) → Follows Fits (export_plan keys statuses) steps (Some deletion) → IsExported (handed_keys keys statuses) statuses deletion (desk_calls steps)
export_run keys statuses [] deletion f = absurd f
export_run keys statuses (s ∷ steps) deletion f =
    let P : ClientCall → Type 0 = λ c. IsExported (handed_keys keys statuses) statuses deletion (desk_calls ((c, s.1) ∷ steps)) in
    subst P (sym f.0) (at s.1 f.1 f.2) where
      at : (y : ClientReply) → Fits (Calls (call.Export (handed_keys keys statuses))) y → Follows Fits (exported_plan statuses (said_in y)) steps (Some deletion)
          → IsExported (handed_keys keys statuses) statuses deletion (desk_calls ((Calls (call.Export (handed_keys keys statuses)), y) ∷ steps))
      at (Replies r) fits g = export_end (handed_keys keys statuses) statuses r steps deletion fits g
      at (ClosedBy made r) fits g = absurd fits
      at (Signed r) fits g = absurd fits
      at (Imported r) fits g = absurd fits
      at (Deleted r) fits g = absurd fits

-- ---- a deletion makes no key active

none_both : (xs ys : List (DeskCall × DeskReply)) → NoneActivates xs → NoneActivates ys → NoneActivates (xs ++ ys)
none_both [] ys a b = b
none_both (x ∷ xs) ys a b = (a.0, none_both xs ys a.1 b)

-- the call makes no key active
abbrev IsQuiet : ClientCall → Type 0
IsQuiet (Calls c) = ¬ (IsActivation c)
IsQuiet c = Unit {0}

-- whatever fitting replies they have, no call of the plan makes a key active
abbrev Quiet : {X : Type 0} → ClientPlan X → Type 0
Quiet (Done x) = Unit {0}
Quiet Stop = Unit {0}
Quiet (Ask c next_by) = IsQuiet c × ((r : ClientReply) → Fits c r → Quiet (next_by r))

quiet_bind : {X Y : Type 0} (p : ClientPlan X) (f : X → ClientPlan Y) → Quiet p → ((x : X) → Quiet (f x)) → Quiet (bind p f)
quiet_bind (Done x) f first more = more x
quiet_bind Stop f first more = tt
quiet_bind (Ask c next_by) f first more = (first.0, λ r fits. quiet_bind (next_by r) f (first.1 r fits) more)

quiet_each : {A X : Type 0} (plan : A → ClientPlan X) → ((a : A) → Quiet (plan a)) → (got : List X) (items : List A) → Quiet (each_plan plan got items)
quiet_each plan quiet got [] = tt
quiet_each plan quiet got (a ∷ items) = quiet_bind (plan a) (λ x. each_plan plan (got ++ x ∷ []) items) (quiet a) (λ x. quiet_each plan quiet (got ++ x ∷ []) items)

quiet_busy : (key : PubKey) (busy : List (DeskCall × DeskReply)) → AllBusy (call.FinishClose key) busy → NoneActivates busy
quiet_busy key [] all = tt
quiet_busy key (x ∷ busy) all = let Q : DeskCall → Type 0 = λ c. ¬ (IsActivation c) in (subst Q (sym all.0) (λ h. h), quiet_busy key busy all.2)

quiet_step : (c : ClientCall) (y : ClientReply) → IsQuiet c → Fits c y → NoneActivates (step_calls (c, y))
quiet_step (Calls c) (Replies r) quiet fits = (quiet, tt)
quiet_step (Closes key) (ClosedBy made r) quiet fits =
    let N : List (DeskCall × DeskReply) → Type 0 = λ l. NoneActivates l in
    subst N (sym fits.0.made_is) (none_both fits.0.busy ((call.FinishClose key, r) ∷ []) (quiet_busy key fits.0.busy fits.0.all_busy) ((λ h. h), tt))
quiet_step c y quiet fits = tt

quiet_run : {X : Type 0} (p : ClientPlan X) (steps : List ClientStep) (v : Option X) → Quiet p → Follows Fits p steps v → NoneActivates (desk_calls steps)
quiet_run (Done x) [] v quiet f = tt
quiet_run (Done x) (s ∷ steps) v quiet f = absurd f
quiet_run Stop [] v quiet f = tt
quiet_run Stop (s ∷ steps) v quiet f = absurd f
quiet_run (Ask c next_by) [] v quiet f = tt
quiet_run (Ask c next_by) (s ∷ steps) v quiet f =
    let P : ClientCall → Type 0 = λ x. NoneActivates (step_calls (x, s.1)) in
    none_both (step_calls s) (desk_calls steps) (subst P (sym f.0) (quiet_step c s.1 quiet.0 f.1)) (quiet_run (next_by s.1) steps v (quiet.1 s.1 f.1) f.2)

quiet_closed : (key : PubKey) (y : ClientReply) → Fits (Closes key) y → Quiet (closed_plan (said_in y))
quiet_closed key (ClosedBy made r) fits = at r fits.1 where
  at : (r : DeskReply) → IsKind (call.FinishClose key) r → Quiet (closed_plan (replied_of r))
  at (reply.Closed book) kind = tt
  at reply.Disk kind = tt
  at reply.Unknown kind = tt
  at (reply.NotClosing is) kind = tt
  at (reply.Busy n) kind = tt
  at (reply.Full size wanted) kind = tt
  at reply.OutOfMemory kind = tt
  at r kind = absurd kind
quiet_closed key y fits = absurd fits

quiet_close : (key : PubKey) → Quiet (close_plan key)
quiet_close key = (tt, λ y fits. quiet_closed key y fits)

quiet_given_up : (key : PubKey) (r : DeleteReply) → Quiet (given_up_plan key r)
quiet_given_up key deleting.Deleted = quiet_close key
quiet_given_up key deleting.NotActive = quiet_close key
quiet_given_up key deleting.NotFound = quiet_close key
quiet_given_up key (deleting.Refused text) = tt
quiet_given_up key deleting.Fault = tt
quiet_given_up key (deleting.BadAnswer body) = tt
quiet_given_up key deleting.OutOfMemory = tt

quiet_closing : (key : PubKey) (y : ClientReply) → Fits (Calls (call.BeginClose key)) y → Quiet (closing_plan key (said_in y))
quiet_closing key (Replies r) fits = at r fits where
  at : (r : DeskReply) → IsKind (call.BeginClose key) r → Quiet (closing_plan key (replied_of r))
  at reply.CloseBegun kind = (tt, λ y fits. quiet_given_up key (deletion_in y))
  at reply.AlreadyClosing kind = (tt, λ y fits. quiet_given_up key (deletion_in y))
  at reply.Unknown kind = tt
  at reply.NotActive kind = tt
  at r kind = absurd kind
quiet_closing key y fits = absurd fits

quiet_delete : (key : PubKey) → Quiet (delete_plan key)
quiet_delete key = ((λ h. h), λ y fits. quiet_closing key y fits)

quiet_exported : (handed : List PubKey) (statuses : List KeyStatus) (y : ClientReply) → Fits (Calls (call.Export handed)) y → Quiet (exported_plan statuses (said_in y))
quiet_exported handed statuses (Replies r) fits = at r fits where
  at : (r : DeskReply) → IsKind (call.Export handed) r → Quiet (exported_plan statuses (replied_of r))
  at (reply.Exported file) kind = tt
  at reply.OutOfMemory kind = tt
  at r kind = absurd kind
quiet_exported handed statuses y fits = absurd fits

quiet_export : (keys : List PubKey) (statuses : List KeyStatus) → Quiet (export_plan keys statuses)
quiet_export keys statuses = ((λ h. h), λ y fits. quiet_exported (handed_keys keys statuses) statuses y fits)

quiet_deletion : (keys : List PubKey) → Quiet (deletion_plan keys)
quiet_deletion keys = quiet_bind (statuses_plan keys) (λ statuses. export_plan keys statuses) (quiet_each delete_plan quiet_delete [] keys) (λ statuses. quiet_export keys statuses)

pub deletions_in_order : DeletionsInOrder
deletions_in_order keys steps deletion f at key is deleted =
    let parts = follows_split Fits (each_plan delete_plan [] keys) (λ statuses. export_plan keys statuses) steps deletion f in
    let all = each keys [] parts.2 parts.0 parts.4 in
    let out = export_run keys parts.2 parts.1 deletion parts.5 in
    let S : List KeyStatus → Type 0 = λ l. slice_get l at ≡ Some status.Deleted in
    let closed = all.closed at key is (subst S (out.statuses_are ∙ all.are) deleted) in
    let made = calls_on steps parts.0 parts.1 parts.3 in
    let H : List KeyStatus → Type 0 = λ l. ClosedThenHanded key (handed_keys keys l) deletion.file (desk_calls steps) in
    subst H (sym out.statuses_are) (record {
      front = closed.front;
      book = closed.book;
      between = closed.back;
      are = made ∙ ap (λ (l : List (DeskCall × DeskReply)). desk_calls parts.0 ++ l) out.are
          ∙ ap (λ (l : List (DeskCall × DeskReply)). l ++ (call.Export (handed_keys keys parts.2), reply.Exported deletion.file) ∷ []) closed.are
          ∙ append_assoc closed.front ((call.FinishClose key, reply.Closed closed.book) ∷ closed.back) ((call.Export (handed_keys keys parts.2), reply.Exported deletion.file) ∷ []);
      none_activates = quiet_run (deletion_plan keys) steps (Some deletion) (quiet_deletion keys) f;
    })

-- ---- a key that is imported was made active

has_front : {X : Type 0} (xs ys : List X) (x : X) → Contains xs x → Contains (xs ++ ys) x
has_front [] ys x has = contains_none x has
has_front {X} (z ∷ xs) ys x has = at (contains_cases z xs x has) (has_front xs ys x) where
  at : (z ≡ x) ⊎ Contains xs x → (Contains xs x → Contains (xs ++ ys) x) → Contains (z ∷ (xs ++ ys)) x
  at (inl e) more = subst (λ (w : X). Contains (w ∷ (xs ++ ys)) x) (sym e) (contains_first x (xs ++ ys))
  at (inr h) more = contains_later z (xs ++ ys) x (more h)

has_behind : {X : Type 0} (xs ys : List X) (x : X) → Contains ys x → Contains (xs ++ ys) x
has_behind [] ys x has = has
has_behind (z ∷ xs) ys x has = contains_later z (xs ++ ys) x (has_behind xs ys x has)

-- a plan that is done otherwise
not_imported : {A : Type 0} (s : KeyStatus) (steps : List ClientStep) → (status.Imported ≡ s → ⊥) → Follows Fits (Done s) steps (Some status.Imported) → A
not_imported s [] differs f = absurd (differs f)
not_imported s (x ∷ steps) differs f = absurd f

failed_not : (why : Reason) → status.Imported ≡ status.Error why → ⊥
failed_not why e = cc e

stopped_not : {A : Type 0} (steps : List ClientStep) → Follows Fits Stop steps (Some status.Imported) → A
stopped_not [] f = absurd f
stopped_not (x ∷ steps) f = absurd f

module _ (now : ℕ) (key : PubKey) where
  -- the call that makes the key active, with its success
  abbrev activation : DeskCall × DeskReply
  activation = (call.Activate key now, reply.Active)

  activated_end : (r : DeskReply) (steps : List ClientStep) → IsKind (call.Activate key now) r → Follows Fits (activated_plan (replied_of r)) steps (Some status.Imported) → r ≡ reply.Active
  activated_end reply.Active steps kind f = refl
  activated_end reply.Already steps kind f = not_imported status.Duplicate steps (λ e. cc e) f
  activated_end reply.Disk steps kind f = not_imported _ steps (λ e. failed_not _ e) f
  activated_end reply.Closing steps kind f = not_imported _ steps (λ e. failed_not _ e) f
  activated_end (reply.TooManyKeys have new) steps kind f = not_imported _ steps (λ e. failed_not _ e) f
  activated_end (reply.Full size wanted) steps kind f = not_imported _ steps (λ e. failed_not _ e) f
  activated_end reply.OutOfMemory steps kind f = stopped_not steps f
  activated_end r steps kind f = absurd kind

  activate_run : (steps : List ClientStep) → Follows Fits (activate_plan now key) steps (Some status.Imported) → Contains (desk_calls steps) activation
  activate_run [] f = absurd f
  activate_run (s ∷ steps) f =
      let P : ClientCall → Type 0 = λ c. Contains (desk_calls ((c, s.1) ∷ steps)) activation in
      subst P (sym f.0) (at s.1 f.1 f.2) where
        at : (y : ClientReply) → Fits (Calls (call.Activate key now)) y → Follows Fits (activated_plan (said_in y)) steps (Some status.Imported)
            → Contains (desk_calls ((Calls (call.Activate key now), y) ∷ steps)) activation
        at (Replies r) fits g =
            let C : DeskReply → Type 0 = λ q. Contains ((call.Activate key now, q) ∷ desk_calls steps) activation in
            subst C (sym (activated_end r steps fits g)) (contains_first activation (desk_calls steps))
        at (ClosedBy made r) fits g = absurd fits
        at (Signed r) fits g = absurd fits
        at (Imported r) fits g = absurd fits
        at (Deleted r) fits g = absurd fits

  taken_run : (r : ImportReply) (steps : List ClientStep) → Follows Fits (taken_plan now key r) steps (Some status.Imported) → Contains (desk_calls steps) activation
  taken_run importing.Imported steps f = activate_run steps f
  taken_run importing.Duplicate steps f = activate_run steps f
  taken_run (importing.Refused text) steps f = not_imported _ steps (λ e. failed_not _ e) f
  taken_run importing.Fault steps f = not_imported _ steps (λ e. failed_not _ e) f
  taken_run (importing.BadAnswer body) steps f = not_imported _ steps (λ e. failed_not _ e) f
  taken_run importing.OutOfMemory steps f = stopped_not steps f

  imports_run : (keystore password : List ℕ) (steps : List ClientStep) → Follows Fits (imports (imported key keystore password) (λ r. taken_plan now key r)) steps (Some status.Imported) → Contains (desk_calls steps) activation
  imports_run keystore password [] f = absurd f
  imports_run keystore password (s ∷ steps) f = has_behind (step_calls s) (desk_calls steps) activation (taken_run (import_in s.1) steps f.2)

  listed_run : (keystore password : List ℕ) (listed : List (PubKey × KeyStanding)) (steps : List ClientStep) → Follows Fits (listed_plan now keystore password key listed) steps (Some status.Imported) → Contains (desk_calls steps) activation
  listed_run keystore password listed steps f = at (is_active_in listed key) f where
    at : (b : Bool) → Follows Fits (cond b (Done status.Duplicate) (imports (imported key keystore password) (λ r. taken_plan now key r))) steps (Some status.Imported) → Contains (desk_calls steps) activation
    at true g = not_imported status.Duplicate steps (λ e. cc e) g
    at false g = imports_run keystore password steps g

  standing_run : (keystore password : List ℕ) (y : ClientReply) (steps : List ClientStep) → Fits (Calls call.Keys) y → Follows Fits (standing_plan now keystore password key (said_in y)) steps (Some status.Imported) → Contains (desk_calls steps) activation
  standing_run keystore password (Replies r) steps fits f = at r fits f where
    at : (r : DeskReply) → IsKind call.Keys r → Follows Fits (standing_plan now keystore password key (replied_of r)) steps (Some status.Imported) → Contains (desk_calls steps) activation
    at (reply.Keys listed) kind g = listed_run keystore password listed steps g
    at reply.OutOfMemory kind g = stopped_not steps g
    at r kind g = absurd kind
  standing_run keystore password y steps fits f = absurd fits

  key_run : (keystore password : List ℕ) (steps : List ClientStep) → Follows Fits (key_plan now keystore password key) steps (Some status.Imported) → Contains (desk_calls steps) activation
  key_run keystore password [] f = absurd f
  key_run keystore password (s ∷ steps) f = has_behind (step_calls s) (desk_calls steps) activation (standing_run keystore password s.1 steps f.1 f.2)

module _ (now : ℕ) where
  keystore_run : (k : List ℕ × List ℕ) (steps : List ClientStep) → Follows Fits (keystore_plan now k) steps (Some status.Imported) → MadeActive now (desk_calls steps) k
  keystore_run k steps f = at (key_of_keystore k.0) refl f where
    at : (o : Option PubKey) → key_of_keystore k.0 ≡ o → Follows Fits (found_plan now k.0 k.1 o) steps (Some status.Imported) → MadeActive now (desk_calls steps) k
    at None is g = not_imported (status.Error reason.BadKeystore) steps (λ e. failed_not _ e) g
    at (Some key) is g = (key, is, key_run now key k.0 k.1 steps g)

  -- of each keystore of an import
  record Taken (keystores : List (List ℕ × List ℕ)) (got all : List KeyStatus) (made : List (DeskCall × DeskReply)) : Type 0 where
    statuses : List KeyStatus
    are : all ≡ got ++ statuses
    active : (at : ℕ) → slice_get statuses at ≡ Some status.Imported → (k : List ℕ × List ℕ) × (slice_get keystores at ≡ Some k) × MadeActive now made k

  taken_first : (k : List ℕ × List ℕ) (keystores : List (List ℕ × List ℕ)) (got all : List KeyStatus) (x : KeyStatus) (first rest : List ClientStep) → Follows Fits (keystore_plan now k) first (Some x)
      → Taken keystores (got ++ x ∷ []) all (desk_calls rest) → Taken (k ∷ keystores) got all (desk_calls first ++ desk_calls rest)
  taken_first k keystores got all x first rest f more = record {
    statuses = x ∷ more.statuses;
    are = more.are ∙ append_assoc got (x ∷ []) more.statuses;
    active = at;
  }
    where
      at : (n : ℕ) → slice_get (x ∷ more.statuses) n ≡ Some status.Imported → (q : List ℕ × List ℕ) × (slice_get (k ∷ keystores) n ≡ Some q) × MadeActive now (desk_calls first ++ desk_calls rest) q
      at zero is =
          let so : x ≡ status.Imported = cc is in
          let F : KeyStatus → Type 0 = λ s. Follows Fits (keystore_plan now k) first (Some s) in
          let m = keystore_run k first (subst F so f) in
          (k, refl, (m.0, m.1, has_front (desk_calls first) (desk_calls rest) (activation now m.0) m.2))
      at (suc n) is = let m = more.active n is in (m.0, m.1, (m.2.0, m.2.1, has_behind (desk_calls first) (desk_calls rest) (activation now m.2.0) m.2.2))

  taken : (keystores : List (List ℕ × List ℕ)) (got all : List KeyStatus) (steps : List ClientStep) → Follows Fits (each_plan (λ k. keystore_plan now k) got keystores) steps (Some all) → Taken keystores got all (desk_calls steps)
  taken [] got all [] f = record { statuses = []; are = f ∙ sym (append-nil got); active = λ at is. absurd (none at is) } where
    none : (at : ℕ) → slice_get [] at ≡ Some status.Imported → ⊥
    none at is = cc is
  taken [] got all (s ∷ steps) f = absurd f
  taken (k ∷ keystores) got all steps f =
      let parts = follows_split Fits (keystore_plan now k) (λ x. each_plan (λ k. keystore_plan now k) (got ++ x ∷ []) keystores) steps all f in
      let E : List (DeskCall × DeskReply) → Type 0 = λ l. Taken (k ∷ keystores) got all l in
      subst E (sym (calls_on steps parts.0 parts.1 parts.3)) (taken_first k keystores got all parts.2 parts.0 parts.1 parts.4 (taken keystores (got ++ parts.2 ∷ []) all parts.1 parts.5))

  treated_end : (all got : List KeyStatus) (steps : List ClientStep) → Follows Fits (Done (ending.Treated all)) steps (Some (ending.Treated got)) → got ≡ all
  treated_end all got [] f = let e : ending.Treated got ≡ ending.Treated all = f in cc e
  treated_end all got (s ∷ steps) f = absurd f

  treated_run : (keystores : List (List ℕ × List ℕ)) (steps : List ClientStep) (came : Option ImportEnd) → Follows Fits (treated_plan now keystores) steps came → (got : List KeyStatus) → came ≡ Some (ending.Treated got)
      → (at : ℕ) → slice_get got at ≡ Some status.Imported → (k : List ℕ × List ℕ) × (slice_get keystores at ≡ Some k) × MadeActive now (desk_calls steps) k
  treated_run keystores steps came f got is at so =
      let F : Option ImportEnd → Type 0 = λ o. Follows Fits (treated_plan now keystores) steps o in
      let parts = follows_split Fits (keystores_plan now keystores) (λ all. Done (ending.Treated all)) steps (ending.Treated got) (subst F is f) in
      let each = taken keystores [] parts.2 parts.0 parts.4 in
      let same : got ≡ each.statuses = treated_end parts.2 got parts.1 parts.5 ∙ each.are in
      let S : List KeyStatus → Type 0 = λ l. slice_get l at ≡ Some status.Imported in
      let m = each.active at (subst S same so) in
      let H : List (DeskCall × DeskReply) → Type 0 = λ l. Contains l (activation now m.2.0) in
      (m.0, m.1, (m.2.0, m.2.1, subst H (sym (calls_on steps parts.0 parts.1 parts.3)) (has_front (desk_calls parts.0) (desk_calls parts.1) (activation now m.2.0) m.2.2)))

-- ---- the merge of an import

-- nothing more was called for, and the keystores were not treated
abbrev IsOver : List ClientStep → Option ImportEnd → Type 0
IsOver steps came = (steps ≡ []) × ((got : List KeyStatus) → came ≡ Some (ending.Treated got) → ⊥)

refused_end : (d : DeskRefusal) (steps : List ClientStep) (came : Option ImportEnd) → Follows Fits (Done (ending.MergeRefused d)) steps came → IsOver steps came
refused_end d [] None f = (refl, λ got is. cc is)
refused_end d [] (Some y) f = (refl, λ got is. differ got (ending_is got is)) where
  ending_is : (got : List KeyStatus) → Some y ≡ Some (ending.Treated got) → y ≡ ending.Treated got
  ending_is got is = cc is

  differ : (got : List KeyStatus) → y ≡ ending.Treated got → ⊥
  differ got is = let e : ending.Treated got ≡ ending.MergeRefused d = sym is ∙ f in cc e
refused_end d (s ∷ steps) came f = absurd f

stopped_end : (steps : List ClientStep) (came : Option ImportEnd) → Follows Fits Stop steps came → IsOver steps came
stopped_end [] None f = (refl, λ got is. cc is)
stopped_end [] (Some y) f = absurd f
stopped_end (s ∷ steps) came f = absurd f

merged_end : (file : File) (now : ℕ) (keystores : List (List ℕ × List ℕ)) (r : DeskReply) (steps : List ClientStep) (came : Option ImportEnd) → IsKind (call.Merge file) r
    → Follows Fits (merged_plan now keystores (replied_of r)) steps came → ((n : ℕ) × (r ≡ reply.Merged n)) ⊎ IsOver steps came
merged_end file now keystores (reply.Merged n) steps came kind f = inl (n, refl)
merged_end file now keystores reply.Disk steps came kind f = inr (refused_end _ steps came f)
merged_end file now keystores (reply.GenesisDiffers kept given) steps came kind f = inr (refused_end _ steps came f)
merged_end file now keystores (reply.TooManyKeys have new) steps came kind f = inr (refused_end _ steps came f)
merged_end file now keystores (reply.Full size wanted) steps came kind f = inr (refused_end _ steps came f)
merged_end file now keystores reply.OutOfMemory steps came kind f = inr (stopped_end steps came f)
merged_end file now keystores r steps came kind f = absurd kind

-- a merge alone makes no key active
merge_alone : (file : File) (r : DeskReply) (key : PubKey) (at : ℕ) (q : DeskReply) → Contains {X = DeskCall × DeskReply} ((call.Merge file, r) ∷ []) (call.Activate key at, q) → ⊥
merge_alone file r key at q has = by_case (contains_cases {X = DeskCall × DeskReply} (call.Merge file, r) [] (call.Activate key at, q) has) where
  by_case : (◌≡◌ {A = DeskCall × DeskReply} (call.Merge file, r) (call.Activate key at, q)) ⊎ Contains {X = DeskCall × DeskReply} [] (call.Activate key at, q) → ⊥
  by_case (inl e) = let first : call.Merge file ≡ call.Activate key at = ap (λ (x : DeskCall × DeskReply). x.0) e in cc first
  by_case (inr h) = contains_none {X = DeskCall × DeskReply} (call.Activate key at, q) h

merge_step : (file : File) (now : ℕ) (keystores : List (List ℕ × List ℕ)) (r : DeskReply) (steps : List ClientStep) (came : Option ImportEnd)
    → Follows Fits (merged_plan now keystores (replied_of r)) steps came → ((n : ℕ) × (r ≡ reply.Merged n)) ⊎ IsOver steps came → MergedFirst (Some file) now keystores ((call.Merge file, r) ∷ desk_calls steps) came
merge_step file now keystores r steps came f (inl m) =
    let R : DeskReply → Type 0 = λ q. Follows Fits (merged_plan now keystores (replied_of q)) steps came in
    let is = ap (λ (x : DeskReply). (call.Merge file, x) ∷ desk_calls steps) m.1 in
    record {
      activates = λ key at q has. (desk_calls steps, (m.0, is));
      treated = λ got so. (desk_calls steps, (m.0, is), treated_run now keystores steps came (subst R m.1 f) got so);
    }
merge_step file now keystores r steps came f (inr over) =
    let S : List ClientStep → Type 0 = λ l. (key : PubKey) (at : ℕ) (q : DeskReply) → Contains ((call.Merge file, r) ∷ desk_calls l) (call.Activate key at, q) → ⊥ in
    let none = subst S (sym over.0) (λ key at q has. merge_alone file r key at q has) in
    record {
      activates = λ key at q has. absurd (none key at q has);
      treated = λ got is. absurd (over.1 got is);
    }

pub imports_in_order : ImportsInOrder
imports_in_order None now keystores steps came f = record {
  activates = λ key at q has. (desk_calls steps, refl);
  treated = λ got is. (desk_calls steps, refl, treated_run now keystores steps came f got is);
}
imports_in_order (Some file) now keystores [] None f = record {
  activates = λ key at q has. contains_none {X = DeskCall × DeskReply} (call.Activate key at, q) has;
  treated = λ got is. absurd (cc is);
}
imports_in_order (Some file) now keystores [] (Some y) f = absurd f
imports_in_order (Some file) now keystores (s ∷ steps) came f =
    let P : ClientCall → Type 0 = λ c. MergedFirst (Some file) now keystores (desk_calls ((c, s.1) ∷ steps)) came in
    subst P (sym f.0) (at s.1 f.1 f.2) where
      at : (y : ClientReply) → Fits (Calls (call.Merge file)) y → Follows Fits (merged_plan now keystores (said_in y)) steps came
          → MergedFirst (Some file) now keystores (desk_calls ((Calls (call.Merge file), y) ∷ steps)) came
      at (Replies r) fits g = merge_step file now keystores r steps came g (merged_end file now keystores r steps came fits g)
      at (ClosedBy made r) fits g = absurd fits
      at (Signed r) fits g = absurd fits
      at (Imported r) fits g = absurd fits
      at (Deleted r) fits g = absurd fits
