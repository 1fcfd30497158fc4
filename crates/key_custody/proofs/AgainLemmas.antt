-- A deletion that comes again: each key is found as it was left, and the same is handed out.
use Rattle.std.proofs.Common.{◌≡◌, ◌⊎◌, inl, inr, ◌||◌, Bool, true, false, cond, List, [], ◌∷◌, ◌++◌, flat_map, filter, Option, Some, None, refl, sym, ◌∙◌, ap, subst, append_assoc}
use Rattle.std.specs.Prelude.{IfSome, is_some, Contains}
use Rattle.std.specs.Map.{keys_of}
use Rattle.std.specs.BTreeMap.{is_at}
use Rattle.std.specs.Ordering.{eq_by_cmp}
use Rattle.std.specs.List.{AllByRecursion}
use Rattle.std.specs.declared.cmp.Ordering.{Ordering}
use Rattle.std.specs.declared.cmp.Ordering.TheVariants.{Less, Equal, Greater}
use Rattle.std.proofs.lemmas.Map.{lookup-none}
use Rattle.std.proofs.lemmas.Map.Entries.{none_below_head}
use Rattle.std.proofs.lemmas.Map.Keys.{sorted_tail, IsDistinct-head}
use Rattle.std.specs.List.Sorted.{IsStrictlySortedBy}
use Rattle.std.proofs.lemmas.List.{append-nil}
use Rattle.edge_kit.specs.declared.bytes.PubKey.{PubKey}
use Rattle.edge_kit.specs.declared.bytes.Root.{Root}
use Rattle.slash_defs.specs.declared.entry.BlockEntry.{BlockEntry}
use Rattle.slash_defs.specs.declared.entry.VoteEntry.{VoteEntry}
use Rattle.slash_defs.specs.declared.book.Book.{Book}
use Rattle.slash_defs.specs.declared.book.File.{File}
use Rattle.slash_defs.specs.FileOrder.{block_cmp, vote_cmp, blocks_total, votes_total}
use Rattle.protect_record.specs.declared.floors.Floors.{Floors}
use Rattle.protect_record.specs.Floors.{IsDeadBlock, IsDeadVote}
use Rattle.protect_record.specs.Exporting.{exported_votes}
use Rattle.protect_record.specs.Parts.{Parts}
use Rattle.protect_record.specs.Pasts.{Past}
use Rattle.protect_record.specs.Standing.{Stands}
use Rattle.protect_record.proofs.MemberLemmas.{contains_first, contains_later, contains_cases, contains_none}
use Rattle.protect_record.proofs.UniteLemmas.{same_in_order}
use Rattle.protect_record.proofs.OrderLemmas.{less_from_greater}
use Rattle.record_join.specs.Keys.{key_cmp, kept_of}
use Rattle.record_join.specs.KeyLaws.{same_key, key_total, key_exact, at_itself, distinct_ordered}
use Rattle.desk_machine.specs.Handing.{Exports, ExportsOne, IsExport}
use Rattle.desk_machine.specs.Kinds.{IsKind}
use Rattle.desk_machine.specs.States.{State, past_of, is_among}
use Rattle.desk_machine.specs.declared.call.DeskCall.{DeskCall}
use Rattle.desk_machine.specs.declared.call.DeskCall.TheVariants as call
use Rattle.desk_machine.specs.declared.call.DeskReply.{DeskReply}
use Rattle.desk_machine.specs.declared.call.DeskReply.TheVariants as reply
use Rattle.call_plans.specs.Plans.{bind, each_plan, Follows}
use Rattle.call_plans.proofs.PlanLemmas.{follows_split, follows_cases}
use Rattle.call_plans.proofs.PathLemmas.{path_split}
use Rattle.key_custody.specs.declared.status.KeyStatus.{KeyStatus}
use Rattle.key_custody.specs.declared.status.KeyStatus.TheVariants as status
use Rattle.key_custody.specs.declared.delete.Deletion.{Deletion}
use Rattle.key_custody.specs.Statuses.{is_handed, handed_keys}
use Rattle.key_custody.specs.Replies.{replied_of}
use Rattle.client_calls.specs.Steps.{ClientCall, ClientReply, ClientStep, Calls, Replies, ClosedBy, Signed, Imported, Deleted, Fits, step_calls, step_told, desk_calls, told_in}
use Rattle.key_custody.specs.Plans.{said_in, closing_plan, delete_plan, statuses_plan, exported_plan, export_plan, deletion_plan}
use Rattle.key_custody.specs.Once.{MachineRun, Moves, IsWhole, AreFine, DeletesOnce}
use Rattle.key_custody.proofs.RestLemmas.{AtRest, RestsIn, RestsTorn, Rests, not_active, not_closing, rests_between, PastTorn, past_between, genesis_between}
use Rattle.key_custody.proofs.DeleteLemmas.{flat_map_on, kept_keys, same_filter, first_each, FirstEach}

-- ---- what a record exports follows from its past

same_floors : (p q : Parts) (past : Past) → Stands p past → Stands q past → p.floors ≡ q.floors
same_floors p q past s t = s.floors ∙ sym t.floors

same_blocks : (p q : Parts) (past : Past) → Stands p past → Stands q past → p.blocks ≡ q.blocks
same_blocks p q past s t =
    let e : p.floors ≡ q.floors = same_floors p q past s t in
    same_in_order block_cmp blocks_total p.blocks q.blocks s.blocks_in_order t.blocks_in_order
    (λ x has. let h = (s.blocks x).0 has in (t.blocks x).1 (h.0, subst (λ (f : Floors). ¬ (IsDeadBlock f x)) e h.1))
    (λ x has. let h = (t.blocks x).0 has in (s.blocks x).1 (h.0, subst (λ (f : Floors). ¬ (IsDeadBlock f x)) (sym e) h.1))

same_votes : (p q : Parts) (past : Past) → Stands p past → Stands q past → p.votes ≡ q.votes
same_votes p q past s t =
    let e : p.floors ≡ q.floors = same_floors p q past s t in
    same_in_order vote_cmp votes_total p.votes q.votes s.votes_in_order t.votes_in_order
    (λ x has. let h = (s.votes x).0 has in (t.votes x).1 (h.0, subst (λ (f : Floors). ¬ (IsDeadVote f x)) e h.1))
    (λ x has. let h = (t.votes x).0 has in (s.votes x).1 (h.0, subst (λ (f : Floors). ¬ (IsDeadVote f x)) (sym e) h.1))

same_export : (past : Past) (x y : Book) → IsExport past x → IsExport past y → x ≡ y
same_export past x y s t =
    let floors : s.parts.floors ≡ t.parts.floors = same_floors s.parts t.parts past s.stands t.stands in
    let blocks : s.parts.blocks ≡ t.parts.blocks = same_blocks s.parts t.parts past s.stands t.stands in
    let votes : s.parts.votes ≡ t.parts.votes = same_votes s.parts t.parts past s.stands t.stands in
    let made : List BlockEntry → List VoteEntry → Book = λ b v. record { blocks = b; votes = v } in
    s.value
    ∙ ap (λ (b : List BlockEntry). made b (exported_votes s.parts.floors.vote s.parts.votes)) blocks
    ∙ ap (λ (f : Floors). made t.parts.blocks (exported_votes f.vote s.parts.votes)) floors
    ∙ ap (λ (v : List VoteEntry). made t.parts.blocks (exported_votes t.parts.floors.vote v)) votes
    ∙ sym t.value

exported_one : (b : Bool) (o : Option Past) (x y : Option Book) → ExportsOne b o x → ExportsOne b o y → x ≡ y
exported_one true (Some past) (Some x) (Some y) s t = ap Some (same_export past x y s t)
exported_one true (Some past) (Some x) None s t = absurd t
exported_one true (Some past) None y s t = absurd s
exported_one true None x y s t = s ∙ sym t
exported_one false past x y s t = s ∙ sym t

-- a key that is asked for is one of these
among : (asked : List PubKey) (k : PubKey) → is_among asked k ≡ true → Contains asked k
among [] k e = absurd cc
among (q ∷ qs) k e = at (is_at (key_cmp k) q) refl e (among qs k) where
  at : (b : Bool) → is_at (key_cmp k) q ≡ b → (b || is_among qs k) ≡ true → (is_among qs k ≡ true → Contains qs k) → Contains (q ∷ qs) k
  at true is h later = subst (λ (x : PubKey). Contains (q ∷ qs) x) (sym (same_key k q is)) (contains_first q qs)
  at false is h later = contains_later q qs k (later h)

among_kept : (a : State) (keys : List PubKey) (k : PubKey) → Contains (kept_keys a keys) k → Contains keys k
among_kept a [] k h = contains_none k h
among_kept a (q ∷ qs) k h = at (is_some (past_of a q)) h (among_kept a qs k) where
  both : (q ≡ k) ⊎ Contains (kept_keys a qs) k → (Contains (kept_keys a qs) k → Contains qs k) → Contains (q ∷ qs) k
  both (inl e) later = subst (λ (x : PubKey). Contains (q ∷ qs) x) e (contains_first q qs)
  both (inr l) later = contains_later q qs k (later l)

  at : (b : Bool) → Contains (cond b (q ∷ kept_keys a qs) (kept_keys a qs)) k → (Contains (kept_keys a qs) k → Contains qs k) → Contains (q ∷ qs) k
  at true h later = both (contains_cases q (kept_keys a qs) k h) later
  at false h later = contains_later q qs k (later h)

-- exports of the same keys, of which each has the same past, are the same
same_books : (asked : List PubKey) (p q : List (PubKey × Past)) (xs ys : List (PubKey × Book)) → Exports p asked xs → Exports q asked ys
    → ((k : PubKey) → Contains asked k → kept_of q k ≡ kept_of p k) → (k : PubKey) → kept_of xs k ≡ kept_of ys k
same_books asked p q xs ys s t same k = at (is_among asked k) refl (s.each k) (t.each k) where
  at : (b : Bool) → is_among asked k ≡ b → ExportsOne (is_among asked k) (kept_of p k) (kept_of xs k) → ExportsOne (is_among asked k) (kept_of q k) (kept_of ys k) → kept_of xs k ≡ kept_of ys k
  at true e one two =
      let two' : ExportsOne (is_among asked k) (kept_of p k) (kept_of ys k) = subst (λ (o : Option Past). ExportsOne (is_among asked k) o (kept_of ys k)) (same k (among asked k e)) two in
      exported_one (is_among asked k) (kept_of p k) (kept_of xs k) (kept_of ys k) one two'
  at false e one two =
      let one' : ExportsOne false (kept_of p k) (kept_of xs k) = subst (λ (b : Bool). ExportsOne b (kept_of p k) (kept_of xs k)) e one in
      let two' : ExportsOne false (kept_of q k) (kept_of ys k) = subst (λ (b : Bool). ExportsOne b (kept_of q k) (kept_of ys k)) e two in
      one' ∙ sym two'

-- ---- each key again

kept_same : (c : State) (keys : List PubKey) (k : PubKey) (b : Bool) (s : KeyStatus) (statuses : List KeyStatus) → is_handed s ≡ b → is_some (past_of c k) ≡ b → handed_keys keys statuses ≡ kept_keys c keys
    → handed_keys (k ∷ keys) (s ∷ statuses) ≡ kept_keys c (k ∷ keys)
kept_same c keys k b s statuses e f same =
    ap (λ t. cond t (k ∷ handed_keys keys statuses) (handed_keys keys statuses)) (e ∙ sym f) ∙ ap (λ l. cond (is_some (past_of c k)) (k ∷ l) l) same

-- what a deletion does where each key is at rest: nothing
pub record Again (asked : List PubKey) (c d : State) (steps : List ClientStep) (got : List KeyStatus) (v : Option (List KeyStatus)) : Type 0 where
  pub same : d ≡ c
  pub told : told_in steps ≡ []
  pub handed : IfSome v (λ all. (statuses : List KeyStatus) × (all ≡ got ++ statuses) × (handed_keys asked statuses ≡ kept_keys c asked))

again_more : (k : PubKey) (keys : List PubKey) (c d : State) (r : DeskReply) (steps : List ClientStep) (got : List KeyStatus) (v : Option (List KeyStatus)) (s : KeyStatus)
    → is_handed s ≡ is_some (past_of c k) → Again keys c d steps (got ++ s ∷ []) v → Again (k ∷ keys) c d ((Calls (call.BeginClose k), Replies r) ∷ steps) got v
again_more k keys c d r steps got v s e a = record {
  same = a.same;
  told = a.told;
  handed = at v a.handed;
} where
  at : (v : Option (List KeyStatus)) → IfSome v (λ all. (statuses : List KeyStatus) × (all ≡ (got ++ s ∷ []) ++ statuses) × (handed_keys keys statuses ≡ kept_keys c keys))
      → IfSome v (λ all. (statuses : List KeyStatus) × (all ≡ got ++ statuses) × (handed_keys (k ∷ keys) statuses ≡ kept_keys c (k ∷ keys)))
  at None h = h
  at (Some all) h = (s ∷ h.0, h.1 ∙ append_assoc got (s ∷ []) h.0, kept_same c keys k (is_some (past_of c k)) s h.0 e refl h.2)

begun_again : (k : PubKey) (keys : List PubKey) (c m d : State) (r : DeskReply) (steps : List ClientStep) (got : List KeyStatus) (v : Option (List KeyStatus))
    → RestsIn k c.states → IsKind (call.BeginClose k) r
    → Follows Fits (bind (closing_plan k (replied_of r)) (λ s. each_plan delete_plan (got ++ s ∷ []) keys)) steps v → Moves c (call.BeginClose k, r) m
    → ((s : KeyStatus) → Follows Fits (each_plan delete_plan (got ++ s ∷ []) keys) steps v → m ≡ c → Again keys c d steps (got ++ s ∷ []) v)
    → Again (k ∷ keys) c d ((Calls (call.BeginClose k), Replies r) ∷ steps) got v
begun_again k keys c m d reply.Unknown steps got v rests kind f moves on =
    again_more k keys c d reply.Unknown steps got v status.NotFound (sym (ap is_some moves.0)) (on status.NotFound f moves.1)
begun_again k keys c m d reply.NotActive steps got v rests kind f moves on =
    again_more k keys c d reply.NotActive steps got v status.NotActive (sym moves.0.0) (on status.NotActive f moves.1)
begun_again k keys c m d reply.CloseBegun steps got v rests kind f moves on = not_active k c.states rests moves.0.1
begun_again k keys c m d reply.AlreadyClosing steps got v rests kind f moves on = not_closing k c.states rests moves.0.1
begun_again k keys c m d r steps got v rests kind f moves on = absurd kind

again_each : (keys : List PubKey) (c d : State) (steps : List ClientStep) (got : List KeyStatus) (v : Option (List KeyStatus)) → ((k : PubKey) → Contains keys k → RestsIn k c.states)
    → Follows Fits (each_plan delete_plan got keys) steps v → MachineRun c (desk_calls steps) d → Again keys c d steps got v
again_each [] c d [] got (Some all) rest f p = record { same = p; told = refl; handed = ([], f ∙ sym (append-nil got), refl) }
again_each [] c d [] got None rest f p = record { same = p; told = refl; handed = tt }
again_each [] c d (x ∷ xs) got v rest f p = absurd f
again_each (k ∷ keys) c d [] got (Some all) rest f p = absurd f
again_each (k ∷ keys) c d [] got None rest f p = record { same = p; told = refl; handed = tt }
again_each (k ∷ keys) c d (x ∷ xs) got v rest f p =
    let P : ClientCall → Type 0 = λ q. Again (k ∷ keys) c d ((q, x.1) ∷ xs) got v in
    subst P (sym f.0) (at x.1 f.1 f.2 (subst (λ (q : ClientCall). MachineRun c (step_calls (q, x.1) ++ desk_calls xs) d) f.0 p)
    (λ s h run. again_each keys c d xs (got ++ s ∷ []) v (λ z has. rest z (contains_later k keys z has)) h run)) where
      at : (y : ClientReply) → Fits (Calls (call.BeginClose k)) y → Follows Fits (bind (closing_plan k (said_in y)) (λ s. each_plan delete_plan (got ++ s ∷ []) keys)) xs v
          → MachineRun c (step_calls (Calls (call.BeginClose k), y) ++ desk_calls xs) d
          → ((s : KeyStatus) → Follows Fits (each_plan delete_plan (got ++ s ∷ []) keys) xs v → MachineRun c (desk_calls xs) d → Again keys c d xs (got ++ s ∷ []) v)
          → Again (k ∷ keys) c d ((Calls (call.BeginClose k), y) ∷ xs) got v
      at (Replies r) fits g q on =
          begun_again k keys c q.0 d r xs got v (rest k (contains_first k keys)) fits g q.1 (λ s h same. on s h (subst (λ (m : State). MachineRun m (desk_calls xs) d) same q.2))
      at (ClosedBy made r) fits g q on = absurd fits
      at (Signed r) fits g q on = absurd fits
      at (Imported r) fits g q on = absurd fits
      at (Deleted r) fits g q on = absurd fits

-- ---- the file again

not_listed : {X : Type 0} (k : PubKey) (more : List (PubKey × X)) → AllByRecursion (λ y. eq_by_cmp key_cmp k y ≡ false) (keys_of more) → kept_of more k ≡ None
not_listed k [] all = refl
not_listed k (b ∷ more) all = let apart : is_at (key_cmp k) b.0 ≡ false = all.0 in rw apart (not_listed k more all.1)

head_here : {X : Type 0} (x : PubKey × X) (xs : List (PubKey × X)) → kept_of (x ∷ xs) x.0 ≡ Some x.1
head_here x xs = rw (at_itself x.0) refl

head_apart : {X : Type 0} (x : PubKey × X) (xs : List (PubKey × X)) (k : PubKey) → is_at (key_cmp k) x.0 ≡ false → kept_of (x ∷ xs) k ≡ kept_of xs k
head_apart x xs k e = rw e refl

none_some : {X A : Type 0} (x : X) → None ≡ Some x → A
none_some x e = absurd cc

some_same : {X : Type 0} (x y : X) → Some x ≡ Some y → x ≡ y
some_same x y e = cc

tail_none : {X : Type 0} (x : PubKey × X) (xs : List (PubKey × X)) → IsStrictlySortedBy key_cmp (keys_of (x ∷ xs)) → kept_of xs x.0 ≡ None
tail_none x xs sorted = not_listed x.0 xs (IsDistinct-head (eq_by_cmp key_cmp) x.0 (keys_of xs) (distinct_ordered (x ∷ xs) sorted))

below_none : {X : Type 0} (k : PubKey) (y : PubKey × X) (ys : List (PubKey × X)) → IsStrictlySortedBy key_cmp (keys_of (y ∷ ys)) → key_cmp k y.0 ≡ Less → kept_of (y ∷ ys) k ≡ None
below_none k y ys sorted less = lookup-none (is_at (key_cmp k)) (y ∷ ys) (none_below_head key_total k y ys sorted less)

-- of things kept by key in order, where each key has the same, all are the same
same_kept : {X : Type 0} (xs ys : List (PubKey × X)) → IsStrictlySortedBy key_cmp (keys_of xs) → IsStrictlySortedBy key_cmp (keys_of ys) → ((k : PubKey) → kept_of xs k ≡ kept_of ys k) → xs ≡ ys
same_kept [] [] s t same = refl
same_kept [] (y ∷ ys) s t same = none_some y.1 (same y.0 ∙ head_here y ys)
same_kept (x ∷ xs) [] s t same = none_some x.1 (sym (same x.0) ∙ head_here x xs)
same_kept {X} (x ∷ xs) (y ∷ ys) s t same = at (key_cmp x.0 y.0) refl (same_kept xs ys (sorted_tail key_cmp x.0 (keys_of xs) s) (sorted_tail key_cmp y.0 (keys_of ys) t)) where
  tails : x.0 ≡ y.0 → (k : PubKey) → kept_of xs k ≡ kept_of ys k
  tails e k = by (is_at (key_cmp k) x.0) refl where
    by : (b : Bool) → is_at (key_cmp k) x.0 ≡ b → kept_of xs k ≡ kept_of ys k
    by true is =
        let here : k ≡ x.0 = same_key k x.0 is in
        ap (λ q. kept_of xs q) here ∙ tail_none x xs s ∙ sym (tail_none y ys t) ∙ ap (λ q. kept_of ys q) (sym (here ∙ e))
    by false is =
        let other : is_at (key_cmp k) y.0 ≡ false = subst (λ (q : PubKey). is_at (key_cmp k) q ≡ false) e is in
        sym (head_apart x xs k is) ∙ same k ∙ head_apart y ys k other

  at : (r : Ordering) → key_cmp x.0 y.0 ≡ r → (((k : PubKey) → kept_of xs k ≡ kept_of ys k) → xs ≡ ys) → x ∷ xs ≡ y ∷ ys
  at Less is rest = none_some x.1 (sym (below_none x.0 y ys t is) ∙ sym (same x.0) ∙ head_here x xs)
  at Greater is rest = none_some y.1 (sym (below_none y.0 x xs s (less_from_greater key_cmp key_total x.0 y.0 is)) ∙ same y.0 ∙ head_here y ys)
  at Equal is rest =
      let key : x.0 ≡ y.0 = key_exact x.0 y.0 is in
      let value : x.1 ≡ y.1 = some_same x.1 y.1 (sym (head_here x xs) ∙ same x.0 ∙ ap (λ q. kept_of (y ∷ ys) q) key ∙ head_here y ys) in
      let one : x ≡ y = λ i. (key i, value i) in
      ap (λ z. z ∷ xs) one ∙ ap (λ l. y ∷ l) (rest (tails key))

-- what is handed out: the last step of a deletion
pub record Handed (a d : State) (asked : List PubKey) (steps : List ClientStep) (statuses : List KeyStatus) (v : Option Deletion) : Type 0 where
  pub same : d ≡ a
  pub told : told_in steps ≡ []
  pub file : IfSome v (λ x. (x.statuses ≡ statuses) × (x.file.genesis ≡ a.genesis) × Exports a.keys asked x.file.books)

export_end : (a m d : State) (asked : List PubKey) (statuses : List KeyStatus) (r : DeskReply) (last : List ClientStep) (v : Option Deletion) → IsKind (call.Export asked) r
    → Follows Fits (exported_plan statuses (replied_of r)) last v → Moves a (call.Export asked, r) m → MachineRun m (desk_calls last) d → Handed a d asked ((Calls (call.Export asked), Replies r) ∷ last) statuses v
export_end a m d asked statuses (reply.Exported file) [] (Some x) kind f moves p = record {
  same = p ∙ moves.1;
  told = refl;
  file = (
    ap (λ (y : Deletion). y.statuses) f,
    ap (λ (y : Deletion). y.file.genesis) f ∙ moves.0.0,
    subst (λ (l : List (PubKey × Book)). Exports a.keys asked l) (sym (ap (λ (y : Deletion). y.file.books) f)) moves.0.1,
  );
}
export_end a m d asked statuses (reply.Exported file) [] None kind f moves p = record { same = p ∙ moves.1; told = refl; file = tt }
export_end a m d asked statuses (reply.Exported file) (x ∷ xs) v kind f moves p = absurd f
export_end a m d asked statuses reply.OutOfMemory [] (Some x) kind f moves p = absurd f
export_end a m d asked statuses reply.OutOfMemory [] None kind f moves p = record { same = p ∙ moves.1; told = refl; file = tt }
export_end a m d asked statuses reply.OutOfMemory (x ∷ xs) v kind f moves p = absurd f
export_end a m d asked statuses r last v kind f moves p = absurd kind

pub export_run : (a d : State) (keys : List PubKey) (statuses : List KeyStatus) (steps : List ClientStep) (v : Option Deletion) → Follows Fits (export_plan keys statuses) steps v → MachineRun a (desk_calls steps) d
    → Handed a d (handed_keys keys statuses) steps statuses v
export_run a d keys statuses [] (Some x) f p = absurd f
export_run a d keys statuses [] None f p = record { same = p; told = refl; file = tt }
export_run a d keys statuses (x ∷ xs) v f p =
    let P : ClientCall → Type 0 = λ q. Handed a d (handed_keys keys statuses) ((q, x.1) ∷ xs) statuses v in
    subst P (sym f.0) (at x.1 f.1 f.2 (subst (λ (q : ClientCall). MachineRun a (step_calls (q, x.1) ++ desk_calls xs) d) f.0 p)) where
      at : (y : ClientReply) → Fits (Calls (call.Export (handed_keys keys statuses))) y → Follows Fits (exported_plan statuses (said_in y)) xs v
          → MachineRun a (step_calls (Calls (call.Export (handed_keys keys statuses)), y) ++ desk_calls xs) d → Handed a d (handed_keys keys statuses) ((Calls (call.Export (handed_keys keys statuses)), y) ∷ xs) statuses v
      at (Replies r) fits g q = export_end a q.0 d (handed_keys keys statuses) statuses r xs v fits g q.1 q.2
      at (ClosedBy made r) fits g q = absurd fits
      at (Signed r) fits g q = absurd fits
      at (Imported r) fits g q = absurd fits
      at (Deleted r) fits g q = absurd fits

-- ---- the law

filter_on : (p q : PubKey → Bool) (keys : List PubKey) → ((k : PubKey) → Contains keys k → p k ≡ q k) → filter p keys ≡ filter q keys
filter_on p q [] same = refl
filter_on p q (k ∷ keys) same =
    ap (λ b. cond b (k ∷ filter p keys) (filter p keys)) (same k (contains_first k keys)) ∙ ap (λ l. cond (q k) (k ∷ l) l) (filter_on p q keys (λ x h. same x (contains_later k keys x h)))

pub told_on : (xs ys : List ClientStep) → told_in xs ≡ [] → told_in ys ≡ [] → told_in (xs ++ ys) ≡ []
told_on xs ys e f = flat_map_on step_told xs ys ∙ ap (λ l. l ++ told_in ys) e ∙ f

pub calls_on : (steps xs ys : List ClientStep) → steps ≡ xs ++ ys → desk_calls steps ≡ desk_calls xs ++ desk_calls ys
calls_on steps xs ys e = ap (λ l. flat_map step_calls l) e ∙ flat_map_on step_calls xs ys

-- the first deletion: each key is at rest, and what it handed out is what is exported of the kept ones
pub record FirstDone (keys : List PubKey) (a b : State) (deletion : Deletion) : Type 0 where
  pub rest : (k : PubKey) → Contains keys k → Rests k b
  pub as_found : b.keys ≡ a.keys
  pub torn : b.torn ≡ None
  pub genesis : deletion.file.genesis ≡ b.genesis
  pub books : Exports b.keys (kept_keys b keys) deletion.file.books

first_done : (keys : List PubKey) (a b : State) (first : List ClientStep) (deletion : Deletion) → IsWhole a → a.torn ≡ None → MachineRun a (desk_calls first) b → Follows Fits (deletion_plan keys) first (Some deletion)
    → AreFine deletion.statuses → FirstDone keys a b deletion
first_done keys a b first deletion whole up p f fine =
    let r = follows_split Fits (statuses_plan keys) (λ st. export_plan keys st) first deletion f in
    let st : List KeyStatus = r.2 in
    let parts = path_split Moves a b (desk_calls r.0) (desk_calls r.1) (subst (λ (l : List (DeskCall × DeskReply)). MachineRun a l b) (calls_on first r.0 r.1 r.3) p) in
    let m : State = parts.0 in
    let out : Handed m b (handed_keys keys st) r.1 st (Some deletion) = export_run m b keys st r.1 (Some deletion) r.5 parts.2 in
    let fine_st : AreFine st = subst AreFine out.file.0 fine in
    let each : FirstEach keys a m [] st = first_each keys a m [] st r.0 (λ q none. subst AtRest (sym (whole q none)) tt) r.4 fine_st parts.1 in
    let same : b ≡ m = out.same in
    let torn : m.torn ≡ None = each.gone.torn ∙ up in
    let rest_m : (k : PubKey) → Contains keys k → Rests k m = λ k h. (each.gone.rest k h, subst (RestsTorn k) (sym torn) tt) in
    let handed : handed_keys keys st ≡ kept_keys b keys =
    ap (λ l. handed_keys keys l) each.whole ∙ each.gone.handed ∙ sym (same_filter a b keys (ap (λ (x : State). x.keys) same ∙ each.gone.keys)) in
    record {
      rest = λ k h. subst (Rests k) (sym same) (rest_m k h);
      as_found = ap (λ (x : State). x.keys) same ∙ each.gone.keys;
      torn = ap (λ (x : State). x.torn) same ∙ torn;
      genesis = out.file.1 ∙ sym (ap (λ (x : State). x.genesis) same);
      books =
          subst (λ (l : List PubKey). Exports b.keys l deletion.file.books) handed
          (subst (λ (l : List (PubKey × Past)). Exports l (handed_keys keys st) deletion.file.books) (sym (ap (λ (x : State). x.keys) same)) out.file.2);
    }

-- a deletion where each key is at rest
pub record SecondDone (keys : List PubKey) (c d : State) (second : List ClientStep) (v : Option Deletion) : Type 0 where
  pub same : d ≡ c
  pub told : told_in second ≡ []
  pub file : IfSome v (λ x. (x.file.genesis ≡ c.genesis) × Exports c.keys (kept_keys c keys) x.file.books)

second_done : (keys : List PubKey) (c d : State) (second : List ClientStep) (v : Option Deletion) → ((k : PubKey) → Contains keys k → RestsIn k c.states) → MachineRun c (desk_calls second) d
    → Follows Fits (deletion_plan keys) second v → SecondDone keys c d second v
second_done keys c d second v rest p f = elim (follows_cases Fits (statuses_plan keys) (λ st. export_plan keys st) second v f) [
  | inl h ↦ (
      let each : Again keys c d second [] None = again_each keys c d second [] None rest h.1 p in
      record { same = each.same; told = each.told; file = let P : Option Deletion → Type 0 = λ o. IfSome o (λ x. (x.file.genesis ≡ c.genesis) × Exports c.keys (kept_keys c keys) x.file.books) in subst P (sym h.0) tt }
      )
  | inr r ↦ (
      let st : List KeyStatus = r.2 in
      let parts = path_split Moves c d (desk_calls r.0) (desk_calls r.1) (subst (λ (l : List (DeskCall × DeskReply)). MachineRun c l d) (calls_on second r.0 r.1 r.3) p) in
      let each : Again keys c parts.0 r.0 [] (Some st) = again_each keys c parts.0 r.0 [] (Some st) rest r.4 parts.1 in
      let run : MachineRun c (desk_calls r.1) d = subst (λ (x : State). MachineRun x (desk_calls r.1) d) each.same parts.2 in
      let out : Handed c d (handed_keys keys st) r.1 st v = export_run c d keys st r.1 v r.5 run in
      let handed : handed_keys keys st ≡ kept_keys c keys = ap (λ l. handed_keys keys l) each.handed.1 ∙ each.handed.2 in
      record {
        same = out.same;
        told = ap (λ l. told_in l) r.3 ∙ told_on r.0 r.1 each.told out.told;
        file = handed_out c keys st v handed out.file;
      }
      )
]
  where
    handed_out : (c : State) (keys : List PubKey) (st : List KeyStatus) (v : Option Deletion) → handed_keys keys st ≡ kept_keys c keys
        → IfSome v (λ x. (x.statuses ≡ st) × (x.file.genesis ≡ c.genesis) × Exports c.keys (handed_keys keys st) x.file.books) → IfSome v (λ x. (x.file.genesis ≡ c.genesis) × Exports c.keys (kept_keys c keys) x.file.books)
    handed_out c keys st None e h = h
    handed_out c keys st (Some x) e h = (h.1, subst (λ (l : List PubKey). Exports c.keys l x.file.books) e h.2)

same_file : (keys : List PubKey) (b c : State) (first : File) (v : Option Deletion) → c.genesis ≡ b.genesis → ((k : PubKey) → Contains keys k → past_of c k ≡ past_of b k)
    → first.genesis ≡ b.genesis → Exports b.keys (kept_keys b keys) first.books → IfSome v (λ x. (x.file.genesis ≡ c.genesis) × Exports c.keys (kept_keys c keys) x.file.books) → IfSome v (λ x. x.file ≡ first)
same_file keys b c first None chain same g books h = h
same_file keys b c first (Some x) chain same g books h =
    let asked : kept_keys c keys ≡ kept_keys b keys = filter_on (λ k. is_some (past_of c k)) (λ k. is_some (past_of b k)) keys (λ k has. ap is_some (same k has)) in
    let again : Exports c.keys (kept_keys b keys) x.file.books = subst (λ (l : List PubKey). Exports c.keys l x.file.books) asked h.1 in
    let each = same_books (kept_keys b keys) b.keys c.keys first.books x.file.books books again (λ k has. same k (among_kept b keys k has)) in
    let lists : first.books ≡ x.file.books = same_kept first.books x.file.books books.ordered again.ordered each in
    let roots : x.file.genesis ≡ first.genesis = h.0 ∙ chain ∙ sym g in
    let made : Root → List (PubKey × Book) → File = λ r l. record { genesis = r; books = l } in
    ap (λ r. made r x.file.books) roots ∙ ap (λ l. made first.genesis l) (sym lists)

pub deletes_once : DeletesOnce
deletes_once keys a b c d first second between deletion v whole up p f fine way never q g =
    let done : FirstDone keys a b deletion = first_done keys a b first deletion whole up p f fine in
    let rest_c : (k : PubKey) → Contains keys k → Rests k c = λ k h. rests_between b c k between way (never k h) (done.rest k h) in
    let again : SecondDone keys c d second v = second_done keys c d second v (λ k h. (rest_c k h).0) q g in (
      again.same,
      again.told,
      λ kept. same_file keys b c deletion.file v (genesis_between b c between way)
          (λ k h. (past_between b c k (past_of b k) between way (never k h) (kept k h) (done.rest k h) (refl, past_torn b k (past_of b k) done.torn)).0) done.genesis done.books again.file,
    )
  where
    past_torn : (b : State) (k : PubKey) (o : Option Past) → b.torn ≡ None → PastTorn k o b.torn
    past_torn b k o e = subst (PastTorn k o) (sym e) tt
