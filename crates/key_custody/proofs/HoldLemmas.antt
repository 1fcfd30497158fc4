-- What a key that was taken in keeps: it stays active until its deletion is begun, and its past only grows.
use Rattle.std.proofs.Common.{◌≡◌, ◌⊎◌, inl, inr, Bool, true, false, cond, List, [], ◌∷◌, Option, Some, None, refl, sym, ◌∙◌, ap, subst}
use Rattle.std.specs.Prelude.{IsSome, IsSomeAnd, is_some, option_map, Contains, ◌↔◌}
use Rattle.std.specs.BTreeMap.{is_at}
use Rattle.std.proofs.lemmas.Map.Made.{lookup-map_values}
use Rattle.std.proofs.lemmas.List.Elements.{Contains-append_left, Contains-push, Contains-push_cases}
use Rattle.edge_kit.specs.declared.bytes.PubKey.{PubKey}
use Rattle.slash_defs.specs.declared.book.Book.{Book}
use Rattle.slash_defs.specs.declared.entry.BlockEntry.{BlockEntry}
use Rattle.slash_defs.specs.declared.entry.VoteEntry.{VoteEntry}
use Rattle.slash_defs.specs.declared.message.Message.{Message}
use Rattle.protect_record.specs.declared.floors.Floors.{Floors}
use Rattle.protect_record.specs.Floors.{floors_of, greater_floors}
use Rattle.protect_record.specs.Parts.{Parts}
use Rattle.protect_record.specs.Pasts.{Past, no_past, with_own, with_book, IsPastBlock, IsPastVote}
use Rattle.protect_record.specs.Standing.{Stands}
use Rattle.protect_record.proofs.MemberLemmas.{contains_cases, contains_none}
use Rattle.protect_record.proofs.BoundLemmas.{floors_of-append, greater_floors-assoc, greater_floors-comm, greater_floors-same}
use Rattle.record_join.specs.Keys.{key_cmp, kept_of, with_key, with_kept}
use Rattle.record_join.specs.BooksPasts.{EachOnce, known_past, gained, own_grown, own_grown_from, with_file_book, with_file, with_messages}
use Rattle.record_join.specs.BooksPastsLaws.{gained_listed}
use Rattle.record_join.specs.KeyLaws.{same_key, kept_here, kept_apart, changed}
use Rattle.record_replay.specs.Pruning.{pruning_of}
use Rattle.record_replay.specs.Replaying.{lasting_state, lasting_states, with_known}
use Rattle.record_replay.specs.declared.state.KeyState.{KeyState}
use Rattle.record_replay.specs.declared.state.KeyState.TheVariants.{Active, Closing, Closed}
use Rattle.desk_machine.specs.States.{State, Lasting, no_state, past_of, IsActive, IsClosing}
use Rattle.desk_machine.specs.Machine.{Reply, after, lasting_after, torn_first, pruned_keys, MayFail}
use Rattle.desk_machine.specs.declared.call.DeskCall.{DeskCall}
use Rattle.desk_machine.specs.declared.call.DeskCall.TheVariants as call
use Rattle.desk_machine.specs.declared.call.DeskReply.{DeskReply}
use Rattle.desk_machine.specs.declared.call.DeskReply.TheVariants as reply
use Rattle.call_plans.specs.Paths.{Path}
use Rattle.key_custody.specs.Once.{Change, Made, Restarts, Changes, MayLast, Never, BeginsDeletion, SameRecord, WholeFromEmpty}

-- ---- pasts that grow

abbrev pub Kept : Type 0
Kept = List (PubKey × Past)

abbrev pub Grows : Past → Past → Type 0
Grows p q = (b : Book) → Contains p.books b → Contains q.books b

-- each key that is kept stays, with each of its books
abbrev pub Grew : Kept → Kept → Type 0
Grew old new = (q : PubKey) (p : Past) → kept_of old q ≡ Some p → (r : Past) × (kept_of new q ≡ Some r) × Grows p r

pub grew_self : (xs : Kept) → Grew xs xs
grew_self xs q p e = (p, e, λ b h. h)

pub grew_on : (xs ys zs : Kept) → Grew xs ys → Grew ys zs → Grew xs zs
grew_on xs ys zs f g q p e =
    let x = f q p e in
    let y = g q x.0 x.1 in
    (y.0, y.1, λ b h. y.2 b (x.2 b h))

some_inj : {X : Type 0} (a b : X) → Some a ≡ Some b → a ≡ b
some_inj a b e = cc

grew_put : (xs : Kept) (k : PubKey) (x : Past) → ((p : Past) → kept_of xs k ≡ Some p → Grows p x) → Grew xs (with_key xs k x)
grew_put xs k x more q p e = at (is_at (key_cmp k) q) refl where
  at : (b : Bool) → is_at (key_cmp k) q ≡ b → (r : Past) × (kept_of (with_key xs k x) q ≡ Some r) × Grows p r
  at true is =
      let same : k ≡ q = same_key k q is in
      (x, ap (λ z. kept_of (with_key xs k x) z) (sym same) ∙ kept_here xs k x, more p (ap (λ z. kept_of xs z) same ∙ e))
  at false is = (p, kept_apart xs k q x is ∙ e, λ b h. h)

grew_change : (xs : Kept) (k : PubKey) (x p0 : Past) → kept_of xs k ≡ Some p0 → Grows p0 x → Grew xs (with_kept xs k x)
grew_change xs k x p0 has more q p e = at (is_at (key_cmp k) q) refl where
  found : kept_of (with_kept xs k x) q ≡ cond (is_at (key_cmp k) q) (Some x) (kept_of xs q)
  found = changed xs k q x (ap is_some has)

  at : (b : Bool) → is_at (key_cmp k) q ≡ b → (r : Past) × (kept_of (with_kept xs k x) q ≡ Some r) × Grows p r
  at true is =
      let same : k ≡ q = same_key k q is in
      let one : p0 ≡ p = some_inj p0 p (sym has ∙ ap (λ z. kept_of xs z) same ∙ e) in
      (x, found ∙ ap (λ b. cond b (Some x) (kept_of xs q)) is, subst (λ (z : Past). Grows z x) one more)
  at false is = (p, found ∙ ap (λ b. cond b (Some x) (kept_of xs q)) is ∙ e, λ b h. h)

book_grows : (o : Option Past) (b : Book) (p : Past) → o ≡ Some p → Grows p (with_book (known_past o) b)
book_grows o b p e = subst (λ (z : Option Past). Grows p (with_book (known_past z) b)) (sym e) (λ c h. Contains-append_left p.books (b ∷ []) c h)

pub grew_file : (xs : Kept) (books : List (PubKey × Book)) → Grew xs (with_file xs books)
grew_file xs [] = grew_self xs
grew_file xs (b ∷ bs) =
    grew_on xs (with_file_book xs b) (with_file xs (b ∷ bs)) (grew_put xs b.0 (with_book (known_past (kept_of xs b.0)) b.1) (λ p e. book_grows (kept_of xs b.0) b.1 p e)) (grew_file (with_file_book xs b) bs)

grew_known : (xs : Kept) (k : PubKey) (b : Bool) → is_some (kept_of xs k) ≡ b → Grew xs (cond b xs (with_key xs k no_past))
grew_known xs k true e = grew_self xs
grew_known xs k false e = grew_put xs k no_past (λ p is. absurd (let bad : true ≡ false = sym (ap is_some is) ∙ e in cc))

grew_own : (xs : Kept) (k : PubKey) (m : Message) (o : Option Past) → kept_of xs k ≡ o → Grew xs (own_grown_from xs k m o)
grew_own xs k m None e = grew_self xs
grew_own xs k m (Some p) e = grew_change xs k (with_own p m) p e (λ b h. h)

grew_pruned : (xs : Kept) (k : PubKey) (o : Option Past) → Grew xs (pruned_keys xs k o)
grew_pruned xs k None = grew_self xs
grew_pruned xs k (Some p) = grew_file xs ((k, pruning_of p) ∷ [])

grew_messages : (xs : Kept) (listed : List (PubKey × Message)) → Grew xs (with_messages xs listed)
grew_messages xs [] = grew_self xs
grew_messages xs (one ∷ listed) =
    grew_on xs (own_grown xs one.0 one.1) (with_messages xs (one ∷ listed)) (grew_own xs one.0 one.1 (kept_of xs one.0) refl) (grew_messages (own_grown xs one.0 one.1) listed)

pub grew_lasting : (a : State) (c : DeskCall) → Grew a.keys (lasting_after a c).keys
grew_lasting a (call.Merge file) = grew_file a.keys file.books
grew_lasting a (call.Activate k now) = grew_known a.keys k (is_some (kept_of a.keys k)) refl
grew_lasting a (call.Propose k m now) = grew_own a.keys k m (kept_of a.keys k) refl
grew_lasting a (call.Record ps now) = grew_messages a.keys ps
grew_lasting a (call.Prune k) = grew_pruned a.keys k (past_of a k)
grew_lasting a (call.Allow k now) = grew_self a.keys
grew_lasting a (call.Answer k e l now) = grew_self a.keys
grew_lasting a (call.Settle g o) = grew_self a.keys
grew_lasting a (call.BeginClose k) = grew_self a.keys
grew_lasting a (call.FinishClose k) = grew_self a.keys
grew_lasting a (call.Export keys) = grew_self a.keys
grew_lasting a call.Keys = grew_self a.keys
grew_lasting a call.HasFailed = grew_self a.keys
grew_lasting a call.Size = grew_self a.keys
grew_lasting a call.Compact = grew_self a.keys

-- ---- an active key

-- a call that changes states: it began the closing of an active key, or ended one
abbrev pub CanLast : State → DeskCall → Type 0
CanLast a (call.BeginClose k) = IsActive a k
CanLast a (call.FinishClose k) = IsClosing a k
CanLast a c = Unit {0}

-- the deletion of the key is begun by it
abbrev pub BeginsCall : PubKey → DeskCall → Type 0
BeginsCall key (call.BeginClose k) = k ≡ key
BeginsCall key c = ⊥

some_there : {X : Type 0} (o : Option X) (x : X) → o ≡ Some x → IsSome o
some_there o x e = ap is_some e

active_closing : {A : Type 0} (o : Option KeyState) → o ≡ Some Active → o ≡ Some Closing → A
active_closing o e f = absurd (let bad : Some Active ≡ Some Closing = sym e ∙ f in cc)

active_put : (states : List (PubKey × KeyState)) (key k : PubKey) → kept_of states key ≡ Some Active → kept_of (with_key states k Active) key ≡ Some Active
active_put states key k h = at (is_at (key_cmp k) key) refl where
  at : (b : Bool) → is_at (key_cmp k) key ≡ b → kept_of (with_key states k Active) key ≡ Some Active
  at true e = ap (λ z. kept_of (with_key states k Active) z) (sym (same_key k key e)) ∙ kept_here states k Active
  at false e = kept_apart states k key Active e ∙ h

active_other : (states : List (PubKey × KeyState)) (key k : PubKey) (s : KeyState) → IsSome (kept_of states k) → (k ≡ key → ⊥) → kept_of states key ≡ Some Active → kept_of (with_kept states k s) key ≡ Some Active
active_other states key k s has other h = changed states k key s has ∙ at (is_at (key_cmp k) key) refl where
  at : (b : Bool) → is_at (key_cmp k) key ≡ b → cond b (Some s) (kept_of states key) ≡ Some Active
  at true e = absurd (other (same_key k key e))
  at false e = h

pub active_lasting : (a : State) (key : PubKey) (c : DeskCall) → CanLast a c → ¬ (BeginsCall key c) → kept_of a.states key ≡ Some Active → kept_of (lasting_after a c).states key ≡ Some Active
active_lasting a key (call.Merge file) can apart h = h
active_lasting a key (call.Activate k now) can apart h = active_put a.states key k h
active_lasting a key (call.Propose k m now) can apart h = h
active_lasting a key (call.Record ps now) can apart h = h
active_lasting a key (call.Prune k) can apart h = h
active_lasting a key (call.Allow k now) can apart h = h
active_lasting a key (call.Answer k e l now) can apart h = h
active_lasting a key (call.Settle g o) can apart h = h
active_lasting a key (call.BeginClose k) can apart h = active_other a.states key k Closing (some_there (kept_of a.states k) Active can) apart h
active_lasting a key (call.FinishClose k) can apart h =
    active_other a.states key k Closed (some_there (kept_of a.states k) Closing can) (λ e. active_closing (kept_of a.states key) h (subst (λ (q : PubKey). kept_of a.states q ≡ Some Closing) e can)) h
active_lasting a key (call.Export keys) can apart h = h
active_lasting a key call.Keys can apart h = h
active_lasting a key call.HasFailed can apart h = h
active_lasting a key call.Size can apart h = h
active_lasting a key call.Compact can apart h = h

-- ---- what a call leaves of keys and states

pub record AsBefore (a b : State) : Type 0 where
  pub keys : b.keys ≡ a.keys
  pub states : b.states ≡ a.states
  pub torn : b.torn ≡ a.torn

pub record IsDone (a : State) (c : DeskCall) (b : State) : Type 0 where
  pub can : CanLast a c
  pub keys : b.keys ≡ (lasting_after a c).keys
  pub states : b.states ≡ (lasting_after a c).states
  pub torn : b.torn ≡ a.torn

pub record IsTorn (a : State) (c : DeskCall) (b : State) : Type 0 where
  pub can : a.torn ≡ None → CanLast a c
  pub keys : b.keys ≡ a.keys
  pub states : b.states ≡ a.states
  pub torn : b.torn ≡ torn_first a.torn (lasting_after a c)

abbrev pub Leaves : State → DeskCall → State → Type 0
Leaves a c b = AsBefore a b ⊎ IsDone a c b ⊎ IsTorn a c b

as_before : (a : State) (c : DeskCall) (b : State) → b.keys ≡ a.keys → b.states ≡ a.states → b.torn ≡ a.torn → Leaves a c b
as_before a c b k s t = inl (record { keys = k; states = s; torn = t })

is_done : (a : State) (c : DeskCall) (b : State) → CanLast a c → b.keys ≡ (lasting_after a c).keys → b.states ≡ (lasting_after a c).states → b.torn ≡ a.torn → Leaves a c b
is_done a c b can k s t = inr (inl (record { can = can; keys = k; states = s; torn = t }))

is_torn : (a : State) (c : DeskCall) (b : State) → (a.torn ≡ None → CanLast a c) → b.keys ≡ a.keys → b.states ≡ a.states → b.torn ≡ torn_first a.torn (lasting_after a c) → Leaves a c b
is_torn a c b can k s t = inr (inr (record { can = can; keys = k; states = s; torn = t }))

fails_closing : (a : State) (k : PubKey) → MayFail a (call.FinishClose k) → a.torn ≡ None → IsClosing a k
fails_closing a k (inl some) e = absurd (let bad : true ≡ false = sym some ∙ ap is_some e in cc)
fails_closing a k (inr x) e = x.1.1

pub leaves : (a : State) (c : DeskCall) (r : DeskReply) → Reply a c r → Leaves a c (after a c r)
leaves a (call.Merge file) (reply.Merged n) ok = is_done a (call.Merge file) (after a (call.Merge file) (reply.Merged n)) tt refl refl refl
leaves a (call.Activate k now) reply.Active ok = is_done a (call.Activate k now) (after a (call.Activate k now) reply.Active) tt refl refl refl
leaves a (call.Propose k m now) (reply.Granted g) ok = is_done a (call.Propose k m now) (after a (call.Propose k m now) (reply.Granted g)) tt refl refl refl
leaves a (call.Record ps now) reply.Recorded ok = is_done a (call.Record ps now) (after a (call.Record ps now) reply.Recorded) tt refl refl refl
leaves a (call.Prune k) (reply.Pruned book) ok = is_done a (call.Prune k) (after a (call.Prune k) (reply.Pruned book)) tt refl refl refl
leaves a (call.Allow k now) (reply.Granted g) ok = as_before a (call.Allow k now) (after a (call.Allow k now) (reply.Granted g)) refl refl refl
leaves a (call.Answer k e l now) reply.Noted ok = as_before a (call.Answer k e l now) (after a (call.Answer k e l now) reply.Noted) refl refl refl
leaves a (call.Settle g o) reply.Settled ok = as_before a (call.Settle g o) (after a (call.Settle g o) reply.Settled) refl refl refl
leaves a (call.BeginClose k) reply.CloseBegun ok = is_done a (call.BeginClose k) (after a (call.BeginClose k) reply.CloseBegun) ok.1 refl refl refl
leaves a (call.FinishClose k) (reply.Closed book) ok = is_done a (call.FinishClose k) (after a (call.FinishClose k) (reply.Closed book)) ok.0.1.1 refl refl refl
leaves a call.Compact (reply.Compacted before size) ok = is_done a call.Compact (after a call.Compact (reply.Compacted before size)) tt refl refl refl
leaves a (call.Merge file) reply.Disk ok = is_torn a (call.Merge file) (after a (call.Merge file) reply.Disk) (λ e. tt) refl refl refl
leaves a (call.Activate k now) reply.Disk ok = is_torn a (call.Activate k now) (after a (call.Activate k now) reply.Disk) (λ e. tt) refl refl refl
leaves a (call.Propose k m now) reply.Disk ok = is_torn a (call.Propose k m now) (after a (call.Propose k m now) reply.Disk) (λ e. tt) refl refl refl
leaves a (call.Allow k now) reply.Disk ok = is_torn a (call.Allow k now) (after a (call.Allow k now) reply.Disk) (λ e. tt) refl refl refl
leaves a (call.FinishClose k) reply.Disk ok = is_torn a (call.FinishClose k) (after a (call.FinishClose k) reply.Disk) (fails_closing a k ok) refl refl refl
leaves a (call.Record ps now) reply.Disk ok = is_torn a (call.Record ps now) (after a (call.Record ps now) reply.Disk) (λ e. tt) refl refl refl
leaves a (call.Prune k) reply.Disk ok = is_torn a (call.Prune k) (after a (call.Prune k) reply.Disk) (λ e. tt) refl refl refl
leaves a call.Compact reply.Disk ok = is_torn a call.Compact (after a call.Compact reply.Disk) (λ e. tt) refl refl refl
leaves a (call.Answer k e l now) reply.Disk ok = absurd ok
leaves a (call.Settle g o) reply.Disk ok = absurd ok
leaves a (call.BeginClose k) reply.Disk ok = absurd ok
leaves a (call.Export keys) reply.Disk ok = absurd ok
leaves a call.Keys reply.Disk ok = absurd ok
leaves a call.HasFailed reply.Disk ok = absurd ok
leaves a call.Size reply.Disk ok = absurd ok
leaves a c r ok = as_before a c (after a c r) refl refl refl

-- ---- a key that was taken in, since the pasts were these

abbrev pub Held : Kept → PubKey → Kept → List (PubKey × KeyState) → Type 0
Held since key keys states = (kept_of states key ≡ Some Active) × Grew since keys

abbrev pub HeldTorn : Kept → PubKey → Option Lasting → Type 0
HeldTorn since key None = Unit {0}
HeldTorn since key (Some l) = Held since key l.keys l.states

abbrev pub Holds : Kept → PubKey → State → Type 0
Holds since key a = Held since key a.keys a.states × HeldTorn since key a.torn

held_lasting : (since : Kept) (a : State) (key : PubKey) (c : DeskCall) → CanLast a c → ¬ (BeginsCall key c) → Held since key a.keys a.states → Held since key (lasting_after a c).keys (lasting_after a c).states
held_lasting since a key c can apart h = (active_lasting a key c can apart h.0, grew_on since a.keys (lasting_after a c).keys h.1 (grew_lasting a c))

held_same : (since : Kept) (key : PubKey) (ks ks' : Kept) (ss ss' : List (PubKey × KeyState)) → ks' ≡ ks → ss' ≡ ss → Held since key ks ss → Held since key ks' ss'
held_same since key ks ks' ss ss' e f h = subst (λ (x : Kept). Held since key x ss') (sym e) (subst (λ (x : List (PubKey × KeyState)). Held since key ks x) (sym f) h)

torn_held : (since : Kept) (key : PubKey) (o : Option Lasting) (l : Lasting) → HeldTorn since key o → (o ≡ None → Held since key l.keys l.states) → HeldTorn since key (torn_first o l)
torn_held since key None l h new = new refl
torn_held since key (Some first) l h new = h

holds_leaves : (since : Kept) (a b : State) (key : PubKey) (c : DeskCall) → Leaves a c b → ¬ (BeginsCall key c) → Holds since key a → Holds since key b
holds_leaves since a b key c (inl s) apart h = (held_same since key a.keys b.keys a.states b.states s.keys s.states h.0, subst (HeldTorn since key) (sym s.torn) h.1)
holds_leaves since a b key c (inr (inl s)) apart h =
    (held_same since key (lasting_after a c).keys b.keys (lasting_after a c).states b.states s.keys s.states (held_lasting since a key c s.can apart h.0), subst (HeldTorn since key) (sym s.torn) h.1)
holds_leaves since a b key c (inr (inr s)) apart h =
    (held_same since key a.keys b.keys a.states b.states s.keys s.states h.0, subst (HeldTorn since key) (sym s.torn) (torn_held since key a.torn (lasting_after a c) h.1 (λ e. held_lasting since a key c (s.can e) apart h.0)))

begins_call : (key : PubKey) (c : DeskCall) (r : DeskReply) → BeginsCall key c → BeginsDeletion key (Made c r)
begins_call key (call.BeginClose k) r h = h
begins_call key c r h = absurd h

held_opened : (since : Kept) (key : PubKey) (l : Lasting) → Held since key l.keys l.states → Held since key l.keys (lasting_states l.states)
held_opened since key l h = (lookup-map_values lasting_state (is_at (key_cmp key)) l.states ∙ ap (option_map lasting_state) h.0, h.1)

lasts_held : (since : Kept) (a : State) (key : PubKey) (l : Lasting) → MayLast a l → Holds since key a → Held since key l.keys l.states
lasts_held since a key l (inl e) h = let P : Lasting → Type 0 = λ x. Held since key x.keys x.states in subst P (sym e) h.0
lasts_held since a key l (inr e) h = subst (HeldTorn since key) e h.1

holds_change : (since : Kept) (a b : State) (key : PubKey) (x : Change) → Changes a x b → ¬ (BeginsDeletion key x) → Holds since key a → Holds since key b
holds_change since a b key (Made c r) moves apart h = subst (Holds since key) (sym moves.1) (holds_leaves since a (after a c r) key c (leaves a c r moves.0) (λ e. apart (begins_call key c r e)) h)
holds_change since a b key (Restarts watch now) opens apart h = subst (Holds since key) (sym opens.2) (held_opened since key opens.0 (lasts_held since a key opens.0 opens.1 h), tt)

pub holds_between : (since : Kept) (a b : State) (key : PubKey) (between : List Change) → Path Changes a between b → Never (BeginsDeletion key) between → Holds since key a → Holds since key b
holds_between since a b key [] w apart h = subst (Holds since key) (sym w) h
holds_between since a b key (x ∷ xs) w apart h = holds_between since w.0 b key xs w.2 apart.1 (holds_change since a w.0 key x w.1 apart.0 h)

-- ---- the pasts alone

abbrev pub SinceTorn : Kept → Option Lasting → Type 0
SinceTorn since None = Unit {0}
SinceTorn since (Some l) = Grew since l.keys

abbrev pub Since : Kept → State → Type 0
Since since a = Grew since a.keys × SinceTorn since a.torn

torn_since : (since : Kept) (o : Option Lasting) (l : Lasting) → SinceTorn since o → Grew since l.keys → SinceTorn since (torn_first o l)
torn_since since None l h new = new
torn_since since (Some first) l h new = h

since_leaves : (since : Kept) (a b : State) (c : DeskCall) → Leaves a c b → Since since a → Since since b
since_leaves since a b c (inl s) h = (subst (Grew since) (sym s.keys) h.0, subst (SinceTorn since) (sym s.torn) h.1)
since_leaves since a b c (inr (inl s)) h = (subst (Grew since) (sym s.keys) (grew_on since a.keys (lasting_after a c).keys h.0 (grew_lasting a c)), subst (SinceTorn since) (sym s.torn) h.1)
since_leaves since a b c (inr (inr s)) h =
    (subst (Grew since) (sym s.keys) h.0, subst (SinceTorn since) (sym s.torn) (torn_since since a.torn (lasting_after a c) h.1 (grew_on since a.keys (lasting_after a c).keys h.0 (grew_lasting a c))))

since_lasts : (since : Kept) (a : State) (l : Lasting) → MayLast a l → Since since a → Grew since l.keys
since_lasts since a l (inl e) h = subst (λ (x : Lasting). Grew since x.keys) (sym e) h.0
since_lasts since a l (inr e) h = subst (SinceTorn since) e h.1

pub since_between : (since : Kept) (a b : State) (between : List Change) → Path Changes a between b → Since since a → Since since b
since_between since a b [] w h = subst (Since since) (sym w) h
since_between since a b (Made c r ∷ xs) w h = since_between since w.0 b xs w.2 (subst (Since since) (sym w.1.1) (since_leaves since a (after a c r) c (leaves a c r w.1.0) h))
since_between since a b (Restarts watch now ∷ xs) w h = since_between since w.0 b xs w.2 (subst (Since since) (sym w.1.2) (since_lasts since a w.1.0 w.1.1 h, tt))

-- ---- a book that was there already

floors_again : (books : List Book) (b : Book) → Contains books b → greater_floors (floors_of books) (floors_of (b ∷ [])) ≡ floors_of books
floors_again [] b h = contains_none b h
floors_again (x ∷ xs) b h =
    let one : Book → Floors = λ y. floors_of (y ∷ []) in
    let split : floors_of (x ∷ xs) ≡ greater_floors (one x) (floors_of xs) = floors_of-append (x ∷ []) xs in
    ap (λ f. greater_floors f (one b)) split ∙ at (contains_cases x xs b h) (floors_again xs b) ∙ sym split where
      at : (x ≡ b) ⊎ Contains xs b → (Contains xs b → greater_floors (floors_of xs) (floors_of (b ∷ [])) ≡ floors_of xs)
          → greater_floors (greater_floors (floors_of (x ∷ [])) (floors_of xs)) (floors_of (b ∷ [])) ≡ greater_floors (floors_of (x ∷ [])) (floors_of xs)
      at (inl e) rest =
          let fx : Floors = floors_of (x ∷ []) in
          let f : Floors = floors_of xs in
          ap (λ y. greater_floors (greater_floors fx f) (floors_of (y ∷ []))) (sym e)
          ∙ greater_floors-comm (greater_floors fx f) fx ∙ sym (greater_floors-assoc fx fx f) ∙ ap (λ g. greater_floors g f) (greater_floors-same fx)
      at (inr later) rest = greater_floors-assoc (floors_of (x ∷ [])) (floors_of xs) (floors_of (b ∷ [])) ∙ ap (λ g. greater_floors (floors_of (x ∷ [])) g) (rest later)

floors_with : (past : Past) (b : Book) → Contains past.books b → floors_of (with_book past b).books ≡ floors_of past.books
floors_with past b h = floors_of-append past.books (b ∷ []) ∙ floors_again past.books b h

among_again : (past : Past) (b c : Book) → Contains past.books b → Contains (with_book past b).books c → Contains past.books c
among_again past b c has h = at (Contains-push_cases past.books b c h) where
  at : Contains past.books c ⊎ (b ≡ c) → Contains past.books c
  at (inl x) = x
  at (inr e) = subst (λ (z : Book). Contains past.books z) e has

block_forth : (past : Past) (b : Book) (e : BlockEntry) → IsPastBlock past e → IsPastBlock (with_book past b) e
block_forth past b e (inl x) = inl (x.0, Contains-append_left past.books (b ∷ []) x.0 x.1, x.2)
block_forth past b e (inr x) = inr x

block_back : (past : Past) (b : Book) (e : BlockEntry) → Contains past.books b → IsPastBlock (with_book past b) e → IsPastBlock past e
block_back past b e has (inl x) = inl (x.0, among_again past b x.0 has x.1, x.2)
block_back past b e has (inr x) = inr x

vote_forth : (past : Past) (b : Book) (e : VoteEntry) → IsPastVote past e → IsPastVote (with_book past b) e
vote_forth past b e (inl x) = inl (x.0, Contains-append_left past.books (b ∷ []) x.0 x.1, x.2)
vote_forth past b e (inr x) = inr x

vote_back : (past : Past) (b : Book) (e : VoteEntry) → Contains past.books b → IsPastVote (with_book past b) e → IsPastVote past e
vote_back past b e has (inl x) = inl (x.0, among_again past b x.0 has x.1, x.2)
vote_back past b e has (inr x) = inr x

pub stands_again : (past : Past) (b : Book) (parts : Parts) → Contains past.books b → Stands parts past ↔ Stands parts (with_book past b)
stands_again past b parts has = (
  λ s. record {
    floors = s.floors ∙ sym (floors_with past b has);
    blocks = λ e. (λ h. let x = (s.blocks e).0 h in (block_forth past b e x.0, x.1), λ x. (s.blocks e).1 (block_back past b e has x.0, x.1));
    votes = λ e. (λ h. let x = (s.votes e).0 h in (vote_forth past b e x.0, x.1), λ x. (s.votes e).1 (vote_back past b e has x.0, x.1));
    blocks_in_order = s.blocks_in_order;
    votes_in_order = s.votes_in_order;
  },
  λ s. record {
    floors = s.floors ∙ floors_with past b has;
    blocks = λ e. (λ h. let x = (s.blocks e).0 h in (block_back past b e has x.0, x.1), λ x. (s.blocks e).1 (block_forth past b e x.0, x.1));
    votes = λ e. (λ h. let x = (s.votes e).0 h in (vote_back past b e has x.0, x.1), λ x. (s.votes e).1 (vote_forth past b e x.0, x.1));
    blocks_in_order = s.blocks_in_order;
    votes_in_order = s.votes_in_order;
  },
)

-- the pasts have each book of the file
abbrev pub HasBooks : List (PubKey × Book) → Kept → Type 0
HasBooks books keys = (k : PubKey) (b : Book) → kept_of books k ≡ Some b → IsSomeAnd (kept_of keys k) (λ p. Contains p.books b)

pub merged_has : (keys : Kept) (books : List (PubKey × Book)) → EachOnce books → HasBooks books (with_file keys books)
merged_has keys books once k b e =
    let is : kept_of (with_file keys books) k ≡ Some (with_book (known_past (kept_of keys k)) b) = gained_listed with_book keys books k once ∙ ap (gained with_book (kept_of keys k)) e in
    let P : Option Past → Type 0 = λ o. IsSomeAnd o (λ p. Contains p.books b) in subst P (sym is) (Contains-push (known_past (kept_of keys k)).books b)

pub has_on : (books : List (PubKey × Book)) (xs ys : Kept) → Grew xs ys → HasBooks books xs → HasBooks books ys
has_on books xs ys grew h k b e = at (kept_of xs k) refl (h k b e) where
  at : (o : Option Past) → kept_of xs k ≡ o → IsSomeAnd o (λ p. Contains p.books b) → IsSomeAnd (kept_of ys k) (λ p. Contains p.books b)
  at None is x = absurd x
  at (Some p) is x =
      let g = grew k p is in
      let P : Option Past → Type 0 = λ o. IsSomeAnd o (λ q. Contains q.books b) in subst P (sym g.1) (g.2 b x)

pub same_self : (o : Option Past) → SameRecord o o
same_self None = tt
same_self (Some p) = λ parts. (λ s. s, λ s. s)

-- a file whose books are there changes no record
pub merged_same : (keys : Kept) (books : List (PubKey × Book)) → EachOnce books → HasBooks books keys → (k : PubKey) → SameRecord (kept_of keys k) (kept_of (with_file keys books) k)
merged_same keys books once has k = subst (λ (o : Option Past). SameRecord (kept_of keys k) o) (sym (gained_listed with_book keys books k once)) (at (kept_of books k) refl (kept_of keys k) refl) where
  at : (l : Option Book) → kept_of books k ≡ l → (o : Option Past) → kept_of keys k ≡ o → SameRecord o (gained with_book o l)
  at None e o f = same_self o
  at (Some b) e None f = absurd (let P : Option Past → Type 0 = λ z. IsSomeAnd z (λ p. Contains p.books b) in subst P f (has k b e))
  at (Some b) e (Some p) f =
      let P : Option Past → Type 0 = λ z. IsSomeAnd z (λ q. Contains q.books b) in
      let there : Contains p.books b = subst P f (has k b e) in
      λ parts. stands_again p b parts there

-- ---- a key of which no past is kept has no state

abbrev pub WholeIn : Kept → List (PubKey × KeyState) → Type 0
WholeIn keys states = (q : PubKey) → kept_of keys q ≡ None → kept_of states q ≡ None

-- a key of which none is kept now was not kept before
pub was_none : (xs ys : Kept) (q : PubKey) → Grew xs ys → kept_of ys q ≡ None → kept_of xs q ≡ None
was_none xs ys q grew e = at (kept_of xs q) refl where
  at : (o : Option Past) → kept_of xs q ≡ o → o ≡ None
  at None is = refl
  at (Some p) is = let g = grew q p is in absurd (let bad : None ≡ Some g.0 = sym e ∙ g.1 in cc)

pub known_some : (keys : Kept) (k : PubKey) → IsSome (kept_of (with_known keys k) k)
known_some keys k = at (is_some (kept_of keys k)) refl where
  at : (b : Bool) → is_some (kept_of keys k) ≡ b → IsSome (kept_of (cond b keys (with_key keys k no_past)) k)
  at true e = e
  at false e = ap is_some (kept_here keys k no_past)

pub whole_activated : (keys : Kept) (states : List (PubKey × KeyState)) (k : PubKey) → WholeIn keys states → WholeIn (with_known keys k) (with_key states k Active)
whole_activated keys states k whole q e = at (is_at (key_cmp k) q) refl where
  at : (b : Bool) → is_at (key_cmp k) q ≡ b → kept_of (with_key states k Active) q ≡ None
  at true is =
      let here : kept_of (with_known keys k) k ≡ None = ap (λ z. kept_of (with_known keys k) z) (same_key k q is) ∙ e in
      absurd (let bad : false ≡ true = sym (ap is_some here) ∙ known_some keys k in cc)
  at false is = kept_apart states k q Active is ∙ whole q (was_none keys (with_known keys k) q (grew_known keys k (is_some (kept_of keys k)) refl) e)

whole_kept : (keys : Kept) (states : List (PubKey × KeyState)) (k : PubKey) (s : KeyState) → IsSome (kept_of states k) → WholeIn keys states → WholeIn keys (with_kept states k s)
whole_kept keys states k s has whole q e = changed states k q s has ∙ at (is_at (key_cmp k) q) refl where
  at : (b : Bool) → is_at (key_cmp k) q ≡ b → cond b (Some s) (kept_of states q) ≡ None
  at true is =
      let here : kept_of states k ≡ None = ap (λ z. kept_of states z) (same_key k q is) ∙ whole q e in
      absurd (let bad : false ≡ true = sym (ap is_some here) ∙ has in cc)
  at false is = whole q e

pub whole_lasting : (a : State) (c : DeskCall) → CanLast a c → WholeIn a.keys a.states → WholeIn (lasting_after a c).keys (lasting_after a c).states
whole_lasting a (call.Merge file) can w = λ q e. w q (was_none a.keys (lasting_after a (call.Merge file)).keys q (grew_lasting a (call.Merge file)) e)
whole_lasting a (call.Activate k now) can w = whole_activated a.keys a.states k w
whole_lasting a (call.Propose k m now) can w = λ q e. w q (was_none a.keys (lasting_after a (call.Propose k m now)).keys q (grew_lasting a (call.Propose k m now)) e)
whole_lasting a (call.Record ps now) can w = λ q e. w q (was_none a.keys (lasting_after a (call.Record ps now)).keys q (grew_lasting a (call.Record ps now)) e)
whole_lasting a (call.Prune k) can w = λ q e. w q (was_none a.keys (lasting_after a (call.Prune k)).keys q (grew_lasting a (call.Prune k)) e)
whole_lasting a (call.Allow k now) can w = w
whole_lasting a (call.Answer k e l now) can w = w
whole_lasting a (call.Settle g o) can w = w
whole_lasting a (call.BeginClose k) can w = whole_kept a.keys a.states k Closing (some_there (kept_of a.states k) Active can) w
whole_lasting a (call.FinishClose k) can w = whole_kept a.keys a.states k Closed (some_there (kept_of a.states k) Closing can) w
whole_lasting a (call.Export keys) can w = w
whole_lasting a call.Keys can w = w
whole_lasting a call.HasFailed can w = w
whole_lasting a call.Size can w = w
whole_lasting a call.Compact can w = w

abbrev pub WholeTorn : Option Lasting → Type 0
WholeTorn None = Unit {0}
WholeTorn (Some l) = WholeIn l.keys l.states

abbrev pub WholeThrough : State → Type 0
WholeThrough a = WholeIn a.keys a.states × WholeTorn a.torn

whole_same : (ks ks' : Kept) (ss ss' : List (PubKey × KeyState)) → ks' ≡ ks → ss' ≡ ss → WholeIn ks ss → WholeIn ks' ss'
whole_same ks ks' ss ss' e f h = subst (λ (x : Kept). WholeIn x ss') (sym e) (subst (λ (x : List (PubKey × KeyState)). WholeIn ks x) (sym f) h)

torn_whole : (o : Option Lasting) (l : Lasting) → WholeTorn o → (o ≡ None → WholeIn l.keys l.states) → WholeTorn (torn_first o l)
torn_whole None l h new = new refl
torn_whole (Some first) l h new = h

pub whole_leaves : (a b : State) (c : DeskCall) → Leaves a c b → WholeThrough a → WholeThrough b
whole_leaves a b c (inl s) h = (whole_same a.keys b.keys a.states b.states s.keys s.states h.0, subst WholeTorn (sym s.torn) h.1)
whole_leaves a b c (inr (inl s)) h = (whole_same (lasting_after a c).keys b.keys (lasting_after a c).states b.states s.keys s.states (whole_lasting a c s.can h.0), subst WholeTorn (sym s.torn) h.1)
whole_leaves a b c (inr (inr s)) h = (whole_same a.keys b.keys a.states b.states s.keys s.states h.0, subst WholeTorn (sym s.torn) (torn_whole a.torn (lasting_after a c) h.1 (λ e. whole_lasting a c (s.can e) h.0)))

whole_lasts : (a : State) (l : Lasting) → MayLast a l → WholeThrough a → WholeIn l.keys l.states
whole_lasts a l (inl e) h = let P : Lasting → Type 0 = λ x. WholeIn x.keys x.states in subst P (sym e) h.0
whole_lasts a l (inr e) h = subst WholeTorn e h.1

pub whole_opened : (l : Lasting) → WholeIn l.keys l.states → WholeIn l.keys (lasting_states l.states)
whole_opened l w q e = lookup-map_values lasting_state (is_at (key_cmp q)) l.states ∙ ap (option_map lasting_state) (w q e)

whole_between : (a b : State) (between : List Change) → Path Changes a between b → WholeThrough a → WholeThrough b
whole_between a b [] w h = subst WholeThrough (sym w) h
whole_between a b (Made c r ∷ xs) w h = whole_between w.0 b xs w.2 (subst WholeThrough (sym w.1.1) (whole_leaves a (after a c r) c (leaves a c r w.1.0) h))
whole_between a b (Restarts watch now ∷ xs) w h = whole_between w.0 b xs w.2 (subst WholeThrough (sym w.1.2) (whole_opened w.1.0 (whole_lasts a w.1.0 w.1.1 h), tt))

pub whole_from_empty : WholeFromEmpty
whole_from_empty genesis between a w = (whole_between (no_state genesis) a between w (λ q e. refl, tt)).0
