-- A key that is neither active nor being closed stays so until it is activated, and its past stays but for merges and prunes of it.
use Rattle.std.proofs.Common.{◌≡◌, ◌≢◌, ◌⊎◌, inl, inr, Bool, true, false, cond, List, [], ◌∷◌, Option, Some, None, refl, sym, ◌∙◌, ap, subst}
use Rattle.std.specs.Prelude.{Contains, IsSome, is_some, option_map}
use Rattle.std.specs.BTreeMap.{is_at}
use Rattle.std.proofs.lemmas.Map.Made.{lookup-map_values}
use Rattle.edge_kit.specs.declared.bytes.PubKey.{PubKey}
use Rattle.slash_defs.specs.declared.book.Book.{Book}
use Rattle.slash_defs.specs.declared.message.Message.{Message}
use Rattle.protect_record.specs.Pasts.{Past, no_past, with_book, with_own}
use Rattle.protect_record.proofs.MemberLemmas.{contains_first, contains_later}
use Rattle.record_join.specs.Keys.{key_cmp, kept_of, with_key, with_kept}
use Rattle.record_join.specs.BooksPasts.{known_past, own_grown, own_grown_from, with_file, with_file_book, with_messages}
use Rattle.record_join.specs.KeyLaws.{same_key, apart_back, kept_apart, changed}
use Rattle.record_replay.specs.Pruning.{pruning_of}
use Rattle.record_replay.specs.Replaying.{lasting_state, lasting_states, with_known}
use Rattle.record_replay.specs.declared.state.KeyState.{KeyState}
use Rattle.record_replay.specs.declared.state.KeyState.TheVariants.{Known, Active, Closing, Closed}
use Rattle.desk_machine.specs.States.{State, Lasting, past_of, IsActive, IsClosing}
use Rattle.desk_machine.specs.Machine.{Reply, after, lasting_after, pruned_keys, torn_first, Proceeds, MayFail}
use Rattle.desk_machine.specs.declared.call.DeskCall.{DeskCall}
use Rattle.desk_machine.specs.declared.call.DeskCall.TheVariants as call
use Rattle.desk_machine.specs.declared.call.DeskReply.{DeskReply}
use Rattle.desk_machine.specs.declared.call.DeskReply.TheVariants as reply
use Rattle.call_plans.specs.Paths.{Path}
use Rattle.key_custody.specs.Once.{Change, Made, Restarts, Changes, MayLast, Never, Activates, MergesOrPrunes}

-- ---- a key at rest

abbrev pub AtRest : Option KeyState → Type 0
AtRest None = Unit {0}
AtRest (Some Known) = Unit {0}
AtRest (Some Active) = ⊥
AtRest (Some Closing) = ⊥
AtRest (Some Closed) = Unit {0}

abbrev pub RestsIn : PubKey → List (PubKey × KeyState) → Type 0
RestsIn key states = AtRest (kept_of states key)

abbrev pub RestsTorn : PubKey → Option Lasting → Type 0
RestsTorn key None = Unit {0}
RestsTorn key (Some l) = RestsIn key l.states

-- also where a torn call lasts
abbrev pub Rests : PubKey → State → Type 0
Rests key a = RestsIn key a.states × RestsTorn key a.torn

pub not_active : {A : Type 0} (key : PubKey) (states : List (PubKey × KeyState)) → RestsIn key states → kept_of states key ≡ Some Active → A
not_active key states h e = absurd (subst AtRest e h)

pub not_closing : {A : Type 0} (key : PubKey) (states : List (PubKey × KeyState)) → RestsIn key states → kept_of states key ≡ Some Closing → A
not_closing key states h e = absurd (subst AtRest e h)

pub idle_rests : (o : Option KeyState) → o ≢ Some Active → o ≢ Some Closing → AtRest o
idle_rests None h k = tt
idle_rests (Some Known) h k = tt
idle_rests (Some Active) h k = h refl
idle_rests (Some Closing) h k = k refl
idle_rests (Some Closed) h k = tt

some_there : {X : Type 0} (o : Option X) (x : X) → o ≡ Some x → IsSome o
some_there o x e = ap is_some e

-- another state of another key
pub rests_with_key : (key k : PubKey) (states : List (PubKey × KeyState)) (s : KeyState) → (k ≡ key → ⊥) → RestsIn key states → RestsIn key (with_key states k s)
rests_with_key key k states s other h = at (is_at (key_cmp k) key) refl where
  at : (b : Bool) → is_at (key_cmp k) key ≡ b → RestsIn key (with_key states k s)
  at true e = absurd (other (same_key k key e))
  at false e = subst AtRest (sym (kept_apart states k key s e)) h

-- another state of a key that has one, itself at rest where it is this one
pub rests_with_kept : (key k : PubKey) (states : List (PubKey × KeyState)) (s : KeyState) → IsSome (kept_of states k) → (k ≡ key → AtRest (Some s)) → RestsIn key states → RestsIn key (with_kept states k s)
rests_with_kept key k states s has here h = subst AtRest (sym (changed states k key s has)) (at (is_at (key_cmp k) key) refl) where
  at : (b : Bool) → is_at (key_cmp k) key ≡ b → AtRest (cond b (Some s) (kept_of states key))
  at true e = here (same_key k key e)
  at false e = h

-- ---- through a call

torn_rests : (key : PubKey) (o : Option Lasting) (l : Lasting) → RestsTorn key o → (o ≡ None → RestsIn key l.states) → RestsTorn key (torn_first o l)
torn_rests key None l h new = new refl
torn_rests key (Some first) l h new = h

up_fails : (o : Option Lasting) (P : Type 0) → o ≡ None → IsSome o ⊎ ((o ≡ None) × P) → P
up_fails o P e (inl some) = absurd (let bad : true ≡ false = sym some ∙ ap is_some e in cc)
up_fails o P e (inr h) = h.1

closes_rest : (a : State) (key k : PubKey) → Rests key a → IsClosing a k → RestsIn key (with_kept a.states k Closed)
closes_rest a key k h closing = rests_with_kept key k a.states Closed (some_there (kept_of a.states k) Closing closing) (λ e. tt) h.0

pub rests_after : (a : State) (key : PubKey) (c : DeskCall) (r : DeskReply) → Reply a c r → ¬ (Activates key (Made c r)) → Rests key a → Rests key (after a c r)
rests_after a key (call.Merge file) (reply.Merged n) ok apart h = h
rests_after a key (call.Activate k now) reply.Active ok apart h = (rests_with_key key k a.states Active apart h.0, h.1)
rests_after a key (call.Propose k m now) (reply.Granted g) ok apart h = h
rests_after a key (call.Allow k now) (reply.Granted g) ok apart h = h
rests_after a key (call.Answer k e l now) reply.Noted ok apart h = h
rests_after a key (call.Settle g o) reply.Settled ok apart h = h
rests_after a key (call.BeginClose k) reply.CloseBegun ok apart h =
    (rests_with_kept key k a.states Closing (some_there (kept_of a.states k) Active ok.1) (λ e. not_active key a.states h.0 (subst (λ (q : PubKey). kept_of a.states q ≡ Some Active) e ok.1)) h.0, h.1)
rests_after a key (call.FinishClose k) (reply.Closed book) ok apart h = (closes_rest a key k h ok.0.1.1, h.1)
rests_after a key (call.Record ps now) reply.Recorded ok apart h = h
rests_after a key (call.Prune k) (reply.Pruned book) ok apart h = h
rests_after a key call.Compact (reply.Compacted before size) ok apart h = h
rests_after a key (call.Merge file) reply.Disk ok apart h = (h.0, torn_rests key a.torn (lasting_after a (call.Merge file)) h.1 (λ e. h.0))
rests_after a key (call.Activate k now) reply.Disk ok apart h = (h.0, torn_rests key a.torn (lasting_after a (call.Activate k now)) h.1 (λ e. rests_with_key key k a.states Active apart h.0))
rests_after a key (call.Propose k m now) reply.Disk ok apart h = (h.0, torn_rests key a.torn (lasting_after a (call.Propose k m now)) h.1 (λ e. h.0))
rests_after a key (call.Allow k now) reply.Disk ok apart h = (h.0, torn_rests key a.torn (lasting_after a (call.Allow k now)) h.1 (λ e. h.0))
rests_after a key (call.FinishClose k) reply.Disk ok apart h =
    (h.0, torn_rests key a.torn (lasting_after a (call.FinishClose k)) h.1 (λ e. closes_rest a key k h (up_fails a.torn _ e (fails ok)).1)) where
      fails : MayFail a (call.FinishClose k) → IsSome a.torn ⊎ ((a.torn ≡ None) × Proceeds a (call.FinishClose k))
      fails (inl some) = inl some
      fails (inr x) = inr (x.0, x.1)
rests_after a key (call.Record ps now) reply.Disk ok apart h = (h.0, torn_rests key a.torn (lasting_after a (call.Record ps now)) h.1 (λ e. h.0))
rests_after a key (call.Prune k) reply.Disk ok apart h = (h.0, torn_rests key a.torn (lasting_after a (call.Prune k)) h.1 (λ e. h.0))
rests_after a key call.Compact reply.Disk ok apart h = (h.0, torn_rests key a.torn (lasting_after a call.Compact) h.1 (λ e. h.0))
rests_after a key (call.Answer k e l now) reply.Disk ok apart h = absurd ok
rests_after a key (call.Settle g o) reply.Disk ok apart h = absurd ok
rests_after a key (call.BeginClose k) reply.Disk ok apart h = absurd ok
rests_after a key (call.Export keys) reply.Disk ok apart h = absurd ok
rests_after a key call.Keys reply.Disk ok apart h = absurd ok
rests_after a key call.HasFailed reply.Disk ok apart h = absurd ok
rests_after a key call.Size reply.Disk ok apart h = absurd ok
rests_after a key c r ok apart h = h

-- ---- through a stop

lasting_rests : (o : Option KeyState) → AtRest o → AtRest (option_map lasting_state o)
lasting_rests None h = tt
lasting_rests (Some Known) h = tt
lasting_rests (Some Active) h = h
lasting_rests (Some Closing) h = h
lasting_rests (Some Closed) h = tt

rests_lasting : (key : PubKey) (states : List (PubKey × KeyState)) → RestsIn key states → RestsIn key (lasting_states states)
rests_lasting key states h = subst AtRest (sym (lookup-map_values lasting_state (is_at (key_cmp key)) states)) (lasting_rests (kept_of states key) h)

lasts_rest : (a : State) (key : PubKey) (l : Lasting) → MayLast a l → Rests key a → RestsIn key l.states
lasts_rest a key l (inl e) h = let P : Lasting → Type 0 = λ x. RestsIn key x.states in subst P (sym e) h.0
lasts_rest a key l (inr e) h = subst (RestsTorn key) e h.1

rests_change : (a b : State) (key : PubKey) (x : Change) → Changes a x b → ¬ (Activates key x) → Rests key a → Rests key b
rests_change a b key (Made c r) moves apart h = subst (Rests key) (sym moves.1) (rests_after a key c r moves.0 apart h)
rests_change a b key (Restarts watch now) opens apart h = subst (Rests key) (sym opens.2) (rests_lasting key opens.0.states (lasts_rest a key opens.0 opens.1 h), tt)

pub rests_between : (a b : State) (key : PubKey) (between : List Change) → Path Changes a between b → Never (Activates key) between → Rests key a → Rests key b
rests_between a b key [] p apart h = subst (Rests key) (sym p) h
rests_between a b key (x ∷ xs) p apart h = rests_between p.0 b key xs p.2 apart.1 (rests_change a p.0 key x p.1 apart.0 h)

-- ---- the past of a key at rest

abbrev pub PastTorn : PubKey → Option Past → Option Lasting → Type 0
PastTorn key o None = Unit {0}
PastTorn key o (Some l) = kept_of l.keys key ≡ o

abbrev pub PastIs : PubKey → Option Past → State → Type 0
PastIs key o a = (past_of a key ≡ o) × PastTorn key o a.torn

known_same : (key k : PubKey) (keys : List (PubKey × Past)) → (k ≡ key → ⊥) → kept_of (with_known keys k) key ≡ kept_of keys key
known_same key k keys other = at (is_some (kept_of keys k)) (is_at (key_cmp k) key) refl where
  at : (b t : Bool) → is_at (key_cmp k) key ≡ t → kept_of (cond b keys (with_key keys k no_past)) key ≡ kept_of keys key
  at true t e = refl
  at false true e = absurd (other (same_key k key e))
  at false false e = kept_apart keys k key no_past e

grown_same : (a : State) (key k : PubKey) (m : Message) → Rests key a → IsActive a k → kept_of (own_grown_from a.keys k m (kept_of a.keys k)) key ≡ kept_of a.keys key
grown_same a key k m h active = at (kept_of a.keys k) refl where
  here : (past : Past) (t : Bool) → is_at (key_cmp k) key ≡ t → cond t (Some (with_own past m)) (kept_of a.keys key) ≡ kept_of a.keys key
  here past true e = not_active key a.states h.0 (subst (λ (q : PubKey). kept_of a.states q ≡ Some Active) (same_key k key e) active)
  here past false e = refl

  at : (o : Option Past) → kept_of a.keys k ≡ o → kept_of (own_grown_from a.keys k m o) key ≡ kept_of a.keys key
  at None e = refl
  at (Some past) e = changed a.keys k key (with_own past m) (some_there (kept_of a.keys k) past e) ∙ here past (is_at (key_cmp k) key) refl

-- messages of active keys
grown_other : (pasts : List (PubKey × Past)) (key k : PubKey) (m : Message) → (k ≡ key → ⊥) → kept_of (own_grown pasts k m) key ≡ kept_of pasts key
grown_other pasts key k m other = at (kept_of pasts k) refl where
  here : (past : Past) (t : Bool) → is_at (key_cmp k) key ≡ t → cond t (Some (with_own past m)) (kept_of pasts key) ≡ kept_of pasts key
  here past true e = absurd (other (same_key k key e))
  here past false e = refl

  at : (o : Option Past) → kept_of pasts k ≡ o → kept_of (own_grown_from pasts k m o) key ≡ kept_of pasts key
  at None e = refl
  at (Some past) e = changed pasts k key (with_own past m) (some_there (kept_of pasts k) past e) ∙ here past (is_at (key_cmp k) key) refl

messages_other : (pasts : List (PubKey × Past)) (key : PubKey) (listed : List (PubKey × Message)) → ((one : PubKey × Message) → Contains listed one → one.0 ≡ key → ⊥) → kept_of (with_messages pasts listed) key ≡ kept_of pasts key
messages_other pasts key [] apart = refl
messages_other pasts key (one ∷ listed) apart =
    messages_other (own_grown pasts one.0 one.1) key listed (λ x c. apart x (contains_later one listed x c)) ∙ grown_other pasts key one.0 one.1 (apart one (contains_first one listed))

messages_rest : (a : State) (key : PubKey) (listed : List (PubKey × Message)) → Rests key a → ((one : PubKey × Message) → Contains listed one → IsActive a one.0) → kept_of (with_messages a.keys listed) key ≡ kept_of a.keys key
messages_rest a key listed h active = messages_other a.keys key listed (λ one c e. not_active key a.states h.0 (subst (λ (q : PubKey). kept_of a.states q ≡ Some Active) e (active one c)))

torn_past : (key : PubKey) (o : Option Past) (t : Option Lasting) (l : Lasting) → PastTorn key o t → (t ≡ None → kept_of l.keys key ≡ o) → PastTorn key o (torn_first t l)
torn_past key o None l h new = new refl
torn_past key o (Some first) l h new = h

failed_proceeds : (a : State) (c : DeskCall) → MayFail a c → a.torn ≡ None → Proceeds a c
failed_proceeds a c (inl some) e = absurd (let bad : true ≡ false = sym some ∙ ap is_some e in cc)
failed_proceeds a c (inr x) e = x.1

-- a key that is not listed gains nothing
listed_later : (key : PubKey) (o : Option Book) (b : Bool) (x : Book) → cond b (Some x) o ≡ None → (b ≡ false) × (o ≡ None)
listed_later key o true x e = absurd cc
listed_later key o false x e = (refl, e)

file_apart : (key : PubKey) (pasts : List (PubKey × Past)) (books : List (PubKey × Book)) → kept_of books key ≡ None → kept_of (with_file pasts books) key ≡ kept_of pasts key
file_apart key pasts [] none = refl
file_apart key pasts (b ∷ books) none =
    let apart = listed_later key (kept_of books key) (is_at (key_cmp key) b.0) b.1 none in
    file_apart key (with_file_book pasts b) books apart.1 ∙ kept_apart pasts b.0 key (with_book (known_past (kept_of pasts b.0)) b.1) (apart_back key b.0 apart.0)

not_listed : (o : Option Book) → ¬ (IsSome o) → o ≡ None
not_listed None h = refl
not_listed (Some x) h = absurd (h refl)

pruned_apart : (key k : PubKey) (pasts : List (PubKey × Past)) (o : Option Past) → (k ≡ key → ⊥) → kept_of (pruned_keys pasts k o) key ≡ kept_of pasts key
pruned_apart key k pasts None other = refl
pruned_apart key k pasts (Some past) other = at (is_at (key_cmp key) k) refl where
  at : (b : Bool) → is_at (key_cmp key) k ≡ b → kept_of (pruned_keys pasts k (Some past)) key ≡ kept_of pasts key
  at true e = absurd (other (sym (same_key key k e)))
  at false e = file_apart key pasts ((k, pruning_of past) ∷ []) (rw e refl)

pub past_after : (a : State) (key : PubKey) (o : Option Past) (c : DeskCall) (r : DeskReply) → Reply a c r → ¬ (Activates key (Made c r)) → ¬ (MergesOrPrunes key (Made c r)) → Rests key a → PastIs key o a → PastIs key o (after a c r)
past_after a key o (call.Merge file) (reply.Merged n) ok apart kept h p = (file_apart key a.keys file.books (not_listed (kept_of file.books key) kept) ∙ p.0, p.1)
past_after a key o (call.Record ps now) reply.Recorded ok apart kept h p = (messages_rest a key ps h (λ one c. (ok.1 one c).0.0) ∙ p.0, p.1)
past_after a key o (call.Prune k) (reply.Pruned book) ok apart kept h p = (pruned_apart key k a.keys (past_of a k) kept ∙ p.0, p.1)
past_after a key o (call.Merge file) reply.Disk ok apart kept h p =
    (p.0, torn_past key o a.torn (lasting_after a (call.Merge file)) p.1 (λ e. file_apart key a.keys file.books (not_listed (kept_of file.books key) kept) ∙ p.0))
past_after a key o (call.Record ps now) reply.Disk ok apart kept h p =
    (p.0, torn_past key o a.torn (lasting_after a (call.Record ps now)) p.1 (λ e. messages_rest a key ps h (λ one c. (failed_proceeds a (call.Record ps now) ok e one c).0.0) ∙ p.0))
past_after a key o (call.Prune k) reply.Disk ok apart kept h p = (p.0, torn_past key o a.torn (lasting_after a (call.Prune k)) p.1 (λ e. pruned_apart key k a.keys (past_of a k) kept ∙ p.0))
past_after a key o (call.Activate k now) reply.Active ok apart kept h p = (known_same key k a.keys apart ∙ p.0, p.1)
past_after a key o (call.Propose k m now) (reply.Granted g) ok apart kept h p = (grown_same a key k m h ok.0.1.0.0 ∙ p.0, p.1)
past_after a key o (call.Allow k now) (reply.Granted g) ok apart kept h p = p
past_after a key o (call.Answer k e l now) reply.Noted ok apart kept h p = p
past_after a key o (call.Settle g u) reply.Settled ok apart kept h p = p
past_after a key o (call.BeginClose k) reply.CloseBegun ok apart kept h p = p
past_after a key o (call.FinishClose k) (reply.Closed book) ok apart kept h p = p
past_after a key o call.Compact (reply.Compacted before size) ok apart kept h p = p
past_after a key o (call.Activate k now) reply.Disk ok apart kept h p = (p.0, torn_past key o a.torn (lasting_after a (call.Activate k now)) p.1 (λ e. known_same key k a.keys apart ∙ p.0))
past_after a key o (call.Propose k m now) reply.Disk ok apart kept h p =
    (p.0, torn_past key o a.torn (lasting_after a (call.Propose k m now)) p.1 (λ e. grown_same a key k m h (failed_proceeds a (call.Propose k m now) ok e).0.0 ∙ p.0))
past_after a key o (call.Allow k now) reply.Disk ok apart kept h p = (p.0, torn_past key o a.torn (lasting_after a (call.Allow k now)) p.1 (λ e. p.0))
past_after a key o (call.FinishClose k) reply.Disk ok apart kept h p = (p.0, torn_past key o a.torn (lasting_after a (call.FinishClose k)) p.1 (λ e. p.0))
past_after a key o call.Compact reply.Disk ok apart kept h p = (p.0, torn_past key o a.torn (lasting_after a call.Compact) p.1 (λ e. p.0))
past_after a key o (call.Answer k e l now) reply.Disk ok apart kept h p = absurd ok
past_after a key o (call.Settle g u) reply.Disk ok apart kept h p = absurd ok
past_after a key o (call.BeginClose k) reply.Disk ok apart kept h p = absurd ok
past_after a key o (call.Export keys) reply.Disk ok apart kept h p = absurd ok
past_after a key o call.Keys reply.Disk ok apart kept h p = absurd ok
past_after a key o call.HasFailed reply.Disk ok apart kept h p = absurd ok
past_after a key o call.Size reply.Disk ok apart kept h p = absurd ok
past_after a key o c r ok apart kept h p = p

past_lasts : (a : State) (key : PubKey) (o : Option Past) (l : Lasting) → MayLast a l → PastIs key o a → kept_of l.keys key ≡ o
past_lasts a key o l (inl e) p = ap (λ (x : Lasting). kept_of x.keys key) e ∙ p.0
past_lasts a key o l (inr e) p = subst (PastTorn key o) e p.1

past_change : (a b : State) (key : PubKey) (o : Option Past) (x : Change) → Changes a x b → ¬ (Activates key x) → ¬ (MergesOrPrunes key x) → Rests key a → PastIs key o a → PastIs key o b
past_change a b key o (Made c r) moves apart kept h p = subst (PastIs key o) (sym moves.1) (past_after a key o c r moves.0 apart kept h p)
past_change a b key o (Restarts watch now) opens apart kept h p = subst (PastIs key o) (sym opens.2) (past_lasts a key o opens.0 opens.1 p, tt)

pub past_between : (a b : State) (key : PubKey) (o : Option Past) (between : List Change) → Path Changes a between b → Never (Activates key) between → Never (MergesOrPrunes key) between → Rests key a → PastIs key o a → PastIs key o b
past_between a b key o [] w apart kept h p = subst (PastIs key o) (sym w) p
past_between a b key o (x ∷ xs) w apart kept h p =
    past_between w.0 b key o xs w.2 apart.1 kept.1 (rests_change a w.0 key x w.1 apart.0 h) (past_change a w.0 key o x w.1 apart.0 kept.0 h p)

-- ---- the chain stays

genesis_after : (a : State) (c : DeskCall) (r : DeskReply) → (after a c r).genesis ≡ a.genesis
genesis_after a (call.Merge file) (reply.Merged n) = refl
genesis_after a (call.Activate k now) reply.Active = refl
genesis_after a (call.Propose k m now) (reply.Granted g) = refl
genesis_after a (call.Allow k now) (reply.Granted g) = refl
genesis_after a (call.Answer k e l now) reply.Noted = refl
genesis_after a (call.Settle g u) reply.Settled = refl
genesis_after a (call.BeginClose k) reply.CloseBegun = refl
genesis_after a (call.FinishClose k) (reply.Closed book) = refl
genesis_after a (call.Record ps now) reply.Recorded = refl
genesis_after a (call.Prune k) (reply.Pruned book) = refl
genesis_after a call.Compact (reply.Compacted before size) = refl
genesis_after a c reply.Disk = refl
genesis_after a c r = refl

genesis_change : (a b : State) (x : Change) → Changes a x b → b.genesis ≡ a.genesis
genesis_change a b (Made c r) moves = ap (λ (s : State). s.genesis) moves.1 ∙ genesis_after a c r
genesis_change a b (Restarts watch now) opens = ap (λ (s : State). s.genesis) opens.2

pub genesis_between : (a b : State) (between : List Change) → Path Changes a between b → b.genesis ≡ a.genesis
genesis_between a b [] w = ap (λ (s : State). s.genesis) w
genesis_between a b (x ∷ xs) w = genesis_between w.0 b xs w.2 ∙ genesis_change a w.0 x w.1
