-- What a call makes of one client's desk.
use Rattle.std.proofs.Common.{◌≡◌, ◌≢◌, ◌⊎◌, inl, inr, ℕ, ◌+◌, Bool, true, false, cond, List, [], ◌∷◌, ◌++◌, Option, Some, None, refl, sym, ◌∙◌, ap, subst, arith, nat_eq}
use Rattle.std.specs.Prelude.{Contains, IsSome, IsSomeAnd, is_some}
use Rattle.std.specs.BTreeMap.{is_at}
use Rattle.std.proofs.lemmas.List.Sums.{sum_by-cons}
use Rattle.std.proofs.lemmas.List.Elements.{All-contains, Contains-append_left, Contains-append_right, Contains-push_cases}
use Rattle.edge_kit.specs.declared.bytes.PubKey.{PubKey}
use Rattle.slash_defs.specs.declared.message.Message.{Message}
use Rattle.slash_defs.specs.declared.book.Book.{Book}
use Rattle.protect_record.specs.Pasts.{Past, with_own}
use Rattle.protect_record.specs.Passing.{Covers, BookRefuses}
use Rattle.protect_record.specs.PastLaws.{covers-with_own}
use Rattle.protect_record.proofs.MemberLemmas.{contains_cases, contains_none}
use Rattle.protect_record.proofs.ExportLemmas.{exports_no_more}
use Rattle.record_join.specs.Keys.{key_cmp, kept_of, with_key, with_kept}
use Rattle.record_join.specs.BooksPasts.{own_grown, own_grown_from}
use Rattle.record_join.specs.KeyLaws.{same_key, at_itself, apart_back, kept_here, kept_apart, changed}
use Rattle.record_replay.specs.Replaying.{lasting_state, lasting_states}
use Rattle.record_replay.specs.declared.state.KeyState.{KeyState}
use Rattle.record_replay.specs.declared.state.KeyState.TheVariants.{Known, Active, Closing, Closed}
use Rattle.desk_machine.specs.States.{State, Lasting, lasting, past_of, IsActive}
use Rattle.desk_machine.specs.Grants.{open_grants, without}
use Rattle.desk_machine.specs.Handing.{IsExport}
use Rattle.desk_machine.specs.Machine.{Reply, lasting_after, Proceeds, MayFail}
use Rattle.desk_machine.specs.declared.open_grant.OpenGrant.{OpenGrant}
use Rattle.desk_machine.specs.declared.call.DeskCall.{DeskCall}
use Rattle.desk_machine.specs.declared.call.DeskCall.TheVariants as call
use Rattle.desk_machine.specs.declared.call.DeskReply.{DeskReply}
use Rattle.desk_machine.specs.declared.call.DeskReply.TheVariants as reply
use Rattle.desk_machine.specs.Kinds.{IsOkOf}
use Rattle.world_law.specs.Lawful.{HasCovered}
use Rattle.world_law.proofs.KeyStanding.{BookCovers}
use Rattle.world_law.proofs.PastLemmas.{KeepsIn, keeps_all, grown_keeps, known_keeps, messages_keep, file_keeps, pruned_keeps, found_changed}

-- ---- which keys a client has

abbrev pub is_held : Option KeyState → Bool
is_held None = false
is_held (Some Known) = false
is_held (Some Active) = true
is_held (Some Closing) = true
is_held (Some Closed) = false

abbrev pub held : List (PubKey × KeyState) → PubKey → Bool
held states k = is_held (kept_of states k)

pub held_cases : (o : Option KeyState) → is_held o ≡ true → (o ≡ Some Active) ⊎ (o ≡ Some Closing)
held_cases None e = absurd (let bad : false ≡ true = e in cc)
held_cases (Some Known) e = absurd (let bad : false ≡ true = e in cc)
held_cases (Some Active) e = inl refl
held_cases (Some Closing) e = inr refl
held_cases (Some Closed) e = absurd (let bad : false ≡ true = e in cc)

idle : (o : Option KeyState) → (o ≢ Some Active) → (o ≢ Some Closing) → is_held o ≡ false
idle None a b = refl
idle (Some Known) a b = refl
idle (Some Active) a b = absurd (a refl)
idle (Some Closing) a b = absurd (b refl)
idle (Some Closed) a b = refl

-- what lasts of the states is of the same keys
pub held_lasting : (states : List (PubKey × KeyState)) (k : PubKey) → held (lasting_states states) k ≡ held states k
held_lasting [] k = refl
held_lasting (a ∷ more) k = at (is_at (key_cmp k) a.0) (held_lasting more k) where
  one : (s : KeyState) → is_held (Some (lasting_state s)) ≡ is_held (Some s)
  one Known = refl
  one Active = refl
  one Closing = refl
  one Closed = refl

  at : (b : Bool) → held (lasting_states more) k ≡ held more k → is_held (cond b (Some (lasting_state a.1)) (kept_of (lasting_states more) k)) ≡ is_held (cond b (Some a.1) (kept_of more k))
  at true rest = one a.1
  at false rest = rest

-- ---- what a call that is done does with a key

pub data Effect : Type 0 where
  Opening : Effect
  Shutting : Effect
  Staying : Effect

abbrev pub effect : DeskCall → PubKey → Effect
effect (call.Activate key now) k = cond (is_at (key_cmp k) key) Opening Staying
effect (call.FinishClose key) k = cond (is_at (key_cmp k) key) Shutting Staying
effect c k = Staying

-- no grant of a message of the key is open
abbrev pub NoGrants : List OpenGrant → PubKey → Type 0
NoGrants grants k = (g : OpenGrant) (m : Message) → g.message ≡ Some m → Contains grants g → g.key ≡ k → ⊥

-- each grant of a message among the one grants is among the others
abbrev pub Fewer : List OpenGrant → List OpenGrant → Type 0
Fewer new old = (g : OpenGrant) (m : Message) → g.message ≡ Some m → Contains new g → Contains old g

abbrev pub Moved : Effect → Bool → Bool → Type 0 → Type 0
Moved Opening old new none = (old ≡ false) × (new ≡ true)
Moved Shutting old new none = (old ≡ true) × (new ≡ false) × none
Moved Staying old new none = new ≡ old

pub record Changes (old : State) (c : DeskCall) (new : Lasting) : Type 0 where
  pub kept : KeepsIn old.keys new.keys
  pub moved : (k : PubKey) → Moved (effect c k) (held old.states k) (held new.states k) (NoGrants old.grants k)

open_cons : (g : OpenGrant) (gs : List OpenGrant) (k : PubKey) (b : Bool) → is_at (key_cmp k) g.key ≡ b → open_grants (g ∷ gs) k ≡ cond b 1 0 + open_grants gs k
open_cons g gs k b e = sum_by-cons (λ x. cond (is_at (key_cmp k) x.key) 1 0) g gs ∙ ap (λ t. cond t 1 0 + open_grants gs k) e

none_open : (grants : List OpenGrant) (k : PubKey) → open_grants grants k ≡ 0 → (g : OpenGrant) → Contains grants g → g.key ≡ k → ⊥
none_open [] k e g has is = contains_none g has
none_open (h ∷ hs) k e g has is = at (is_at (key_cmp k) h.key) refl (contains_cases h hs g has) (λ d. none_open hs k d g) where
  at : (b : Bool) → is_at (key_cmp k) h.key ≡ b → (h ≡ g) ⊎ Contains hs g → (open_grants hs k ≡ 0 → Contains hs g → g.key ≡ k → ⊥) → ⊥
  at true f w rest = let total : 1 + open_grants hs k ≡ 0 = sym (open_cons h hs k true f) ∙ e in omega (arith, total)
  at false f (inl same) rest =
      let P : PubKey → Type 0 = λ q. is_at (key_cmp k) q ≡ false in
      let here = subst P (ap (λ x. x.key) same ∙ is) f in
      let bad : true ≡ false = sym (at_itself k) ∙ here in cc
  at false f (inr there) rest = let total : 0 + open_grants hs k ≡ 0 = sym (open_cons h hs k false f) ∙ e in rest (omega (arith, total)) there is

-- the disk may have failed at the call, now or before
abbrev pub CanFail : DeskCall → Type 0
CanFail (call.Merge file) = Unit {0}
CanFail (call.Activate key now) = Unit {0}
CanFail (call.Propose key m now) = Unit {0}
CanFail (call.Allow key now) = Unit {0}
CanFail (call.FinishClose key) = Unit {0}
CanFail (call.Record ps now) = Unit {0}
CanFail (call.Prune key) = Unit {0}
CanFail call.Compact = Unit {0}
CanFail c = ⊥

-- each such call that proceeds
changes_proceeding : (state : State) (c : DeskCall) → Proceeds state c → CanFail c → Changes state c (lasting_after state c)
changes_proceeding state (call.Merge file) p w = record { kept = file_keeps state.keys file.books; moved = λ k. refl }
changes_proceeding state (call.Activate key now) p w = record {
  kept = known_keeps state.keys key (is_some (past_of state key)) refl;
  moved = λ k. at k (is_at (key_cmp k) key) refl;
} where
  at : (k : PubKey) (b : Bool) → is_at (key_cmp k) key ≡ b → Moved (cond b Opening Staying) (held state.states k) (held (with_key state.states key Active) k) (NoGrants state.grants k)
  at k true e =
      let same = same_key k key e in
      let P : PubKey → Type 0 = λ q. (held state.states q ≡ false) × (held (with_key state.states key Active) q ≡ true) in
      subst P (sym same) (idle (kept_of state.states key) p.0.0 p.0.1, ap is_held (kept_here state.states key Active))
  at k false e = ap is_held (kept_apart state.states key k Active (apart_back k key e))
changes_proceeding state (call.Propose key m now) p w = record { kept = grown_keeps state.keys key m (past_of state key) refl; moved = λ k. refl }
changes_proceeding state (call.Allow key now) p w = record { kept = keeps_all state.keys; moved = λ k. refl }
changes_proceeding state (call.FinishClose key) p w = record {
  kept = keeps_all state.keys;
  moved = λ k. at k (is_at (key_cmp k) key) refl;
} where
  there : IsSome (kept_of state.states key)
  there = rw p.1 refl

  at : (k : PubKey) (b : Bool) → is_at (key_cmp k) key ≡ b → Moved (cond b Shutting Staying) (held state.states k) (held (with_kept state.states key Closed) k) (NoGrants state.grants k)
  at k true e =
      let same = same_key k key e in
      let P : PubKey → Type 0 = λ q. (held state.states q ≡ true) × (held (with_kept state.states key Closed) q ≡ false) × NoGrants state.grants q in
      subst P (sym same) (ap is_held p.1, ap is_held (found_changed state.states key Closed Closing p.1), λ g m says has is. none_open state.grants key p.2 g has is)
  at k false e = ap is_held (changed state.states key k Closed there ∙ rw (apart_back k key e) refl)
changes_proceeding state (call.Record ps now) p w = record { kept = messages_keep state.keys ps; moved = λ k. refl }
changes_proceeding state (call.Prune key) p w = record { kept = pruned_keeps state.keys key (past_of state key); moved = λ k. refl }
changes_proceeding state call.Compact p w = record { kept = keeps_all state.keys; moved = λ k. refl }
changes_proceeding state c p w = absurd w

-- ---- each call with its Ok

-- a call that changes nothing that lasts
changes_none : (state : State) (c : DeskCall) → ((k : PubKey) → effect c k ≡ Staying) → Changes state c (lasting state)
changes_none state c stays = record {
  kept = keeps_all state.keys;
  moved = λ k. let P : Effect → Type 0 = λ e. Moved e (held state.states k) (held state.states k) (NoGrants state.grants k) in let none : P Staying = refl in subst P (sym (stays k)) none;
}

changes_begun : (state : State) (key : PubKey) → IsActive state key → Changes state (call.BeginClose key) (lasting_after state (call.BeginClose key))
changes_begun state key active = record {
  kept = keeps_all state.keys;
  moved = λ k. at k (is_at (key_cmp key) k) refl;
} where
  there : IsSome (kept_of state.states key)
  there = rw active refl

  at : (k : PubKey) (b : Bool) → is_at (key_cmp key) k ≡ b → held (with_kept state.states key Closing) k ≡ held state.states k
  at k true e =
      let P : PubKey → Type 0 = λ q. held (with_kept state.states key Closing) q ≡ held state.states q in
      subst P (same_key key k e) (ap is_held (found_changed state.states key Closing Active active) ∙ sym (ap is_held active))
  at k false e = ap is_held (changed state.states key k Closing there ∙ rw e refl)

pub changes_ok : (state : State) (c : DeskCall) (r : DeskReply) → IsOkOf c r → Reply state c r → Changes state c (lasting_after state c)
changes_ok state (call.Merge file) (reply.Merged keys) ok h = changes_proceeding state (call.Merge file) h.0.1 tt
changes_ok state (call.Activate key now) reply.Active ok h = changes_proceeding state (call.Activate key now) h.1 tt
changes_ok state (call.Propose key m now) (reply.Granted grant) ok h = changes_proceeding state (call.Propose key m now) h.0.1 tt
changes_ok state (call.Allow key now) (reply.Granted grant) ok h = changes_none state (call.Allow key now) (λ k. refl)
changes_ok state (call.Answer key epoch live now) reply.Noted ok h = changes_none state (call.Answer key epoch live now) (λ k. refl)
changes_ok state (call.Settle grant outcome) reply.Settled ok h = changes_none state (call.Settle grant outcome) (λ k. refl)
changes_ok state (call.BeginClose key) reply.CloseBegun ok h = changes_begun state key h.1
changes_ok state (call.FinishClose key) (reply.Closed book) ok h = changes_proceeding state (call.FinishClose key) h.0.1 tt
changes_ok state (call.Export keys) (reply.Exported file) ok h = changes_none state (call.Export keys) (λ k. refl)
changes_ok state (call.Record ps now) reply.Recorded ok h = changes_proceeding state (call.Record ps now) h.1 tt
changes_ok state (call.Prune key) (reply.Pruned book) ok h = changes_proceeding state (call.Prune key) h.0.1 tt
changes_ok state call.Keys (reply.Keys listed) ok h = changes_none state call.Keys (λ k. refl)
changes_ok state call.HasFailed (reply.HasFailed failed) ok h = changes_none state call.HasFailed (λ k. refl)
changes_ok state call.Size (reply.Size size weight) ok h = changes_none state call.Size (λ k. refl)
changes_ok state call.Compact (reply.Compacted before after) ok h = changes_proceeding state call.Compact h.0.1 tt
changes_ok state c r ok h = absurd ok

-- ---- a call that the disk tore

-- the disk fails only such a call, first or again
pub failed : (state : State) (c : DeskCall) → Reply state c reply.Disk → MayFail state c × CanFail c
failed state (call.Merge file) h = (h, tt)
failed state (call.Activate key now) h = (h, tt)
failed state (call.Propose key m now) h = (h, tt)
failed state (call.Allow key now) h = (h, tt)
failed state (call.FinishClose key) h = (h, tt)
failed state (call.Record ps now) h = (h, tt)
failed state (call.Prune key) h = (h, tt)
failed state call.Compact h = (h, tt)
failed state c h = absurd h

some_none : {X : Type 0} (o : Option X) → IsSome o → o ≡ None → ⊥
some_none {X} o s e = let P : Option X → Type 0 = λ x. IsSome x in let bad : false ≡ true = subst P e s in cc

pub changes_torn : (state : State) (c : DeskCall) → state.torn ≡ None → MayFail state c → CanFail c → Changes state c (lasting_after state c)
changes_torn state c up (inl down) writes = absurd (some_none state.torn down up)
changes_torn state c up (inr h) writes = changes_proceeding state c h.1 writes

-- the torn call, and what would have outlasted its Ok
abbrev pub TornFits : State → Option DeskCall → Type 0
TornFits state None = state.torn ≡ None
TornFits state (Some c) = (l : Lasting) × (state.torn ≡ Some l) × Changes state c l

-- ---- what a desk without a fault, or with one, keeps of it

none_some : {X : Type 0} (x : X) → None ≡ Some x → ⊥
none_some x e = cc

pub fits_up : (old new : State) (t : Option DeskCall) → old.torn ≡ None → new.torn ≡ None → TornFits old t → (t ≡ None) × TornFits new t
fits_up old new None up still h = (refl, still)
fits_up old new (Some c) up still h = absurd (none_some h.0 (sym up ∙ h.1))

pub fits_same : (old new : State) (t : Option DeskCall) → new.torn ≡ old.torn → new.keys ≡ old.keys → ((k : PubKey) → held new.states k ≡ held old.states k) → Fewer new.grants old.grants
    → TornFits old t → TornFits new t
fits_same old new None torn keys same fewer h = torn ∙ h
fits_same old new (Some c) torn keys same fewer h = let K : List (PubKey × Past) → Type 0 = λ ks. KeepsIn ks h.0.keys in (
  h.0,
  torn ∙ h.1,
  record {
    kept = subst K (sym keys) h.2.kept;
    moved = λ k. at k (effect c k) (h.2.moved k);
  },
) where
  at : (k : PubKey) (e : Effect) → Moved e (held old.states k) (held h.0.states k) (NoGrants old.grants k) → Moved e (held new.states k) (held h.0.states k) (NoGrants new.grants k)
  at k Opening m = (same k ∙ m.0, m.1)
  at k Shutting m = (same k ∙ m.0, m.1, λ g n says has is. m.2 g n says (fewer g n says has) is)
  at k Staying m = m ∙ sym (same k)

-- the grants without one are among the grants
pub without_fewer : (grants : List OpenGrant) (number : ℕ) (g : OpenGrant) → Contains (without grants number) g → Contains grants g
without_fewer [] number g has = has
without_fewer (h ∷ hs) number g has = at (nat_eq h.number number) has (without_fewer hs number g) where
  later : Contains hs g → Contains (h ∷ hs) g
  later there = Contains-append_right (h ∷ []) hs g there

  first : Contains (h ∷ hs) h
  first = Contains-append_left (h ∷ []) hs h (0, grind arith, refl)

  at : (b : Bool) → Contains (cond b hs (h ∷ without hs number)) g → (Contains (without hs number) g → Contains hs g) → Contains (h ∷ hs) g
  at true there rest = later there
  at false there rest = cases (contains_cases h (without hs number) g there) where
    cases : (h ≡ g) ⊎ Contains (without hs number) g → Contains (h ∷ hs) g
    cases (inl same) = let P : OpenGrant → Type 0 = λ x. Contains (h ∷ hs) x in subst P same first
    cases (inr x) = later (rest x)

-- a grant without a message grants none
pub plain_fewer : (grants : List OpenGrant) (plain g : OpenGrant) (m : Message) → plain.message ≡ None → g.message ≡ Some m → Contains (grants ++ plain ∷ []) g → Contains grants g
plain_fewer grants plain g m none says has = cases (Contains-push_cases grants plain g has) where
  cases : Contains grants g ⊎ (plain ≡ g) → Contains grants g
  cases (inl there) = there
  cases (inr e) = absurd (none_some m (sym none ∙ (ap (λ x. x.message) e ∙ says)))

-- ---- what a granted message leaves

pub granted_covers : (state : State) (key : PubKey) (m : Message) → IsSome (past_of state key) → IsSomeAnd (kept_of (own_grown state.keys key m) key) (λ past. Covers past m)
granted_covers state key m some = at (kept_of state.keys key) refl some where
  at : (o : Option Past) → kept_of state.keys key ≡ o → IsSome o → IsSomeAnd (kept_of (own_grown_from state.keys key m o) key) (λ past. Covers past m)
  at None e s = absurd (let bad : false ≡ true = s in cc)
  at (Some past) e s = rw (found_changed state.keys key (with_own past m) past e) (covers-with_own past m)

-- ---- what is handed out covers what its past covers

abbrev pub IsBookOf : State → PubKey → Book → Type 0
IsBookOf state k book = IsSomeAnd (past_of state k) (λ past. IsExport past book)

pub book_covers : (state : State) (k : PubKey) (b : Book) (m : Message) → IsBookOf state k b → HasCovered state k m → BookCovers b m
book_covers state k b m is covers = at (past_of state k) is covers where
  at : (o : Option Past) → IsSomeAnd o (λ past. IsExport past b) → IsSomeAnd o (λ past. Covers past m) → BookCovers b m
  at None x y = absurd x
  at (Some past) x y = λ n free. y n (exports_no_more x.parts b x.value past n x.stands free)

-- a past that has the book covers what the book covers
pub has_book : (state : State) (k : PubKey) (b : Book) (m : Message) → IsSomeAnd (past_of state k) (λ past. Contains past.books b) → BookCovers b m → HasCovered state k m
has_book state k b m has covers = at (past_of state k) has where
  at : (o : Option Past) → IsSomeAnd o (λ past. Contains past.books b) → IsSomeAnd o (λ past. Covers past m)
  at None x = x
  at (Some past) x = λ n passes. covers n (All-contains (λ y. ¬ (BookRefuses y n)) past.books b passes.0 x)
