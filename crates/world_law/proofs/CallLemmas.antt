-- That each answered call keeps the invariant.
use Rattle.std.proofs.Common.{◌≡◌, ◌⊎◌, inl, inr, ℕ, Bool, true, false, cond, List, [], ◌∷◌, ◌++◌, Option, Some, None, refl, sym, ◌∙◌, ap, subst, arith}
use Rattle.std.specs.Prelude.{Contains, IsSome, IsSomeAnd}
use Rattle.std.specs.BTreeMap.{is_at}
use Rattle.std.proofs.lemmas.List.Elements.{Contains-append_left, Contains-push_cases}
use Rattle.edge_kit.specs.declared.bytes.PubKey.{PubKey}
use Rattle.slash_defs.specs.declared.message.Message.{Message}
use Rattle.slash_defs.specs.declared.book.Book.{Book}
use Rattle.slash_defs.specs.Slashing.{Slashable}
use Rattle.protect_record.specs.Pasts.{Past}
use Rattle.protect_record.specs.Passing.{Passes, Covers}
use Rattle.record_join.specs.Keys.{key_cmp, kept_of}
use Rattle.record_join.specs.KeyLaws.{same_key, at_itself}
use Rattle.record_replay.specs.declared.state.KeyState.{KeyState}
use Rattle.desk_machine.specs.States.{State, Lasting, past_of, is_among}
use Rattle.desk_machine.specs.Handing.{IsExport, Exports, ExportsOne}
use Rattle.desk_machine.specs.Machine.{Reply, after, lasting_after, IsUp, grant_for, torn_first}
use Rattle.desk_machine.specs.declared.open_grant.OpenGrant.{OpenGrant}
use Rattle.desk_machine.specs.declared.call.DeskCall.{DeskCall}
use Rattle.desk_machine.specs.declared.call.DeskCall.TheVariants as call
use Rattle.desk_machine.specs.declared.call.DeskReply.{DeskReply}
use Rattle.desk_machine.specs.declared.call.DeskReply.TheVariants as reply
use Rattle.world_law.specs.Worlds.{World, Deed, sent_of, happens, first_torn, deeds_done}
use Rattle.world_law.specs.Worlds.Event.{Call}
use Rattle.world_law.specs.Worlds.Deed.{Activated, Closed, Exported}
use Rattle.world_law.specs.Lawful.{IsActivation, MayActivate, IsFirst, IsOwn, IsImported, HasCovered, IsHandedOut, Begins, IsLawfulNow}
use Rattle.world_law.proofs.KeyStanding.{Phase, View, IsKeySafe, Carries, BookCovers, same_client, true-false}
use Rattle.world_law.proofs.KeyStanding as at_key
use Rattle.world_law.proofs.KeyStanding.Phase.{Fresh, Held, Resting}
use Rattle.world_law.proofs.DeedLemmas.{phase_of, SentWhileHeld, rests_at}
use Rattle.world_law.proofs.PastLemmas.{KeepsIn, keeps_all, covers_on, grown_keeps}
use Rattle.world_law.proofs.ClientLemmas.{held, is_held, held_cases, Moved, NoGrants, Fewer, Changes, effect, TornFits, IsBookOf, has_book, changes_ok, changes_torn, failed, fits_up, fits_same, without_fewer, plain_fewer, granted_covers}
use Rattle.world_law.proofs.ClientLemmas.Effect.{Opening, Shutting, Staying}
use Rattle.world_law.proofs.WorldLemmas.{Messages, HasOpen, view_of, Invariant, stepped, Free, DeedsAt, step, client_cases, both_cases, at_here}

-- ---- where the law lets a key become active

held-fresh : (d : ℕ) → Held d ≡ Fresh → ⊥
held-fresh d e = cc

resting-fresh : (d : ℕ) → Resting d ≡ Fresh → ⊥
resting-fresh d e = cc

pub allowed : (before : Messages) (w : World) (c : ℕ) (k : PubKey) → Invariant before w → MayActivate before w c k → Free before w c k
allowed before w c k inv may = record {
  none = λ d. none d (held (w.desks d).states k) refl;
  only = λ d p. absurd (may.0 d (inr p));
  covers = λ m a. covers m a may.1;
} where
  none : (d : ℕ) (b : Bool) → held (w.desks d).states k ≡ b → b ≡ false
  none d true e = absurd (may.0 d (inl (held_cases (kept_of (w.desks d).states k) e)))
  none d false e = refl

  stands : IsKeySafe (view_of before w k)
  stands = inv.keys k

  free : (d : ℕ) → phase_of w.deeds k ≡ Held d → ⊥
  free d e = true-false (held (w.desks d).states k) (stands.held d e) (none d (held (w.desks d).states k) refl)

  first : (m : Message) (p : Phase) → phase_of w.deeds k ≡ p → Contains (before ++ sent_of w.deeds) (k, m) → IsFirst before w c k → HasCovered (w.desks c) k m
  first m Fresh e a h = h.1 m (stands.silent e m a)
  first m (Held d) e a h = absurd (free d e)
  first m (Resting d) e a h = let x = stands.known (λ f. resting-fresh d (sym e ∙ f)) in absurd (h.0 x.0 x.1)

  own : (m : Message) → ((d : ℕ) × (phase_of w.deeds k ≡ Held d)) ⊎ (phase_of w.deeds k ≡ Resting c) → Contains (before ++ sent_of w.deeds) (k, m) → HasCovered (w.desks c) k m
  own m (inl x) a = absurd (free x.0 x.1)
  own m (inr e) a = stands.by_last c m e a

  imported : (m : Message) (h : IsImported w c k) → ((d : ℕ) × (phase_of w.deeds k ≡ Held d)) ⊎ (phase_of w.deeds k ≡ Resting h.0) → Contains (before ++ sent_of w.deeds) (k, m) → HasCovered (w.desks c) k m
  imported m h (inl x) a = absurd (free x.0 x.1)
  imported m h (inr e) a = has_book (w.desks c) k h.2 m h.4 (stands.by_book h.0 h.2 m e h.3 a)

  covers : (m : Message) → Contains (before ++ sent_of w.deeds) (k, m) → IsFirst before w c k ⊎ IsOwn w c k ⊎ IsImported w c k → HasCovered (w.desks c) k m
  covers m a (inl h) = first m (phase_of w.deeds k) refl a h
  covers m a (inr (inl h)) = own m (rests_at w.deeds k c h) a
  covers m a (inr (inr h)) = imported m h (rests_at w.deeds k h.0 h.1) a

-- ---- what was done with other keys

-- no deed
pub no_deeds : (w : World) (c : ℕ) (k : PubKey) → DeedsAt Staying w c [] k
no_deeds w c k = (refl, λ d b x. inl x)

opening_deed : (w : World) (c : ℕ) (key k : PubKey) (b : Bool) → is_at (key_cmp k) key ≡ b → DeedsAt (cond b Opening Staying) w c (Activated c key ∷ []) k
opening_deed w c key k true e =
    let P : PubKey → Type 0 = λ q. Contains (Activated c key ∷ w.deeds) (Activated c q) in
    (rw e refl, (c, subst P (sym (same_key k key e)) (Contains-append_left (Activated c key ∷ []) w.deeds (Activated c key) (0, grind arith, refl))))
opening_deed w c key k false e = (rw e refl, λ d b x. inl x)

shutting_deed : (w : World) (c : ℕ) (key k : PubKey) (b : Bool) → is_at (key_cmp k) key ≡ b → DeedsAt (cond b Shutting Staying) w c (Closed c key ∷ []) k
shutting_deed w c key k true e = (rw e refl, λ b x. let no : ⊥ = rw e at x in absurd no)
shutting_deed w c key k false e = (rw e refl, λ d b x. let old : IsHandedOut w.deeds k d b = rw e at x in inl old)

-- what a call that is done does, answered or not
pub done_deeds : (w : World) (c : ℕ) (cl : DeskCall) (k : PubKey) → DeedsAt (effect cl k) w c (deeds_done c cl) k
done_deeds w c (call.Activate key now) k = opening_deed w c key k (is_at (key_cmp k) key) refl
done_deeds w c (call.FinishClose key) k = shutting_deed w c key k (is_at (key_cmp k) key) refl
done_deeds w c cl k = no_deeds w c k

-- a Close that is answered hands out the book
closing_deeds : (w : World) (c : ℕ) (key k : PubKey) (book : Book) (b : Bool) → is_at (key_cmp k) key ≡ b → IsBookOf (w.desks c) key book → DeedsAt (cond b Shutting Staying) w c (Exported c ((key, book) ∷ []) ∷ Closed c key ∷ []) k
closing_deeds w c key k book true e is = (rw e refl, λ b x. out b x) where
  book_at : (b : Book) → Some book ≡ Some b → book ≡ b
  book_at b h = cc

  out : (b : Book) → ((c ≡ c) × (kept_of ((key, book) ∷ []) k ≡ Some b)) ⊎ IsHandedOut (Closed c key ∷ w.deeds) k c b → IsBookOf (w.desks c) k b
  out b (inl x) =
      let same : Some book ≡ Some b = rw e at x.1 in
      let P : PubKey → Type 0 = λ q. IsBookOf (w.desks c) q b in
      let Q : Book → Type 0 = λ y. IsBookOf (w.desks c) key y in
      subst P (sym (same_key k key e)) (subst Q (book_at b same) is)
  out b (inr y) = let no : ⊥ = rw e at y in absurd no
closing_deeds w c key k book false e is = (rw e refl, λ d b x. out d b x) where
  none : (b : Book) → None ≡ Some b → ⊥
  none b h = cc

  out : (d : ℕ) (b : Book) → ((c ≡ d) × (kept_of ((key, book) ∷ []) k ≡ Some b)) ⊎ IsHandedOut (Closed c key ∷ w.deeds) k d b → IsHandedOut w.deeds k d b ⊎ ((c ≡ d) × IsBookOf (w.desks c) k b)
  out d b (inl x) = let no : None ≡ Some b = rw e at x.1 in absurd (none b no)
  out d b (inr y) = let old : IsHandedOut w.deeds k d b = rw e at y in inl old

-- an export hands out the books of the keys that were asked for
exporting_deeds : (w : World) (c : ℕ) (asked : List PubKey) (books : List (PubKey × Book)) (k : PubKey) → Exports (w.desks c).keys asked books → DeedsAt Staying w c (Exported c books ∷ []) k
exporting_deeds w c asked books k exports = (refl, out) where
  none : (b : Book) → None ≡ Some b → ⊥
  none b h = cc

  is_book : (asks : Bool) (o : Option Past) (b : Book) → ExportsOne asks o (Some b) → IsSomeAnd o (λ past. IsExport past b)
  is_book true (Some past) b x = x
  is_book true None b x = absurd (none b (sym x))
  is_book false (Some past) b x = absurd (none b (sym x))
  is_book false None b x = absurd (none b (sym x))

  out : (d : ℕ) (b : Book) → ((c ≡ d) × (kept_of books k ≡ Some b)) ⊎ IsHandedOut w.deeds k d b → IsHandedOut w.deeds k d b ⊎ ((c ≡ d) × IsBookOf (w.desks c) k b)
  out d b (inl x) =
      let P : Option Book → Type 0 = λ o. ExportsOne (is_among asked k) (kept_of (w.desks c).keys k) o in
      inr (x.0, is_book (is_among asked k) (kept_of (w.desks c).keys k) b (subst P x.1 (exports.each k)))
  out d b (inr y) = inl y

-- ---- calls

pub none_pending : (t : Option DeskCall) (k : PubKey) → t ≡ None → IsActivation t k → ⊥
none_pending t k e x = let P : Option DeskCall → Type 0 = λ y. IsActivation y k in subst P e x

pub not_opening : Staying ≡ Opening → ⊥
not_opening e = cc

-- a refusal, or a call that only reads: but for the latest moment all is as before
refused : (before : Messages) (w : World) (c : ℕ) (new : State) → Invariant before w → new.keys ≡ (w.desks c).keys → new.states ≡ (w.desks c).states → Fewer new.grants (w.desks c).grants → new.torn ≡ (w.desks c).torn
    → (ds : List Deed) → ((k : PubKey) → DeedsAt Staying w c ds k) → sent_of (ds ++ w.deeds) ≡ sent_of w.deeds → (SentWhileHeld w.deeds → SentWhileHeld (ds ++ w.deeds)) → Invariant before (stepped w c new (w.torn c) ds)
refused before w c new inv keys states fewer torn ds deeds sent held_on =
    let K : List (PubKey × Past) → Type 0 = λ ks. KeepsIn (w.desks c).keys ks in
    step before w c new (w.torn c) ds (λ k. Staying) inv (record {
      kept = subst K (sym keys) (keeps_all (w.desks c).keys);
      moved = λ k. ap (λ s. held s k) states;
      fewer = fewer;
      fits = fits_same (w.desks c) new (w.torn c) torn keys (λ k. ap (λ s. held s k) states) fewer (inv.torn c);
      pending = λ k x. (x, refl);
      deeds = deeds;
      sent = sent;
      held_on = held_on;
      free = λ k e. absurd (not_opening e);
    })

-- a writing call with its Ok
answered : (before : Messages) (w : World) (c : ℕ) (cl : DeskCall) (new : State) (ds : List Deed) → Invariant before w → Changes (w.desks c) cl (lasting_after (w.desks c) cl) → IsUp (w.desks c)
    → new.keys ≡ (lasting_after (w.desks c) cl).keys → new.states ≡ (lasting_after (w.desks c) cl).states → new.grants ≡ (w.desks c).grants → new.torn ≡ (w.desks c).torn
    → ((k : PubKey) → DeedsAt (effect cl k) w c ds k) → sent_of (ds ++ w.deeds) ≡ sent_of w.deeds → (SentWhileHeld w.deeds → SentWhileHeld (ds ++ w.deeds)) → ((k : PubKey) → effect cl k ≡ Opening → Free before w c k)
    → Invariant before (stepped w c new (w.torn c) ds)
answered before w c cl new ds inv changes up keys states grants torn deeds sent held_on free =
    let K : List (PubKey × Past) → Type 0 = λ ks. KeepsIn (w.desks c).keys ks in
    let S : PubKey → List (PubKey × KeyState) → Type 0 = λ k ss. Moved (effect cl k) (held (w.desks c).states k) (held ss k) (NoGrants (w.desks c).grants k) in
    let fits = fits_up (w.desks c) new (w.torn c) up (torn ∙ up) (inv.torn c) in
    step before w c new (w.torn c) ds (effect cl) inv (record {
      kept = subst K (sym keys) changes.kept;
      moved = λ k. subst (S k) (sym states) (changes.moved k);
      fewer = λ g n says x. let P : List OpenGrant → Type 0 = λ gs. Contains gs g in subst P grants x;
      fits = fits.1;
      pending = λ k x. absurd (none_pending (w.torn c) k fits.0 x);
      deeds = deeds;
      sent = sent;
      held_on = held_on;
      free = free;
    })

-- an activation opens its own key alone
pub opens_own : (key k : PubKey) (b : Bool) → is_at (key_cmp k) key ≡ b → cond b Opening Staying ≡ Opening → key ≡ k
opens_own key k true e f = sym (same_key k key e)
opens_own key k false e f = absurd (not_opening f)

pub shuts_none : (b : Bool) → cond b Shutting Staying ≡ Opening → ⊥
shuts_none true e = cc
shuts_none false e = cc

-- ---- a proposal that is granted

pub key_cases : (k q : PubKey) → (k ≡ q) ⊎ (k ≡ q → ⊥)
key_cases k q = at (is_at (key_cmp k) q) refl where
  at : (b : Bool) → is_at (key_cmp k) q ≡ b → (k ≡ q) ⊎ (k ≡ q → ⊥)
  at true e = inl (same_key k q e)
  at false e = inr (λ h. let P : PubKey → Type 0 = λ x. is_at (key_cmp k) x ≡ true in let bad : true ≡ false = sym (subst P h (at_itself k)) ∙ e in cc)

pub message_inj : (m n : Message) → Some m ≡ Some n → m ≡ n
message_inj m n e = cc

some_past : (o : Option Past) (P : Past → Type 0) → IsSomeAnd o P → IsSome o
some_past None P h = absurd h
some_past (Some p) P h = refl

passes_covered : (o : Option Past) (m n : Message) → IsSomeAnd o (λ past. Passes past m) → IsSomeAnd o (λ past. Covers past n) → ¬ (Slashable m n)
passes_covered None m n p c = absurd p
passes_covered (Some past) m n p c = c m p

granted : (before : Messages) (w : World) (c : ℕ) (key : PubKey) (m : Message) (now : ℕ) (grant : OpenGrant) (new : State) → Invariant before w → Reply (w.desks c) (call.Propose key m now) (reply.Granted grant)
    → new.keys ≡ (lasting_after (w.desks c) (call.Propose key m now)).keys → new.states ≡ (w.desks c).states → new.grants ≡ (w.desks c).grants ++ grant ∷ [] → new.torn ≡ (w.desks c).torn
    → Invariant before (stepped w c new (w.torn c) [])
granted before w c key m now grant new inv reply keys states grants torn = record {
  keys = λ k. at k (key_cases k key);
  torn = both_cases TornFits w.desks w.torn c new (w.torn c) (fits_up (w.desks c) new (w.torn c) reply.0.0 (torn ∙ reply.0.0) (inv.torn c)).1 inv.torn;
  held = inv.held;
  safe = inv.safe;
} where
  kept : KeepsIn (w.desks c).keys new.keys
  kept = let K : List (PubKey × Past) → Type 0 = λ ks. KeepsIn (w.desks c).keys ks in subst K (sym keys) (grown_keeps (w.desks c).keys key m (past_of (w.desks c) key) refl)

  carries : (k : PubKey) → Carries (view_of before w k) (view_of before (stepped w c new (w.torn c) []) k)
  carries k = record {
    covered = λ d n. client_cases (λ i s. HasCovered (w.desks i) k n → HasCovered s k n) w.desks c new (covers_on (w.desks c).keys new.keys k n kept) (λ i e x. x) d;
    activated = λ x. x;
    before = λ n x. x;
  }

  holds : (k : PubKey) (d : ℕ) → held ((stepped w c new (w.torn c) []).desks d).states k ≡ held (w.desks d).states k
  holds k d = client_cases (λ i s. held s.states k ≡ held (w.desks i).states k) w.desks c new (ap (λ s. held s k) states) (λ i e. refl) d

  pending : (k : PubKey) (d : ℕ) → IsActivation ((stepped w c new (w.torn c) []).torn d) k → IsActivation (w.torn d) k
  pending k d = client_cases (λ i t. IsActivation t k → IsActivation (w.torn i) k) w.torn c (w.torn c) (λ x. x) (λ i e x. x) d

  -- the grant, or one that was open before
  of_new : (k : PubKey) (n : Message) → HasOpen new k n → HasOpen (w.desks c) k n ⊎ ((k ≡ key) × (n ≡ m))
  of_new k n x = cases (let P : List OpenGrant → Type 0 = λ gs. Contains gs x.0 in Contains-push_cases (w.desks c).grants grant x.0 (subst P grants x.1)) where
    cases : Contains (w.desks c).grants x.0 ⊎ (grant ≡ x.0) → HasOpen (w.desks c) k n ⊎ ((k ≡ key) × (n ≡ m))
    cases (inl there) = inl (x.0, there, x.2, x.3)
    cases (inr e) =
        let is : x.0 ≡ grant_for (w.desks c) key m = sym e ∙ reply.1 in
        inr (sym x.2 ∙ ap (λ g. g.key) is, message_inj n m (sym x.3 ∙ ap (λ g. g.message) is))

  at : (k : PubKey) → (k ≡ key) ⊎ (k ≡ key → ⊥) → IsKeySafe (view_of before (stepped w c new (w.torn c) []) k)
  at k (inr not) = at_key.keeps (view_of before w k) (view_of before (stepped w c new (w.torn c) []) k) (inv.keys k) (record {
    carries = carries k;
    phase = refl;
    holds = holds k;
    pending = pending k;
    open' = λ d n. client_cases (λ i s. HasOpen s k n → HasOpen (w.desks i) k n) w.desks c new (λ x. older n (of_new k n x)) (λ i e x. x) d;
    all = λ n x. x;
    handed = λ d b x. inl x;
  }) where
    older : (n : Message) → HasOpen (w.desks c) k n ⊎ ((k ≡ key) × (n ≡ m)) → HasOpen (w.desks c) k n
    older n (inl x) = x
    older n (inr x) = absurd (not x.0)
  at k (inl is) = let P : PubKey → Type 0 = λ q. IsKeySafe (view_of before (stepped w c new (w.torn c) []) q) in subst P (sym is) (at_key.grants (view_of before w key) (view_of before (stepped w c new (w.torn c) []) key) c m (inv.keys key) (record {
    carries = carries key;
    was = ap is_held reply.0.1.0.0;
    passes = λ n x. passes_covered (past_of (w.desks c) key) m n reply.0.1.0.1 x;
    covered = here;
    phase = refl;
    holds = holds key;
    pending = pending key;
    open' = λ d n. client_cases (λ i s. HasOpen s key n → HasOpen (w.desks i) key n ⊎ ((i ≡ c) × (n ≡ m))) w.desks c new (λ x. newer n (of_new key n x)) (λ i e x. inl x) d;
    all = λ n x. x;
    handed = λ d b x. x;
  })) where
    newer : (n : Message) → HasOpen (w.desks c) key n ⊎ ((key ≡ key) × (n ≡ m)) → HasOpen (w.desks c) key n ⊎ ((c ≡ c) × (n ≡ m))
    newer n (inl x) = inl x
    newer n (inr x) = inr (refl, x.1)

    here : HasCovered ((stepped w c new (w.torn c) []).desks c) key m
    here =
        let P : List (PubKey × Past) → Type 0 = λ ks. IsSomeAnd (kept_of ks key) (λ past. Covers past m) in
        let Q : State → Type 0 = λ s. HasCovered s key m in
        subst Q (sym (at_here w.desks c new)) (subst P (sym keys) (granted_covers (w.desks c) key m (some_past (past_of (w.desks c) key) (λ past. Passes past m) reply.0.1.0.1)))

-- ---- a call that a fault of the disk tears

act_cases : (cl : DeskCall) (k : PubKey) → IsActivation (Some cl) k ⊎ (IsActivation (Some cl) k → ⊥)
act_cases (call.Activate key now) k = key_cases key k
act_cases cl k = inr (λ x. x)

tears : (before : Messages) (w : World) (c : ℕ) (cl : DeskCall) (new : State) (l : Lasting) → Invariant before w → w.torn c ≡ None → Changes (w.desks c) cl l
    → new.keys ≡ (w.desks c).keys → new.states ≡ (w.desks c).states → new.grants ≡ (w.desks c).grants → new.torn ≡ Some l → ((k : PubKey) → IsActivation (Some cl) k → MayActivate before w c k)
    → Invariant before (stepped w c new (Some cl) [])
tears before w c cl new l inv none changes keys states grants torn law = record {
  keys = λ k. at k (act_cases cl k);
  torn = both_cases TornFits w.desks w.torn c new (Some cl) (l, torn, moved_on) inv.torn;
  held = inv.held;
  safe = inv.safe;
} where
  moved_on : Changes new cl l
  moved_on =
      let K : List (PubKey × Past) → Type 0 = λ ks. KeepsIn ks l.keys in
      let M : PubKey → List (PubKey × KeyState) → Type 0 = λ k ss. Moved (effect cl k) (held ss k) (held l.states k) (NoGrants (w.desks c).grants k) in
      let G : PubKey → List OpenGrant → Type 0 = λ k gs. Moved (effect cl k) (held new.states k) (held l.states k) (NoGrants gs k) in
      record {
        kept = subst K (sym keys) changes.kept;
        moved = λ k. subst (G k) (sym grants) (subst (M k) (sym states) (changes.moved k));
      }

  carries : (k : PubKey) → Carries (view_of before w k) (view_of before (stepped w c new (Some cl) []) k)
  carries k = record {
    covered = λ d n. client_cases (λ i s. HasCovered (w.desks i) k n → HasCovered s k n) w.desks c new (λ x. let P : List (PubKey × Past) → Type 0 = λ ks. IsSomeAnd (kept_of ks k) (λ past. Covers past n) in subst P (sym keys) x) (λ i e x. x) d;
    activated = λ x. x;
    before = λ n x. x;
  }

  holds : (k : PubKey) (d : ℕ) → held ((stepped w c new (Some cl) []).desks d).states k ≡ held (w.desks d).states k
  holds k d = client_cases (λ i s. held s.states k ≡ held (w.desks i).states k) w.desks c new (ap (λ s. held s k) states) (λ i e. refl) d

  opened : (k : PubKey) (d : ℕ) (n : Message) → HasOpen ((stepped w c new (Some cl) []).desks d) k n → HasOpen (w.desks d) k n
  opened k d n = client_cases (λ i s. HasOpen s k n → HasOpen (w.desks i) k n) w.desks c new (λ x. let P : List OpenGrant → Type 0 = λ gs. Contains gs x.0 in (x.0, subst P grants x.1, x.2, x.3)) (λ i e x. x) d

  at : (k : PubKey) → IsActivation (Some cl) k ⊎ (IsActivation (Some cl) k → ⊥) → IsKeySafe (view_of before (stepped w c new (Some cl) []) k)
  at k (inl is) = at_key.waits (view_of before w k) (view_of before (stepped w c new (Some cl) []) k) c (inv.keys k) (record {
    keeps = λ d e h. true-false (held (w.desks e).states k) ((inv.keys k).held e h) (free.none e);
    none = λ d p. only d p (free.only d p);
    covers = free.covers;
    carries = carries k;
    phase = refl;
    holds = holds k;
    pending = λ d. client_cases (λ i t. IsActivation t k → IsActivation (w.torn i) k ⊎ (i ≡ c)) w.torn c (Some cl) (λ x. inr refl) (λ i e x. inl x) d;
    open' = opened k;
    all = λ n x. x;
    handed = λ d b x. x;
  }) where
    free : Free before w c k
    free = allowed before w c k inv (law k is)

    only : (d : ℕ) → IsActivation (w.torn d) k → d ≡ c → ⊥
    only d p e = let P : ℕ → Type 0 = λ i. IsActivation (w.torn i) k in none_pending (w.torn c) k none (subst P e p)
  at k (inr not) = at_key.keeps (view_of before w k) (view_of before (stepped w c new (Some cl) []) k) (inv.keys k) (record {
    carries = carries k;
    phase = refl;
    holds = holds k;
    pending = λ d. client_cases (λ i t. IsActivation t k → IsActivation (w.torn i) k) w.torn c (Some cl) (λ x. absurd (not x)) (λ i e x. x) d;
    open' = opened k;
    all = λ n x. x;
    handed = λ d b x. inl x;
  })

begins_torn : (state : State) (c : ℕ) (cl : DeskCall) (k : PubKey) → IsUp state → IsActivation (Some cl) k → Begins state (Call c cl reply.Disk) k
begins_torn state c (call.Activate key now) k up x = (x, up)
begins_torn state c cl k up x = absurd x

disk : (before : Messages) (w : World) (c : ℕ) (cl : DeskCall) (new : State) → Invariant before w → Reply (w.desks c) cl reply.Disk → IsLawfulNow before w (Call c cl reply.Disk)
    → new.keys ≡ (w.desks c).keys → new.states ≡ (w.desks c).states → new.grants ≡ (w.desks c).grants → new.torn ≡ torn_first (w.desks c).torn (lasting_after (w.desks c) cl)
    → Invariant before (stepped w c new (first_torn (w.torn c) cl) [])
disk before w c cl new inv h law keys states grants torn = at (w.torn c) refl (inv.torn c) where
  at : (t : Option DeskCall) → w.torn c ≡ t → TornFits (w.desks c) t → Invariant before (stepped w c new (first_torn (w.torn c) cl) [])
  at None e up =
      let fault = failed (w.desks c) cl h in
      let l = lasting_after (w.desks c) cl in
      let P : Option DeskCall → Type 0 = λ t. Invariant before (stepped w c new (first_torn t cl) []) in
      subst P (sym e) (tears before w c cl new l inv e (changes_torn (w.desks c) cl up fault.0 fault.1) keys states grants (torn ∙ ap (λ t. torn_first t l) up) (λ k x. law k (begins_torn (w.desks c) c cl k up x)))
  at (Some first) e down =
      let l = lasting_after (w.desks c) cl in
      let same : new.torn ≡ (w.desks c).torn = torn ∙ (ap (λ t. torn_first t l) down.1 ∙ sym down.1) in
      let still : first_torn (w.torn c) cl ≡ w.torn c = ap (λ t. first_torn t cl) e ∙ sym e in
      let P : Option DeskCall → Type 0 = λ t. Invariant before (stepped w c new t []) in
      subst P (sym still) (refused before w c new inv keys states (λ g n says x. let G : List OpenGrant → Type 0 = λ gs. Contains gs g in subst G grants x) same [] (λ k. no_deeds w c k) refl (λ x. x))

-- ---- each call

-- a key begins to close: it is the client's still
begun : (before : Messages) (w : World) (c : ℕ) (key : PubKey) → Invariant before w → Reply (w.desks c) (call.BeginClose key) reply.CloseBegun → Invariant before (happens w (Call c (call.BeginClose key) reply.CloseBegun))
begun before w c key inv h =
    let new = after (w.desks c) (call.BeginClose key) reply.CloseBegun in
    let changes = changes_ok (w.desks c) (call.BeginClose key) reply.CloseBegun tt h in
    step before w c new (w.torn c) [] (λ k. Staying) inv (record {
      kept = changes.kept;
      moved = changes.moved;
      fewer = λ g n says x. x;
      fits = fits_same (w.desks c) new (w.torn c) refl refl changes.moved (λ g n says x. x) (inv.torn c);
      pending = λ k x. (x, refl);
      deeds = λ k. no_deeds w c k;
      sent = refl;
      held_on = λ x. x;
      free = λ k e. absurd (not_opening e);
    })

pub call_step : (before : Messages) (w : World) (c : ℕ) (cl : DeskCall) (r : DeskReply) → Invariant before w → Reply (w.desks c) cl r → IsLawfulNow before w (Call c cl r) → Invariant before (happens w (Call c cl r))
call_step before w c (call.Merge file) (reply.Merged keys) inv h law =
    answered before w c (call.Merge file) (after (w.desks c) (call.Merge file) (reply.Merged keys)) [] inv (changes_ok (w.desks c) (call.Merge file) (reply.Merged keys) tt h) h.0.0 refl refl refl refl (λ k. no_deeds w c k) refl (λ x. x) (λ k e. absurd (not_opening e))
call_step before w c (call.Record ps now) reply.Recorded inv h law =
    answered before w c (call.Record ps now) (after (w.desks c) (call.Record ps now) reply.Recorded) [] inv (changes_ok (w.desks c) (call.Record ps now) reply.Recorded tt h) h.0 refl refl refl refl (λ k. no_deeds w c k) refl (λ x. x) (λ k e. absurd (not_opening e))
call_step before w c (call.Prune key) (reply.Pruned book) inv h law =
    answered before w c (call.Prune key) (after (w.desks c) (call.Prune key) (reply.Pruned book)) [] inv (changes_ok (w.desks c) (call.Prune key) (reply.Pruned book) tt h) h.0.0 refl refl refl refl (λ k. no_deeds w c k) refl (λ x. x) (λ k e. absurd (not_opening e))
call_step before w c call.Compact (reply.Compacted old_size new_size) inv h law =
    answered before w c call.Compact (after (w.desks c) call.Compact (reply.Compacted old_size new_size)) [] inv (changes_ok (w.desks c) call.Compact (reply.Compacted old_size new_size) tt h) h.0.0 refl refl refl refl (λ k. no_deeds w c k) refl (λ x. x) (λ k e. absurd (not_opening e))
call_step before w c (call.Activate key now) reply.Active inv h law =
    answered before w c (call.Activate key now) (after (w.desks c) (call.Activate key now) reply.Active) (Activated c key ∷ []) inv (changes_ok (w.desks c) (call.Activate key now) reply.Active tt h) h.0 refl refl refl refl
    (λ k. opening_deed w c key k (is_at (key_cmp k) key) refl) refl (λ x. x) (λ k e. allowed before w c k inv (law k (opens_own key k (is_at (key_cmp k) key) refl e)))
call_step before w c (call.FinishClose key) (reply.Closed book) inv h law =
    answered before w c (call.FinishClose key) (after (w.desks c) (call.FinishClose key) (reply.Closed book)) (Exported c ((key, book) ∷ []) ∷ Closed c key ∷ []) inv (changes_ok (w.desks c) (call.FinishClose key) (reply.Closed book) tt h) h.0.0 refl refl refl refl
    (λ k. closing_deeds w c key k book (is_at (key_cmp k) key) refl h.1) refl (λ x. x) (λ k e. absurd (shuts_none (is_at (key_cmp k) key) e))
call_step before w c (call.Propose key m now) (reply.Granted grant) inv h law = granted before w c key m now grant (after (w.desks c) (call.Propose key m now) (reply.Granted grant)) inv h refl refl refl refl
call_step before w c (call.Allow key now) (reply.Granted grant) inv h law =
    refused before w c (after (w.desks c) (call.Allow key now) (reply.Granted grant)) inv refl refl (λ g n says x. plain_fewer (w.desks c).grants grant g n (ap (λ y. y.message) h.1) says x) refl [] (λ k. no_deeds w c k) refl (λ x. x)
call_step before w c (call.Answer key epoch live now) reply.Noted inv h law =
    refused before w c (after (w.desks c) (call.Answer key epoch live now) reply.Noted) inv refl refl (λ g n says x. x) refl [] (λ k. no_deeds w c k) refl (λ x. x)
call_step before w c (call.Settle grant outcome) reply.Settled inv h law =
    refused before w c (after (w.desks c) (call.Settle grant outcome) reply.Settled) inv refl refl (λ g n says x. without_fewer (w.desks c).grants grant.number g x) refl [] (λ k. no_deeds w c k) refl (λ x. x)
call_step before w c (call.BeginClose key) reply.CloseBegun inv h law = begun before w c key inv h
call_step before w c (call.Export keys) (reply.Exported file) inv h law =
    refused before w c (after (w.desks c) (call.Export keys) (reply.Exported file)) inv refl refl (λ g n says x. x) refl (Exported c file.books ∷ []) (λ k. exporting_deeds w c keys file.books k h.1) refl (λ x. x)
call_step before w c cl reply.Disk inv h law = disk before w c cl (after (w.desks c) cl reply.Disk) inv h law refl refl refl refl
call_step before w c cl r inv h law = refused before w c (after (w.desks c) cl r) inv refl refl (λ g n says x. x) refl [] (λ k. no_deeds w c k) refl (λ x. x)
