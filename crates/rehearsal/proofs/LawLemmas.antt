-- That what is played is lawful, and tears no call for long.
use Rattle.std.proofs.Common.{◌≡◌, ◌⊎◌, inl, inr, ℕ, ◌+◌, ◌≤◌, Bool, true, false, cond, List, [], ◌∷◌, ◌++◌, get_or, Option, Some, None, refl, sym, ◌∙◌, ap, subst, arith}
use Rattle.std.specs.Prelude.{Contains}
use Rattle.std.specs.BTreeMap.{is_at}
use Rattle.edge_kit.specs.declared.bytes.PubKey.{PubKey}
use Rattle.slash_defs.specs.declared.message.Message.{Message}
use Rattle.slash_defs.specs.declared.book.Book.{Book}
use Rattle.protect_record.proofs.MemberLemmas.{contains_cases, contains_none}
use Rattle.record_join.specs.Keys.{key_cmp}
use Rattle.record_join.specs.KeyLaws.{at_itself, same_key}
use Rattle.desk_machine.specs.declared.call.DeskCall.{DeskCall}
use Rattle.desk_machine.specs.declared.call.DeskCall.TheVariants as call
use Rattle.desk_machine.specs.declared.call.DeskReply.{DeskReply}
use Rattle.desk_machine.specs.declared.call.DeskReply.TheVariants as reply
use Rattle.world_law.specs.Worlds.{World, Event, Deed, MayHappen, client_of, happens, run, IsRun, torn_after, torn_call}
use Rattle.world_law.specs.Worlds.Event.{Call, Send, Crash}
use Rattle.world_law.specs.Worlds.Deed.{Activated, Closed, Exported, Sent}
use Rattle.world_law.specs.Lawful.{IsActivation, MayHold, MayActivate, IsHandedOut, IsLawfulNow, IsLawful, closed_by}
use Rattle.world_law.specs.Plans.{file_of}
use Rattle.world_law.proofs.KeyStanding.Phase.{Fresh, Held, Resting}
use Rattle.world_law.proofs.DeedLemmas.{phase_of}
use Rattle.world_law.proofs.ClientLemmas.{is_held}
use Rattle.world_law.proofs.WorldLemmas.{Invariant, client_cases}
use Rattle.world_law.proofs.EventLemmas.{event_step}
use Rattle.world_law.proofs.ImportLemmas.{merge_imports}
use Rattle.rehearsal.specs.Draws.{genesis, key_of}
use Rattle.rehearsal.specs.Plays.{Activates, IsGiven, Plays, TakesOver, proposal_events, sends_of}
use Rattle.rehearsal.specs.Rehearsals.{NoneTorn}
use Rattle.rehearsal.specs.declared.acts.Act.{Act}
use Rattle.rehearsal.specs.declared.acts.Act.TheVariants as act
use Rattle.rehearsal.proofs.WorldLemmas.{AllAt, sends_at, run_both}

-- ---- lists

pub lawful_both : (before : List (PubKey × Message)) (w : World) (xs ys : List Event) → IsLawful before w xs → IsLawful before (run w xs) ys → IsLawful before w (xs ++ ys)
lawful_both before w [] ys h k = k
lawful_both before w (x ∷ xs) ys h k = (h.0, lawful_both before (happens w x) xs ys h.1 k)

-- ---- torn calls

-- none is, but maybe at this client
abbrev pub NoneElse : ℕ → World → Type 0
NoneElse c w = (d : ℕ) → (d ≡ c → ⊥) → w.torn d ≡ None

torn_there : (w : World) (e : Event) (d : ℕ) → (client_of e ≡ d → ⊥) → (happens w e).torn d ≡ w.torn d
torn_there w e d not = client_cases (λ n t. (client_of e ≡ n → ⊥) → t ≡ w.torn n) w.torn (client_of e) (torn_after (w.torn (client_of e)) e) (λ no. absurd (no refl)) (λ n apart no. refl) d not

pub none_else : (w : World) (c : ℕ) (es : List Event) → AllAt c es → NoneElse c w → NoneElse c (run w es)
none_else w c [] at none = none
none_else w c (e ∷ es) at none = none_else (happens w e) c es at.1 (λ d not. torn_there w e d (λ q. not (sym q ∙ at.0)) ∙ none d not)

-- a call that was answered tears none
given_torn : (t : Option DeskCall) (c : DeskCall) (r : DeskReply) → IsGiven r → torn_call t c r ≡ t
given_torn t c reply.Disk h = absurd h
given_torn t c r h = refl

call_none : (w : World) (client : ℕ) (c : DeskCall) (r : DeskReply) → IsGiven r → NoneTorn w → NoneTorn (happens w (Call client c r))
call_none w client c r given none d =
    client_cases (λ n t. t ≡ None) w.torn client (torn_call (w.torn client) c r) (given_torn (w.torn client) c r given ∙ none client) (λ n apart. none n) d

sends_none : (w : World) (client : ℕ) (m : Message) (r : DeskReply) → NoneTorn w → NoneTorn (run w (sends_of client m r))
sends_none w client m (reply.Granted grant) none = λ d. client_cases (λ n t. t ≡ None) (happens w (Send client grant m)).torn client ((happens w (Send client grant m)).torn client) (sent client) (λ n apart. sent n) d where
  sent : NoneTorn (happens w (Send client grant m))
  sent d = client_cases (λ n t. t ≡ None) w.torn client (w.torn client) (none client) (λ n apart. none n) d
sends_none w client m r none = none

-- a stop clears it
crash_none : (w : World) (c : ℕ) (done : Bool) (now : ℕ) → NoneElse c w → NoneTorn (happens w (Crash c None done now false))
crash_none w c done now none d = client_cases (λ n t. t ≡ None) w.torn c None refl (λ n apart. none n apart) d

-- ---- events that open no key

sends_lawful : (w : World) (client : ℕ) (m : Message) (r : DeskReply) → IsLawful [] w (sends_of client m r)
sends_lawful w client m (reply.Granted grant) = ((λ k x. absurd x), ((λ k x. absurd x), tt))
sends_lawful w client m r = tt

pub proposal_lawful : (w : World) (client : ℕ) (key : PubKey) (m : Message) (now : ℕ) (r : DeskReply) → IsLawful [] w (proposal_events client key m now r)
proposal_lawful w client key m now r = ((λ k x. absurd x), sends_lawful (happens w (Call client (call.Propose key m now) r)) client m r)

-- ---- a handover

-- where the key rests, no client may hold it
resting_free : (w : World) (key : PubKey) (c : ℕ) → Invariant [] w → NoneTorn w → phase_of w.deeds key ≡ Resting c → (d : ℕ) → ¬ (MayHold w d key)
resting_free w key c inv none rests d (inl (inl active)) = let h = (inv.keys key).holder d (ap is_held active) in let bad : Held d ≡ Resting c = sym h ∙ rests in cc
resting_free w key c inv none rests d (inl (inr closing)) = let h = (inv.keys key).holder d (ap is_held closing) in let bad : Held d ≡ Resting c = sym h ∙ rests in cc
resting_free w key c inv none rests d (inr pending) = let P : Option DeskCall → Type 0 = λ t. IsActivation t key in subst P (none d) pending

-- what becomes lawful and calm
pub record Lawfully (w : World) (es : List Event) : Type 0 where
  pub lawful : IsLawful [] w es
  pub calm : NoneTorn (run w es)

activates : (w : World) (to : ℕ) (key : PubKey) (now : ℕ) (r : DeskReply) → IsGiven r → NoneTorn w → MayActivate [] w to key → Lawfully w (Call to (call.Activate key now) r ∷ [])
activates w to key now r given none may = record { lawful = (law r given, tt); calm = call_none w to (call.Activate key now) r given none } where
  opens : (k : PubKey) → key ≡ k → MayActivate [] w to k
  opens k e = let P : PubKey → Type 0 = λ q. MayActivate [] w to q in subst P e may

  law : (s : DeskReply) → IsGiven s → IsLawfulNow [] w (Call to (call.Activate key now) s)
  law reply.Active h = opens
  law reply.Disk h = absurd h
  law s h = λ k x. absurd x

activates_or_not : (w : World) (to : ℕ) (key : PubKey) (now : ℕ) (merged : DeskReply) (es : List Event) → Activates to key now merged es → NoneTorn w → ((keys : ℕ) → merged ≡ reply.Merged keys → MayActivate [] w to key) → Lawfully w es
activates_or_not w to key now (reply.Merged keys) es (r, given, is) none may = let P : List Event → Type 0 = λ l. Lawfully w l in subst P (sym is) (activates w to key now r given none (may keys refl))
activates_or_not w to key now merged es is none may = let P : List Event → Type 0 = λ l. Lawfully w l in subst P (sym is) (record { lawful = tt; calm = none })

-- a book that the key's last client handed out is merged: the key may become active
merged_may : (w : World) (from to : ℕ) (key : PubKey) (book : Book) (keys : ℕ) → closed_by w.deeds key ≡ Some from → IsHandedOut w.deeds key from book → phase_of w.deeds key ≡ Resting from → NoneTorn w → Invariant [] w
    → MayHappen w (Call to (call.Merge (file_of genesis key book)) (reply.Merged keys)) → MayActivate [] (happens w (Call to (call.Merge (file_of genesis key book)) (reply.Merged keys))) to key
merged_may w from to key book keys closed handed rests none inv may =
    let e : Event = Call to (call.Merge (file_of genesis key book)) (reply.Merged keys) in
    let then = event_step [] w e inv may (λ k x. absurd x) in
    let calm = call_none w to (call.Merge (file_of genesis key book)) (reply.Merged keys) tt none in
    let has = merge_imports w to (file_of genesis key book) keys may key book (0, omega arith, refl) in
    (resting_free (happens w e) key from then calm rests, inr (inr (from, closed, book, handed, has)))

handed : (w : World) (from to : ℕ) (key : PubKey) (now : ℕ) (begun closed : DeskReply) (rest : List Event) (holder : ℕ) → IsGiven begun → IsGiven closed → TakesOver from to key now closed rest holder → Invariant [] w → NoneTorn w
    → IsRun w (Call from (call.BeginClose key) begun ∷ Call from (call.FinishClose key) closed ∷ rest) → Lawfully w (Call from (call.BeginClose key) begun ∷ Call from (call.FinishClose key) closed ∷ rest)
handed w from to key now begun (reply.Closed book) rest holder gb gc (at, r, given, more, is, activating) inv none runs =
    let e1 : Event = Call from (call.BeginClose key) begun in
    let e2 : Event = Call from (call.FinishClose key) (reply.Closed book) in
    let file = file_of genesis key book in
    let w1 = happens w e1 in
    let w2 = happens w1 e2 in
    let R : List Event → Type 0 = λ l. IsRun w (e1 ∷ e2 ∷ l) in
    let run3 = subst R is runs in
    let inv1 = event_step [] w e1 inv run3.0 (λ k x. absurd x) in
    let inv2 = event_step [] w1 e2 inv1 run3.1.0 (λ k x. absurd x) in
    let none1 = call_none w from (call.BeginClose key) begun gb none in
    let none2 = call_none w1 from (call.FinishClose key) (reply.Closed book) tt none1 in
    let none3 = call_none w2 to (call.Merge file) r given none2 in
    let H : DeskReply → Type 0 = λ s. MayHappen w2 (Call to (call.Merge file) s) in
    let M : DeskReply → Type 0 = λ s. MayActivate [] (happens w2 (Call to (call.Merge file) s)) to key in
    let last = activates_or_not (happens w2 (Call to (call.Merge file) r)) to key now r more activating none3 (λ keys e.
    subst M (sym e) (merged_may w2 from to key book keys (rw (at_itself key) refl) (inl (refl, rw (at_itself key) refl)) (rw (at_itself key) refl) none2 inv2 (subst H e run3.1.1.0))) in
    let L : List Event → Type 0 = λ l. Lawfully w (e1 ∷ e2 ∷ l) in
    subst L (sym is) (record { lawful = ((λ k x. absurd x), ((λ k x. absurd x), ((λ k x. absurd x), last.lawful))); calm = last.calm })
handed w from to key now begun closed rest holder gb gc takes inv none runs =
    let e1 : Event = Call from (call.BeginClose key) begun in
    let e2 : Event = Call from (call.FinishClose key) closed in
    let L : List Event → Type 0 = λ l. Lawfully w (e1 ∷ e2 ∷ l) in
    subst L (sym takes.1) (record {
      lawful = ((λ k x. absurd x), ((λ k x. absurd x), tt));
      calm = call_none (happens w e1) from (call.FinishClose key) closed gc (call_none w from (call.BeginClose key) begun gb none);
    })

-- ---- each act

pub plays_lawful : (w : World) (client : ℕ) (key : PubKey) (now : ℕ) (a : Act) (es : List Event) (holder : ℕ) → Plays client key now a es holder → Invariant [] w → NoneTorn w → IsRun w es → Lawfully w es
plays_lawful w client key now (act.Propose m) es holder (at, r, given, is) inv none runs =
    let L : List Event → Type 0 = λ l. Lawfully w l in
    subst L (sym is) (record {
      lawful = proposal_lawful w client key m now r;
      calm = sends_none (happens w (Call client (call.Propose key m now) r)) client m r (call_none w client (call.Propose key m now) r given none);
    })
plays_lawful w client key now (act.HandOver to) es holder (begun, closed, gb, gc, rest, is, takes) inv none runs =
    let L : List Event → Type 0 = λ l. Lawfully w l in
    let R : List Event → Type 0 = λ l. IsRun w l in
    subst L (sym is) (handed w client to key now begun closed rest holder gb gc takes inv none (subst R is runs))
plays_lawful w client key now act.Stop es holder (at, done, is) inv none runs =
    let L : List Event → Type 0 = λ l. Lawfully w l in
    subst L (sym is) (record { lawful = ((λ k x. absurd x), tt); calm = crash_none w client done now (λ d not. none d) })
plays_lawful w client key now (act.StopWithin m disk_call crash) es holder (at, r, answered, first, last, is) inv none runs =
    let L : List Event → Type 0 = λ l. Lawfully w l in
    let w1 = happens w (Crash client None first now false) in
    let xs = proposal_events client key m now r in
    let ys : List Event = Crash client None last now false ∷ [] in
    let none1 = crash_none w client first now (λ d not. none d) in
    let behind = none_else w1 client xs (refl, sends_at client m r) (λ d not. none1 d) in
    subst L (sym is) (record {
      lawful = ((λ k x. absurd x), lawful_both [] w1 xs ys (proposal_lawful w1 client key m now r) ((λ k x. absurd x), tt));
      calm = subst NoneTorn (sym (run_both w1 xs ys)) (crash_none (run w1 xs) client last now behind);
    })
plays_lawful w client key now act.Prune es holder (at, r, given, is) inv none runs =
    let L : List Event → Type 0 = λ l. Lawfully w l in
    subst L (sym is) (record { lawful = ((λ k x. absurd x), tt); calm = call_none w client (call.Prune key) r given none })

-- ---- the first activations

activated_key : (d c : ℕ) (q k : PubKey) → Activated d q ≡ Activated c k → q ≡ k
activated_key d c q k e = cc

closed_activated : (d c : ℕ) (q k : PubKey) → Closed d q ≡ Activated c k → ⊥
closed_activated d c q k e = cc

never : (ds : List Deed) (k : PubKey) (c : ℕ) → phase_of ds k ≡ Fresh → Contains ds (Activated c k) → ⊥
never [] k c e has = contains_none (Activated c k) has
never (Activated d q ∷ ds) k c e has = at (is_at (key_cmp k) q) refl e (contains_cases (Activated d q) ds (Activated c k) has) (never ds k c) where
  at : (b : Bool) → is_at (key_cmp k) q ≡ b → cond b (Held d) (phase_of ds k) ≡ Fresh → (Activated d q ≡ Activated c k) ⊎ Contains ds (Activated c k) → (phase_of ds k ≡ Fresh → Contains ds (Activated c k) → ⊥) → ⊥
  at true f h x rest = let bad : Held d ≡ Fresh = h in cc
  at false f h (inl same) rest = let bad : false ≡ true = sym f ∙ (ap (λ y. is_at (key_cmp k) y) (activated_key d c q k same) ∙ at_itself k) in cc
  at false f h (inr there) rest = rest h there
never (Closed d q ∷ ds) k c e has = at (is_at (key_cmp k) q) e (contains_cases (Closed d q) ds (Activated c k) has) (never ds k c) where
  at : (b : Bool) → cond b (Resting d) (phase_of ds k) ≡ Fresh → (Closed d q ≡ Activated c k) ⊎ Contains ds (Activated c k) → (phase_of ds k ≡ Fresh → Contains ds (Activated c k) → ⊥) → ⊥
  at true h x rest = let bad : Resting d ≡ Fresh = h in cc
  at false h (inl same) rest = closed_activated d c q k same
  at false h (inr there) rest = rest h there
never (Exported d books ∷ ds) k c e has = at (contains_cases (Exported d books) ds (Activated c k) has) (never ds k c e) where
  at : (Exported d books ≡ Activated c k) ⊎ Contains ds (Activated c k) → (Contains ds (Activated c k) → ⊥) → ⊥
  at (inl same) rest = cc
  at (inr there) rest = rest there
never (Sent d q m ∷ ds) k c e has = at (contains_cases (Sent d q m) ds (Activated c k) has) (never ds k c e) where
  at : (Sent d q m ≡ Activated c k) ⊎ Contains ds (Activated c k) → (Contains ds (Activated c k) → ⊥) → ⊥
  at (inl same) rest = cc
  at (inr there) rest = rest there

fresh_free : (w : World) (key : PubKey) → Invariant [] w → NoneTorn w → phase_of w.deeds key ≡ Fresh → (d : ℕ) → ¬ (MayHold w d key)
fresh_free w key inv none fresh d (inl (inl active)) = let h = (inv.keys key).holder d (ap is_held active) in let bad : Held d ≡ Fresh = sym h ∙ fresh in cc
fresh_free w key inv none fresh d (inl (inr closing)) = let h = (inv.keys key).holder d (ap is_held closing) in let bad : Held d ≡ Fresh = sym h ∙ fresh in cc
fresh_free w key inv none fresh d (inr pending) = let P : Option DeskCall → Type 0 = λ t. IsActivation t key in subst P (none d) pending

pub first_lawful : (w : World) (client : ℕ) (key : PubKey) (r : DeskReply) → IsGiven r → Invariant [] w → NoneTorn w → phase_of w.deeds key ≡ Fresh → Lawfully w (Call client (call.Activate key 0) r ∷ [])
first_lawful w client key r given inv none fresh =
    activates w client key 0 r given none (fresh_free w key inv none fresh, inl (λ d has. never w.deeds key d fresh has, λ m has. absurd (contains_none (key, m) has)))

-- the keys from a place on were not active yet
abbrev pub FreshFrom : ℕ → World → Type 0
FreshFrom n w = (j : ℕ) → n ≤ j → phase_of w.deeds (key_of j) ≡ Fresh

key_place : (j n : ℕ) → key_of j ≡ key_of n → j ≡ n
key_place j n e = let same : j + 1 ≡ n + 1 = ap (λ (k : PubKey). get_or k.0 0 0) e in omega (arith, same)

pub fresh_on : (w : World) (client n : ℕ) (r : DeskReply) → FreshFrom n w → FreshFrom (n + 1) (happens w (Call client (call.Activate (key_of n) 0) r))
fresh_on w client n reply.Active fresh j above = at (is_at (key_cmp (key_of j)) (key_of n)) refl where
  at : (b : Bool) → is_at (key_cmp (key_of j)) (key_of n) ≡ b → cond b (Held client) (phase_of w.deeds (key_of j)) ≡ Fresh
  at true e = let same : j ≡ n = key_place j n (same_key (key_of j) (key_of n) e) in absurd (omega (arith, same, above))
  at false e = fresh j (omega (arith, above))
fresh_on w client n r fresh j above = fresh j (omega (arith, above))
