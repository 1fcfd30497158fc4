-- How a key stands by what was done with it.
use Rattle.std.proofs.Common.{◌≡◌, ◌⊎◌, inl, inr, ℕ, Bool, true, false, cond, List, [], ◌∷◌, ◌++◌, Some, None, refl, sym, ap, subst, arith}
use Rattle.std.specs.Prelude.{Contains}
use Rattle.std.specs.BTreeMap.{is_at}
use Rattle.std.proofs.lemmas.List.Elements.{Contains-append_right}
use Rattle.edge_kit.specs.declared.bytes.PubKey.{PubKey}
use Rattle.record_join.specs.Keys.{key_cmp}
use Rattle.record_join.specs.KeyLaws.{same_key, at_itself}
use Rattle.world_law.specs.Worlds.{Deed}
use Rattle.world_law.specs.Worlds.Deed.{Activated, Closed, Exported, Sent}
use Rattle.world_law.specs.Lawful.{closed_by}
use Rattle.world_law.specs.Law.{NoneWhileClosed}
use Rattle.world_law.proofs.KeyStanding.{Phase}
use Rattle.world_law.proofs.KeyStanding.Phase.{Fresh, Held, Resting}

abbrev pub phase_of : List Deed → PubKey → Phase
phase_of [] k = Fresh
phase_of (Activated c key ∷ ds) k = cond (is_at (key_cmp k) key) (Held c) (phase_of ds k)
phase_of (Closed c key ∷ ds) k = cond (is_at (key_cmp k) key) (Resting c) (phase_of ds k)
phase_of (Exported c books ∷ ds) k = phase_of ds k
phase_of (Sent c key m ∷ ds) k = phase_of ds k

-- each message was sent by the client that had its key
abbrev pub SentWhileHeld : List Deed → Type 0
SentWhileHeld [] = Unit {0}
SentWhileHeld (Sent c key m ∷ ds) = (phase_of ds key ≡ Held c) × SentWhileHeld ds
SentWhileHeld (Activated c key ∷ ds) = SentWhileHeld ds
SentWhileHeld (Closed c key ∷ ds) = SentWhileHeld ds
SentWhileHeld (Exported c books ∷ ds) = SentWhileHeld ds

-- ---- the last Close

abbrev HeldOrResting : Phase → ℕ → Type 0
HeldOrResting phase c = ((d : ℕ) × (phase ≡ Held d)) ⊎ (phase ≡ Resting c)

-- the key rests at the client of its last Close, if no client has it
pub rests_at : (ds : List Deed) (k : PubKey) (c : ℕ) → closed_by ds k ≡ Some c → HeldOrResting (phase_of ds k) c
rests_at [] k c e = absurd (let bad : None ≡ Some c = e in cc)
rests_at (Exported d books ∷ ds) k c e = rests_at ds k c e
rests_at (Sent d key m ∷ ds) k c e = rests_at ds k c e
rests_at (Activated d key ∷ ds) k c e = at (is_at (key_cmp k) key) (rests_at ds k c e) where
  at : (b : Bool) → HeldOrResting (phase_of ds k) c → HeldOrResting (cond b (Held d) (phase_of ds k)) c
  at true h = inl (d, refl)
  at false h = h
rests_at (Closed d key ∷ ds) k c e = at (is_at (key_cmp k) key) e (rests_at ds k c) where
  inj : (a b : ℕ) → Some a ≡ Some b → a ≡ b
  inj a b g = cc

  at : (b : Bool) → cond b (Some d) (closed_by ds k) ≡ Some c → (closed_by ds k ≡ Some c → HeldOrResting (phase_of ds k) c) → HeldOrResting (cond b (Resting d) (phase_of ds k)) c
  at true h rest = inr (ap Resting (inj d c h))
  at false h rest = rest h

-- ---- between a Close and a message

-- where a client has the key after its Close, it was activated between
held_between : (between earlier : List Deed) (k : PubKey) (closer holder : ℕ) → phase_of (between ++ Closed closer k ∷ earlier) k ≡ Held holder → (c : ℕ) × Contains between (Activated c k)
held_between [] earlier k closer holder e = at (is_at (key_cmp k) k) (at_itself k) e where
  at : (b : Bool) → b ≡ true → cond b (Resting closer) (phase_of earlier k) ≡ Held holder → (c : ℕ) × Contains [] (Activated c k)
  at true is h = absurd (let bad : Resting closer ≡ Held holder = h in cc)
  at false is h = absurd (let bad : false ≡ true = is in cc)
held_between (Exported d books ∷ ds) earlier k closer holder e = let r = held_between ds earlier k closer holder e in (r.0, Contains-append_right (Exported d books ∷ []) ds _ r.1)
held_between (Sent d key m ∷ ds) earlier k closer holder e = let r = held_between ds earlier k closer holder e in (r.0, Contains-append_right (Sent d key m ∷ []) ds _ r.1)
held_between (Activated d key ∷ ds) earlier k closer holder e = at (is_at (key_cmp k) key) refl e (held_between ds earlier k closer holder) where
  first : {X : Type 0} (x : X) (xs : List X) → Contains (x ∷ xs) x
  first x xs = (0, grind arith, refl)

  at : (b : Bool) → is_at (key_cmp k) key ≡ b → cond b (Held d) (phase_of (ds ++ Closed closer k ∷ earlier) k) ≡ Held holder
      → (phase_of (ds ++ Closed closer k ∷ earlier) k ≡ Held holder → (c : ℕ) × Contains ds (Activated c k)) → (c : ℕ) × Contains (Activated d key ∷ ds) (Activated c k)
  at true is h rest = let P : PubKey → Type 0 = λ q. Contains (Activated d key ∷ ds) (Activated d q) in (d, subst P (sym (same_key k key is)) (first (Activated d key) ds))
  at false is h rest = let r = rest h in (r.0, Contains-append_right (Activated d key ∷ []) ds _ r.1)
held_between (Closed d key ∷ ds) earlier k closer holder e = at (is_at (key_cmp k) key) e (held_between ds earlier k closer holder) where
  at : (b : Bool) → cond b (Resting d) (phase_of (ds ++ Closed closer k ∷ earlier) k) ≡ Held holder
      → (phase_of (ds ++ Closed closer k ∷ earlier) k ≡ Held holder → (c : ℕ) × Contains ds (Activated c k)) → (c : ℕ) × Contains (Closed d key ∷ ds) (Activated c k)
  at true h rest = absurd (let bad : Resting d ≡ Held holder = h in cc)
  at false h rest = let r = rest h in (r.0, Contains-append_right (Closed d key ∷ []) ds _ r.1)

sent_rest : (later ds : List Deed) → SentWhileHeld (later ++ ds) → SentWhileHeld ds
sent_rest [] ds h = h
sent_rest (Exported d books ∷ later) ds h = sent_rest later ds h
sent_rest (Activated d key ∷ later) ds h = sent_rest later ds h
sent_rest (Closed d key ∷ later) ds h = sent_rest later ds h
sent_rest (Sent d key m ∷ later) ds h = sent_rest later ds h.1

pub none_while_closed : (ds : List Deed) → SentWhileHeld ds → NoneWhileClosed ds
none_while_closed ds h later between earlier sender closer key m e =
    let all = subst SentWhileHeld e h in
    let here = sent_rest later (Sent sender key m ∷ (between ++ Closed closer key ∷ earlier)) all in
    held_between between earlier key closer sender here.0
