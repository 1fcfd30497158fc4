-- What is true of one key at all clients, and what each kind of step makes of it.
use Rattle.std.proofs.Common.{◌≡◌, ◌≢◌, ◌⊎◌, inl, inr, ℕ, nat_eq, Bool, true, false, refl, sym, ◌∙◌, ap, subst, arith}
use Rattle.slash_defs.specs.declared.message.Message.{Message}
use Rattle.slash_defs.specs.declared.message.Message.TheVariants as message
use Rattle.slash_defs.specs.declared.book.Book.{Book}
use Rattle.slash_defs.specs.Slashing.{Slashable}
use Rattle.protect_record.specs.Passing.{BookRefuses}
use Rattle.protect_record.specs.PastLaws.{Slashable-sym}
use Rattle.std.proofs.lemmas.Grind.{common_steps}

-- how a key stands: no client had it, this one has it, or this one closed it last
pub data Phase : Type 0 where
  Fresh : Phase
  Held : (client : ℕ) → Phase
  Resting : (client : ℕ) → Phase

pub held_inj : (c d : ℕ) → Held c ≡ Held d → c ≡ d
held_inj c d e = cc

resting_inj : (c d : ℕ) → Resting c ≡ Resting d → c ≡ d
resting_inj c d e = cc

held-resting : (c d : ℕ) → Held c ≡ Resting d → ⊥
held-resting c d e = cc

-- what the book does not refuse is not slashable with the message
abbrev pub BookCovers : Book → Message → Type 0
BookCovers b m = (n : Message) → ¬ (BookRefuses b n) → ¬ (Slashable n m)

-- no message is slashable with itself
pub not-itself : (m : Message) → ¬ (Slashable m m)
not-itself (message.Block slot root) h = h.1 refl
not-itself (message.Vote s t r) (inl (e, inl n)) = n refl
not-itself (message.Vote s t r) (inl (e, inr n)) = n refl
not-itself (message.Vote s t r) (inr (inl h)) = absurd (grind arith)
not-itself (message.Vote s t r) (inr (inr h)) = absurd (grind arith)

-- one key, as all clients have it
pub record View : Type 1 where
  pub phase : Phase
  -- it is active or closing there
  pub holds : ℕ → Bool
  -- its activation is torn there
  pub pending : ℕ → Type 0
  -- the past there covers the message
  pub covered : ℕ → Message → Type 0
  -- a grant of the message is open there
  pub open' : ℕ → Message → Type 0
  -- the message was signed before or sent since
  pub all : Message → Type 0
  pub before : Message → Type 0
  -- the book was handed out by the client with its last Close or since
  pub handed : ℕ → Book → Type 0
  -- it was active before
  pub activated : Type 0

pub record IsKeySafe (v : View) : Type 0 where
  pub holder : (c : ℕ) → v.holds c ≡ true → v.phase ≡ Held c
  pub held : (c : ℕ) → v.phase ≡ Held c → v.holds c ≡ true
  pub waits : (c d : ℕ) → v.pending c → v.phase ≢ Held d
  pub one : (c d : ℕ) → v.pending c → v.pending d → c ≡ d
  pub by_holder : (c : ℕ) (m : Message) → v.phase ≡ Held c → v.all m → v.covered c m
  pub by_waiting : (c : ℕ) (m : Message) → v.pending c → v.all m → v.covered c m
  pub by_last : (c : ℕ) (m : Message) → v.phase ≡ Resting c → v.all m → v.covered c m
  pub by_book : (c : ℕ) (b : Book) (m : Message) → v.phase ≡ Resting c → v.handed c b → v.all m → BookCovers b m
  pub opened : (c : ℕ) (m : Message) → v.open' c m → v.phase ≡ Held c
  pub granted : (c : ℕ) (m : Message) → v.open' c m → v.covered c m
  pub apart : (c : ℕ) (m n : Message) → v.open' c m → v.all n → ¬ (Slashable n m)
  pub pairs : (c : ℕ) (m n : Message) → v.open' c m → v.open' c n → ¬ (Slashable n m)
  pub known : (v.phase ≢ Fresh) → v.activated
  pub silent : v.phase ≡ Fresh → (m : Message) → v.all m → v.before m

-- what each step keeps
pub record Carries (v w : View) : Type 0 where
  pub covered : (c : ℕ) (m : Message) → v.covered c m → w.covered c m
  pub activated : v.activated → w.activated
  pub before : (m : Message) → v.before m → w.before m

-- ---- nothing is done with the key

pub record Keeps (v w : View) : Type 0 where
  pub carries : Carries v w
  pub phase : w.phase ≡ v.phase
  pub holds : (c : ℕ) → w.holds c ≡ v.holds c
  pub pending : (c : ℕ) → w.pending c → v.pending c
  pub open' : (c : ℕ) (m : Message) → w.open' c m → v.open' c m
  pub all : (m : Message) → w.all m → v.all m
  pub handed : (c : ℕ) (b : Book) → w.handed c b → v.handed c b ⊎ ((m : Message) → v.phase ≡ Resting c → v.all m → BookCovers b m)

pub keeps : (v w : View) → IsKeySafe v → Keeps v w → IsKeySafe w
keeps v w s k = record {
  holder = λ c h. k.phase ∙ s.holder c (sym (k.holds c) ∙ h);
  held = λ c h. k.holds c ∙ s.held c (sym k.phase ∙ h);
  waits = λ c d p h. s.waits c d (k.pending c p) (sym k.phase ∙ h);
  one = λ c d p q. s.one c d (k.pending c p) (k.pending d q);
  by_holder = λ c m h a. k.carries.covered c m (s.by_holder c m (sym k.phase ∙ h) (k.all m a));
  by_waiting = λ c m p a. k.carries.covered c m (s.by_waiting c m (k.pending c p) (k.all m a));
  by_last = λ c m h a. k.carries.covered c m (s.by_last c m (sym k.phase ∙ h) (k.all m a));
  by_book = λ c b m h d a. book c b m (sym k.phase ∙ h) (k.handed c b d) (k.all m a);
  opened = λ c m o. k.phase ∙ s.opened c m (k.open' c m o);
  granted = λ c m o. k.carries.covered c m (s.granted c m (k.open' c m o));
  apart = λ c m n o a. s.apart c m n (k.open' c m o) (k.all n a);
  pairs = λ c m n o p. s.pairs c m n (k.open' c m o) (k.open' c n p);
  known = λ h. k.carries.activated (s.known (λ e. h (k.phase ∙ e)));
  silent = λ h m a. k.carries.before m (s.silent (sym k.phase ∙ h) m (k.all m a));
} where
  book : (c : ℕ) (b : Book) (m : Message) → v.phase ≡ Resting c → v.handed c b ⊎ ((m : Message) → v.phase ≡ Resting c → v.all m → BookCovers b m) → v.all m → BookCovers b m
  book c b m h (inl d) a = s.by_book c b m h d a
  book c b m h (inr f) a = f m h a

-- ---- the key becomes active at a client

pub record Opens (v w : View) (c : ℕ) : Type 0 where
  pub carries : Carries v w
  pub free : (d : ℕ) → v.holds d ≡ false
  pub covers : (m : Message) → v.all m → v.covered c m
  pub phase : w.phase ≡ Held c
  pub here : w.holds c ≡ true
  pub others : (d : ℕ) → (d ≡ c → ⊥) → w.holds d ≡ v.holds d
  pub pending : (d : ℕ) → w.pending d → ⊥
  pub open' : (d : ℕ) (m : Message) → w.open' d m → v.open' d m
  pub all : (m : Message) → w.all m → v.all m
  pub activated : w.activated

pub same_client : (d c : ℕ) → (d ≡ c) ⊎ (d ≡ c → ⊥)
same_client d c = at (nat_eq d c) refl where
  at : (b : Bool) → nat_eq d c ≡ b → (d ≡ c) ⊎ (d ≡ c → ⊥)
  at true e = inl (grind (arith, common_steps))
  at false e = inr (λ h. grind (arith, common_steps))

pub true-false : (b : Bool) → b ≡ true → b ≡ false → ⊥
true-false b e f = let bad : true ≡ false = sym e ∙ f in cc

pub opens : (v w : View) (c : ℕ) → IsKeySafe v → Opens v w c → IsKeySafe w
opens v w c s o = record {
  holder = λ d h. holder d h (same_client d c);
  held = λ d h. let e = held_inj c d (sym o.phase ∙ h) in let H : ℕ → Type 0 = λ x. w.holds x ≡ true in subst H e o.here;
  waits = λ d e p h. o.pending d p;
  one = λ d e p q. absurd (o.pending d p);
  by_holder = λ d m h a. let e = held_inj c d (sym o.phase ∙ h) in let H : ℕ → Type 0 = λ x. w.covered x m in subst H e (o.carries.covered c m (o.covers m (o.all m a)));
  by_waiting = λ d m p a. absurd (o.pending d p);
  by_last = λ d m h a. absurd (held-resting c d (sym o.phase ∙ h));
  by_book = λ d b m h x a. absurd (held-resting c d (sym o.phase ∙ h));
  opened = λ d m x. absurd (none d m (o.open' d m x));
  granted = λ d m x. absurd (none d m (o.open' d m x));
  apart = λ d m n x a. absurd (none d m (o.open' d m x));
  pairs = λ d m n x y. absurd (none d m (o.open' d m x));
  known = λ h. o.activated;
  silent = λ h m a. absurd (fresh (sym o.phase ∙ h));
} where
  none : (d : ℕ) (m : Message) → v.open' d m → ⊥
  none d m x = true-false (v.holds d) (s.held d (s.opened d m x)) (o.free d)

  fresh : Held c ≡ Fresh → ⊥
  fresh e = cc

  holder : (d : ℕ) → w.holds d ≡ true → (d ≡ c) ⊎ (d ≡ c → ⊥) → w.phase ≡ Held d
  holder d h (inl e) = o.phase ∙ ap Held (sym e)
  holder d h (inr n) = absurd (true-false (v.holds d) (sym (o.others d n) ∙ h) (o.free d))

-- ---- the key is closed at the client that has it

pub record Shuts (v w : View) (c : ℕ) : Type 0 where
  pub carries : Carries v w
  pub was : v.holds c ≡ true
  pub phase : w.phase ≡ Resting c
  pub here : w.holds c ≡ false
  pub others : (d : ℕ) → (d ≡ c → ⊥) → w.holds d ≡ v.holds d
  pub pending : (d : ℕ) → w.pending d → v.pending d
  pub open' : (d : ℕ) (m : Message) → w.open' d m → v.open' d m
  pub settled : (m : Message) → w.open' c m → ⊥
  pub all : (m : Message) → w.all m → v.all m
  pub handed : (b : Book) → w.handed c b → (m : Message) → v.all m → BookCovers b m

pub shuts : (v w : View) (c : ℕ) → IsKeySafe v → Shuts v w c → IsKeySafe w
shuts v w c s o = record {
  holder = λ d h. absurd (nobody d h (same_client d c));
  held = λ d h. absurd (held-resting d c (sym h ∙ o.phase));
  waits = λ d e p h. held-resting e c (sym h ∙ o.phase);
  one = λ d e p q. s.one d e (o.pending d p) (o.pending e q);
  by_holder = λ d m h a. absurd (held-resting d c (sym h ∙ o.phase));
  by_waiting = λ d m p a. o.carries.covered d m (s.by_waiting d m (o.pending d p) (o.all m a));
  by_last = λ d m h a. let e = resting_inj c d (sym o.phase ∙ h) in let H : ℕ → Type 0 = λ x. w.covered x m in subst H e (o.carries.covered c m (s.by_holder c m was (o.all m a)));
  by_book = λ d b m h x a. let e = resting_inj c d (sym o.phase ∙ h) in let H : ℕ → Type 0 = λ y. w.handed y b in o.handed b (subst H (sym e) x) m (o.all m a);
  opened = λ d m x. absurd (none d m x);
  granted = λ d m x. absurd (none d m x);
  apart = λ d m n x a. absurd (none d m x);
  pairs = λ d m n x y. absurd (none d m x);
  known = λ h. o.carries.activated (s.known (λ e. fresh (sym was ∙ e)));
  silent = λ h m a. absurd (rests (sym o.phase ∙ h));
} where
  was : v.phase ≡ Held c
  was = s.holder c o.was

  fresh : Held c ≡ Fresh → ⊥
  fresh e = cc

  rests : Resting c ≡ Fresh → ⊥
  rests e = cc

  nobody : (d : ℕ) → w.holds d ≡ true → (d ≡ c) ⊎ (d ≡ c → ⊥) → ⊥
  nobody d h (inl e) = let H : ℕ → Type 0 = λ x. w.holds x ≡ true in true-false (w.holds c) (subst H e h) o.here
  nobody d h (inr n) = n (held_inj d c (sym (s.holder d (sym (o.others d n) ∙ h)) ∙ was))

  none : (d : ℕ) (m : Message) → w.open' d m → ⊥
  none d m x =
      let e = held_inj d c (sym (s.opened d m (o.open' d m x)) ∙ was) in
      let H : ℕ → Type 0 = λ y. w.open' y m in
      o.settled m (subst H e x)

-- ---- a message of the key is granted

pub record Grants (v w : View) (c : ℕ) (m : Message) : Type 0 where
  pub carries : Carries v w
  pub was : v.holds c ≡ true
  -- what was covered is not slashable with it
  pub passes : (n : Message) → v.covered c n → ¬ (Slashable m n)
  pub covered : w.covered c m
  pub phase : w.phase ≡ v.phase
  pub holds : (d : ℕ) → w.holds d ≡ v.holds d
  pub pending : (d : ℕ) → w.pending d → v.pending d
  pub open' : (d : ℕ) (n : Message) → w.open' d n → v.open' d n ⊎ ((d ≡ c) × (n ≡ m))
  pub all : (n : Message) → w.all n → v.all n
  pub handed : (d : ℕ) (b : Book) → w.handed d b → v.handed d b

pub grants : (v w : View) (c : ℕ) (m : Message) → IsKeySafe v → Grants v w c m → IsKeySafe w
grants v w c m s g = record {
  holder = λ d h. g.phase ∙ s.holder d (sym (g.holds d) ∙ h);
  held = λ d h. g.holds d ∙ s.held d (sym g.phase ∙ h);
  waits = λ d e p h. s.waits d e (g.pending d p) (sym g.phase ∙ h);
  one = λ d e p q. s.one d e (g.pending d p) (g.pending e q);
  by_holder = λ d n h a. g.carries.covered d n (s.by_holder d n (sym g.phase ∙ h) (g.all n a));
  by_waiting = λ d n p a. g.carries.covered d n (s.by_waiting d n (g.pending d p) (g.all n a));
  by_last = λ d n h a. g.carries.covered d n (s.by_last d n (sym g.phase ∙ h) (g.all n a));
  by_book = λ d b n h x a. s.by_book d b n (sym g.phase ∙ h) (g.handed d b x) (g.all n a);
  opened = λ d n x. opened d n (g.open' d n x);
  granted = λ d n x. granted d n (g.open' d n x);
  apart = λ d n k x a. apart d n k (g.open' d n x) (g.all k a);
  pairs = λ d n k x y. pairs d n k (g.open' d n x) (g.open' d k y);
  known = λ h. g.carries.activated (s.known (λ e. h (g.phase ∙ e)));
  silent = λ h n a. g.carries.before n (s.silent (sym g.phase ∙ h) n (g.all n a));
} where
  was : v.phase ≡ Held c
  was = s.holder c g.was

  opened : (d : ℕ) (n : Message) → v.open' d n ⊎ ((d ≡ c) × (n ≡ m)) → w.phase ≡ Held d
  opened d n (inl x) = g.phase ∙ s.opened d n x
  opened d n (inr e) = g.phase ∙ was ∙ ap Held (sym e.0)

  granted : (d : ℕ) (n : Message) → v.open' d n ⊎ ((d ≡ c) × (n ≡ m)) → w.covered d n
  granted d n (inl x) = g.carries.covered d n (s.granted d n x)
  granted d n (inr e) = let P : ℕ → Type 0 = λ y. w.covered y n in let Q : Message → Type 0 = λ y. w.covered c y in subst P (sym e.0) (subst Q (sym e.1) g.covered)

  -- what is signed or granted already is not slashable with the new one
  old : (n : Message) → v.covered c n → ¬ (Slashable n m)
  old n h x = g.passes n h (Slashable-sym n m x)

  here : (d : ℕ) (n : Message) → v.open' d n → v.covered c n
  here d n x = let e = held_inj d c (sym (s.opened d n x) ∙ was) in let P : ℕ → Type 0 = λ y. v.covered y n in subst P e (s.granted d n x)

  apart : (d : ℕ) (n k : Message) → v.open' d n ⊎ ((d ≡ c) × (n ≡ m)) → v.all k → ¬ (Slashable k n)
  apart d n k (inl x) a = s.apart d n k x a
  apart d n k (inr e) a = let P : Message → Type 0 = λ y. ¬ (Slashable k y) in subst P (sym e.1) (old k (s.by_holder c k was a))

  pairs : (d : ℕ) (n k : Message) → v.open' d n ⊎ ((d ≡ c) × (n ≡ m)) → v.open' d k ⊎ ((d ≡ c) × (k ≡ m)) → ¬ (Slashable k n)
  pairs d n k (inl x) (inl y) = s.pairs d n k x y
  pairs d n k (inr e) (inl y) = let P : Message → Type 0 = λ z. ¬ (Slashable k z) in subst P (sym e.1) (old k (here d k y))
  pairs d n k (inl x) (inr f) = let P : Message → Type 0 = λ z. ¬ (Slashable z n) in subst P (sym f.1) (λ h. old n (here d n x) (Slashable-sym m n h))
  pairs d n k (inr e) (inr f) = let P : Message → Type 0 = λ z. ¬ (Slashable z n) in let Q : Message → Type 0 = λ z. ¬ (Slashable m z) in subst P (sym f.1) (subst Q (sym e.1) (not-itself m))

-- ---- a message of the key is sent under an open grant

pub record Sends (v w : View) (c : ℕ) (m : Message) : Type 0 where
  pub carries : Carries v w
  pub was : v.open' c m
  pub phase : w.phase ≡ v.phase
  pub holds : (d : ℕ) → w.holds d ≡ v.holds d
  pub pending : (d : ℕ) → w.pending d → v.pending d
  pub open' : (d : ℕ) (n : Message) → w.open' d n → v.open' d n
  pub all : (n : Message) → w.all n → v.all n ⊎ (n ≡ m)

pub sends : (v w : View) (c : ℕ) (m : Message) → IsKeySafe v → Sends v w c m → IsKeySafe w
sends v w c m s g = record {
  holder = λ d h. g.phase ∙ s.holder d (sym (g.holds d) ∙ h);
  held = λ d h. g.holds d ∙ s.held d (sym g.phase ∙ h);
  waits = λ d e p h. s.waits d e (g.pending d p) (sym g.phase ∙ h);
  one = λ d e p q. s.one d e (g.pending d p) (g.pending e q);
  by_holder = λ d n h a. g.carries.covered d n (by d n (sym g.phase ∙ h) (g.all n a));
  by_waiting = λ d n p a. absurd (s.waits d c (g.pending d p) was);
  by_last = λ d n h a. absurd (held-resting c d (sym was ∙ (sym g.phase ∙ h)));
  by_book = λ d b n h x a. absurd (held-resting c d (sym was ∙ (sym g.phase ∙ h)));
  opened = λ d n x. g.phase ∙ s.opened d n (g.open' d n x);
  granted = λ d n x. g.carries.covered d n (s.granted d n (g.open' d n x));
  apart = λ d n k x a. apart d n k (g.open' d n x) (g.all k a);
  pairs = λ d n k x y. s.pairs d n k (g.open' d n x) (g.open' d k y);
  known = λ h. g.carries.activated (s.known (λ e. h (g.phase ∙ e)));
  silent = λ h n a. absurd (fresh (sym was ∙ (sym g.phase ∙ h)));
} where
  was : v.phase ≡ Held c
  was = s.opened c m g.was

  fresh : Held c ≡ Fresh → ⊥
  fresh e = cc

  by : (d : ℕ) (n : Message) → v.phase ≡ Held d → v.all n ⊎ (n ≡ m) → v.covered d n
  by d n h (inl a) = s.by_holder d n h a
  by d n h (inr e) =
      let f = held_inj c d (sym was ∙ h) in
      let P : ℕ → Type 0 = λ y. v.covered y n in
      let Q : Message → Type 0 = λ y. v.covered c y in
      subst P f (subst Q (sym e) (s.granted c m g.was))

  apart : (d : ℕ) (n k : Message) → v.open' d n → v.all k ⊎ (k ≡ m) → ¬ (Slashable k n)
  apart d n k x (inl a) = s.apart d n k x a
  apart d n k x (inr e) =
      let f = held_inj c d (sym was ∙ s.opened d n x) in
      let P : Message → Type 0 = λ y. ¬ (Slashable y n) in
      let Q : ℕ → Type 0 = λ y. v.open' y m in
      subst P (sym e) (s.pairs d n m x (subst Q f g.was))

-- ---- an activation of the key is torn

pub record Waits (v w : View) (c : ℕ) : Type 0 where
  pub keeps : (d : ℕ) (e : ℕ) → v.phase ≡ Held e → ⊥
  pub none : (d : ℕ) → v.pending d → ⊥
  pub covers : (m : Message) → v.all m → v.covered c m
  pub carries : Carries v w
  pub phase : w.phase ≡ v.phase
  pub holds : (d : ℕ) → w.holds d ≡ v.holds d
  pub pending : (d : ℕ) → w.pending d → v.pending d ⊎ (d ≡ c)
  pub open' : (d : ℕ) (n : Message) → w.open' d n → v.open' d n
  pub all : (n : Message) → w.all n → v.all n
  pub handed : (d : ℕ) (b : Book) → w.handed d b → v.handed d b

pub waits : (v w : View) (c : ℕ) → IsKeySafe v → Waits v w c → IsKeySafe w
waits v w c s g = record {
  holder = λ d h. g.phase ∙ s.holder d (sym (g.holds d) ∙ h);
  held = λ d h. g.holds d ∙ s.held d (sym g.phase ∙ h);
  waits = λ d e p h. g.keeps d e (sym g.phase ∙ h);
  one = λ d e p q. here d (g.pending d p) ∙ sym (here e (g.pending e q));
  by_holder = λ d n h a. absurd (g.keeps d d (sym g.phase ∙ h));
  by_waiting = λ d n p a. let P : ℕ → Type 0 = λ y. w.covered y n in subst P (sym (here d (g.pending d p))) (g.carries.covered c n (g.covers n (g.all n a)));
  by_last = λ d n h a. g.carries.covered d n (s.by_last d n (sym g.phase ∙ h) (g.all n a));
  by_book = λ d b n h x a. s.by_book d b n (sym g.phase ∙ h) (g.handed d b x) (g.all n a);
  opened = λ d n x. g.phase ∙ s.opened d n (g.open' d n x);
  granted = λ d n x. g.carries.covered d n (s.granted d n (g.open' d n x));
  apart = λ d n k x a. s.apart d n k (g.open' d n x) (g.all k a);
  pairs = λ d n k x y. s.pairs d n k (g.open' d n x) (g.open' d k y);
  known = λ h. g.carries.activated (s.known (λ e. h (g.phase ∙ e)));
  silent = λ h n a. g.carries.before n (s.silent (sym g.phase ∙ h) n (g.all n a));
} where
  here : (d : ℕ) → v.pending d ⊎ (d ≡ c) → d ≡ c
  here d (inl p) = absurd (g.none d p)
  here d (inr e) = e
