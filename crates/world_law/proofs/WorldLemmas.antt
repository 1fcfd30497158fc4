-- What an event makes of the world: the invariant by key, and that each kind of event keeps it.
use Rattle.std.proofs.Common.{◌≡◌, ◌⊎◌, inl, inr, ℕ, nat_eq, Bool, true, false, List, ◌++◌, Option, Some, refl, sym, ◌∙◌, ap, subst, arith}
use Rattle.std.specs.Prelude.{Contains}
use Rattle.std.proofs.lemmas.Grind.{common_steps}
use Rattle.std.proofs.lemmas.List.Elements.{Contains-append_right}
use Rattle.edge_kit.specs.declared.bytes.PubKey.{PubKey}
use Rattle.slash_defs.specs.declared.message.Message.{Message}
use Rattle.slash_defs.specs.declared.book.Book.{Book}
use Rattle.slash_defs.specs.Lists.{SafeList}
use Rattle.desk_machine.specs.States.{State}
use Rattle.desk_machine.specs.declared.open_grant.OpenGrant.{OpenGrant}
use Rattle.desk_machine.specs.declared.call.DeskCall.{DeskCall}
use Rattle.world_law.specs.Worlds.{World, Deed, at_client, sent_of}
use Rattle.world_law.specs.Worlds.Deed.{Activated}
use Rattle.world_law.specs.Lawful.{IsActivation, HasCovered, IsHandedOut}
use Rattle.world_law.proofs.KeyStanding.{Phase, View, IsKeySafe, Carries, BookCovers, same_client, true-false}
use Rattle.world_law.proofs.KeyStanding as at_key
use Rattle.world_law.proofs.KeyStanding.Phase.{Fresh, Held, Resting}
use Rattle.world_law.proofs.DeedLemmas.{phase_of, SentWhileHeld}
use Rattle.world_law.proofs.PastLemmas.{KeepsIn, covers_on}
use Rattle.world_law.proofs.ClientLemmas.{held, Effect, Moved, NoGrants, Fewer, TornFits, IsBookOf, book_covers}
use Rattle.world_law.proofs.ClientLemmas.Effect.{Opening, Shutting, Staying}

-- ---- one client's thing

pub at_here : {X : Type 0} (things : ℕ → X) (c : ℕ) (x : X) → at_client things c x c ≡ x
at_here things c x = rw (itself c) refl where
  itself : (n : ℕ) → nat_eq n n ≡ true
  itself n = grind (arith, common_steps)

pub at_there : {X : Type 0} (things : ℕ → X) (c d : ℕ) (x : X) → (d ≡ c → ⊥) → at_client things c x d ≡ things d
at_there things c d x n = rw (apart d c n) refl where
  apart : (a b : ℕ) → (a ≡ b → ⊥) → nat_eq a b ≡ false
  apart a b n = grind (arith, common_steps)

-- what holds at the client and at each other
pub client_cases : {X : Type 0} (P : ℕ → X → Type 0) (things : ℕ → X) (c : ℕ) (x : X) → P c x → ((d : ℕ) → (d ≡ c → ⊥) → P d (things d)) → (d : ℕ) → P d (at_client things c x d)
client_cases {X} P things c x here there d = at (same_client d c) where
  at : (d ≡ c) ⊎ (d ≡ c → ⊥) → P d (at_client things c x d)
  at (inl e) = let Q : ℕ → Type 0 = λ n. P n (at_client things c x n) in let R : X → Type 0 = λ y. P c y in subst Q (sym e) (subst R (sym (at_here things c x)) here)
  at (inr n) = let R : X → Type 0 = λ y. P d y in subst R (sym (at_there things c d x n)) (there d n)

pub both_cases : {X Y : Type 0} (P : X → Y → Type 0) (xs : ℕ → X) (ys : ℕ → Y) (c : ℕ) (x : X) (y : Y) → P x y → ((d : ℕ) → P (xs d) (ys d)) → (d : ℕ) → P (at_client xs c x d) (at_client ys c y d)
both_cases {X} {Y} P xs ys c x y here there d = at (same_client d c) where
  at : (d ≡ c) ⊎ (d ≡ c → ⊥) → P (at_client xs c x d) (at_client ys c y d)
  at (inl e) =
      let Q : ℕ → Type 0 = λ n. P (at_client xs c x n) (at_client ys c y n) in
      let R : X → Type 0 = λ z. P z (at_client ys c y c) in
      let S : Y → Type 0 = λ z. P x z in
      subst Q (sym e) (subst R (sym (at_here xs c x)) (subst S (sym (at_here ys c y)) here))
  at (inr n) =
      let R : X → Type 0 = λ z. P z (at_client ys c y d) in
      let S : Y → Type 0 = λ z. P (xs d) z in
      subst R (sym (at_there xs c d x n)) (subst S (sym (at_there ys c d y n)) (there d))

-- ---- the invariant

abbrev pub Messages : Type 0
Messages = List (PubKey × Message)

-- a grant of the message is open at the desk
abbrev pub HasOpen : State → PubKey → Message → Type 0
HasOpen state k m = (g : OpenGrant) × Contains state.grants g × (g.key ≡ k) × (g.message ≡ Some m)

abbrev pub view_of : Messages → World → PubKey → View
view_of before w k = record {
  phase = phase_of w.deeds k;
  holds = λ c. held (w.desks c).states k;
  pending = λ c. IsActivation (w.torn c) k;
  covered = λ c m. HasCovered (w.desks c) k m;
  open' = λ c m. HasOpen (w.desks c) k m;
  all = λ m. Contains (before ++ sent_of w.deeds) (k, m);
  before = λ m. Contains before (k, m);
  handed = λ c b. IsHandedOut w.deeds k c b;
  activated = (c : ℕ) × Contains w.deeds (Activated c k);
}

pub record Invariant (before : Messages) (w : World) : Type 0 where
  pub keys : (k : PubKey) → IsKeySafe (view_of before w k)
  pub torn : (c : ℕ) → TornFits (w.desks c) (w.torn c)
  pub held : SentWhileHeld w.deeds
  pub safe : SafeList before → SafeList (before ++ sent_of w.deeds)

-- one client is in another state, and something was done
abbrev pub stepped : World → ℕ → State → Option DeskCall → List Deed → World
stepped w c state t ds = record { desks = at_client w.desks c state; torn = at_client w.torn c t; deeds = ds ++ w.deeds }

-- ---- steps that grant and send nothing

-- the key may become active at the client
pub record Free (before : Messages) (w : World) (c : ℕ) (k : PubKey) : Type 0 where
  pub none : (d : ℕ) → held (w.desks d).states k ≡ false
  pub only : (d : ℕ) → IsActivation (w.torn d) k → d ≡ c
  pub covers : (m : Message) → Contains (before ++ sent_of w.deeds) (k, m) → HasCovered (w.desks c) k m

abbrev pub DeedsAt : Effect → World → ℕ → List Deed → PubKey → Type 0
DeedsAt Staying w c ds k =
    (phase_of (ds ++ w.deeds) k ≡ phase_of w.deeds k)
    × ((d : ℕ) (b : Book) → IsHandedOut (ds ++ w.deeds) k d b → IsHandedOut w.deeds k d b ⊎ ((c ≡ d) × IsBookOf (w.desks c) k b))
DeedsAt Opening w c ds k = (phase_of (ds ++ w.deeds) k ≡ Held c) × ((d : ℕ) × Contains (ds ++ w.deeds) (Activated d k))
DeedsAt Shutting w c ds k = (phase_of (ds ++ w.deeds) k ≡ Resting c) × ((b : Book) → IsHandedOut (ds ++ w.deeds) k c b → IsBookOf (w.desks c) k b)

pub record Step (before : Messages) (w : World) (c : ℕ) (new : State) (t : Option DeskCall) (ds : List Deed) (does : PubKey → Effect) : Type 0 where
  pub kept : KeepsIn (w.desks c).keys new.keys
  pub moved : (k : PubKey) → Moved (does k) (held (w.desks c).states k) (held new.states k) (NoGrants (w.desks c).grants k)
  pub fewer : Fewer new.grants (w.desks c).grants
  pub fits : TornFits new t
  pub pending : (k : PubKey) → IsActivation t k → IsActivation (w.torn c) k × (does k ≡ Staying)
  pub deeds : (k : PubKey) → DeedsAt (does k) w c ds k
  pub sent : sent_of (ds ++ w.deeds) ≡ sent_of w.deeds
  pub held_on : SentWhileHeld w.deeds → SentWhileHeld (ds ++ w.deeds)
  pub free : (k : PubKey) → does k ≡ Opening → Free before w c k

module _ (before : Messages) (w : World) (c : ℕ) (new : State) (t : Option DeskCall) (ds : List Deed) where
  abbrev now : World
  now = stepped w c new t ds

  carries : (k : PubKey) → KeepsIn (w.desks c).keys new.keys → Carries (view_of before w k) (view_of before now k)
  carries k kept = record {
    covered = λ d m. client_cases (λ n s. HasCovered (w.desks n) k m → HasCovered s k m) w.desks c new (covers_on (w.desks c).keys new.keys k m kept) (λ e n x. x) d;
    activated = λ x. (x.0, Contains-append_right ds w.deeds (Activated x.0 k) x.1);
    before = λ m x. x;
  }

  opened : (k : PubKey) → Fewer new.grants (w.desks c).grants → (d : ℕ) (m : Message) → HasOpen (now.desks d) k m → HasOpen (w.desks d) k m
  opened k fewer d m = client_cases (λ n s. HasOpen s k m → HasOpen (w.desks n) k m) w.desks c new (λ x. (x.0, fewer x.0 m x.3 x.1, x.2, x.3)) (λ e n x. x) d

  all : (k : PubKey) → sent_of (ds ++ w.deeds) ≡ sent_of w.deeds → (m : Message) → Contains (before ++ sent_of (ds ++ w.deeds)) (k, m) → Contains (before ++ sent_of w.deeds) (k, m)
  all k e m x = let P : Messages → Type 0 = λ l. Contains (before ++ l) (k, m) in subst P e x

  waiting : (k : PubKey) → (IsActivation t k → IsActivation (w.torn c) k) → (d : ℕ) → IsActivation (now.torn d) k → IsActivation (w.torn d) k
  waiting k f d = client_cases (λ n s. IsActivation s k → IsActivation (w.torn n) k) w.torn c t f (λ e n x. x) d

  same_holds : (k : PubKey) → held new.states k ≡ held (w.desks c).states k → (d : ℕ) → held (now.desks d).states k ≡ held (w.desks d).states k
  same_holds k e d = client_cases (λ n s. held s.states k ≡ held (w.desks n).states k) w.desks c new e (λ e n. refl) d

  others : (k : PubKey) (d : ℕ) → (d ≡ c → ⊥) → held (now.desks d).states k ≡ held (w.desks d).states k
  others k d n = ap (λ s. held s.states k) (at_there w.desks c d new n)

  here : (k : PubKey) (b : Bool) → held new.states k ≡ b → held (now.desks c).states k ≡ b
  here k b e = ap (λ s. held s.states k) (at_here w.desks c new) ∙ e

  module _ (does : PubKey → Effect) (inv : Invariant before w) (s : Step before w c new t ds does) where
    key_step : (k : PubKey) (e : Effect) → does k ≡ e → Moved e (held (w.desks c).states k) (held new.states k) (NoGrants (w.desks c).grants k) → DeedsAt e w c ds k → IsKeySafe (view_of before now k)
    key_step k Staying e m d = at_key.keeps (view_of before w k) (view_of before now k) (inv.keys k) (record {
      carries = carries k s.kept;
      phase = d.0;
      holds = same_holds k m;
      pending = waiting k (λ x. (s.pending k x).0);
      open' = opened k s.fewer;
      all = all k s.sent;
      handed = λ n b x. handed n b (d.1 n b x);
    }) where
      handed : (n : ℕ) (b : Book) → IsHandedOut w.deeds k n b ⊎ ((c ≡ n) × IsBookOf (w.desks c) k b)
          → IsHandedOut w.deeds k n b ⊎ ((m : Message) → phase_of w.deeds k ≡ Resting n → Contains (before ++ sent_of w.deeds) (k, m) → BookCovers b m)
      handed n b (inl x) = inl x
      handed n b (inr x) = inr (λ m h a.
          let P : ℕ → Type 0 = λ y. HasCovered (w.desks y) k m in
          book_covers (w.desks c) k b m x.1 (subst P (sym x.0) ((inv.keys k).by_last n m h a)))
    key_step k Opening e m d = at_key.opens (view_of before w k) (view_of before now k) c (inv.keys k) (record {
      carries = carries k s.kept;
      free = free.none;
      covers = free.covers;
      phase = d.0;
      here = here k true m.1;
      others = others k;
      pending = λ n x. none n x (same_client n c);
      open' = opened k s.fewer;
      all = all k s.sent;
      activated = d.1;
    }) where
      free : Free before w c k
      free = s.free k e

      staying : Opening ≡ Staying → ⊥
      staying h = cc

      none : (n : ℕ) → IsActivation (now.torn n) k → (n ≡ c) ⊎ (n ≡ c → ⊥) → ⊥
      none n x (inl is) =
          let P : ℕ → Type 0 = λ y. IsActivation (now.torn y) k in
          let Q : Option DeskCall → Type 0 = λ y. IsActivation y k in
          staying (sym e ∙ (s.pending k (subst Q (at_here w.torn c t) (subst P is x))).1)
      none n x (inr not) = let Q : Option DeskCall → Type 0 = λ y. IsActivation y k in not (free.only n (subst Q (at_there w.torn c n t not) x))
    key_step k Shutting e m d = at_key.shuts (view_of before w k) (view_of before now k) c (inv.keys k) (record {
      carries = carries k s.kept;
      was = m.0;
      phase = d.0;
      here = here k false m.1;
      others = others k;
      pending = waiting k (λ x. (s.pending k x).0);
      open' = opened k s.fewer;
      settled = λ n x. let g = opened k s.fewer c n x in m.2 g.0 n g.3 g.1 g.2;
      all = all k s.sent;
      handed = λ b x n a. book_covers (w.desks c) k b n (d.1 b x) ((inv.keys k).by_holder c n ((inv.keys k).holder c m.0) a);
    })

    pub step : Invariant before now
    step = record {
      keys = λ k. key_step k (does k) refl (s.moved k) (s.deeds k);
      torn = both_cases TornFits w.desks w.torn c new t s.fits inv.torn;
      held = s.held_on inv.held;
      safe = λ h. let P : Messages → Type 0 = λ l. SafeList (before ++ l) in subst P (sym s.sent) (inv.safe h);
    }
