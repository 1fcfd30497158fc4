-- What it means that nodes were tried in order.
use Rattle.std.proofs.Common.{◌≡◌, ◌↔◌, ℕ, zero, suc, ◌<◌, Bool, true, false, List, [], ◌∷◌, Option, Some, None, Result, Ok, Err, IsSomeAnd, slice_get, refl, sym, ◌∙◌, ap, subst, arith}
use Rattle.edge_kit.specs.Causes.{Rose}
use Rattle.edge_kit.specs.Tellings.{Tells}
use Rattle.node_calls.specs.declared.answer.NodeFault.{NodeFault}
use Rattle.node_calls.specs.declared.answer.NodeFault.TheVariants as fault
use Rattle.node_calls.specs.declared.told.NodeCall.{NodeCall}
use Rattle.node_fallback.specs.declared.no_node.Cause.{Cause}
use Rattle.node_fallback.specs.declared.no_node.Cause.TheVariants as cause
use Rattle.node_fallback.specs.declared.no_node.NoAnswer.TheVariants as none
use Rattle.node_fallback.specs.FirstAnswer.{ComesFrom, GaveNothing, HadNothing, NamesEach, told_cause}
use Rattle.node_fallback.specs.InOrder.{AreTried, EndsWith, IsTried, TriedInOrder, causes, given_by}
use Rattle.node_fallback.specs.Seen.{Seen}
use Rattle.node_fallback.proofs.OrderLemmas.{GoesOn}

-- ---- an answer

-- after a node in front that gave nothing
ComesFrom-next : {A : Type 0} (told : Result A NodeFault → List NodeCall) (old new : List Seen) (o n : Seen) (value : A) (place : ℕ)
    → HadNothing told o n → ComesFrom told old new value place → ComesFrom told (o ∷ old) (n ∷ new) value (suc place)
ComesFrom-next {A} told old new o n value place nothing c = record { before = c.before; now = c.now; was = c.was; is = c.is; gave = c.gave; front = front; behind = behind } where
  front : (k : ℕ) (p q : Seen) → k < suc place → slice_get (o ∷ old) k ≡ Some p → slice_get (n ∷ new) k ≡ Some q → HadNothing told p q
  front zero p q h was is =
      let before : o ≡ p = cc in
      let now : n ≡ q = cc in
      subst (λ (x : Seen). HadNothing told p x) now (subst (λ (x : Seen). HadNothing told x n) before nothing)
  front (suc k) p q h was is = c.front k p q (omega arith) was is

  behind : (k : ℕ) → suc place < k → slice_get (n ∷ new) k ≡ slice_get (o ∷ old) k
  behind zero h = absurd (omega arith)
  behind (suc k) h = c.behind k (omega arith)

-- at the first node
ComesFrom-here : {A : Type 0} (told : Result A NodeFault → List NodeCall) (old new : List Seen) (o n : Seen) (value : A)
    → IsTried told o (Some (Ok value)) n → new ≡ old → ComesFrom told (o ∷ old) (n ∷ new) value 0
ComesFrom-here {A} told old new o n value tried same = record { before = o; now = n; was = refl; is = refl; gave = tried; front = front; behind = behind } where
  front : (k : ℕ) (p q : Seen) → k < 0 → slice_get (o ∷ old) k ≡ Some p → slice_get (n ∷ new) k ≡ Some q → HadNothing told p q
  front k p q h was is = absurd (omega arith)

  behind : (k : ℕ) → 0 < k → slice_get (n ∷ new) k ≡ slice_get (o ∷ old) k
  behind zero h = absurd (omega arith)
  behind (suc k) h = ap (λ (l : List Seen). slice_get l k) same

abbrev SomePlace : {A : Type 0} → (Result A NodeFault → List NodeCall) → List Seen → List Seen → A → Type 0
SomePlace told old new value = (place : ℕ) × ComesFrom told old new value place

SomePlace-next : {A : Type 0} (told : Result A NodeFault → List NodeCall) (r : Option (Result A NodeFault)) (old new : List Seen) (o n : Seen) (value : A)
    → GaveNothing r → IsTried told o r n → SomePlace told old new value → SomePlace told (o ∷ old) (n ∷ new) value
SomePlace-next told r old new o n value nothing tried p = (suc p.0, ComesFrom-next told old new o n value p.0 (record { reply = r; nothing = nothing; tried = tried }) p.1)

comes_from : {A : Type 0} (told : Result A NodeFault → List NodeCall) (old new : List Seen) (rs : List (Option (Result A NodeFault))) (why : List Cause) (value : A)
    → AreTried told old rs new → EndsWith false old rs → Ok value ≡ given_by why rs → SomePlace told old new value
comes_from told old new [] why value f w e = absurd cc
comes_from told [] new (r ∷ rs) why value f w e = absurd f
comes_from told (o ∷ old) [] (r ∷ rs) why value f w e = absurd f
comes_from told (o ∷ old) (n ∷ new) (None ∷ rs) why value f w e = SomePlace-next told None old new o n value tt f.0 (comes_from told old new rs why value f.1 w e)
comes_from {A} told (o ∷ old) (n ∷ new) (Some (Ok v) ∷ rs) why value f w e =
    let same : v ≡ value = cc in
    let rest : AreTried told old [] new = subst (λ (l : List (Option (Result A NodeFault))). AreTried told old l new) w f.1 in
    subst (λ (x : A). SomePlace told (o ∷ old) (n ∷ new) x) same (0, ComesFrom-here told old new o n v f.0 rest)
comes_from told (o ∷ old) (n ∷ new) (Some (Err fault.Fault) ∷ rs) why value f w e = SomePlace-next told (Some (Err fault.Fault)) old new o n value tt f.0 (comes_from told old new rs why value f.1 w e)
comes_from told (o ∷ old) (n ∷ new) (Some (Err (fault.Status status)) ∷ rs) why value f w e = SomePlace-next told (Some (Err (fault.Status status))) old new o n value tt f.0 (comes_from told old new rs why value f.1 w e)
comes_from told (o ∷ old) (n ∷ new) (Some (Err (fault.Unreadable body)) ∷ rs) why value f w e = SomePlace-next told (Some (Err (fault.Unreadable body))) old new o n value tt f.0 (comes_from told old new rs why value f.1 w e)
comes_from told (o ∷ old) (n ∷ new) (Some (Err fault.OutOfMemory) ∷ rs) why value f w e = absurd cc

pub first_answer : {A : Type 0} (told : Result A NodeFault → List NodeCall) (old new : List Seen) (value : A) → TriedInOrder told old new (Ok value) → (place : ℕ) × ComesFrom told old new value place
first_answer told old new value tried = comes_from told old new tried.replies (causes tried.replies) value tried.tried tried.whole tried.given

-- ---- no answer

-- one more node with its cause
NamesEach-next : {A : Type 0} (told : Result A NodeFault → List NodeCall) (why : Cause) (named : List Cause) (old new : List Seen) (o n : Seen)
    → (why ≡ cause.Syncing) ↔ (o.syncing ≡ true) → (why ≡ cause.Fault → Rose o.faults n.faults) → Tells o.told n.told (told_cause told why) → NamesEach told named old new → NamesEach told (why ∷ named) (o ∷ old) (n ∷ new)
NamesEach-next {A} told why named old new o n here rose telling c = record { each = ap (λ k. suc k) c.each; syncing = syncing; failed = failed; tells = tells } where
  syncing : (k : ℕ) → (slice_get (why ∷ named) k ≡ Some cause.Syncing) ↔ IsSomeAnd (slice_get (o ∷ old) k) (λ node. node.syncing ≡ true)
  syncing zero = ((λ e. here.0 cc), (λ t. ap (λ (x : Cause). Some x) (here.1 t)))
  syncing (suc k) = c.syncing k

  failed : (k : ℕ) (before now : Seen) → slice_get (why ∷ named) k ≡ Some cause.Fault → slice_get (o ∷ old) k ≡ Some before → slice_get (n ∷ new) k ≡ Some now → Rose before.faults now.faults
  failed zero before now e p q =
      let was : o ≡ before = cc in
      let is : n ≡ now = cc in
      subst (λ (x : Seen). Rose before.faults x.faults) is (subst (λ (x : Seen). Rose x.faults n.faults) was (rose cc))
  failed (suc k) before now e p q = c.failed k before now e p q

  tells : (k : ℕ) (before now : Seen) (named_as : Cause) → slice_get (why ∷ named) k ≡ Some named_as → slice_get (o ∷ old) k ≡ Some before → slice_get (n ∷ new) k ≡ Some now → Tells before.told now.told (told_cause told named_as)
  tells zero before now named_as e p q =
      let was : o ≡ before = cc in
      let is : n ≡ now = cc in
      let same : why ≡ named_as = cc in
      subst (λ (x : Cause). Tells before.told now.told (told_cause told x)) same (subst (λ (x : Seen). Tells before.told x.told (told_cause told why)) is (subst (λ (x : Seen). Tells x.told n.told (told_cause told why)) was telling))
  tells (suc k) before now named_as e p q = c.tells k before now named_as e p q

NamesEach-none : {A : Type 0} (told : Result A NodeFault → List NodeCall) (new : List Seen) → NamesEach told [] [] new
NamesEach-none told new = record { each = refl; syncing = (λ k. ((λ e. absurd cc), (λ no. absurd no))); failed = (λ k before now e p q. absurd cc); tells = (λ k before now why e p q. absurd cc) }

-- a node that was asked was not flagged
asked_flag : (why : Cause) (flag : Bool) → flag ≡ false → (why ≡ cause.Syncing → ⊥) → (why ≡ cause.Syncing) ↔ (flag ≡ true)
asked_flag why flag turn other = ((λ e. absurd (other e)), (λ t. absurd (let wrong : false ≡ true = sym turn ∙ t in cc)))

names_each : {A : Type 0} (told : Result A NodeFault → List NodeCall) (old new : List Seen) (rs : List (Option (Result A NodeFault)))
    → AreTried told old rs new → EndsWith false old rs → GoesOn rs → NamesEach told (causes rs) old new
names_each told [] new [] f w on = NamesEach-none told new
names_each told (o ∷ old) new [] f w on = absurd w
names_each told [] new (r ∷ rs) f w on = absurd f
names_each told (o ∷ old) [] (r ∷ rs) f w on = absurd f
names_each told (o ∷ old) (n ∷ new) (None ∷ rs) f w on =
    NamesEach-next told cause.Syncing (causes rs) old new o n ((λ _. f.0.turn), (λ _. refl)) (λ e. absurd cc) f.0.tells (names_each told old new rs f.1 w on.1)
names_each told (o ∷ old) (n ∷ new) (Some (Ok value) ∷ rs) f w on = absurd (let no : true ≡ false = on.0 in cc)
names_each told (o ∷ old) (n ∷ new) (Some (Err fault.Fault) ∷ rs) f w on =
    NamesEach-next told cause.Fault (causes rs) old new o n (asked_flag cause.Fault o.syncing f.0.turn (λ e. cc)) (λ e. f.0.fault refl) f.0.tells (names_each told old new rs f.1 w on.1)
names_each told (o ∷ old) (n ∷ new) (Some (Err (fault.Status status)) ∷ rs) f w on =
    NamesEach-next told (cause.Status status) (causes rs) old new o n (asked_flag (cause.Status status) o.syncing f.0.turn (λ e. cc)) (λ e. absurd cc) f.0.tells (names_each told old new rs f.1 w on.1)
names_each told (o ∷ old) (n ∷ new) (Some (Err (fault.Unreadable body)) ∷ rs) f w on =
    NamesEach-next told (cause.Unreadable body) (causes rs) old new o n (asked_flag (cause.Unreadable body) o.syncing f.0.turn (λ e. cc)) (λ e. absurd cc) f.0.tells (names_each told old new rs f.1 w on.1)
names_each told (o ∷ old) (n ∷ new) (Some (Err fault.OutOfMemory) ∷ rs) f w on = absurd (let no : true ≡ false = on.0 in cc)

-- where causes are given, they are all, and none of the replies ended the trying
given_by-none : {A : Type 0} (why named : List Cause) (rs : List (Option (Result A NodeFault))) → Err (none.NoNode named) ≡ given_by why rs → (why ≡ named) × GoesOn rs
given_by-none why named [] e = (cc, tt)
given_by-none why named (None ∷ rs) e = let rest = given_by-none why named rs e in (rest.0, (refl, rest.1))
given_by-none why named (Some (Ok value) ∷ rs) e = absurd cc
given_by-none why named (Some (Err fault.Fault) ∷ rs) e = let rest = given_by-none why named rs e in (rest.0, (refl, rest.1))
given_by-none why named (Some (Err (fault.Status status)) ∷ rs) e = let rest = given_by-none why named rs e in (rest.0, (refl, rest.1))
given_by-none why named (Some (Err (fault.Unreadable body)) ∷ rs) e = let rest = given_by-none why named rs e in (rest.0, (refl, rest.1))
given_by-none why named (Some (Err fault.OutOfMemory) ∷ rs) e = absurd cc

pub no_answer : {A : Type 0} (told : Result A NodeFault → List NodeCall) (old new : List Seen) (named : List Cause) → TriedInOrder told old new (Err (none.NoNode named)) → NamesEach told named old new
no_answer told old new named t =
    let given = given_by-none (causes t.replies) named t.replies t.given in
    subst (λ (l : List Cause). NamesEach told l old new) given.0 (names_each told old new t.replies t.tried t.whole given.1)
