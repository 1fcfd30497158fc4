-- A field that is read is the field that was written, and what was written is read again.
use Rattle.std.proofs.Common.{◌≡◌, ℕ, zero, suc, ◌+◌, ◌^◌, ◌<◌, ◌≤◌, Bool, true, false, cond, ltb, List, [], ◌∷◌, ◌++◌, length, get_or, take, drop, Option, Some, None, refl, sym, ap, subst, ◌∙◌, append_assoc, arith, inl, inr}
use Rattle.std.specs.Int.{w64, from_le_bytes}
use Rattle.std.proofs.lemmas.Bool.{cases_lt, ltb-false, le-ltb}
use Rattle.std.proofs.lemmas.List.{take_at, drop_at, take-append-drop, length-append, length-take, length-take-le, get_or-drop, get_or-take, get_or_past}
use Rattle.std.proofs.lemmas.Nat.{le_bytes_8, from_le_bytes-to_le_bytes_8}
use Rattle.edge_kit.specs.declared.bytes.PubKey.{PubKey}
use Rattle.edge_kit.specs.declared.bytes.Root.{Root}
use Rattle.doppel_watch.specs.Moments.{moment_limit}
use Rattle.record_codec.specs.Spelling.{number, flag_byte, optional_root, optional_number, optional_pair, IsBytes, RootFits, NumberFits, PairFits}
use Rattle.record_codec.specs.Reading.{◌>>=◌, bytes_at, number_at, root_at, key_at, moment_at, flag_at, optional_root_at, optional_number_at, optional_pair_at}

-- each is a byte
abbrev pub AreBytes : List ℕ → Type 0
AreBytes bytes = (i : ℕ) → get_or bytes i 0 < 256

pub AreBytes-drop : (n : ℕ) (bytes : List ℕ) → AreBytes bytes → AreBytes (drop n bytes)
AreBytes-drop n bytes h i = rw get_or-drop (h (n + i))

AreBytes-take : (n : ℕ) (bytes : List ℕ) → AreBytes bytes → AreBytes (take n bytes)
AreBytes-take n bytes h i =
    elim (cases_lt i n) [
      | inl lt ↦ rw (get_or-take n bytes i 0 lt) (h i)
      | inr le ↦ rw (get_or_past (take n bytes) i 0 (omega (arith, length-take n bytes))) (omega arith)
    ]

-- the value of a step that found something
pub bind_some : {A B : Type 0} (o : Option A) (f : A → Option B) (y : B) → (o >>= f) ≡ Some y → (x : A) × (o ≡ Some x) × (f x ≡ Some y)
bind_some (Some x) f y e = (x, refl, e)
bind_some None f y e = absurd cc

guard_some : {A : Type 0} (b : Bool) (x y : A) → cond b None (Some x) ≡ Some y → (b ≡ false) × (x ≡ y)
guard_some true x y e = absurd cc
guard_some false x y e = (refl, cc)

abbrev found : {A : Type 0} → A → Option A
found x = Some x

pub some_is : {A : Type 0} (x y : A) → found x ≡ found y → x ≡ y
some_is x y e = cc

-- what a reader took from the front
pub record Takes (bytes text rest : List ℕ) : Type 0 where
  pub parts : bytes ≡ text ++ rest
  pub rest_fits : AreBytes rest

pub Takes-then : (a x b y c : List ℕ) → Takes a x b → Takes b y c → Takes a (x ++ y) c
Takes-then a x b y c p q = record { parts = p.parts ∙ ap (λ (t : List ℕ). x ++ t) q.parts ∙ sym (append_assoc x y c); rest_fits = q.rest_fits }

Takes-one : (b : ℕ) (bytes : List ℕ) → AreBytes (b ∷ bytes) → Takes (b ∷ bytes) (b ∷ []) bytes
Takes-one b bytes fits = record { parts = refl; rest_fits = λ i. fits (suc i) }

-- ---- so many bytes

pub bytes_take : (n : ℕ) (bytes : List ℕ) (x : List ℕ × List ℕ) → AreBytes bytes → bytes_at n bytes ≡ Some x → Takes bytes x.0 x.1 × IsBytes n x.0
bytes_take n bytes x fits e =
    let g = guard_some (ltb (length bytes) n) (take n bytes, drop n bytes) x e in
    let long : n ≤ length bytes = ltb-false _ _ g.0 in
    subst (λ (y : List ℕ × List ℕ). Takes bytes y.0 y.1 × IsBytes n y.0) g.1
    (record { parts = sym (take-append-drop n bytes); rest_fits = AreBytes-drop n bytes fits }, record { count = length-take-le n bytes long; each = AreBytes-take n bytes fits })

pub bytes_again : (n : ℕ) (front rest : List ℕ) → length front ≡ n → bytes_at n (front ++ rest) ≡ Some (front, rest)
bytes_again n front rest long =
    let room : ltb (length (front ++ rest)) n ≡ false = le-ltb _ _ (omega (arith, length-append front rest)) in
    rw (room, take_at front rest n long, drop_at front rest n long) refl

-- ---- numbers

eight_bytes : (b : List ℕ) → AreBytes b → from_le_bytes w64 b < 2 ^ 64
eight_bytes b fits = omega (arith, fits 0, fits 1, fits 2, fits 3, fits 4, fits 5, fits 6, fits 7)

pub number_takes : (bytes : List ℕ) (x : ℕ × List ℕ) → AreBytes bytes → number_at bytes ≡ Some x → Takes bytes (number x.0) x.1 × (x.0 < 2 ^ 64)
unfolding number_at number
number_takes bytes x fits e =
    let b = bind_some (bytes_at 8 bytes) (λ (b : List ℕ × List ℕ). Some (from_le_bytes w64 b.0, b.1)) x e in
    let t = bytes_take 8 bytes b.0 fits b.1 in
    let back : number (from_le_bytes w64 b.0.0) ≡ b.0.0 = le_bytes_8 b.0.0 (from_le_bytes w64 b.0.0) t.1.count t.1.each refl in
    subst (λ (y : ℕ × List ℕ). Takes bytes (number y.0) y.1 × (y.0 < 2 ^ 64)) (some_is (from_le_bytes w64 b.0.0, b.0.1) x b.2)
    (subst (λ (l : List ℕ). Takes bytes l b.0.1) (sym back) t.0, eight_bytes b.0.0 t.1.each)

length-number : (n : ℕ) → length (number n) ≡ 8
unfolding number
length-number n = refl

pub number_again : (n : ℕ) (rest : List ℕ) → n < 2 ^ 64 → number_at (number n ++ rest) ≡ Some (n, rest)
unfolding number_at number
number_again n rest lt = rw (bytes_again 8 (number n) rest (length-number n)) (ap (λ (m : ℕ). Some (m, rest)) (from_le_bytes-to_le_bytes_8 n lt))

pub moment_takes : (bytes : List ℕ) (x : ℕ × List ℕ) → AreBytes bytes → moment_at bytes ≡ Some x → Takes bytes (number x.0) x.1 × (x.0 ≤ moment_limit)
unfolding moment_at
moment_takes bytes x fits e =
    let m = bind_some (number_at bytes) (λ (m : ℕ × List ℕ). cond (ltb moment_limit m.0) None (Some (m.0, m.1))) x e in
    let g = guard_some (ltb moment_limit m.0.0) (m.0.0, m.0.1) x m.2 in
    let t = number_takes bytes m.0 fits m.1 in
    subst (λ (y : ℕ × List ℕ). Takes bytes (number y.0) y.1 × (y.0 ≤ moment_limit)) g.1 (t.0, ltb-false _ _ g.0)

pub moment_again : (n : ℕ) (rest : List ℕ) → n ≤ moment_limit → moment_at (number n ++ rest) ≡ Some (n, rest)
unfolding moment_at
moment_again n rest le =
    let lt : n < 2 ^ 64 = omega arith in
    rw (number_again n rest lt, le-ltb moment_limit n le) refl

-- ---- keys and roots

pub key_takes : (bytes : List ℕ) (x : PubKey × List ℕ) → AreBytes bytes → key_at bytes ≡ Some x → Takes bytes x.0.0 x.1 × IsBytes 48 x.0.0
unfolding key_at
key_takes bytes x fits e =
    let b = bind_some (bytes_at 48 bytes) (λ (b : List ℕ × List ℕ). Some (record { 0 = b.0 }, b.1)) x e in
    subst (λ (y : PubKey × List ℕ). Takes bytes y.0.0 y.1 × IsBytes 48 y.0.0) (some_is (record { 0 = b.0.0 }, b.0.1) x b.2) (bytes_take 48 bytes b.0 fits b.1)

pub key_again : (key : PubKey) (rest : List ℕ) → IsBytes 48 key.0 → key_at (key.0 ++ rest) ≡ Some (key, rest)
unfolding key_at
key_again key rest fits = rw (bytes_again 48 key.0 rest fits.count) refl

root_takes : (bytes : List ℕ) (x : Root × List ℕ) → AreBytes bytes → root_at bytes ≡ Some x → Takes bytes x.0.0 x.1 × IsBytes 32 x.0.0
unfolding root_at
root_takes bytes x fits e =
    let b = bind_some (bytes_at 32 bytes) (λ (b : List ℕ × List ℕ). Some (record { 0 = b.0 }, b.1)) x e in
    subst (λ (y : Root × List ℕ). Takes bytes y.0.0 y.1 × IsBytes 32 y.0.0) (some_is (record { 0 = b.0.0 }, b.0.1) x b.2) (bytes_take 32 bytes b.0 fits b.1)

root_again : (root : Root) (rest : List ℕ) → IsBytes 32 root.0 → root_at (root.0 ++ rest) ≡ Some (root, rest)
unfolding root_at
root_again root rest fits = rw (bytes_again 32 root.0 rest fits.count) refl

-- ---- flags, and what stands behind them

pub flag_takes : (bytes : List ℕ) (x : Bool × List ℕ) → AreBytes bytes → flag_at bytes ≡ Some x → Takes bytes (flag_byte x.0) x.1
unfolding flag_at
flag_takes [] x fits e = absurd cc
flag_takes (zero ∷ bytes) x fits e =
    subst (λ (y : Bool × List ℕ). Takes (0 ∷ bytes) (flag_byte y.0) y.1) (some_is (false, bytes) x e) (Takes-one 0 bytes fits)
flag_takes (suc zero ∷ bytes) x fits e =
    subst (λ (y : Bool × List ℕ). Takes (1 ∷ bytes) (flag_byte y.0) y.1) (some_is (true, bytes) x e) (Takes-one 1 bytes fits)
flag_takes (suc (suc flag) ∷ bytes) x fits e = absurd cc

pub flag_again : (is_set : Bool) (rest : List ℕ) → flag_at (flag_byte is_set ++ rest) ≡ Some (is_set, rest)
unfolding flag_at
flag_again false rest = refl
flag_again true rest = refl

pub optional_root_takes : (bytes : List ℕ) (x : Option Root × List ℕ) → AreBytes bytes → optional_root_at bytes ≡ Some x → Takes bytes (optional_root x.0) x.1 × RootFits x.0
unfolding optional_root_at
optional_root_takes [] x fits e = absurd cc
optional_root_takes (zero ∷ bytes) x fits e =
    subst (λ (y : Option Root × List ℕ). Takes (0 ∷ bytes) (optional_root y.0) y.1 × RootFits y.0) (some_is (None, bytes) x e) (Takes-one 0 bytes fits, tt)
optional_root_takes (suc zero ∷ bytes) x fits e =
    let r = bind_some (root_at bytes) (λ (root : Root × List ℕ). Some (Some root.0, root.1)) x e in
    let t = root_takes bytes r.0 (λ i. fits (suc i)) r.1 in
    subst (λ (y : Option Root × List ℕ). Takes (1 ∷ bytes) (optional_root y.0) y.1 × RootFits y.0) (some_is (Some r.0.0, r.0.1) x r.2)
    (Takes-then (1 ∷ bytes) (1 ∷ []) bytes r.0.0.0 r.0.1 (Takes-one 1 bytes fits) t.0, t.1)
optional_root_takes (suc (suc flag) ∷ bytes) x fits e = absurd cc

pub optional_root_again : (o : Option Root) (rest : List ℕ) → RootFits o → optional_root_at (optional_root o ++ rest) ≡ Some (o, rest)
unfolding optional_root_at
optional_root_again None rest fits = refl
optional_root_again (Some root) rest fits = rw (root_again root rest fits) refl

pub optional_number_takes : (bytes : List ℕ) (x : Option ℕ × List ℕ) → AreBytes bytes → optional_number_at bytes ≡ Some x → Takes bytes (optional_number x.0) x.1 × NumberFits x.0
unfolding optional_number_at
optional_number_takes [] x fits e = absurd cc
optional_number_takes (zero ∷ bytes) x fits e =
    subst (λ (y : Option ℕ × List ℕ). Takes (0 ∷ bytes) (optional_number y.0) y.1 × NumberFits y.0) (some_is (None, bytes) x e) (Takes-one 0 bytes fits, tt)
optional_number_takes (suc zero ∷ bytes) x fits e =
    let r = bind_some (number_at bytes) (λ (n : ℕ × List ℕ). Some (Some n.0, n.1)) x e in
    let t = number_takes bytes r.0 (λ i. fits (suc i)) r.1 in
    subst (λ (y : Option ℕ × List ℕ). Takes (1 ∷ bytes) (optional_number y.0) y.1 × NumberFits y.0) (some_is (Some r.0.0, r.0.1) x r.2)
    (Takes-then (1 ∷ bytes) (1 ∷ []) bytes (number r.0.0) r.0.1 (Takes-one 1 bytes fits) t.0, t.1)
optional_number_takes (suc (suc flag) ∷ bytes) x fits e = absurd cc

pub optional_number_again : (o : Option ℕ) (rest : List ℕ) → NumberFits o → optional_number_at (optional_number o ++ rest) ≡ Some (o, rest)
unfolding optional_number_at
optional_number_again None rest fits = refl
optional_number_again (Some n) rest fits = rw (number_again n rest fits) refl

pub optional_pair_takes : (bytes : List ℕ) (x : Option (ℕ × ℕ) × List ℕ) → AreBytes bytes → optional_pair_at bytes ≡ Some x → Takes bytes (optional_pair x.0) x.1 × PairFits x.0
unfolding optional_pair_at
optional_pair_takes [] x fits e = absurd cc
optional_pair_takes (zero ∷ bytes) x fits e =
    subst (λ (y : Option (ℕ × ℕ) × List ℕ). Takes (0 ∷ bytes) (optional_pair y.0) y.1 × PairFits y.0) (some_is (None, bytes) x e) (Takes-one 0 bytes fits, tt)
optional_pair_takes (suc zero ∷ bytes) x fits e =
    let m = bind_some (number_at bytes) (λ (m : ℕ × List ℕ). number_at m.1 >>= λ n. Some (Some (m.0, n.0), n.1)) x e in
    let n = bind_some (number_at m.0.1) (λ (n : ℕ × List ℕ). Some (Some (m.0.0, n.0), n.1)) x m.2 in
    let s = number_takes bytes m.0 (λ i. fits (suc i)) m.1 in
    let t = number_takes m.0.1 n.0 s.0.rest_fits n.1 in
    subst (λ (y : Option (ℕ × ℕ) × List ℕ). Takes (1 ∷ bytes) (optional_pair y.0) y.1 × PairFits y.0) (some_is (Some (m.0.0, n.0.0), n.0.1) x n.2)
    (Takes-then (1 ∷ bytes) (1 ∷ number m.0.0) m.0.1 (number n.0.0) n.0.1 (Takes-then (1 ∷ bytes) (1 ∷ []) bytes (number m.0.0) m.0.1 (Takes-one 1 bytes fits) s.0) t.0, (s.1, t.1))
optional_pair_takes (suc (suc flag) ∷ bytes) x fits e = absurd cc

pub optional_pair_again : (o : Option (ℕ × ℕ)) (rest : List ℕ) → PairFits o → optional_pair_at (optional_pair o ++ rest) ≡ Some (o, rest)
unfolding optional_pair_at
optional_pair_again None rest fits = refl
optional_pair_again (Some (m, n)) rest fits = ap (λ (l : List ℕ). optional_pair_at (1 ∷ l)) (append_assoc (number m) (number n) rest) ∙ rw (number_again m (number n ++ rest) fits.0, number_again n rest fits.1) refl
