-- Epochs that are missing of some watch, the lesser first.
use Rattle.std.proofs.Common.{◌≡◌, ℕ, zero, suc, ◌+◌, ◌-◌, ◌<◌, ◌≤◌, List, [], ◌∷◌, true, false, refl, ◌∙◌, ap, subst, arith}
use Rattle.std.specs.Prelude.{filter}
use Rattle.edge_kit.specs.declared.bytes.PubKey.{PubKey}
use Rattle.desk_machine.specs.declared.call.KeyStanding.{KeyStanding}
use Rattle.duty_turns.specs.Turns.{counted, missing_epochs}
use Rattle.duty_loop.specs.Missing.{some_misses, missing_from}

missing_not : (listed : List (PubKey × KeyStanding)) (from now : ℕ) → from < now → some_misses from listed ≡ false → missing_from from now listed ≡ missing_from (from + 1) now listed
missing_not listed from now h absent =
    let e : now - from ≡ suc (now - (from + 1)) = omega arith in
    ap (λ n. filter (λ epoch. some_misses epoch listed) (counted from n)) e ∙ rw absent refl

-- a missed one comes before those behind it
pub missing_here : (listed : List (PubKey × KeyStanding)) (from now : ℕ) → from < now → some_misses from listed ≡ true → missing_from from now listed ≡ from ∷ missing_from (from + 1) now listed
missing_here listed from now h present =
    let e : now - from ≡ suc (now - (from + 1)) = omega arith in
    ap (λ n. filter (λ epoch. some_misses epoch listed) (counted from n)) e ∙ rw present refl

skip_by : (k : ℕ) (listed : List (PubKey × KeyStanding)) (from now : ℕ) → from + k ≤ now → ((epoch : ℕ) → from ≤ epoch → epoch < from + k → some_misses epoch listed ≡ false)
    → missing_from from now listed ≡ missing_from (from + k) now listed
skip_by zero listed from now h none = let e : from ≡ from + 0 = omega arith in ap (λ n. missing_from n now listed) e
skip_by (suc k) listed from now h none =
    let before : from < now = omega arith in
    let first : some_misses from listed ≡ false = none from (omega arith) (omega arith) in
    let rest = skip_by k listed (from + 1) now (omega arith) (λ epoch l m. none epoch (omega (arith, l)) (omega (arith, m))) in
    let e : (from + 1) + k ≡ from + suc k = omega arith in
    missing_not listed from now before first ∙ rest ∙ ap (λ n. missing_from n now listed) e

-- those that are not missed are passed over
pub missing_skip : (listed : List (PubKey × KeyStanding)) (from to now : ℕ) → from ≤ to → to ≤ now → ((epoch : ℕ) → from ≤ epoch → epoch < to → some_misses epoch listed ≡ false)
    → missing_from from now listed ≡ missing_from to now listed
missing_skip listed from to now h l none =
    let e : from + (to - from) ≡ to = omega arith in
    subst (λ n. missing_from from now listed ≡ missing_from n now listed) e
    (skip_by (to - from) listed from now (omega (arith, e)) (λ epoch f m. none epoch f (subst (λ n. epoch < n) e m)))

pub missing_none : (listed : List (PubKey × KeyStanding)) (from now : ℕ) → now ≤ from → missing_from from now listed ≡ []
missing_none listed from now h = let e : now - from ≡ 0 = omega arith in ap (λ n. filter (λ epoch. some_misses epoch listed) (counted from n)) e

pub missing_all : (listed : List (PubKey × KeyStanding)) (now : ℕ) → missing_epochs now listed ≡ missing_from 0 now listed
missing_all listed now = let e : now ≡ now - 0 = omega arith in ap (λ n. filter (λ epoch. some_misses epoch listed) (counted 0 n)) e
