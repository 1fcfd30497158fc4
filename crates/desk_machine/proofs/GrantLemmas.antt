-- The open grants without one.
use Rattle.std.proofs.Common.{◌≡◌, ℕ, zero, suc, ◌+◌, ◌<◌, true, false, List, [], ◌∷◌, ◌++◌, length, get_or, refl, sym, ap, subst, arith, nat_eq}
use Rattle.std.specs.Prelude.{remove, All, AllPairs}
use Rattle.std.proofs.lemmas.Grind.{common_steps}
use Rattle.std.proofs.lemmas.List.Elements.{All-cons, All-push}
use Rattle.std.proofs.lemmas.List.Quantifiers.{all_pairs_push}
use Rattle.std.proofs.lemmas.List.Kept.{AllPairs-cons}
use mathlib.Core.Logic.{dite}
use native.Mathlib.Decide.{ℕ_discrete}
use Rattle.desk_machine.specs.Grants.{AreNumbered, IsNumbered, grants_after, next_after, without}
use Rattle.desk_machine.specs.declared.open_grant.OpenGrant.{OpenGrant}
use Rattle.desk_machine.specs.declared.call.DeskCall.{DeskCall}
use Rattle.desk_machine.specs.declared.call.DeskCall.TheVariants as call
use Rattle.desk_machine.specs.declared.call.DeskReply.{DeskReply}
use Rattle.desk_machine.specs.declared.call.DeskReply.TheVariants as reply

same_number : (a b : ℕ) → a ≡ b → nat_eq a b ≡ true
same_number a b e = grind (arith, common_steps)

other_number : (a b : ℕ) → (a ≡ b → ⊥) → nat_eq a b ≡ false
other_number a b h = grind (arith, common_steps)

pub without_at : (grants : List OpenGrant) (number i : ℕ) (d : OpenGrant) → i < length grants → (get_or grants i d).number ≡ number
    → ((k : ℕ) (e : OpenGrant) → k < i → (get_or grants k e).number ≡ number → ⊥) → without grants number ≡ remove grants i
without_at [] number i d lt here before = absurd (omega arith)
without_at (g ∷ gs) number zero d lt here before = rw (same_number g.number number here) refl
without_at (g ∷ gs) number (suc i) d lt here before =
    rw (other_number g.number number (before 0 g (omega arith))) (ap (λ l. g ∷ l) (without_at gs number i d (omega arith) here (λ k e h. before (suc k) e (omega arith))))

-- ---- the numbers of the open grants

all_tail : (P : OpenGrant → Type 0) (g : OpenGrant) (gs : List OpenGrant) → All P (g ∷ gs) → All P gs
all_tail P g gs h = λ k d lt. h (suc k) d (omega (arith, lt))

pairs_tail : (R : OpenGrant → OpenGrant → Type 0) (g : OpenGrant) (gs : List OpenGrant) → AllPairs R (g ∷ gs) → AllPairs R gs
pairs_tail R g gs h = λ i j d before within. h (suc i) (suc j) d (omega (arith, before)) (omega (arith, within))

pairs_head : (R : OpenGrant → OpenGrant → Type 0) (g : OpenGrant) (gs : List OpenGrant) → AllPairs R (g ∷ gs) → All (R g) gs
pairs_head R g gs h = λ k d lt. h 0 (suc k) d (omega arith) (omega (arith, lt))

dropped : (g : OpenGrant) (gs : List OpenGrant) (number : ℕ) → g.number ≡ number → without (g ∷ gs) number ≡ gs
dropped g gs number e = rw (same_number g.number number e) refl

stayed : (g : OpenGrant) (gs : List OpenGrant) (number : ℕ) → (g.number ≡ number → ⊥) → without (g ∷ gs) number ≡ g ∷ without gs number
stayed g gs number e = rw (other_number g.number number e) refl

-- what all grants have, all but one have
all_step : (P : OpenGrant → Type 0) (g : OpenGrant) (gs : List OpenGrant) (number : ℕ) → All P (g ∷ gs) → All P (without gs number) → All P (without (g ∷ gs) number)
all_step P g gs number h more =
    let A : List OpenGrant → Type 0 = λ l. All P l in
    dite (ℕ_discrete g.number number)
    (λ e. subst A (sym (dropped g gs number e)) (all_tail P g gs h))
    (λ e. subst A (sym (stayed g gs number e)) (All-cons P g (without gs number) (h 0 g (omega arith)) more))

all_without : (P : OpenGrant → Type 0) (grants : List OpenGrant) (number : ℕ) → All P grants → All P (without grants number)
all_without P [] number h = h
all_without P (g ∷ gs) number h = all_step P g gs number h (all_without P gs number (all_tail P g gs h))

pairs_step : (R : OpenGrant → OpenGrant → Type 0) (g : OpenGrant) (gs : List OpenGrant) (number : ℕ) → AllPairs R (g ∷ gs) → AllPairs R (without gs number) → AllPairs R (without (g ∷ gs) number)
pairs_step R g gs number h more =
    let A : List OpenGrant → Type 0 = λ l. AllPairs R l in
    dite (ℕ_discrete g.number number)
    (λ e. subst A (sym (dropped g gs number e)) (pairs_tail R g gs h))
    (λ e. subst A (sym (stayed g gs number e)) (AllPairs-cons R g (without gs number) (all_without (R g) gs number (pairs_head R g gs h)) more))

pairs_without : (R : OpenGrant → OpenGrant → Type 0) (grants : List OpenGrant) (number : ℕ) → AllPairs R grants → AllPairs R (without grants number)
pairs_without R [] number h = h
pairs_without R (g ∷ gs) number h = pairs_step R g gs number h (pairs_without R gs number (pairs_tail R g gs h))

pub numbered_without : (grants : List OpenGrant) (next number : ℕ) → AreNumbered grants next → AreNumbered (without grants number) next
numbered_without grants next number n = record { below = all_without (λ g. g.number < next) grants number n.below; ascend = pairs_without (λ a b. a.number < b.number) grants number n.ascend }

numbered_more : (grants : List OpenGrant) (next : ℕ) (g : OpenGrant) → g.number ≡ next → AreNumbered grants next → AreNumbered (grants ++ g ∷ []) (next + 1)
numbered_more grants next g is n = record {
  below = All-push (λ a. a.number < next + 1) grants g (λ k d lt. let low = n.below k d lt in omega (arith, low)) (omega (arith, is));
  ascend = all_pairs_push (λ a b. a.number < b.number) grants g n.ascend (λ k d lt. let low = n.below k d lt in omega (arith, low, is));
}

pub numbered_after : (grants : List OpenGrant) (next : ℕ) (c : DeskCall) (r : DeskReply) → IsNumbered next c r → AreNumbered grants next → AreNumbered (grants_after grants c r) (next_after next c r)
numbered_after grants next (call.Propose key m now) (reply.Granted grant) is n = numbered_more grants next grant is n
numbered_after grants next (call.Allow key now) (reply.Granted grant) is n = numbered_more grants next grant is n
numbered_after grants next (call.Settle grant outcome) reply.Settled is n = numbered_without grants next grant.number n
numbered_after grants next c r is n = n
