-- What holds of each that was put into a list, of one or of two.
use Rattle.std.proofs.Common.{◌≡◌, ℕ, zero, suc, List, [], ◌∷◌, ◌++◌, Some, length, slice_get, sym, ap, ◌∙◌, subst}

module _ {X : Type 0} (P : X → ℕ → Type 0) where
  pub of_one : (n : ℕ) (none one : List X) (a : X) → n ≡ 1 → none ≡ [] → one ≡ none ++ a ∷ [] → P a 0 → (length one ≡ n) × ((k : ℕ) (x : X) → slice_get one k ≡ Some x → P x k)
  of_one n none one a count empty pushed first = (ap length is ∙ sym count, λ k x e. at k x (subst (λ (l : List X). slice_get l k ≡ Some x) is e))
    where
      is : one ≡ a ∷ []
      is = pushed ∙ ap (λ (l : List X). l ++ a ∷ []) empty

      at : (k : ℕ) (x : X) → slice_get (a ∷ []) k ≡ Some x → P x k
      at zero x e = let same : a ≡ x = cc e in subst (λ (y : X). P y 0) same first
      at (suc k) x e = absurd (cc e)

  pub of_two : (n : ℕ) (none one two : List X) (a b : X) → n ≡ 2 → none ≡ [] → one ≡ none ++ a ∷ [] → two ≡ one ++ b ∷ [] → P a 0 → P b 1
      → (length two ≡ n) × ((k : ℕ) (x : X) → slice_get two k ≡ Some x → P x k)
  of_two n none one two a b count empty pushed more first second = (ap length is ∙ sym count, λ k x e. at k x (subst (λ (l : List X). slice_get l k ≡ Some x) is e))
    where
      is : two ≡ a ∷ b ∷ []
      is = more ∙ ap (λ (l : List X). l ++ b ∷ []) (pushed ∙ ap (λ (l : List X). l ++ a ∷ []) empty)

      at : (k : ℕ) (x : X) → slice_get (a ∷ b ∷ []) k ≡ Some x → P x k
      at zero x e = let same : a ≡ x = cc e in subst (λ (y : X). P y 0) same first
      at (suc zero) x e = let same : b ≡ x = cc e in subst (λ (y : X). P y 1) same second
      at (suc (suc k)) x e = absurd (cc e)
