-- Forms at the front of bytes of which more may come.
use Rattle.std.specs.Prelude.{◌≡◌, ◌≢◌, ◌⊎◌, ◌==◌, ◌||◌, Bool, false, ℕ, ◌≤◌, List, [], ◌∷◌, ◌++◌, length, Option}
use Rattle.std.specs.Io.KnownBytes.{IsAtEnd}

-- no front of the bytes has the form
pub record HasNoFront (P : List ℕ → Type 0) (bytes : List ℕ) : Type 0 where
  pub none : (text rest : List ℕ) → P text → bytes ≢ text ++ rest

-- nor will it, whatever bytes follow
pub record NeverHasFront (P : List ℕ → Type 0) (bytes : List ℕ) : Type 0 where
  pub none : (more text rest : List ℕ) → P text → bytes ++ more ≢ text ++ rest

-- a front of the bytes has the form
pub record HasFront (P : List ℕ → Type 0) (bytes : List ℕ) : Type 0 where
  pub text : List ℕ
  pub rest : List ℕ
  pub form : P text
  pub split : bytes ≡ text ++ rest

-- the form, within so many bytes
pub record Within (P : List ℕ → Type 0) (limit : ℕ) (text : List ℕ) : Type 0 where
  pub form : P text
  pub short : length text ≤ limit

-- No front of the bytes that came has the form, and none of them and what follows will: whatever follows, or
-- since nothing is left.
abbrev pub IsStuck : (List ℕ → Type 0) → List ℕ → Option (List ℕ) → Type 0
IsStuck P bytes left = NeverHasFront P bytes ⊎ (HasNoFront P bytes × IsAtEnd left)

-- no front of the bytes has the form within the limit, nor will, and no more bytes than the limit came
pub record StopsWithin (P : List ℕ → Type 0) (limit : ℕ) (bytes : List ℕ) (left : Option (List ℕ)) : Type 0 where
  pub stuck : IsStuck (Within P limit) bytes left
  pub short : length bytes ≤ limit

-- the last byte is LF
pub record EndsInLf (text : List ℕ) : Type 0 where
  pub front : List ℕ
  pub split : text ≡ front ++ 10 ∷ []

-- CR or LF
abbrev pub is_line_byte : ℕ → Bool
is_line_byte b = b == 13 || b == 10

-- a byte is another than CR and LF
pub record HasText (text : List ℕ) : Type 0 where
  pub front : List ℕ
  pub byte : ℕ
  pub rest : List ℕ
  pub split : text ≡ front ++ byte ∷ rest
  pub other : is_line_byte byte ≡ false
