-- Where words have the option that names the file of the token.
use Rattle.std.specs.Prelude.{◌≡◌, ℕ, ◌+◌, ◌≤◌, true, length, List, [], ◌∷◌, ◌++◌, Option, None, Some, take, drop, get_or}
use Rattle.plan_places.specs.TokenFiles.{is_joined, token_path, token_word, with_token}
use Rattle.plan_places.specs.declared.token_file.Place.{Place}
use Rattle.plan_places.specs.declared.token_file.Place.TheVariants.{Apart, Joined}

-- the option takes this many words from this index on, and names this path
pub record IsOptionAt (words : List (List ℕ)) (index count : ℕ) (path : List ℕ) : Type 0 where
  pub within : index + count ≤ length words
  pub named : token_path words ≡ Some path
  pub replaced : (text : List ℕ) → with_token words text ≡ take index words ++ token_word text ∷ drop (index + count) words

-- words have no such option
pub record LacksOption (words : List (List ℕ)) : Type 0 where
  pub unnamed : token_path words ≡ None
  pub replaced : (text : List ℕ) → with_token words text ≡ words

-- the option is at this place, if there is one
abbrev pub IsPlaceOf : List (List ℕ) → Option Place → Type 0
IsPlaceOf words None = LacksOption words
IsPlaceOf words (Some (Apart index)) = IsOptionAt words index 2 (get_or words (index + 1) [])
IsPlaceOf words (Some (Joined index)) =
    IsOptionAt words index 1 (drop 13 (get_or words index [])) × (is_joined (get_or words index []) ≡ true)
