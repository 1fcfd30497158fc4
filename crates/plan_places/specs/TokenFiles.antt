-- The file that words name for the token of the Keymanager API, and the words with its text in its place. The first of the
-- words is the program's name.
use Rattle.std.specs.Prelude.{ℕ, Bool, false, List, [], ◌∷◌, ◌++◌, ◌||◌, Option, None, Some, if◌then◌else◌, codes, take, drop, nat_eq}
use Rattle.std.specs.Io.BufRead.{ends_with_byte, strip_last}
use Rattle.std.specs.List.{starts_with}
use Rattle.std.specs.Str.{bytes_eq}

-- a word has the path after `--token-file=`
abbrev pub is_joined : List ℕ → Bool
is_joined word = starts_with nat_eq word (codes "--token-file=")

-- the first of some words, if there is one
abbrev pub first_word : List (List ℕ) → Option (List ℕ)
first_word [] = None
first_word (word ∷ words) = Some word

-- the path that options name, before a word `--`: what the first word that begins with `--token-file=` has after that, or
-- the word after the first one that is `--token-file`, whichever comes first
abbrev pub path_in : List (List ℕ) → Option (List ℕ)
path_in [] = None
path_in (word ∷ words) =
    if bytes_eq word (codes "--") then None
    else (if is_joined word then Some (drop 13 word)
    else (if bytes_eq word (codes "--token-file") then first_word words
    else path_in words))

-- the word that gives a text as the token
abbrev pub token_word : List ℕ → List ℕ
token_word text = codes "--token=" ++ text

-- an option and the words after it, with a text as the token in the place of both the option and its value, if it has one
abbrev pub pair_with : List ℕ → List ℕ → List (List ℕ) → List (List ℕ)
pair_with text option [] = option ∷ []
pair_with text option (value ∷ words) = token_word text ∷ words

-- options with a text as the token, in the place of the option that names its file
abbrev pub options_with : List ℕ → List (List ℕ) → List (List ℕ)
options_with text [] = []
options_with text (word ∷ words) =
    if bytes_eq word (codes "--") then word ∷ words
    else (if is_joined word then token_word text ∷ words
    else (if bytes_eq word (codes "--token-file") then pair_with text word words
    else word ∷ options_with text words))

-- the command, which is the second of the words, takes a token: it is `serve` or `proxy`
abbrev pub takes_token : List (List ℕ) → Bool
takes_token [] = false
takes_token (program ∷ []) = false
takes_token (program ∷ (command ∷ options)) = bytes_eq command (codes "serve") || bytes_eq command (codes "proxy")

-- the path of the file of the token, where the command takes a token and its options name one
abbrev pub token_path : List (List ℕ) → Option (List ℕ)
token_path words = if takes_token words then path_in (drop 2 words) else None

-- the words with a text as the token, in the place of the option that names its file; the same words where there is none
abbrev pub with_token : List (List ℕ) → List ℕ → List (List ℕ)
with_token words text = if takes_token words then take 2 words ++ options_with text (drop 2 words) else words

-- a text without one line end at its end, `\n` or `\r\n`
abbrev pub without_line_end : List ℕ → List ℕ
without_line_end text = if ends_with_byte 10 text then strip_last 13 (strip_last 10 text) else text
