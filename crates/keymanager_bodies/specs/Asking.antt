-- What a request asks for, or the first check that it fails.
use Rattle.std.specs.Prelude.{◌≢◌, ℕ, List, AllPairs, length, Option, Some, None, IfSome, Result, Ok, Err}
use Rattle.std.specs.Map.{keys_of}
use Rattle.serde_json.specs.Data.{Data}
use Rattle.slash_defs.specs.declared.book.File.{File}
use Rattle.interchange_io.specs.Reading.{file_of}
use Rattle.interchange_io.specs.declared.fault.ReadFault.{ReadFault}
use Rattle.http_wire.specs.declared.message.Request.{Request}
use Rattle.custody_format.specs.Keystores.{keystores_of}
use Rattle.keymanager_routes.specs.Checks.{◌>>=◌, action_for}
use Rattle.keymanager_routes.specs.declared.route.Action.{Action}
use Rattle.keymanager_routes.specs.declared.route.Action.TheVariants as action
use Rattle.keymanager_routes.specs.declared.member.Member.{Member}
use Rattle.keymanager_routes.specs.declared.member.Member.TheVariants as member
use Rattle.keymanager_routes.specs.declared.refusal.Refusal.{Refusal}
use Rattle.keymanager_routes.specs.declared.refusal.Refusal.TheVariants as refusal
use Rattle.keymanager_bodies.specs.Members.{object_of, texts_in, keys_in, optional_text_in}
use Rattle.keymanager_bodies.specs.declared.asked.Asked.{Asked}
use Rattle.keymanager_bodies.specs.declared.asked.Asked.TheVariants as asked

-- a member without a reading is refused
abbrev pub read_or_refused : {A : Type 0} → Result A Member → Result A Refusal
read_or_refused (Ok x) = Ok x
read_or_refused (Err m) = Err (refusal.BadMember m)

-- each keystore with the password at its place, of lists of one length
abbrev pub of_one_length : ℕ → ℕ → Option (List (List ℕ × List ℕ)) → Result (List (List ℕ × List ℕ)) Refusal
of_one_length keystores passwords (Some pairs) = Ok pairs
of_one_length keystores passwords None = Err (refusal.ListsDiffer keystores passwords)

abbrev pub paired_in : {A : Type 0} → (A → List ℕ) → List A → List A → Result (List (List ℕ × List ℕ)) Refusal
paired_in text keystores passwords = of_one_length (length keystores) (length passwords) (keystores_of text keystores passwords)

-- the interchange file, where its text is one
abbrev pub file_read : Result File ReadFault → Result (Option File) Refusal
file_read (Ok file) = Ok (Some file)
file_read (Err f) = Err (refusal.BadProtection f)

abbrev pub file_in : Option (List ℕ) → Result (Option File) Refusal
file_in None = Ok None
file_in (Some text) = file_read (file_of text)

abbrev pub import_in : Data → Result Asked Refusal
import_in d = do
  keystores ← read_or_refused (texts_in member.Keystores d)
  passwords ← read_or_refused (texts_in member.Passwords d)
  protection ← read_or_refused (optional_text_in member.SlashingProtection d)
  pairs ← paired_in (λ text. text) keystores passwords
  file ← file_in protection
  Ok (asked.Import file pairs)

abbrev pub delete_in : Data → Result Asked Refusal
delete_in d = do
  keys ← read_or_refused (keys_in member.Pubkeys d)
  Ok (asked.Delete keys)

-- a list has no body that is looked at
abbrev pub body_asks : Action → List ℕ → Result Asked Refusal
body_asks action.List body = Ok asked.List
body_asks action.Import body = do
  d ← read_or_refused (object_of body)
  import_in d
body_asks action.Delete body = do
  d ← read_or_refused (object_of body)
  delete_in d

-- where this token is wanted: the checks of the head, and then those of the body
abbrev pub asked_of : List ℕ → Request → Result Asked Refusal
asked_of token r = do
  what ← action_for token r
  body_asks what r.body.items

-- the file, if there is one, lists each key once
abbrev pub IsListedOnce : Option File → Type 0
IsListedOnce file = IfSome file (λ f. AllPairs (λ a b. a ≢ b) (keys_of f.books))

-- so does that of an import
abbrev pub ListsOnce : Asked → Type 0
ListsOnce asked.List = Unit {0}
ListsOnce (asked.Import file pairs) = IsListedOnce file
ListsOnce (asked.Delete keys) = Unit {0}
