-- Nothing that is said of keys holds a float as JSON.
use Rattle.std.proofs.Common.{◌≡◌, ◌||◌, false, List, [], ◌∷◌, map, ap, refl}
use Rattle.edge_kit.specs.declared.bytes.PubKey.{PubKey}
use Rattle.slash_defs.specs.declared.book.File.{File}
use Rattle.serde_json.specs.View.{items_of}
use Rattle.serde_json.specs.Written.{has_float, items_have_float}
use Rattle.key_custody.specs.declared.status.KeyStatus.{KeyStatus}
use Rattle.custody_format.specs.Statuses.{status_data, statuses_data}
use Rattle.custody_format.specs.Answers.{imported_data, deleted_data, key_data, listed_data}

items_plain : (statuses : List KeyStatus) → items_have_float (items_of (map status_data statuses)) ≡ false
items_plain [] = refl
items_plain (s ∷ statuses) = items_plain statuses

pub statuses_plain : (statuses : List KeyStatus) → has_float (statuses_data statuses) ≡ false
statuses_plain statuses = items_plain statuses

pub imported_plain : (statuses : List KeyStatus) → has_float (imported_data statuses) ≡ false
imported_plain statuses = ap (λ b. b || false) (statuses_plain statuses)

pub deleted_plain : (statuses : List KeyStatus) (file : File) → has_float (deleted_data statuses file) ≡ false
deleted_plain statuses file = ap (λ b. b || false) (statuses_plain statuses)

keys_plain : (keys : List PubKey) → items_have_float (items_of (map key_data keys)) ≡ false
keys_plain [] = refl
keys_plain (key ∷ keys) = keys_plain keys

pub listed_plain : (keys : List PubKey) → has_float (listed_data keys) ≡ false
listed_plain keys = ap (λ b. b || false) (keys_plain keys)
