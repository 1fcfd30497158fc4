-- What the replay of a key's snapshot brings back.
use Rattle.std.specs.Prelude.{◌≡◌, ℕ, List, [], ◌∷◌, Ok}
use Rattle.edge_kit.specs.declared.bytes.PubKey.{PubKey}
use Rattle.record_codec.specs.declared.item.JournalItem.{JournalItem}
use Rattle.record_codec.specs.declared.version.JournalVersion.TheVariants.{One}
use Rattle.record_codec.specs.Reading.{batch_of}
use Rattle.record_join.specs.Keys.{with_key}
use Rattle.record_replay.specs.declared.state.KeyState.{KeyState}
use Rattle.record_replay.specs.declared.state.KeyState.TheVariants.{Known, Active, Closing, Closed}

-- with the state of one more key; of one that is only known none is held
abbrev pub with_held : List (PubKey × KeyState) → PubKey → KeyState → List (PubKey × KeyState)
with_held states key Known = states
with_held states key Active = with_key states key Active
with_held states key Closing = with_key states key Closing
with_held states key Closed = with_key states key Closed

-- each payload is read as its batch
abbrev pub AreRead : List (List ℕ) → List (List JournalItem) → Type 0
AreRead [] [] = Unit {0}
AreRead (payload ∷ payloads) (batch ∷ batches) = (batch_of One payload ≡ Ok batch) × AreRead payloads batches
AreRead [] (batch ∷ batches) = ⊥
AreRead (payload ∷ payloads) [] = ⊥
