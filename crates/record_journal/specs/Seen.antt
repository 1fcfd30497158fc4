-- What is found of two synced files before the current one is chosen, and whose bytes are at hand.
use Rattle.std.specs.Prelude.{◌≡◌, ◌≢◌, ⊤, ℕ, List, length}
use Rattle.journal_frames.specs.declared.reading.Found.{Found}
use Rattle.journal_frames.specs.Parsed.{IsFound}
use Rattle.journal_frames.specs.Readers.{IsFileOf}
use Rattle.record_journal.specs.declared.place.Place.{Place}
use Rattle.record_journal.specs.declared.place.Place.TheVariants.{First, Second}
use Rattle.record_journal.specs.declared.open.OpenFault.{OpenFault}
use Rattle.record_journal.specs.declared.open.OpenFault.TheVariants as fault
use Rattle.record_journal.specs.declared.choose.Choice.{Choice}
use Rattle.record_journal.specs.declared.choose.Choice.TheVariants as choice
use Rattle.record_journal.specs.Pairs.{OneDamaged, OneGenesis, pair_reading}

-- a crash leaves what a read sees
abbrev pub IsSynced : {D : Type 0} → (D → List ℕ → Type 0) → (D → ℕ) → (D → ℕ → List ℕ → Type 0) → D → Type 0
IsSynced shows moment leaves disk = (c : List ℕ) → leaves disk (moment disk) c → shows disk c

-- a disk of so many bytes, where it tells
abbrev pub HasLength : {D : Type 0} → (D → List ℕ → Type 0) → D → ℕ → Type 0
HasLength shows disk n = (c : List ℕ) → shows disk c → n ≡ length c

-- of what was found of both files, these are the bytes of the one at a place
abbrev pub IsFoundAt : List ℕ → Place → Found → Found → List ℕ → Type 0
IsFoundAt root First one other bytes = IsFound root bytes one
IsFoundAt root Second one other bytes = IsFound root bytes other

-- two files are refused for what they hold: the first's fault comes before the second's
abbrev pub IsRefused : List ℕ → List ℕ → List ℕ → OpenFault → Type 0
IsRefused root a b fault.Disk = ⊥
IsRefused root a b fault.OutOfMemory = ⊥
IsRefused root a b (fault.Damaged file offset byte) = pair_reading root a b ≡ OneDamaged file offset byte
IsRefused root a b (fault.Genesis kept given) = ((file : Place) × (pair_reading root a b ≡ OneGenesis file kept.0)) × (given.0 ≡ root) × (kept.0 ≢ root)

-- where the file at this place is the current one, these bytes are a file of its payloads
abbrev pub HasFileAt : Choice → Place → List ℕ → Type 0
HasFileAt (choice.Current First payloads generation size) First bytes = IsFileOf payloads.items bytes
HasFileAt (choice.Current First payloads generation size) Second bytes = ⊤
HasFileAt (choice.Current Second payloads generation size) First bytes = ⊤
HasFileAt (choice.Current Second payloads generation size) Second bytes = IsFileOf payloads.items bytes
HasFileAt choice.Short place bytes = ⊤
HasFileAt choice.Shut place bytes = ⊤
