-- The words for what became of keys, and for their states.
use Rattle.std.specs.Prelude.{ℕ, List, codes}
use Rattle.record_replay.specs.declared.state.KeyState.{KeyState}
use Rattle.record_replay.specs.declared.state.KeyState.TheVariants as state
use Rattle.key_custody.specs.declared.status.DeskRefusal.{DeskRefusal}
use Rattle.key_custody.specs.declared.status.DeskRefusal.TheVariants as refusal
use Rattle.key_custody.specs.declared.status.KeyStatus.{KeyStatus}
use Rattle.key_custody.specs.declared.status.KeyStatus.TheVariants as status

-- the status of a key (Keymanager API)
abbrev pub status_word : KeyStatus → List ℕ
status_word status.Imported = codes "imported"
status_word status.Duplicate = codes "duplicate"
status_word status.Deleted = codes "deleted"
status_word status.NotActive = codes "not_active"
status_word status.NotFound = codes "not_found"
status_word (status.Error reason) = codes "error"

-- why the desk refused
abbrev pub reason_word : DeskRefusal → List ℕ
reason_word (refusal.GenesisDiffers kept given) = codes "genesis_differs"
reason_word (refusal.TooManyKeys have new) = codes "too_many_keys"
reason_word (refusal.Full size wanted) = codes "full"
reason_word refusal.Disk = codes "disk"
reason_word refusal.Closing = codes "closing"
reason_word refusal.Unknown = codes "unknown"
reason_word (refusal.NotClosing state) = codes "not_closing"
reason_word (refusal.Busy grants) = codes "busy"

-- the state of a key that is kept
abbrev pub state_word : KeyState → List ℕ
state_word state.Known = codes "known"
state_word state.Active = codes "active"
state_word state.Closing = codes "closing"
state_word state.Closed = codes "closed"
