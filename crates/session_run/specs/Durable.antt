-- What outlasts a stop of a message that was granted.
use Rattle.std.specs.Prelude.{◌≡◌, List, Some, IsSomeAnd}
use Rattle.edge_kit.specs.declared.bytes.PubKey.{PubKey}
use Rattle.slash_defs.specs.declared.message.Message.{Message}
use Rattle.protect_record.specs.Pasts.{Past}
use Rattle.protect_record.specs.Passing.{Covers}
use Rattle.record_join.specs.Keys.{kept_of}
use Rattle.desk_machine.specs.States.{State, Lasting}

-- a past is kept of the key, and it lets nothing pass that is slashable with the message
abbrev pub CoversKey : List (PubKey × Past) → PubKey → Message → Type 0
CoversKey keys key m = IsSomeAnd (kept_of keys key) (λ past. Covers past m)

-- so it is now, and of what a torn call would have left
pub record IsDurable (state : State) (key : PubKey) (m : Message) : Type 0 where
  pub now : CoversKey state.keys key m
  pub torn : (l : Lasting) → state.torn ≡ Some l → CoversKey l.keys key m
