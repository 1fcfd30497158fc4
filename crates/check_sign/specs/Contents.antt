-- What a desk holds, as contracts see it.
use Rattle.std.specs.Prelude.{ℕ, List, Option}
use Rattle.edge_kit.specs.declared.bytes.PubKey.{PubKey}
use Rattle.edge_kit.specs.declared.bytes.Root.{Root}
use Rattle.protect_record.specs.Parts.{Parts}
use Rattle.record_replay.specs.declared.state.KeyState.{KeyState}
use Rattle.edge_kit.specs.declared.disk.Disks.{Disks}
use Rattle.record_journal.specs.declared.place.Place.{Place}
use Rattle.record_journal.specs.TwoDisks.{by_place}
use Rattle.desk_machine.specs.Watches.{KeptWatches}
use Rattle.desk_machine.specs.declared.open_grant.OpenGrant.{OpenGrant}
use Rattle.desk_machine.specs.declared.event.DeskEvent.{DeskEvent}

pub record Contents : Type 0 where
  -- the root of the chain's genesis validators
  pub genesis : Root
  -- each kept key with its record, in key order
  pub keys : List (PubKey × Parts)
  -- the state of each key that was activated or closed, in key order
  pub states : List (PubKey × KeyState)
  -- the open grants, in the order in which they were given
  pub grants : List OpenGrant
  -- the number of the next grant
  pub next : ℕ
  -- the latest moment
  pub latest : ℕ
  -- the watches of the keys since opening, and whether keys are watched
  pub watches : KeptWatches
  -- what the desk did since it was opened
  pub events : List DeskEvent
  -- the payloads of the journal, the size in bytes of its current file, and the payloads that a call which a disk
  -- failed would have left
  pub payloads : List (List ℕ)
  pub size : ℕ
  pub torn : Option (List (List ℕ))

-- a desk with the disks of its journal: the one of the current file and the other, and which file is current
pub record Seen (D : Type 0) : Type 0 where
  pub current : D
  pub other : D
  pub place : Place
  pub contents : Contents

-- its disks, the first and the second
abbrev pub disks_in : {D : Type 0} → Seen D → Disks D
disks_in seen = by_place seen.place seen.current seen.other
