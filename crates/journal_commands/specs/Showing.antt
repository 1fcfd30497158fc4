-- What `show` writes of a journal's keys.
use Rattle.std.specs.Prelude.{◌≡◌, ◌⊎◌, ℕ, List, [], ◌++◌, flat_map, length, take, Option, Some, None, option_map, codes, decimal, false}
use Rattle.std.specs.Map.{keys_of}
use Rattle.std.specs.Io.KnownBytes.{Appends}
use Rattle.edge_kit.specs.Causes.{Rose}
use Rattle.edge_kit.specs.Texts.{hex_text}
use Rattle.edge_kit.specs.declared.bytes.PubKey.{PubKey}
use Rattle.edge_kit.specs.declared.bytes.Root.{Root}
use Rattle.edge_kit.specs.declared.disk.Disks.{Disks}
use Rattle.protect_record.specs.Parts.{Parts}
use Rattle.protect_record.specs.declared.floors.Floors.{Floors}
use Rattle.record_replay.specs.declared.state.KeyState.{KeyState}
use Rattle.record_replay.specs.declared.state.KeyState.TheVariants as state
use Rattle.record_join.specs.Keys.{kept_of}
use Rattle.desk_machine.specs.States.{key_state, state_in}
use Rattle.desk_machine.specs.declared.call.KeyStanding.{KeyStanding}
use Rattle.desk_machine.specs.declared.call.DeskCall.TheVariants as call
use Rattle.desk_machine.specs.declared.call.DeskReply.{DeskReply}
use Rattle.desk_machine.specs.declared.event.DeskEvent.{DeskEvent}
use Rattle.check_sign.specs.Contents.{Contents, Seen}
use Rattle.check_sign.specs.Standing.{MayOpen}
use Rattle.check_sign.specs.Calls.{IsCallOf}
use Rattle.program_end.specs.declared.limit.Limit.TheVariants as limit
use Rattle.program_end.specs.declared.status.Status.{Status}
use Rattle.program_end.specs.declared.status.Status.TheVariants as status
use Rattle.command_line.specs.declared.planned.Plan.{Plan}
use Rattle.command_line.specs.declared.planned.Plan.TheVariants as plan
use Rattle.journal_commands.specs.Views.{Output}
use Rattle.journal_commands.specs.Openings.{EachImage, HadDesk, NotOpened, WritesCurrent}

-- the plan is a showing's
abbrev pub IsShow : Plan → Type 0
IsShow (plan.Show genesis journal) = Unit {0}
IsShow (plan.Session genesis journal fork altair signer watch) = ⊥
IsShow (plan.Serve options) = ⊥
IsShow (plan.Proxy options) = ⊥
IsShow (plan.Merge genesis journal) = ⊥
IsShow (plan.Rehearse number size) = ⊥
IsShow (plan.Shown text) = ⊥

-- the word of a state
abbrev pub state_word : KeyState → List ℕ
state_word state.Known = codes "known"
state_word state.Active = codes "active"
state_word state.Closing = codes "closing"
state_word state.Closed = codes "closed"

-- a floor in decimal, `-` where there is none
abbrev pub floor_text : Option ℕ → List ℕ
floor_text None = codes "-"
floor_text (Some floor) = decimal floor

-- the source floor of a source and a target
abbrev pub source_floor : Option (ℕ × ℕ) → Option ℕ
source_floor floors = option_map (λ f. f.0) floors

-- the target floor of a source and a target
abbrev pub target_floor : Option (ℕ × ℕ) → Option ℕ
target_floor floors = option_map (λ f. f.1) floors

-- how many blocks and votes are kept
abbrev pub counts_text : Parts → List ℕ
counts_text parts =
    (codes " blocks " ++ decimal (length parts.blocks))
    ++ (codes " votes " ++ decimal (length parts.votes))

-- the floors by their names
abbrev pub floors_text : Floors → List ℕ
floors_text floors =
    (codes " floor_slot " ++ floor_text floors.block)
    ++ ((codes " floor_source " ++ floor_text (source_floor floors.vote))
    ++ (codes " floor_target " ++ floor_text (target_floor floors.vote)))

-- the line of a key: the key, its state, what is kept of it, its floors
abbrev pub key_text : PubKey → KeyState → Parts → List ℕ
key_text key state parts =
    hex_text key.0 ++ (codes " " ++ (state_word state ++ (counts_text parts ++ (floors_text parts.floors ++ codes "\n"))))

-- the line of what is kept of a key, nothing where nothing is
abbrev pub kept_text : PubKey → KeyState → Option Parts → List ℕ
kept_text key state None = []
kept_text key state (Some parts) = key_text key state parts

-- the lines of these keys by how they stand
abbrev pub listed_text : List (PubKey × Parts) → List (PubKey × KeyStanding) → List ℕ
listed_text keys listed = flat_map (λ one. kept_text one.0 (state_in one.1) (kept_of keys one.0)) listed

-- the lines of the keys of a desk, in key order
abbrev pub show_text : Contents → List ℕ
show_text desk = flat_map (λ key. kept_text key (key_state desk.states key) (kept_of desk.keys key)) (keys_of desk.keys)

-- the output failed, or memory ran out
abbrev pub IsCutShort : Output → Output → Status → Type 0
IsCutShort before now status.WriteFault = Rose before.failed now.failed
IsCutShort before now status.OutOfMemory = Unit {0}
IsCutShort before now s = ⊥

-- the lines of these keys were all written; or a front of them, where it was cut short
abbrev pub WritesLines : List ℕ → Output → Output → Status → Type 0
WritesLines lines before now result =
    ((result ≡ status.Done) × Appends before.held now.held lines)
    ⊎ (IsCutShort before now result × ((n : ℕ) × Appends before.held now.held (take n lines)))

-- The desk was asked for its keys, and their lines were written.
pub record DeskShowEnds {D : Type 0} (moment : D → ℕ) (leaves : D → ℕ → List ℕ → Type 0) (faults : D → ℕ) (before now : Output) (opened ended : Seen D) (result : Status) : Type 0 where
  pub reply_is : DeskReply
  pub called : IsCallOf moment leaves faults opened ended call.Keys reply_is
  pub done_or_short : (result ≡ status.Done) ⊎ IsCutShort before now result
  pub writes : WritesLines (show_text ended.contents) before now result

-- how a showing ends: no desk was opened; or one was, and only the disk of its current file was written since then
abbrev pub ShowEnds : {D : Type 0} → (D → List ℕ → Type 0) → (D → ℕ) → (D → ℕ → List ℕ → Type 0) → (D → ℕ) → Root → Disks D → Disks D → Output → Output → List DeskEvent → Status → Type 0
ShowEnds shows moment leaves faults genesis disks_before disks_now before now events result =
    NotOpened shows moment leaves faults genesis disks_before disks_now before now events result
    ⊎ HadDesk shows moment leaves faults genesis false disks_before disks_now events
    (λ opened ended. DeskShowEnds moment leaves faults before now opened ended result × EachImage shows moment leaves genesis disks_before disks_now (MayOpen genesis) opened × WritesCurrent opened ended)

-- a showing in which nothing failed is done, or ends for want of memory or by what the journal holds
abbrev pub IsShowComplete : Status → Type 0
IsShowComplete status.Done = Unit {0}
IsShowComplete status.OutOfMemory = Unit {0}
IsShowComplete status.Damaged = Unit {0}
IsShowComplete status.GenesisDiffers = Unit {0}
IsShowComplete (status.InputTooLong limit.Keys) = Unit {0}
IsShowComplete s = ⊥
