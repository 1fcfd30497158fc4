-- What a run of the program does, by what its words ask for.
use Rattle.std.specs.Prelude.{◌≡◌, ◌⊎◌, ℕ, Bool, List, [], Option, Some, string_bytes}
use Rattle.std.specs.Str.Iter.{LacksByte}
use Rattle.edge_kit.specs.declared.bytes.Root.{Root}
use Rattle.edge_kit.specs.declared.disk.Disks.{Disks}
use Rattle.interchange_io.specs.Reading.{file_limit}
use Rattle.phase0_types.specs.declared.fork.Fork.{Fork}
use Rattle.signer_link.specs.declared.reply.Told.{Told}
use Rattle.desk_machine.specs.declared.event.DeskEvent.{DeskEvent}
use Rattle.check_sign.specs.Contents.{Seen}
use Rattle.program_end.specs.declared.closing.ClosingLine.TheVariants as closing
use Rattle.program_end.specs.declared.limit.Limit.TheVariants as limit
use Rattle.program_end.specs.declared.status.Status.{Status}
use Rattle.program_end.specs.declared.status.Status.TheVariants as status
use Rattle.session_format.specs.declared.chain.SessionChain.{SessionChain}
use Rattle.session_run.specs.Acts.{AtBench}
use Rattle.session_run.specs.Ends.{Ends, Wires}
use Rattle.session_run.specs.Inputs.{WithinLimits}
use Rattle.command_line.specs.Plans.{Asked, session, serve, proxy, merge, show, rehearse, shown, nothing}
use Rattle.command_line.specs.declared.planned.Plan.{Plan}
use Rattle.command_line.specs.declared.planned.Plan.TheVariants as plan
use Rattle.journal_commands.specs.Views.{Output, View, ClosedBy, EndsBy, view_of}
use Rattle.journal_commands.specs.Whole.{WithinLimit}
use Rattle.journal_commands.specs.Openings.{HadDesk, NotOpened}
use Rattle.journal_commands.specs.Merging.{IsMergeComplete, MergeEnds, Unread}
use Rattle.journal_commands.specs.Showing.{IsShowComplete, ShowEnds}
use Rattle.validator_cli.specs.Rehearsing.{IsRehearsalComplete, RehearsalEnds}

-- what the objects of a program tell next to its disks, and how often each failed: the input and the output, and the signer
pub record Outside : Type 0 where
  pub view : View
  pub told : Option (List Told)
  pub signs_failed : ℕ
  pub signs_denied : ℕ

abbrev pub outside_of : {I O S : Type 0} → (I → Option (List ℕ)) → (I → ℕ) → (O → Option (List ℕ)) → (O → ℕ) → (S → Option (List Told)) → (S → ℕ) → (S → ℕ) → I → O → S → Outside
outside_of left reads_failed held writes_failed told signs_failed signs_denied input out signer = record { view = view_of left reads_failed held writes_failed input out; told = told signer; signs_failed = signs_failed signer; signs_denied = signs_denied signer }

-- the signer was not asked
pub record Unasked (before now : Outside) : Type 0 where
  pub told : now.told ≡ before.told
  pub failed : now.signs_failed ≡ before.signs_failed
  pub denied : now.signs_denied ≡ before.signs_denied

-- nothing was read or asked
pub record IsUntouched (before now : Outside) : Type 0 where
  pub unread : Unread before.view now.view
  pub unasked : Unasked before now

-- the input and the output of a session
abbrev pub wires_of : View → Wires
wires_of view = record { left = view.left; held = view.out.held; reads_failed = view.failed; writes_failed = view.out.failed }

-- a desk with the signer
abbrev pub bench_at : {D : Type 0} → Seen D → Outside → AtBench D
bench_at desk o = record { desk = desk; signer = record { told = o.told; faults = o.signs_failed; denials = o.signs_denied } }

-- the chain of a session
abbrev pub session_chain : Root → Fork → Option ℕ → SessionChain
session_chain genesis fork altair = record { domains = record { fork = fork; genesis = genesis }; altair = altair }

-- a session over the desk of two disks, its keys watched or not; where none was opened nothing was read or asked
abbrev pub SessionEnds : {D : Type 0} → (D → List ℕ → Type 0) → (D → ℕ) → (D → ℕ → List ℕ → Type 0) → (D → ℕ) → SessionChain → Bool → Disks D → Disks D → Outside → Outside → List DeskEvent → Status → Type 0
SessionEnds shows moment leaves faults chain watch disks_before disks_now before now events ended =
    (NotOpened shows moment leaves faults chain.domains.genesis disks_before disks_now before.view.out now.view.out events ended × IsUntouched before now)
    ⊎ HadDesk shows moment leaves faults chain.domains.genesis watch disks_before disks_now events
    (λ desk_before desk_now. Ends moment leaves faults chain (bench_at desk_before before) (bench_at desk_now now) (wires_of before.view) (wires_of now.view) ended)

-- the disks come back as they were, nothing was read or asked, and nothing is noted
pub record DoesNothing {D : Type 0} (disks_before disks_now : Disks D) (before now : Outside) (events : List DeskEvent) : Type 0 where
  pub same : disks_now ≡ disks_before
  pub untouched : IsUntouched before now
  pub none : events ≡ []

-- help or the version: the text is written
pub record TextShown (before now : Output) (ended : Status) : Type 0 where
  pub text : List ℕ
  pub shows : EndsBy status.Done text before now ended

-- no command: the output is closed by one line of the program's own that says why
pub record NoCommand (before now : Output) (ended : Status) : Type 0 where
  pub line : _
  pub alone : LacksByte 10 (string_bytes line)
  pub closes : ClosedBy (Some (closing.Usage line)) before now ended

-- memory ran out before anything was done
pub record NotBegun (before now : Outside) (ended : Status) : Type 0 where
  pub same : now ≡ before
  pub is : ended ≡ status.OutOfMemory

-- the words ask for something else than a server, which is the validator client or the signing proxy: their ends stand apart
abbrev pub IsOther : Asked → Type 0
IsOther (serve options) = ⊥
IsOther (proxy options) = ⊥
IsOther asked = Unit {0}

-- what was asked for, if it was no server, was done, or ended as it may
abbrev pub EndsAs : {D : Type 0} → (D → List ℕ → Type 0) → (D → ℕ) → (D → ℕ → List ℕ → Type 0) → (D → ℕ) → Asked → Disks D → Disks D → Outside → Outside → List DeskEvent → Status → Type 0
EndsAs shows moment leaves faults (session genesis journal fork altair signer watch) disks_before disks_now before now events s = SessionEnds shows moment leaves faults (session_chain genesis fork altair) watch disks_before disks_now before now events s
EndsAs shows moment leaves faults (serve options) disks_before disks_now before now events s = ⊥
EndsAs shows moment leaves faults (proxy options) disks_before disks_now before now events s = ⊥
EndsAs shows moment leaves faults (merge genesis journal) disks_before disks_now before now events s = MergeEnds shows moment leaves faults genesis disks_before disks_now before.view now.view events s × Unasked before now
EndsAs shows moment leaves faults (show genesis journal) disks_before disks_now before now events s = ShowEnds shows moment leaves faults genesis disks_before disks_now before.view.out now.view.out events s × IsUntouched before now
EndsAs shows moment leaves faults (rehearse number clients steps) disks_before disks_now before now events s = RehearsalEnds number clients steps before.view.out now.view.out s × DoesNothing disks_before disks_now before now events
EndsAs shows moment leaves faults shown disks_before disks_now before now events s = TextShown before.view.out now.view.out s × DoesNothing disks_before disks_now before now events
EndsAs shows moment leaves faults nothing disks_before disks_now before now events s = NoCommand before.view.out now.view.out s × DoesNothing disks_before disks_now before now events

-- what was asked for was done, or memory ran out before
abbrev pub RunEnds : {D : Type 0} → (D → List ℕ → Type 0) → (D → ℕ) → (D → ℕ → List ℕ → Type 0) → (D → ℕ) → Asked → Disks D → Disks D → Outside → Outside → List DeskEvent → Status → Type 0
RunEnds shows moment leaves faults asked disks_before disks_now before now events s =
    EndsAs shows moment leaves faults asked disks_before disks_now before now events s
    ⊎ (NotBegun before now s × DoesNothing disks_before disks_now before now events)

-- the input is within the limits of what was asked for: of a session its lines and its length, of a merge its length; a showing, a
-- rehearsal and a text read nothing
abbrev pub IsWithin : Asked → Option (List ℕ) → Type 0
IsWithin (session genesis journal fork altair signer watch) left = WithinLimits left
IsWithin (serve options) left = ⊥
IsWithin (proxy options) left = ⊥
IsWithin (merge genesis journal) left = WithinLimit file_limit left
IsWithin (show genesis journal) left = Unit {0}
IsWithin (rehearse number clients steps) left = Unit {0}
IsWithin shown left = Unit {0}
IsWithin nothing left = ⊥

-- a session in which nothing failed is done, or ends for want of memory or by what the journal holds
abbrev pub IsSessionComplete : Status → Type 0
IsSessionComplete status.Done = Unit {0}
IsSessionComplete status.OutOfMemory = Unit {0}
IsSessionComplete status.Damaged = Unit {0}
IsSessionComplete status.GenesisDiffers = Unit {0}
IsSessionComplete (status.InputTooLong limit.Keys) = Unit {0}
IsSessionComplete s = ⊥

-- the same for what was asked for
abbrev pub IsComplete : Asked → Status → Type 0
IsComplete (session genesis journal fork altair signer watch) s = IsSessionComplete s
IsComplete (serve options) s = ⊥
IsComplete (proxy options) s = ⊥
IsComplete (merge genesis journal) s = IsMergeComplete s
IsComplete (show genesis journal) s = IsShowComplete s
IsComplete (rehearse number clients steps) s = IsRehearsalComplete s
IsComplete shown s = (s ≡ status.Done) ⊎ (s ≡ status.OutOfMemory)
IsComplete nothing s = ⊥

-- what a status tells of the counts of faults that rose: the input's, the output's and a disk's; and where none did and the
-- input is within its limits, the run is complete
pub record Causes (asked : Asked) (left : Option (List ℕ)) (Reads Writes Disk : Type 0) (s : Status) : Type 0 where
  pub read_fault : s ≡ status.ReadFault → Reads
  pub write_fault : s ≡ status.WriteFault → Writes
  pub disk_fault : s ≡ status.DiskFault → Disk
  pub complete : IsWithin asked left → ¬ Reads → ¬ Writes → ¬ Disk → IsComplete asked s

-- the plan is a session's
abbrev pub IsSession : Plan → Type 0
IsSession (plan.Session genesis journal fork altair signer watch) = Unit {0}
IsSession (plan.Serve options) = ⊥
IsSession (plan.Proxy options) = ⊥
IsSession (plan.Merge genesis journal) = ⊥
IsSession (plan.Show genesis journal) = ⊥
IsSession (plan.Rehearse number size) = ⊥
IsSession (plan.Shown text) = ⊥

-- the plan is that of a server
abbrev pub IsServer : Plan → Type 0
IsServer (plan.Serve options) = Unit {0}
IsServer (plan.Proxy options) = Unit {0}
IsServer p = ⊥
