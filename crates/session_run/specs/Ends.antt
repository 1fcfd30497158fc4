-- How a session ends.
use Rattle.std.specs.Prelude.{◌≡◌, ℕ, ◌<◌, ◌⊎◌, List, [], ◌∷◌, ◌++◌, length, take, Option, None, IsSome}
use Rattle.std.specs.Io.KnownBytes.{Appends}
use Rattle.edge_kit.specs.Causes.{Rose}
use Rattle.session_format.specs.declared.chain.SessionChain.{SessionChain}
use Rattle.record_journal.specs.TwoDisks.{EitherRose}
use Rattle.check_sign.specs.Contents.{disks_in}
use Rattle.check_sign.specs.Calls.{LeavesDesk}
use Rattle.desk_machine.specs.declared.call.DeskCall.{DeskCall}
use Rattle.desk_machine.specs.declared.call.DeskReply.{DeskReply}
use Rattle.client_calls.specs.Steps.{ClientStep, desk_calls}
use Rattle.session_format.specs.Requests.{request_of}
use Rattle.program_end.specs.Closing.{closing_text}
use Rattle.program_end.specs.declared.closing.ClosingLine.{ClosingLine}
use Rattle.program_end.specs.declared.closing.ClosingLine.TheVariants as closing
use Rattle.program_end.specs.declared.status.Status.{Status}
use Rattle.program_end.specs.declared.status.Status.TheVariants as status
use Rattle.session_run.specs.Acts.{AtBench, Unanswered}
use Rattle.session_run.specs.Inputs.{HasRead, ReadsWhole, ReadsFirst, IsNext, StopsReading, StoppedShort, PassesLimit}
use Rattle.session_run.specs.Runs.{Run, Ran, Laws}
use Rattle.session_run.specs.Moments.{Images}
use Rattle.session_run.specs.Turns.{Turn, made, moment_after, text_of, written}

-- what an input and an output tell, and how often each failed
pub record Wires : Type 0 where
  pub left : Option (List ℕ)
  pub held : Option (List ℕ)
  pub reads_failed : ℕ
  pub writes_failed : ℕ

-- Why a closing line is written after the answers of these turns, over a desk with its disks: the input failed within a line, or
-- passed a limit, and the desk is up; or a disk failed at the last of the turns, which are whole lines.
abbrev pub Because : {D : Type 0} → (D → ℕ) → List Turn → AtBench D → AtBench D → Wires → Wires → ClosingLine → Type 0
Because faults turns bench_before bench_now before now closing.ReadFault =
    Rose before.reads_failed now.reads_failed × StopsReading before.left now.left turns StoppedShort × (bench_now.desk.contents.torn ≡ None)
Because faults turns bench_before bench_now before now (closing.TooLong l) =
    StopsReading before.left now.left turns (PassesLimit l) × (bench_now.desk.contents.torn ≡ None)
Because faults turns bench_before bench_now before now closing.DiskFault =
    EitherRose faults (disks_in bench_before.desk) (disks_in bench_now.desk) × IsSome bench_now.desk.contents.torn × ReadsFirst before.left now.left turns
Because faults turns bench_before bench_now before now (closing.Damaged file offset byte) = ⊥
Because faults turns bench_before bench_now before now (closing.GenesisDiffers kept given) = ⊥
Because faults turns bench_before bench_now before now (closing.NoNode causes) = ⊥
Because faults turns bench_before bench_now before now closing.DoorFault = ⊥
Because faults turns bench_before bench_now before now (closing.FileRefused r) = ⊥
Because faults turns bench_before bench_now before now (closing.Usage line) = ⊥

-- a text was written, or a front of it that isn't the whole
abbrev pub IsWhole : Option (List ℕ) → Option (List ℕ) → List ℕ → Type 0
IsWhole held_before held_now text = Appends held_before held_now text

abbrev pub IsFront : Option (List ℕ) → Option (List ℕ) → List ℕ → Type 0
IsFront held_before held_now text = (count : ℕ) × (count < length text) × Appends held_before held_now (take count text)

-- each turn was answered, and then this line was written so
pub record Closed {D : Type 0} (faults : D → ℕ) (turns : List Turn) (bench_before bench_now : AtBench D) (before now : Wires) (line : ClosingLine) (IsWritten : Option (List ℕ) → Option (List ℕ) → List ℕ → Type 0) : Type 0 where
  pub because : Because faults turns bench_before bench_now before now line
  pub held : Option (List ℕ)
  pub answered : Appends before.held held (written turns)
  pub closed : IsWritten held now.held (closing_text line)

-- each turn but the last was answered, and of the answer of the last a front was written
pub record CutShort (turns : List Turn) (before now : Wires) : Type 0 where
  pub front : List Turn
  pub last : Turn
  pub turns_are : turns ≡ front ++ last ∷ []
  pub first : ReadsFirst before.left now.left turns
  pub held : Option (List ℕ)
  pub answered : Appends before.held held (written front)
  pub cut : IsFront held now.held (text_of last)

-- no line was begun after the turns: there are no steps, and the bench is the same
abbrev pub NoneBegun : {D : Type 0} → List ClientStep → AtBench D → AtBench D → Type 0
NoneBegun steps mid bench_now = (steps ≡ []) × (bench_now ≡ mid)

-- each turn was answered, and of the line after them nothing was written: none was begun, or the next one, at a desk that was up
pub record LeavesOff {D : Type 0} (turns : List Turn) (line : List ℕ) (steps : List ClientStep) (mid bench_now : AtBench D) (before now : Wires) : Type 0 where
  pub pending : List ℕ
  pub total : ℕ
  pub has_read : HasRead before.left now.left turns pending total
  pub answered : Appends before.held now.held (written turns)
  pub up : mid.desk.contents.torn ≡ None
  pub is_next : NoneBegun steps mid bench_now ⊎ IsNext now.left pending line

-- What each status says of the turns: what was read, what was written, and why. `mid` is the bench after the last turn, and `steps`
-- are those of a line that was begun after it and is not answered.
abbrev pub EndsBy : {D : Type 0} → (D → ℕ) → List Turn → List ℕ → List ClientStep → AtBench D → AtBench D → AtBench D → Wires → Wires → Status → Type 0
EndsBy faults turns line steps bench_before mid bench_now before now status.Done =
    NoneBegun steps mid bench_now × ReadsWhole before.left now.left turns × Appends before.held now.held (written turns) × (bench_now.desk.contents.torn ≡ None)
EndsBy faults turns line steps bench_before mid bench_now before now status.ReadFault = NoneBegun steps mid bench_now × Closed faults turns bench_before bench_now before now closing.ReadFault IsWhole
EndsBy faults turns line steps bench_before mid bench_now before now (status.InputTooLong l) = NoneBegun steps mid bench_now × Closed faults turns bench_before bench_now before now (closing.TooLong l) IsWhole
EndsBy faults turns line steps bench_before mid bench_now before now status.DiskFault = NoneBegun steps mid bench_now × Closed faults turns bench_before bench_now before now closing.DiskFault IsWhole
EndsBy faults turns line steps bench_before mid bench_now before now status.WriteFault =
    NoneBegun steps mid bench_now × Rose before.writes_failed now.writes_failed
    × (CutShort turns before now ⊎ ((own : ClosingLine) × Closed faults turns bench_before bench_now before now own IsFront))
EndsBy faults turns line steps bench_before mid bench_now before now status.OutOfMemory = LeavesOff turns line steps mid bench_now before now
EndsBy faults turns line steps bench_before mid bench_now before now status.Usage = ⊥
EndsBy faults turns line steps bench_before mid bench_now before now status.Damaged = ⊥
EndsBy faults turns line steps bench_before mid bench_now before now status.GenesisDiffers = ⊥
EndsBy faults turns line steps bench_before mid bench_now before now status.NoNode = ⊥
EndsBy faults turns line steps bench_before mid bench_now before now status.DoorFault = ⊥
EndsBy faults turns line steps bench_before mid bench_now before now status.FileRefused = ⊥

-- all calls of the desk: those of the turns, and those of the line that is not answered
abbrev pub all_made : List Turn → List ClientStep → List (DeskCall × DeskReply)
all_made turns steps = made turns ++ desk_calls steps

-- How a session ends, over the bench and the wires before it and now. Some lines were served, a turn each, and after them one may
-- have been begun and not answered, where memory ran out. What the status says, the images of the disks at each moment, and the
-- laws are of these turns.
pub record Ends {D : Type 0} (moment : D → ℕ) (leaves : D → ℕ → List ℕ → Type 0) (faults : D → ℕ) (chain : SessionChain) (bench_before bench_now : AtBench D) (before now : Wires) (result : Status) : Type 0 where
  pub turns : List Turn
  pub mid : AtBench D
  pub line : List ℕ
  pub run : Run moment leaves faults chain 0 turns bench_before mid
  pub unanswered : Unanswered moment leaves faults chain (moment_after 0 turns) (request_of chain line) mid bench_now
  pub ends : EndsBy faults turns line unanswered.steps bench_before mid bench_now before now result
  pub ran : Ran faults chain 0 turns bench_before mid
  pub laws : Laws 0 turns bench_before
  pub images : LeavesDesk moment leaves (disks_in bench_before.desk) bench_before.desk.contents → Images moment leaves faults bench_before.desk bench_now.desk (all_made turns unanswered.steps)
