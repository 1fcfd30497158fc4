-- How the serving of one line ends, and how its fault is told.
use Rattle.std.specs.Prelude.{◌≡◌, ℕ, ◌≤◌, List, Option, None, IsSome, Result, Ok, Err}
use Rattle.std.specs.Io.KnownBytes.{Appends, Keeps}
use Rattle.session_format.specs.declared.chain.SessionChain.{SessionChain}
use Rattle.desk_machine.specs.Machine.{moment_limit}
use Rattle.session_format.specs.Requests.{request_of}
use Rattle.program_end.specs.Endings.{Closes, WritesFront, IsUnwritten}
use Rattle.program_end.specs.declared.closing.ClosingLine.TheVariants as closing
use Rattle.program_end.specs.declared.status.Status.{Status}
use Rattle.program_end.specs.declared.status.Status.TheVariants as status
use Rattle.session_run.specs.declared.next.LineFault.{LineFault}
use Rattle.session_run.specs.declared.next.LineFault.TheVariants as fault
use Rattle.session_run.specs.declared.session.Unserved.{Unserved}
use Rattle.session_run.specs.declared.session.Unserved.TheVariants as unserved
use Rattle.session_run.specs.Acts.{AtBench, Turned, Unanswered}
use Rattle.session_run.specs.Plans.{moment_by}
use Rattle.session_run.specs.Turns.{Turn, text_of}

-- a turn of this line
pub record IsTurn {D : Type 0} (moment : D → ℕ) (leaves : D → ℕ → List ℕ → Type 0) (faults : D → ℕ) (chain : SessionChain) (latest : ℕ) (line : List ℕ) (before now : AtBench D) (t : Turn) : Type 0 where
  pub is_line : t.line ≡ line
  pub request : t.request ≡ request_of chain t.line
  pub turned : Turned moment leaves faults chain latest t before now

-- A line was served and answered, and this is the latest moment; or it was answered, and the disk failed; or a front of its answer
-- was written; or memory ran out, and nothing was.
abbrev pub ServesLine : {D : Type 0} → (D → ℕ) → (D → ℕ → List ℕ → Type 0) → (D → ℕ) → SessionChain → ℕ → List ℕ → AtBench D → AtBench D → Option (List ℕ) → Option (List ℕ) → ℕ → ℕ → Result ℕ Unserved → Type 0
ServesLine moment leaves faults chain latest line before now held_before held_now failed_before failed_now (Ok next) =
    (t : Turn) × IsTurn moment leaves faults chain latest line before now t × Appends held_before held_now (text_of t) × (next ≡ moment_by latest t.request) × (next ≤ moment_limit) × (now.desk.contents.torn ≡ None)
ServesLine moment leaves faults chain latest line before now held_before held_now failed_before failed_now (Err unserved.Disk) =
    (t : Turn) × IsTurn moment leaves faults chain latest line before now t × Appends held_before held_now (text_of t) × IsSome now.desk.contents.torn
ServesLine moment leaves faults chain latest line before now held_before held_now failed_before failed_now (Err unserved.Write) =
    (t : Turn) × IsTurn moment leaves faults chain latest line before now t × WritesFront (text_of t) held_before held_now failed_before failed_now
ServesLine moment leaves faults chain latest line before now held_before held_now failed_before failed_now (Err unserved.Memory) =
    Keeps held_before held_now × Unanswered moment leaves faults chain latest (request_of chain line) before now

-- how an output is closed after a line that was not served
abbrev pub UnservedCloses : Unserved → Option (List ℕ) → Option (List ℕ) → ℕ → ℕ → Status → Type 0
UnservedCloses unserved.Memory held_before held_now failed_before failed_now result = IsUnwritten held_before held_now failed_before failed_now result
UnservedCloses unserved.Write held_before held_now failed_before failed_now result = (result ≡ status.WriteFault) × (held_now ≡ held_before) × (failed_now ≡ failed_before)
UnservedCloses unserved.Disk held_before held_now failed_before failed_now result = Closes closing.DiskFault held_before held_now failed_before failed_now result

-- how an output is closed after a fault of reading
abbrev pub UnreadCloses : LineFault → Option (List ℕ) → Option (List ℕ) → ℕ → ℕ → Status → Type 0
UnreadCloses fault.Memory held_before held_now failed_before failed_now result = IsUnwritten held_before held_now failed_before failed_now result
UnreadCloses fault.Read held_before held_now failed_before failed_now result = Closes closing.ReadFault held_before held_now failed_before failed_now result
UnreadCloses (fault.TooLong l) held_before held_now failed_before failed_now result = Closes (closing.TooLong l) held_before held_now failed_before failed_now result
