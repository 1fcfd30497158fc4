-- A deletion or an import that comes again has the effect of one, in the same session or a later one over the same journal.
use Rattle.std.specs.Prelude.{◌≡◌, ℕ, List, [], Contains, Option, IfSome, Ok}
use Rattle.edge_kit.specs.declared.bytes.PubKey.{PubKey}
use Rattle.slash_defs.specs.declared.book.File.{File}
use Rattle.session_format.specs.declared.chain.SessionChain.{SessionChain}
use Rattle.record_join.specs.BooksPasts.{EachOnce}
use Rattle.desk_machine.specs.States.{State}
use Rattle.desk_machine.specs.Machine.{IsUp}
use Rattle.call_plans.specs.Paths.{Path}
use Rattle.client_calls.specs.Machines.{CanMake, state_after}
use Rattle.client_calls.specs.Steps.{told_in}
use Rattle.key_custody.specs.declared.status.KeyStatus.{KeyStatus}
use Rattle.key_custody.specs.Once.{Change, Changes, Never, Activates, BeginsDeletion, MergesOrPrunes, IsWhole, AreFine, LeavesAll, IsKeyOf}
use Rattle.session_format.specs.declared.answer.Answer.TheVariants as answer
use Rattle.session_format.specs.declared.request.Op.{Op}
use Rattle.session_format.specs.declared.request.Op.TheVariants as op
use Rattle.session_format.specs.declared.request.Request.{Request}
use Rattle.session_run.specs.Turns.{Turn, IsPlanned, calls_of}

-- the line asks for this
abbrev pub AsksFor : Turn → Op → Type 0
AsksFor t asked = (q : Request) × (t.request ≡ Ok q) × (q.op ≡ asked)

-- A deletion that was answered without error and comes again, where no key of it became active between, leaves the desk as it found
-- it and asks the signer nothing; and it is answered with the same file, where between no file that lists a key of it was merged, and
-- none of its keys pruned. `a` is the state of the desk before the first, and `c` before the second; between them are calls, and stops of
-- the program.
abbrev pub DeletesOnce : Type 0
DeletesOnce = (chain later : SessionChain) (kept kept_then : List PubKey) (latest latest_then : ℕ) (keys : List PubKey) (first second : Turn) (a c : State) (between : List Change) (statuses : List KeyStatus) (file : File)
    → AsksFor first (op.Delete keys) → IsPlanned chain kept latest first → first.answer ≡ answer.Deleted statuses file → AreFine statuses
    → IsWhole a → IsUp a → CanMake a (calls_of first)
    → Path Changes (state_after a (calls_of first)) between c → ((key : PubKey) → Contains keys key → Never (Activates key) between)
    → AsksFor second (op.Delete keys) → IsPlanned later kept_then latest_then second → CanMake c (calls_of second)
    → (state_after c (calls_of second) ≡ c) × (told_in second.steps ≡ [])
    × (((key : PubKey) → Contains keys key → Never (MergesOrPrunes key) between) → (again : List KeyStatus) (file_again : File) → second.answer ≡ answer.Deleted again file_again → file_again ≡ file)

-- An import that was answered without error and comes again, where no deletion of a key of it was begun between, leaves every record,
-- state and watch as it found them, and asks the signer nothing, also where it is refused then.
abbrev pub ImportsOnce : Type 0
ImportsOnce = (chain later : SessionChain) (kept kept_then : List PubKey) (latest latest_then : ℕ) (file : Option File) (keystores : List (List ℕ × List ℕ)) (first second : Turn) (a c : State) (between : List Change) (statuses : List KeyStatus)
    → IfSome file (λ f. EachOnce f.books)
    → AsksFor first (op.Import file keystores) → IsPlanned chain kept latest first → first.answer ≡ answer.Imported statuses → AreFine statuses
    → IsWhole a → IsUp a → CanMake a (calls_of first)
    → Path Changes (state_after a (calls_of first)) between c → ((key : PubKey) → IsKeyOf keystores key → Never (BeginsDeletion key) between)
    → AsksFor second (op.Import file keystores) → IsPlanned later kept_then latest_then second → CanMake c (calls_of second)
    → LeavesAll c (state_after c (calls_of second)) × (told_in second.steps ≡ [])
