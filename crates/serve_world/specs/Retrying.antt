-- A deletion or an import that comes again, while others call the desk between its calls.
use Rattle.std.specs.Prelude.{◌≡◌, ℕ, List, [], ◌∷◌, ◌++◌, Contains, Option, Some, IfSome}
use Rattle.edge_kit.specs.declared.bytes.PubKey.{PubKey}
use Rattle.slash_defs.specs.declared.book.File.{File}
use Rattle.record_join.specs.BooksPasts.{EachOnce}
use Rattle.desk_machine.specs.States.{State}
use Rattle.desk_machine.specs.Machine.{IsUp, after}
use Rattle.desk_machine.specs.declared.call.DeskCall.{DeskCall}
use Rattle.desk_machine.specs.declared.call.DeskReply.{DeskReply}
use Rattle.desk_lock.specs.Histories.{entry, own}
use Rattle.check_sign.specs.Contents.{Seen}
use Rattle.check_sign.specs.Standing.{DeskStands}
use Rattle.desk_seat.specs.Spans.{History}
use Rattle.desk_seat.specs.Turns.{calls_of}
use Rattle.call_plans.specs.Plans.{Follows}
use Rattle.client_calls.specs.Machines.{state_after}
use Rattle.client_calls.specs.Steps.{ClientStep, Fits, desk_calls, told_in}
use Rattle.key_custody.specs.Once.{AreFine, BeginsDeletion, IsKeyOf, IsWhole, LeavesAll, Made}
use Rattle.key_custody.specs.Plans.{deletion_plan, import_plan}
use Rattle.key_custody.specs.declared.delete.Deletion.{Deletion}
use Rattle.key_custody.specs.declared.import.ImportEnd.{ImportEnd}
use Rattle.key_custody.specs.declared.import.ImportEnd.TheVariants as ending
use Rattle.key_custody.specs.declared.status.KeyStatus.{KeyStatus}
use Rattle.session_run.specs.Silent.{IsActivation, IsAmong}
use Rattle.keymanager_api.specs.Serving.{LinkSeen}
use Rattle.command_line.specs.declared.serve_options.ServeOptions.{ServeOptions}
use Rattle.program_end.specs.declared.status.Status.{Status}
use Rattle.serve_run.specs.Clients.{Parts}
use Rattle.serve_run.specs.Ends.{ServesDesk}
use Rattle.serve_run.specs.declared.start.Start.{Start}

-- none of these calls makes one of the keys active
abbrev pub NoneMadeActive : List PubKey → List (DeskCall × DeskReply) → Type 0
NoneMadeActive keys made = (key : PubKey) → Contains keys key → ¬ (IsAmong (IsActivation key) made)

-- Of these turns, from this state on, each of the thread leaves the state that it finds.
abbrev pub EachLeaves : ℕ → State → History → Type 0
EachLeaves k state turns = (front back : History) (c : DeskCall) (r : DeskReply) → turns ≡ front ++ entry k c r ∷ back → after (state_after state (calls_of front)) c r ≡ state_after state (calls_of front)

-- In this history, from this state on: a deletion's calls are those of one thread in some turns, next to whatever others call there, and it was
-- carried out without error. Later the same deletion comes again, by calls of the same kind, on this thread or another. Where from the first one's turns to
-- the second's no call makes a key of it active, each call of the second leaves the state that it finds, and the signer is asked nothing.
abbrev pub DeletesAgain : State → History → Type 0
DeletesAgain state log = (keys : List PubKey) (front first between second back : History) (k l : ℕ) (one two : List ClientStep) (deletion : Deletion) (v : Option Deletion)
    → log ≡ front ++ (first ++ (between ++ (second ++ back)))
    → own k first ≡ desk_calls one → Follows Fits (deletion_plan keys) one (Some deletion) → AreFine deletion.statuses
    → own l second ≡ desk_calls two → Follows Fits (deletion_plan keys) two v
    → NoneMadeActive keys (calls_of (first ++ (between ++ second)))
    → EachLeaves l (state_after state (calls_of (front ++ (first ++ between)))) second × (told_in two ≡ [])

-- the call begins a deletion of the key
abbrev pub Begins : PubKey → DeskCall × DeskReply → Type 0
Begins key x = BeginsDeletion key (Made x.0 x.1)

-- none of these calls begins a deletion of the key of one of the keystores
abbrev pub NoneGivenUp : List (List ℕ × List ℕ) → List (DeskCall × DeskReply) → Type 0
NoneGivenUp keystores made = (key : PubKey) → IsKeyOf keystores key → ¬ (IsAmong (Begins key) made)

-- Of these turns, from this state on, each of the thread leaves every record, state, watch and open grant that it finds.
abbrev pub EachLeavesAll : ℕ → State → History → Type 0
EachLeavesAll k state turns = (front back : History) (c : DeskCall) (r : DeskReply) → turns ≡ front ++ entry k c r ∷ back → LeavesAll (state_after state (calls_of front)) (after (state_after state (calls_of front)) c r)

-- The same of an import whose keystores were treated without error, and of the same import again, at whatever epoch, where no call between
-- begins a deletion of a key of it. A file that comes again stands for no new record.
abbrev pub ImportsAgain : State → History → Type 0
ImportsAgain state log = (file : Option File) (keystores : List (List ℕ × List ℕ)) (now later : ℕ) (front first between second back : History) (k l : ℕ) (one two : List ClientStep) (statuses : List KeyStatus) (v : Option ImportEnd)
    → IfSome file (λ f. EachOnce f.books)
    → log ≡ front ++ (first ++ (between ++ (second ++ back)))
    → own k first ≡ desk_calls one → Follows Fits (import_plan file now keystores) one (Some (ending.Treated statuses)) → AreFine statuses
    → own l second ≡ desk_calls two → Follows Fits (import_plan file later keystores) two v
    → NoneGivenUp keystores (calls_of (first ++ (between ++ second)))
    → EachLeavesAll l (state_after state (calls_of (front ++ (first ++ between)))) second × (told_in two ≡ [])

-- so it is in the one history of a client that served over its desk, from whichever state the desk stood for, if no key without a past has
-- a state there and no disk has failed
abbrev pub ServeDeletesAgain : {D C : Type 0} → (D → ℕ) → (D → ℕ → List ℕ → Type 0) → (D → ℕ) → (C → LinkSeen) → Type 0
ServeDeletesAgain {D} {C} moment leaves faults see = (clock : Option ℕ) (options : ServeOptions) (start : Start) (opened ended : Seen D) (before now : Parts C) (result : Status)
    (s : ServesDesk moment leaves faults see clock options start opened ended before now result) (state : State) → DeskStands opened.contents state → IsWhole state → IsUp state → DeletesAgain state s.shared.log

abbrev pub ServeImportsAgain : {D C : Type 0} → (D → ℕ) → (D → ℕ → List ℕ → Type 0) → (D → ℕ) → (C → LinkSeen) → Type 0
ServeImportsAgain {D} {C} moment leaves faults see = (clock : Option ℕ) (options : ServeOptions) (start : Start) (opened ended : Seen D) (before now : Parts C) (result : Status)
    (s : ServesDesk moment leaves faults see clock options start opened ended before now result) (state : State) → DeskStands opened.contents state → IsWhole state → IsUp state → ImportsAgain state s.shared.log
