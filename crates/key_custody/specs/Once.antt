-- What a deletion or an import that comes again does to a desk.
use Rattle.std.specs.Prelude.{◌≡◌, ◌↔◌, ◌⊎◌, ℕ, Bool, true, false, List, [], ◌∷◌, Contains, Option, Some, None, IfSome, IsSome}
use Rattle.std.specs.List.{list_all}
use Rattle.edge_kit.specs.declared.bytes.PubKey.{PubKey}
use Rattle.edge_kit.specs.declared.bytes.Root.{Root}
use Rattle.slash_defs.specs.declared.book.File.{File}
use Rattle.protect_record.specs.Parts.{Parts}
use Rattle.protect_record.specs.Pasts.{Past}
use Rattle.protect_record.specs.Standing.{Stands}
use Rattle.record_join.specs.Keys.{kept_of}
use Rattle.record_join.specs.BooksPasts.{EachOnce}
use Rattle.desk_machine.specs.States.{State, Lasting, lasting, reopened, no_state, past_of}
use Rattle.desk_machine.specs.Machine.{Reply, after, IsUp}
use Rattle.desk_machine.specs.declared.call.DeskCall.{DeskCall}
use Rattle.desk_machine.specs.declared.call.DeskCall.TheVariants as call
use Rattle.desk_machine.specs.declared.call.DeskReply.{DeskReply}
use Rattle.desk_machine.specs.declared.call.DeskReply.TheVariants as reply
use Rattle.call_plans.specs.Plans.{Follows}
use Rattle.call_plans.specs.Paths.{Path}
use Rattle.key_custody.specs.declared.status.KeyStatus.{KeyStatus}
use Rattle.key_custody.specs.declared.status.KeyStatus.TheVariants as status
use Rattle.key_custody.specs.declared.delete.Deletion.{Deletion}
use Rattle.key_custody.specs.declared.import.ImportEnd.{ImportEnd}
use Rattle.key_custody.specs.declared.import.ImportEnd.TheVariants as ending
use Rattle.key_custody.specs.Keystores.{key_of_keystore}
use Rattle.client_calls.specs.Steps.{ClientStep, Fits, desk_calls, told_in}
use Rattle.key_custody.specs.Plans.{deletion_plan, import_plan}

-- ---- calls of the machine, and stops

abbrev pub Moves : State → DeskCall × DeskReply → State → Type 0
Moves a x b = Reply a x.0 x.1 × (b ≡ after a x.0 x.1)

-- these calls with these replies lead from the one state to the other
abbrev pub MachineRun : State → List (DeskCall × DeskReply) → State → Type 0
MachineRun a made b = Path Moves a made b

-- what may come between: a call; or the client stops, and opens its desk again at this moment, with the watch on or off
pub data Change : Type 0 where
  Made : DeskCall → DeskReply → Change
  Restarts : Bool → ℕ → Change

-- what may have lasted of a state: what lasts of it, or where a call was torn what would have lasted of that
abbrev pub MayLast : State → Lasting → Type 0
MayLast a l = (l ≡ lasting a) ⊎ (a.torn ≡ Some l)

abbrev pub Changes : State → Change → State → Type 0
Changes a (Made c r) b = Moves a (c, r) b
Changes a (Restarts watch now) b = (l : Lasting) × MayLast a l × (b ≡ reopened a.genesis l watch now)

-- none of them is such
abbrev pub Never : (Change → Type 0) → List Change → Type 0
Never P [] = Unit {0}
Never P (x ∷ xs) = (¬ (P x)) × Never P xs

-- the key becomes active, or will have where a fault of the disk tore the call
abbrev pub Activates : PubKey → Change → Type 0
Activates key (Made (call.Activate k now) reply.Active) = k ≡ key
Activates key (Made (call.Activate k now) reply.Disk) = k ≡ key
Activates key x = ⊥

-- a file is merged that lists the key, or its record is pruned
abbrev pub MergesOrPrunes : PubKey → Change → Type 0
MergesOrPrunes key (Made (call.Merge file) r) = IsSome (kept_of file.books key)
MergesOrPrunes key (Made (call.Prune k) r) = k ≡ key
MergesOrPrunes key x = ⊥

-- a key of which no past is kept has no state
abbrev pub IsWhole : State → Type 0
IsWhole a = (key : PubKey) → past_of a key ≡ None → kept_of a.states key ≡ None

-- each state that an empty desk comes to, by calls and stops, is such
abbrev pub WholeFromEmpty : Type 0
WholeFromEmpty = (genesis : Root) (between : List Change) (a : State) → Path Changes (no_state genesis) between a → IsWhole a

-- no key failed
abbrev pub is_fine : KeyStatus → Bool
is_fine (status.Error reason) = false
is_fine s = true

abbrev pub AreFine : List KeyStatus → Type 0
AreFine statuses = list_all is_fine statuses ≡ true

-- ---- a deletion that was carried out without error and comes again, where no key of it became active between, changes nothing and
-- asks the signer nothing, also where memory runs out in it; and it hands out the same file, where between no file that lists a key of it
-- was merged, and none of its keys pruned
abbrev pub DeletesOnce : Type 0
DeletesOnce = (keys : List PubKey) (a b c d : State) (first second : List ClientStep) (between : List Change) (deletion : Deletion) (v : Option Deletion)
    → IsWhole a → IsUp a → MachineRun a (desk_calls first) b → Follows Fits (deletion_plan keys) first (Some deletion) → AreFine deletion.statuses
    → Path Changes b between c → ((key : PubKey) → Contains keys key → Never (Activates key) between)
    → MachineRun c (desk_calls second) d → Follows Fits (deletion_plan keys) second v
    → (d ≡ c) × (told_in second ≡ []) × (((key : PubKey) → Contains keys key → Never (MergesOrPrunes key) between) → IfSome v (λ again. again.file ≡ deletion.file))

-- a deletion of the key is begun
abbrev pub BeginsDeletion : PubKey → Change → Type 0
BeginsDeletion key (Made (call.BeginClose k) r) = k ≡ key
BeginsDeletion key x = ⊥

-- a record stands for the one past where it stands for the other
abbrev pub SameRecord : Option Past → Option Past → Type 0
SameRecord None None = Unit {0}
SameRecord None (Some q) = ⊥
SameRecord (Some p) None = ⊥
SameRecord (Some p) (Some q) = (parts : Parts) → Stands parts p ↔ Stands parts q

-- every record, state, watch and open grant is as it was
pub record LeavesAll (c d : State) : Type 0 where
  pub records : (key : PubKey) → SameRecord (past_of c key) (past_of d key)
  pub states : d.states ≡ c.states
  pub watching : d.watching ≡ c.watching
  pub grants : d.grants ≡ c.grants
  pub next : d.next ≡ c.next

-- the key is that of one of the keystores
abbrev pub IsKeyOf : List (List ℕ × List ℕ) → PubKey → Type 0
IsKeyOf keystores key = (k : List ℕ × List ℕ) × Contains keystores k × (key_of_keystore k.0 ≡ Some key)

-- an import that was carried out without error and comes again, where no deletion of a key of it was begun between, leaves every
-- record, state and watch as it found them and asks the signer nothing, also where it is refused or memory runs out in it
abbrev pub ImportsOnce : Type 0
ImportsOnce = (file : Option File) (keystores : List (List ℕ × List ℕ)) (now later : ℕ) (a b c d : State) (first second : List ClientStep) (between : List Change) (statuses : List KeyStatus) (v : Option ImportEnd)
    → IfSome file (λ f. EachOnce f.books) → IsWhole a → IsUp a
    → MachineRun a (desk_calls first) b → Follows Fits (import_plan file now keystores) first (Some (ending.Treated statuses)) → AreFine statuses
    → Path Changes b between c → ((key : PubKey) → IsKeyOf keystores key → Never (BeginsDeletion key) between)
    → MachineRun c (desk_calls second) d → Follows Fits (import_plan file later keystores) second v
    → LeavesAll c d × (told_in second ≡ [])
