-- In which order keys are given up and taken in.
use Rattle.std.specs.Prelude.{◌≡◌, ℕ, List, [], ◌∷◌, ◌++◌, Contains, slice_get, Option, Some, None}
use Rattle.edge_kit.specs.declared.bytes.PubKey.{PubKey}
use Rattle.slash_defs.specs.declared.book.Book.{Book}
use Rattle.slash_defs.specs.declared.book.File.{File}
use Rattle.desk_machine.specs.declared.call.DeskCall.{DeskCall}
use Rattle.desk_machine.specs.declared.call.DeskCall.TheVariants as call
use Rattle.desk_machine.specs.declared.call.DeskReply.{DeskReply}
use Rattle.desk_machine.specs.declared.call.DeskReply.TheVariants as reply
use Rattle.call_plans.specs.Plans.{Done, Follows, bind}
use Rattle.client_calls.specs.Steps.{ClientPlan, ClientStep, Fits, desk_calls}
use Rattle.key_custody.specs.declared.status.KeyStatus.{KeyStatus}
use Rattle.key_custody.specs.declared.status.KeyStatus.TheVariants as status
use Rattle.key_custody.specs.declared.delete.Deletion.{Deletion}
use Rattle.key_custody.specs.declared.import.ImportEnd.{ImportEnd}
use Rattle.key_custody.specs.declared.import.ImportEnd.TheVariants as ending
use Rattle.key_custody.specs.Keystores.{key_of_keystore}
use Rattle.key_custody.specs.Plans.{deletion_plan, import_plan}
use Rattle.key_custody.specs.Statuses.{handed_keys}
use Rattle.check_sign.specs.Contents.{Seen}
use Rattle.world_law.specs.Worlds.{Event}
use Rattle.world_law.specs.Worlds.Event.{Call}
use Rattle.serve_world.specs.Events.{calls_of}
use Rattle.keymanager_routes.specs.declared.reply.Reply.{Reply}
use Rattle.keymanager_bodies.specs.Bodies.{deletion_reply}
use Rattle.keymanager_api.specs.Doors.{Hall}
use Rattle.keymanager_api.specs.Plans.{message_plan}
use Rattle.keymanager_api.specs.Serving.{LinkSeen}
use Rattle.keymanager_api.specs.Visits.{Visit, Visits, asks_failed, calls_in}
use Rattle.duty_turns.specs.Times.{epoch_of, slot_of}
use Rattle.command_line.specs.declared.serve_options.ServeOptions.{ServeOptions}
use Rattle.program_end.specs.declared.status.Status.{Status}
use Rattle.serve_run.specs.Clients.{Parts}
use Rattle.serve_run.specs.Ends.{ServesDesk}
use Rattle.serve_run.specs.Views.{Calls, Grew}
use Rattle.serve_run.specs.declared.start.Start.{Start}
use Rattle.serve_world.specs.Acts.{AreActs}
use Rattle.serve_world.specs.Weaving.{Act, act, of_thread}

-- the call makes a key active
abbrev pub IsActivation : DeskCall → Type 0
IsActivation (call.Activate key now) = Unit {0}
IsActivation c = ⊥

-- none of these calls makes a key active, whatever the reply
abbrev pub NoneActivates : List (DeskCall × DeskReply) → Type 0
NoneActivates [] = Unit {0}
NoneActivates (x ∷ made) = (¬ (IsActivation x.0)) × NoneActivates made

-- among these calls the key was closed, and the last of them handed out this file of these keys; none of them makes a key active
pub record ClosedThenHanded (key : PubKey) (handed : List PubKey) (file : File) (made : List (DeskCall × DeskReply)) : Type 0 where
  pub front : List (DeskCall × DeskReply)
  pub book : Book
  pub between : List (DeskCall × DeskReply)
  pub are : made ≡ front ++ (call.FinishClose key, reply.Closed book) ∷ (between ++ (call.Export handed, reply.Exported file) ∷ [])
  pub none_activates : NoneActivates made

-- A key that a deletion says is deleted was closed by its calls, and what the deletion hands out was exported after that; none of its calls
-- makes a key active.
abbrev pub DeletionsInOrder : Type 0
DeletionsInOrder = (keys : List PubKey) (steps : List ClientStep) (deletion : Deletion) → Follows Fits (deletion_plan keys) steps (Some deletion)
    → (at : ℕ) (key : PubKey) → slice_get keys at ≡ Some key → slice_get deletion.statuses at ≡ Some status.Deleted
    → ClosedThenHanded key (handed_keys keys deletion.statuses) deletion.file (desk_calls steps)

-- all these calls but the first, which merged the file; or all of them, where there is no file
abbrev pub BehindMerge : Option File → List (DeskCall × DeskReply) → List (DeskCall × DeskReply) → Type 0
BehindMerge None made rest = made ≡ rest
BehindMerge (Some file) made rest = (n : ℕ) × (made ≡ (call.Merge file, reply.Merged n) ∷ rest)

-- one of these calls made the key of the keystore active, at this epoch
abbrev pub MadeActive : ℕ → List (DeskCall × DeskReply) → List ℕ × List ℕ → Type 0
MadeActive now made k = (key : PubKey) × (key_of_keystore k.0 ≡ Some key) × Contains made (call.Activate key now, reply.Active)

-- The calls of an import, with what came of it; None: memory ran out. Where one of them makes a key active, whatever its reply, the file was
-- merged before all else. Where the keystores were treated it was, too, and the key of each that is imported was made active after that.
pub record MergedFirst (file : Option File) (now : ℕ) (keystores : List (List ℕ × List ℕ)) (made : List (DeskCall × DeskReply)) (came : Option ImportEnd) : Type 0 where
  pub activates : (key : PubKey) (at : ℕ) (r : DeskReply) → Contains made (call.Activate key at, r) → (rest : List (DeskCall × DeskReply)) × BehindMerge file made rest
  pub treated : (got : List KeyStatus) → came ≡ Some (ending.Treated got)
      → (rest : List (DeskCall × DeskReply)) × BehindMerge file made rest
      × ((at : ℕ) → slice_get got at ≡ Some status.Imported → (k : List ℕ × List ℕ) × (slice_get keystores at ≡ Some k) × MadeActive now rest k)

-- an import, whatever came of it, made no key active before its file was merged, and made each key active that it says is imported
abbrev pub ImportsInOrder : Type 0
ImportsInOrder = (file : Option File) (now : ℕ) (keystores : List (List ℕ × List ℕ)) (steps : List ClientStep) (came : Option ImportEnd) → Follows Fits (import_plan file now keystores) steps came
    → MergedFirst file now keystores (desk_calls steps) came

-- Among these acts the connections closed the key, and after that exported this file of these keys, both by these very calls, which the
-- connections made after those earlier ones and before those later ones: what they did before the Close, between it and the Export, and
-- after the Export is told whole. So no call of theirs between the two makes a key active.
pub record ClosedAmong (client : ℕ) (acts : List (Act Event)) (earlier made later : List (DeskCall × DeskReply)) (key : PubKey) (handed : List PubKey) (file : File) : Type 0 where
  pub calls : ClosedThenHanded key handed file made
  pub front : List (Act Event)
  pub between : List (Act Event)
  pub back : List (Act Event)
  pub are : acts ≡ front ++ act 1 (Call client (call.FinishClose key) (reply.Closed calls.book)) ∷ (between ++ act 1 (Call client (call.Export handed) (reply.Exported file)) ∷ back)
  pub in_front : of_thread 1 front ≡ calls_of client (earlier ++ calls.front)
  pub in_between : of_thread 1 between ≡ calls_of client calls.between
  pub in_back : of_thread 1 back ≡ calls_of client later

-- what is done for a request to give these keys up
abbrev pub deletes_plan : List PubKey → ClientPlan Reply
deletes_plan keys = bind (deletion_plan keys) (λ deletion. Done (deletion_reply deletion))

-- Where a connection asked for a deletion and had a reply of its plan, that is the deletion's; and each key that it says is deleted was
-- closed by an act of this connection's own visit, and what it hands out was exported after that in the same visit, in which no call
-- makes a key active.
abbrev pub DeletionsAnswered : {D C : Type 0} → (D → ℕ) → (D → ℕ → List ℕ → Type 0) → (D → ℕ) → (C → LinkSeen) → Type 0
DeletionsAnswered {D} {C} moment leaves faults see = (clock : Option ℕ) (options : ServeOptions) (start : Start) (opened ended : Seen D) (before now : Parts C) (result : Status)
    (s : ServesDesk moment leaves faults see clock options start opened ended before now result) (client : ℕ) (acts : List (Act Event)) → AreActs client s acts
    → (earlier later : List (Visit C)) (v : Visit C) (from to : Hall Calls C) → s.serves.beside.connections.visits ≡ earlier ++ v ∷ later
    → (visited : Visits Grew see clock options.token start.genesis_time from v to) (keys : List PubKey) (given : Reply)
    → message_plan options.token (epoch_of (slot_of start.genesis_time v.moment)) visited.serves.read ≡ deletes_plan keys → visited.serves.reply ≡ Some given
    → (deletion : Deletion) × (given ≡ deletion_reply deletion)
    × ((at : ℕ) (key : PubKey) → slice_get keys at ≡ Some key → slice_get deletion.statuses at ≡ Some status.Deleted
    → ClosedAmong client acts (calls_in earlier) (desk_calls visited.serves.ran.steps) (asks_failed v.failed ++ calls_in later) key (handed_keys keys deletion.statuses) deletion.file)
