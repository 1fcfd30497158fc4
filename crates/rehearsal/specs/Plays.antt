-- What happens in an act.
use Rattle.std.specs.Prelude.{◌≡◌, ℕ, ◌<◌, ◌≤◌, Bool, true, false, List, [], ◌∷◌, ◌++◌, None}
use Rattle.edge_kit.specs.declared.bytes.PubKey.{PubKey}
use Rattle.slash_defs.specs.declared.message.Message.{Message}
use Rattle.desk_machine.specs.declared.call.DeskCall.TheVariants as call
use Rattle.desk_machine.specs.declared.call.DeskReply.{DeskReply}
use Rattle.desk_machine.specs.declared.call.DeskReply.TheVariants as reply
use Rattle.desk_machine.specs.declared.call.Outcome.TheVariants as outcome
use Rattle.world_law.specs.Worlds.{Event}
use Rattle.world_law.specs.Worlds.Event.{Call, Send, Crash}
use Rattle.world_law.specs.Plans.{file_of}
use Rattle.rehearsal.specs.Draws.{genesis}
use Rattle.rehearsal.specs.declared.acts.Act.{Act}
use Rattle.rehearsal.specs.declared.acts.Act.TheVariants as act

-- memory did not run out in the call
abbrev pub IsAnswered : DeskReply → Type 0
IsAnswered reply.OutOfMemory = ⊥
IsAnswered r = Unit {0}

-- nor did the disk fail
abbrev pub IsGiven : DeskReply → Type 0
IsGiven reply.OutOfMemory = ⊥
IsGiven reply.Disk = ⊥
IsGiven r = Unit {0}

-- what was granted is sent, and its grant settled
abbrev pub sends_of : ℕ → Message → DeskReply → List Event
sends_of client m (reply.Granted grant) = Send client grant m ∷ Call client (call.Settle grant outcome.Sent) reply.Settled ∷ []
sends_of client m r = []

-- a proposal
abbrev pub proposal_events : ℕ → PubKey → Message → ℕ → DeskReply → List Event
proposal_events client key m now r = Call client (call.Propose key m now) r ∷ sends_of client m r

-- where the file was merged, the key is made active
abbrev pub Activates : ℕ → PubKey → ℕ → DeskReply → List Event → Type 0
Activates to key now (reply.Merged keys) es = (r : DeskReply) × IsGiven r × (es ≡ Call to (call.Activate key now) r ∷ [])
Activates to key now r es = es ≡ []

-- where the key was closed, the book that was handed out is merged at the other client, which has the key from then on
abbrev pub TakesOver : ℕ → ℕ → PubKey → ℕ → DeskReply → List Event → ℕ → Type 0
TakesOver from to key now (reply.Closed book) es holder = (holder ≡ to)
    × (r : DeskReply) × IsGiven r × (rest : List Event) × (es ≡ Call to (call.Merge (file_of genesis key book)) r ∷ rest) × Activates to key now r rest
TakesOver from to key now r es holder = (holder ≡ from) × (es ≡ [])

-- These are the events of an act with a key at the client that has it, and which client has the key afterwards. Each call is made whatever the
-- others replied, but that a grant is sent, a book merged and a key made active only where there is one. Where a client is to stop at a call of its
-- disk, it is started anew first, over a disk that will stop. What a stop leaves of a call that the disk did not finish is as the disk has it.
abbrev pub Plays : ℕ → PubKey → ℕ → Act → List Event → ℕ → Type 0
Plays client key now (act.Propose m) es holder = (holder ≡ client) × (r : DeskReply) × IsGiven r × (es ≡ proposal_events client key m now r)
Plays client key now (act.HandOver to) es holder = (begun : DeskReply) × (closed : DeskReply) × IsGiven begun × IsGiven closed
    × (rest : List Event) × (es ≡ Call client (call.BeginClose key) begun ∷ Call client (call.FinishClose key) closed ∷ rest) × TakesOver client to key now closed rest holder
Plays client key now act.Stop es holder = (holder ≡ client) × (done : Bool) × (es ≡ Crash client None done now false ∷ [])
Plays client key now (act.StopWithin m disk_call crash) es holder = (holder ≡ client) × (r : DeskReply) × IsAnswered r × (first : Bool) × (last : Bool)
    × (es ≡ Crash client None first now false ∷ (proposal_events client key m now r ++ Crash client None last now false ∷ []))
Plays client key now act.Prune es holder = (holder ≡ client) × (r : DeskReply) × IsGiven r × (es ≡ Call client (call.Prune key) r ∷ [])

-- a handover is to one of so many clients, and a stop at one of the first four calls of the disk
abbrev pub IsPlayable : ℕ → Act → Type 0
IsPlayable clients (act.HandOver to) = to < clients
IsPlayable clients (act.StopWithin m disk_call crash) = disk_call ≤ 4
IsPlayable clients a = Unit {0}

-- ---- what is counted

-- a proposal was refused
abbrev pub is_refused : DeskReply → Bool
is_refused (reply.Granted grant) = false
is_refused reply.Disk = false
is_refused r = true

abbrev pub is_refusal : Event → Bool
is_refusal (Call client (call.Propose key m now) r) = is_refused r
is_refusal e = false

abbrev pub is_handover : Act → Bool
is_handover (act.HandOver to) = true
is_handover a = false

abbrev pub is_stop : Act → Bool
is_stop act.Stop = true
is_stop (act.StopWithin m disk_call crash) = true
is_stop a = false

-- one more where it is so
abbrev pub counted : Bool → ℕ
counted true = 1
counted false = 0
