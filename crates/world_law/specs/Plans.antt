-- Two plans of an operator who moves a key from one client to another and back.
use Rattle.std.specs.Prelude.{◌≢◌, ℕ, List, [], ◌∷◌}
use Rattle.edge_kit.specs.declared.bytes.PubKey.{PubKey}
use Rattle.edge_kit.specs.declared.bytes.Root.{Root}
use Rattle.slash_defs.specs.declared.message.Message.{Message}
use Rattle.slash_defs.specs.declared.book.Book.{Book}
use Rattle.slash_defs.specs.declared.book.File.{File}
use Rattle.desk_machine.specs.declared.open_grant.OpenGrant.{OpenGrant}
use Rattle.desk_machine.specs.declared.call.DeskCall.TheVariants as call
use Rattle.desk_machine.specs.declared.call.DeskReply.TheVariants as reply
use Rattle.desk_machine.specs.declared.call.Outcome.TheVariants as outcome
use Rattle.world_law.specs.Worlds.{World, Event, empty_world, IsRun}
use Rattle.world_law.specs.Worlds.Event.{Call, Send}
use Rattle.world_law.specs.Lawful.{IsLawful}

-- the file of one key
abbrev pub file_of : Root → PubKey → Book → File
file_of genesis key book = record { genesis = genesis; books = (key, book) ∷ [] }

-- a client imports a book for the key and makes it active
abbrev pub import_key : Root → ℕ → PubKey → Book → ℕ → List Event → List Event
import_key genesis client key book now rest = Call client (call.Merge (file_of genesis key book)) (reply.Merged 1) ∷ Call client (call.Activate key now) reply.Active ∷ rest

-- a client deletes the key, and hands out the book
abbrev pub delete_key : ℕ → PubKey → Book → List Event → List Event
delete_key client key book rest = Call client (call.BeginClose key) reply.CloseBegun ∷ Call client (call.FinishClose key) (reply.Closed book) ∷ rest

-- a client signs a message and sends it
abbrev pub sign_one : ℕ → PubKey → Message → OpenGrant → ℕ → List Event → List Event
sign_one client key m grant now rest =
    Call client (call.Propose key m now) (reply.Granted grant) ∷ Send client grant m ∷ Call client (call.Settle grant outcome.Sent) reply.Settled ∷ rest

-- client 0 has the key and deletes it; client 1 imports the first book, signs, and deletes the key; client 0 imports the book that is brought to it
abbrev pub there_and_back : Root → PubKey → Message → OpenGrant → Book → Book → Book → ℕ → List Event
there_and_back genesis key m grant first second brought now =
    Call 0 (call.Activate key now) reply.Active ∷ delete_key 0 key first (import_key genesis 1 key first now (sign_one 1 key m grant now (delete_key 1 key second (import_key genesis 0 key brought now []))))

abbrev pub one_chain : Root → World
one_chain genesis = empty_world (λ client. genesis)

-- with the second book brought back, each run of the plan is lawful
abbrev pub IsLawfulBack : Type 0
IsLawfulBack = (genesis : Root) (key : PubKey) (m : Message) (grant : OpenGrant) (first second : Book) (now : ℕ)
    → IsRun (one_chain genesis) (there_and_back genesis key m grant first second second now) → IsLawful [] (one_chain genesis) (there_and_back genesis key m grant first second second now)

-- with the first book brought back in its place, none is, where the books differ
abbrev pub IsUnlawfulBack : Type 0
IsUnlawfulBack = (genesis : Root) (key : PubKey) (m : Message) (grant : OpenGrant) (first second : Book) (now : ℕ) → first ≢ second
    → IsRun (one_chain genesis) (there_and_back genesis key m grant first second first now) → ¬ (IsLawful [] (one_chain genesis) (there_and_back genesis key m grant first second first now))

-- there is a run of this plan that brings back the second book, and one that brings back the first, and the books differ
abbrev pub HasRunsBack : Type 0
HasRunsBack = (genesis : Root) × (key : PubKey) × (m : Message) × (grant : OpenGrant) × (first : Book) × (second : Book) × (first ≢ second)
    × IsRun (one_chain genesis) (there_and_back genesis key m grant first second second 0) × IsRun (one_chain genesis) (there_and_back genesis key m grant first second first 0)
