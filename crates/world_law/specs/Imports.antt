-- What a client imported is its own from then on.
use Rattle.std.specs.Prelude.{ℕ, List, Contains, IsSomeAnd}
use Rattle.edge_kit.specs.declared.bytes.PubKey.{PubKey}
use Rattle.edge_kit.specs.declared.bytes.Root.{Root}
use Rattle.slash_defs.specs.declared.message.Message.{Message}
use Rattle.slash_defs.specs.declared.book.Book.{Book}
use Rattle.slash_defs.specs.declared.book.File.{File}
use Rattle.desk_machine.specs.States.{State, past_of}
use Rattle.desk_machine.specs.Machine.{Reply}
use Rattle.desk_machine.specs.declared.call.DeskCall.TheVariants as call
use Rattle.desk_machine.specs.declared.call.DeskReply.TheVariants as reply
use Rattle.world_law.specs.Worlds.{World, Event, empty_world, happens, run, IsRun}
use Rattle.world_law.specs.Worlds.Event.{Call}
use Rattle.world_law.specs.Lawful.{IsLawful}

-- the book is among those that were imported for the key
abbrev pub HasImported : State → PubKey → Book → Type 0
HasImported state key book = IsSomeAnd (past_of state key) (λ past. Contains past.books book)

-- each book of a merged file is imported
abbrev pub MergeImports : Type 0
MergeImports = (w : World) (client : ℕ) (file : File) (n : ℕ) → Reply (w.desks client) (call.Merge file) (reply.Merged n)
    → (key : PubKey) (book : Book) → Contains file.books (key, book) → HasImported ((happens w (Call client (call.Merge file) (reply.Merged n))).desks client) key book

-- and stays so, whatever happens
abbrev pub ImportsStay : Type 0
ImportsStay = (before : List (PubKey × Message)) (roots : ℕ → Root) (events more : List Event) → IsRun (empty_world roots) events → IsLawful before (empty_world roots) events
    → IsRun (run (empty_world roots) events) more → IsLawful before (run (empty_world roots) events) more
    → (client : ℕ) (key : PubKey) (book : Book) → HasImported ((run (empty_world roots) events).desks client) key book → HasImported ((run (run (empty_world roots) events) more).desks client) key book
