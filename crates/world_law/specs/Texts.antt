-- What is handed out as a text.
use Rattle.std.specs.Prelude.{◌≡◌, List}
use Rattle.edge_kit.specs.declared.bytes.PubKey.{PubKey}
use Rattle.edge_kit.specs.declared.bytes.Root.{Root}
use Rattle.slash_defs.specs.declared.book.Book.{Book}
use Rattle.slash_defs.specs.declared.book.File.{File}
use Rattle.interchange_io.specs.WrittenOrder.{canonical}
use Rattle.desk_machine.specs.States.{State}
use Rattle.desk_machine.specs.Machine.{Reply}
use Rattle.desk_machine.specs.declared.call.DeskCall.TheVariants as call
use Rattle.desk_machine.specs.declared.call.DeskReply.TheVariants as reply
use Rattle.world_law.specs.Plans.{file_of}

-- a file that is exported stands in its written order already, so that what is written of it reads as the file itself
abbrev pub ExportsAsWritten : Type 0
ExportsAsWritten = (state : State) (keys : List PubKey) (file : File) → Reply state (call.Export keys) (reply.Exported file) → canonical file ≡ file

-- and so does the file of one key with the book that came with its Close
abbrev pub ClosesAsWritten : Type 0
ClosesAsWritten = (state : State) (key : PubKey) (book : Book) (genesis : Root) → Reply state (call.FinishClose key) (reply.Closed book) → canonical (file_of genesis key book) ≡ file_of genesis key book
