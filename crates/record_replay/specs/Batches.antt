-- What is written of each change.
use Rattle.std.specs.Prelude.{List, [], ◌∷◌, ◌++◌, map, flat_map, Some}
use Rattle.doppel_watch.specs.Watching.{Telling}
use Rattle.edge_kit.specs.declared.bytes.PubKey.{PubKey}
use Rattle.slash_defs.specs.declared.book.Book.{Book}
use Rattle.slash_defs.specs.declared.message.Message.{Message}
use Rattle.slash_defs.specs.declared.message.Message.TheVariants as message
use Rattle.protect_record.specs.declared.floors.Floors.{Floors}
use Rattle.protect_record.specs.Floors.{book_floors}
use Rattle.record_codec.specs.declared.item.JournalItem.{JournalItem}
use Rattle.record_codec.specs.declared.item.JournalItem.TheVariants as item

-- an own message, with its root
abbrev pub message_item : PubKey → Message → JournalItem
message_item key (message.Block slot root) = item.Block key (record { slot = slot; root = Some root })
message_item key (message.Vote source target root) = item.Vote key (record { target = target; source = source; root = Some root })

-- own messages, each of its key
abbrev pub message_items : List (PubKey × Message) → List JournalItem
message_items listed = map (λ one. message_item one.0 one.1) listed

-- what was told of a key
abbrev pub answer_item : PubKey → Telling → JournalItem
answer_item key telling = item.Answer key telling.epoch telling.live telling.moment

abbrev pub floors_item : PubKey → Floors → JournalItem
floors_item key floors = item.Floors key floors.block floors.vote

-- a book of a key: its blocks, its votes, and its least slot, source and target (EIP-3076, conditions 2, 4 and 5), so that
-- the key is named even where the book is empty
abbrev pub book_items : PubKey × Book → List JournalItem
book_items listed = map (item.Block listed.0) listed.1.blocks ++ (map (item.Vote listed.0) listed.1.votes ++ floors_item listed.0 (book_floors listed.1) ∷ [])

-- the books of a file, one after another
abbrev pub file_items : List (PubKey × Book) → List JournalItem
file_items books = flat_map book_items books
