-- The record of a past, and the book that prunes it.
use Rattle.std.specs.Prelude.{not, List, [], ◌∷◌, ◌++◌, fold, filter, flat_map, Some}
use Rattle.std.specs.BTreeSet.{insert_key}
use Rattle.slash_defs.specs.declared.book.Book.{Book}
use Rattle.slash_defs.specs.declared.entry.BlockEntry.{BlockEntry}
use Rattle.slash_defs.specs.declared.entry.VoteEntry.{VoteEntry}
use Rattle.slash_defs.specs.declared.message.Message.{Message}
use Rattle.slash_defs.specs.declared.message.Message.TheVariants as message
use Rattle.slash_defs.specs.FileOrder.{block_cmp, vote_cmp}
use Rattle.protect_record.specs.Parts.{Parts}
use Rattle.protect_record.specs.Pasts.{Past}
use Rattle.protect_record.specs.Floors.{floors_of, is_dead_block, is_dead_vote}
use Rattle.protect_record.specs.Exporting.{prune_book}

-- the blocks and the votes of a past: those of its books, and its own
abbrev pub own_blocks : Message → List BlockEntry
own_blocks (message.Block slot root) = record { slot = slot; root = Some root } ∷ []
own_blocks (message.Vote source target root) = []

abbrev pub own_votes : Message → List VoteEntry
own_votes (message.Block slot root) = []
own_votes (message.Vote source target root) = record { target = target; source = source; root = Some root } ∷ []

abbrev pub past_blocks : Past → List BlockEntry
past_blocks past = flat_map (λ b. b.blocks) past.books ++ flat_map own_blocks past.own

abbrev pub past_votes : Past → List VoteEntry
past_votes past = flat_map (λ b. b.votes) past.books ++ flat_map own_votes past.own

-- the record of a past: its floors, and its entries that still count, each once, in file order
abbrev pub record_of : Past → Parts
record_of past = record {
  floors = floors_of past.books;
  blocks = filter (λ e. not (is_dead_block (floors_of past.books) e)) (fold (insert_key block_cmp) [] (past_blocks past));
  votes = filter (λ e. not (is_dead_vote (floors_of past.books) e)) (fold (insert_key vote_cmp) [] (past_votes past));
  block_room = 0;
  vote_room = 0;
}

-- the book that prunes a past
unfoldable pub pruning_of : Past → Book
pruning_of past = prune_book (record_of past)
