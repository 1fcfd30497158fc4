-- What an iterator over kept entries has left.
use Rattle.std.specs.Prelude.{List, map, ◌++◌}
use Rattle.slash_defs.specs.declared.entry.Entry.{Entry}
use Rattle.slash_defs.specs.declared.entry.Entry.TheVariants as entry
use Rattle.protect_record.specs.declared.kept.Kept.{Kept}

-- the blocks that are left, and then the votes
abbrev pub entries_left : Kept → List Entry
entries_left k = map entry.Block k.blocks.now ++ map entry.Vote k.votes.now
