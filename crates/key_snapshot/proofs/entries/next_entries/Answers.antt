use Rattle.std.proofs.Common.{◌++◌, List, map, subst}
use Rattle.protect_record.specs.Iterating.{entries_left}
use Rattle.record_codec.specs.declared.item.JournalItem.{JournalItem}
use Rattle.key_snapshot.specs.Taking.{Takes, item_of}
use Rattle.key_snapshot.proofs.TakeLemmas.{took_both}
use Rattle.key_snapshot.proofs.entries.next_entries.Goals as goal

pub returns : goal.returns
returns c =
    let first = subst (λ (none : List JournalItem). Takes 4096 (none ++ map (item_of c.args.key) (entries_left c.args.blocks.now)) c.fill.new.batch.items (map (item_of c.args.key) (entries_left c.fill.new.kept)))
    c.new-batch.ensures.items c.in_ok-fill.ensures in
    took_both 4096 c.args.key (entries_left c.args.blocks.now) (entries_left c.args.votes.now) (entries_left c.fill.new.kept) (entries_left c.fill-2.new.kept) c.fill.new.batch.items c.fill-2.new.batch.items first c.in_ok-fill-2.ensures
