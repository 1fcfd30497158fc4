use Rattle.std.proofs.Common.{List, subst, sym}
use Rattle.std.specs.List.{AllByRecursion}
use Rattle.record_codec.specs.Spelling.{Fits}
use Rattle.record_codec.specs.declared.item.JournalItem.{JournalItem}
use Rattle.record_replay.proofs.WatchLemmas.{moments_fit}
use Rattle.record_replay.proofs.histories.Histories.take_payload.Goals as goal

pub take_items-requires : goal.take_items-requires
take_items-requires c =
    let found = rw c.in-Ok.is at c.in_ok-items.ensures.found in
    moments_fit _ (subst (λ (items : List JournalItem). AllByRecursion Fits items) (sym c.as_slice.ensures.value) found.2)
