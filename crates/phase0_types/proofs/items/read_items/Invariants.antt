use Rattle.std.proofs.Common.{◌≡◌, length, map, drop}
use Rattle.serde_json.specs.View.{items_view}
use Rattle.phase0_types.specs.Reading.{each_item, read_at}
use Rattle.phase0_types.proofs.ItemLemmas.{after}
use Rattle.phase0_types.proofs.items.read_items.Given as goal

-- the whole reading is that of the rest, behind what was read
abbrev pub invariant-items : goal.invariant-items
invariant-items g l = record {
  read : each_item (read_at g.T.Shaped.shape l.place) (items_view l.items) ≡ after (map g.T.Shaped.value l.list.items) (each_item (read_at g.T.Shaped.shape l.place) (items_view (drop l.item-index l.items)));
  count : length l.list.items ≡ l.item-index;
}
