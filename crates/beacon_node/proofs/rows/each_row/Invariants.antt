use Rattle.std.proofs.Common.{◌≡◌, drop}
use Rattle.serde_json.specs.View.{items_view}
use Rattle.beacon_node.specs.Readings.{each_row}
use Rattle.beacon_node.proofs.RowLemmas.{after}
use Rattle.beacon_node.proofs.rows.each_row.Given as goal

-- the whole reading is that of the rest, behind what was read
abbrev pub invariant-items : goal.invariant-items
invariant-items g l = each_row g.R.Row.reading (items_view l.items) ≡ after l.rows.items (each_row g.R.Row.reading (items_view (drop l.item-index l.items)))
