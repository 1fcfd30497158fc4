use Rattle.std.proofs.Common.{◌≡◌, map, take}
use Rattle.std.specs.Prelude.{All}
use Rattle.serde_json.specs.View.{view}
use Rattle.phase0_types.specs.Fitting.{Fits}
use Rattle.phase0_types.specs.Writing.{write}
use Rattle.phase0_types.proofs.items.items_json.Given as goal

abbrev pub invariant-items : goal.invariant-items
invariant-items g l = record {
  written : map view l.list.items ≡ map (write g.T.Shaped.shape) (map g.T.Shaped.value (take l.item-index l.items));
  fit : All (Fits g.T.Shaped.shape) (map g.T.Shaped.value (take l.item-index l.items));
}
