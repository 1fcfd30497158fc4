use Rattle.std.proofs.Common.{◌≡◌, drop}
use Rattle.duty_turns.specs.Standing.{with_rows}
use Rattle.duty_asks.proofs.take.insert_rows.Given as goal

abbrev pub invariant-rows : goal.invariant-rows
invariant-rows l = record {
  taken : with_rows (drop l.row-index l.rows) l.indices.entries ≡ with_rows l.rows l.fn.indices.entries;
}
