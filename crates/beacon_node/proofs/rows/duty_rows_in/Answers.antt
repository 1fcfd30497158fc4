use Rattle.std.proofs.Common.{sym, arith}
use Rattle.serde_json.specs.View.{view}
use Rattle.beacon_node.proofs.RowLemmas.{duty_rows_long, duty_rows_short}
use Rattle.beacon_node.proofs.rows.duty_rows_in.Goals as goal

pub returns-then-items-gt-MAX_DUTY_ROWS : goal.returns-then-items-gt-MAX_DUTY_ROWS
returns-then-items-gt-MAX_DUTY_ROWS g c = duty_rows_long g.R.Row.reading (view c.args.value.now) c.in-Some.items.now c.in-Some.ensures (omega arith)

pub returns : goal.returns
returns g c =
    let items = c.in-Some.items.now in
    rw (sym (duty_rows_short g.R.Row.reading (view c.args.value.now) items c.in-Some.ensures (omega arith))) c.each_row.ensures
