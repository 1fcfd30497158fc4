use Rattle.duty_loop.proofs.NoteLemmas.{notes_step}
use Rattle.duty_loop.proofs.notes.notes_of.Goals as goal

pub rows-preserved : goal.rows-preserved
rows-preserved c = notes_step c.args.indices.now.entries c.args.keys.now c.args.rows.now c.rows.row-index _ c.rows.notes.items c.push_notes.new.notes.items c.in_ok-asked.asked.items c.as_slice.result.now c.keys_of-of_row.result.now _ c.rows-test.true c.in_ok-asked.ensures c.as_slice.ensures.value c.keys_of-of_row.ensures c.in_ok-push_notes.ensures c.rows.invariant
