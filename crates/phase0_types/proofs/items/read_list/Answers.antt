use Rattle.std.proofs.Common.{Err, sym, ◌∙◌, ap, arith, lit<}
use Rattle.serde_json.specs.View.{view, items_view}
use Rattle.phase0_types.specs.Reading.{each_item, read_at}
use Rattle.phase0_types.proofs.ItemLemmas.{item_count-items_view, list_within, list_above}
use Rattle.phase0_types.proofs.items.read_list.Goals as goal

pub returns-then-len : goal.returns-then-len
returns-then-len g c =
    let items = c.in-Some.array.now.items in
    let count = item_count-items_view items in
    ap (λ e. Err e) c.too_long.ensures ∙ sym (list_above g.T.Shaped.shape g.row.LIMIT c.args.place (view c.args.json.now) (items_view items) c.in-Some.ensures (omega arith))

pub bounded-requires : goal.bounded-requires
bounded-requires g c =
    let read = rw c.in-Ok.is at c.in_ok-items.ensures.count in
    (lit< tt, omega arith)

pub returns-in-Ok : goal.returns-in-Ok
returns-in-Ok g c =
    let items = c.in-Some.array.now.items in
    let count = item_count-items_view items in
    let within = list_within g.T.Shaped.shape g.row.LIMIT c.args.place (view c.args.json.now) (items_view items) c.in-Some.ensures (omega arith) in
    let read = rw c.in-Ok.is at c.in_ok-items.ensures.read in
    let same = ap (λ xs. each_item (read_at g.T.Shaped.shape c.args.place) (items_view xs)) c.as_slice.ensures.value in
    rw c.bounded.ensures (read ∙ same ∙ sym within)

pub returns-in-Err : goal.returns-in-Err
returns-in-Err g c =
    let items = c.in-Some.array.now.items in
    let count = item_count-items_view items in
    let within = list_within g.T.Shaped.shape g.row.LIMIT c.args.place (view c.args.json.now) (items_view items) c.in-Some.ensures (omega arith) in
    let read = rw c.in-Err.is at c.in_ok-items.ensures.read in
    let same = ap (λ xs. each_item (read_at g.T.Shaped.shape c.args.place) (items_view xs)) c.as_slice.ensures.value in
    read ∙ same ∙ sym within
