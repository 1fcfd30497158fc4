use Rattle.std.proofs.Common.{Err, sym, ◌∙◌, ap, arith}
use Rattle.serde_json.specs.View.{view, items_view}
use Rattle.phase0_types.specs.Shapes.{byte_vector}
use Rattle.phase0_types.specs.Reading.{each_item, read_at}
use Rattle.phase0_types.proofs.ItemLemmas.{item_count-items_view, vector_equal, vector_other}
use Rattle.phase0_types.proofs.items.ArrayRootShaped.read_at.Goals as goal

pub returns-then-len : goal.returns-then-len
returns-then-len g c =
    let items = c.in-Some.array.now.items in
    let count = item_count-items_view items in
    ap (λ e. Err e) c.too_long.ensures ∙ sym (vector_other (byte_vector 32) g.row.N c.args.place (view c.args.json.now) (items_view items) c.in-Some.ensures (λ same. c.if-len.true (omega arith)))

pub returns-in-Ok : goal.returns-in-Ok
returns-in-Ok g c =
    let items = c.in-Some.array.now.items in
    let count = item_count-items_view items in
    let within = vector_equal (byte_vector 32) g.row.N c.args.place (view c.args.json.now) (items_view items) c.in-Some.ensures (omega arith) in
    let read = rw c.in-Ok.is at c.in_ok-items.ensures.read in
    let same = ap (λ xs. each_item (read_at (byte_vector 32) c.args.place) (items_view xs)) c.as_slice.ensures.value in
    rw (c.roots_of.ensures, c.as_slice-in-Ok.ensures.value) (read ∙ same ∙ sym within)

pub returns-in-Err : goal.returns-in-Err
returns-in-Err g c =
    let items = c.in-Some.array.now.items in
    let count = item_count-items_view items in
    let within = vector_equal (byte_vector 32) g.row.N c.args.place (view c.args.json.now) (items_view items) c.in-Some.ensures (omega arith) in
    let read = rw c.in-Err.is at c.in_ok-items.ensures.read in
    let same = ap (λ xs. each_item (read_at (byte_vector 32) c.args.place) (items_view xs)) c.as_slice.ensures.value in
    read ∙ same ∙ sym within
