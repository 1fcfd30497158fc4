use Rattle.std.proofs.Common.{rules, ◌≡◌, map, arith, length}
use Rattle.std.proofs.lemmas.List.{length-map}
use Rattle.std.proofs.lemmas.Cmp.{nat_cmp_total}
use Rattle.std.specs.Ordering.{nat_cmp}
use Rattle.node_calls.specs.Fitting.{is_in_epoch}
use Rattle.node_calls.proofs.FittingLemmas.{within}
use Rattle.node_calls.proofs.fitting.are_proposers.Goals as goal

pub returns : goal.returns
returns c = within nat_cmp nat_cmp_total (map (λ row. row.slot) c.args.rows.now) c.in_ok-distinct_slots.field-0 (length c.args.rows.now) c.len.result _ (search rules) (search rules) c.in_ok-distinct_slots.ensures (search rules) (length-map _ _)
