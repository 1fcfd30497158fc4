use Rattle.std.proofs.Common.{rules, ◌≡◌, map, arith, length}
use Rattle.std.proofs.lemmas.List.{length-map}
use Rattle.node_calls.specs.Fitting.{key_order, is_attester_row}
use Rattle.node_calls.proofs.FittingLemmas.{keys_total, within}
use Rattle.node_calls.proofs.fitting.are_attesters.Goals as goal

pub returns : goal.returns
returns c = within key_order keys_total (map (λ row. row.pubkey) c.args.rows.now) c.in_ok-distinct_keys.field-0 (length c.args.rows.now) c.len.result _ (search rules) (search rules) c.in_ok-distinct_keys.ensures (search rules) (length-map _ _)
