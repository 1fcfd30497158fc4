use Rattle.std.proofs.Common.{◌≡◌, map, take}
use Rattle.std.specs.Prelude.{decimal}
use Rattle.serde_json.specs.Data.{string}
use Rattle.serde_json.specs.View.{view}
use Rattle.beacon_node.proofs.requests.number_values.Given as goal

-- the values so far write the numbers in front
abbrev pub invariant-numbers : goal.invariant-numbers
invariant-numbers l = map view l.values.items ≡ map (λ n. string (decimal n)) (take l.number-index l.numbers)
