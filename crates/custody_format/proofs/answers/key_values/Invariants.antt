use Rattle.std.proofs.Common.{◌≡◌, map, take}
use Rattle.serde_json.specs.View.{view}
use Rattle.custody_format.specs.Answers.{key_data}
use Rattle.custody_format.proofs.answers.key_values.Given as goal

-- the values so far are the keys in front
abbrev pub invariant-keys : goal.invariant-keys
invariant-keys l = map view l.values.items ≡ map key_data (take l.key-index l.keys)
