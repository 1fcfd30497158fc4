use Rattle.std.proofs.Common.{◌≡◌, map, take}
use Rattle.serde_json.specs.View.{view}
use Rattle.keymanager_bodies.specs.Bodies.{listed_key}
use Rattle.keymanager_bodies.proofs.bodies.listed_keys.Given as goal

-- the values so far are the keys in front
abbrev pub invariant-keys : goal.invariant-keys
invariant-keys l = map view l.values.items ≡ map listed_key (take l.key-index l.keys)
