use Rattle.std.proofs.Common.{◌≡◌, map, take}
use Rattle.serde_json.specs.View.{view}
use Rattle.proxy_api.specs.Listing.{key_text}
use Rattle.proxy_api.proofs.listing.key_texts.Given as goal

-- the values so far are the keys in front
abbrev pub invariant-keys : goal.invariant-keys
invariant-keys l = map view l.values.items ≡ map key_text (take l.key-index l.keys)
