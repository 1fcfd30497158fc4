use Rattle.std.proofs.Common.{◌≡◌, ◌++◌, drop, codes}
use Rattle.std.specs.Prelude.{string_bytes}
use Rattle.beacon_node.specs.Requests.{key_query, validators_path}
use Rattle.beacon_node.proofs.requests.validators_path.Given as goal

-- the whole path is the text so far and the keys that are left
abbrev pub invariant-keys : goal.invariant-keys
invariant-keys l = validators_path l.keys ≡ string_bytes l.path ++ key_query (codes "&") (drop l.key-index l.others)
