-- What became of keys.
use Rattle.std.specs.Prelude.{Bool, true, false, List, [], ◌∷◌, if◌then◌else◌}
use Rattle.edge_kit.specs.declared.bytes.PubKey.{PubKey}
use Rattle.key_custody.specs.declared.status.KeyStatus.{KeyStatus}
use Rattle.key_custody.specs.declared.status.KeyStatus.TheVariants as status

-- what is kept of the key is handed out with its deletion
abbrev pub is_handed : KeyStatus → Bool
is_handed status.Imported = false
is_handed status.Duplicate = false
is_handed status.Deleted = true
is_handed status.NotActive = true
is_handed status.NotFound = false
is_handed (status.Error reason) = false

-- those of the keys whose status says so
abbrev pub handed_keys : List PubKey → List KeyStatus → List PubKey
handed_keys (key ∷ keys) (s ∷ statuses) = if is_handed s then key ∷ handed_keys keys statuses else handed_keys keys statuses
handed_keys keys statuses = []
