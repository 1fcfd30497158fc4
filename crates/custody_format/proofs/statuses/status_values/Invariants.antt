use Rattle.std.proofs.Common.{◌≡◌, map, take}
use Rattle.serde_json.specs.View.{view}
use Rattle.custody_format.specs.Statuses.{status_data}
use Rattle.custody_format.proofs.statuses.status_values.Given as goal

-- the values so far say what became of the keys in front
abbrev pub invariant-statuses : goal.invariant-statuses
invariant-statuses l = map view l.values.items ≡ map status_data (take l.status-index l.statuses)
