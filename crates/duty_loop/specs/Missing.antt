-- Epochs that are missing of some watch.
use Rattle.std.specs.Prelude.{ℕ, ◌-◌, Bool, List, filter}
use Rattle.std.specs.List.{list_any}
use Rattle.edge_kit.specs.declared.bytes.PubKey.{PubKey}
use Rattle.desk_machine.specs.declared.call.KeyStanding.{KeyStanding}
use Rattle.duty_turns.specs.Turns.{counted, misses}

-- some key misses it
abbrev pub some_misses : ℕ → List (PubKey × KeyStanding) → Bool
some_misses epoch listed = list_any (misses epoch) listed

-- those from one on and below another, the lesser first
abbrev pub missing_from : ℕ → ℕ → List (PubKey × KeyStanding) → List ℕ
missing_from from now listed = filter (λ epoch. some_misses epoch listed) (counted from (now - from))
