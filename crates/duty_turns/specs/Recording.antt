-- Which messages of a slot's votes the desk keeps together, before it is asked for leave for each.
use Rattle.std.specs.Prelude.{Bool, true, false, List, [], ◌∷◌, filter, map, if◌then◌else◌, Option, Some, None}
use Rattle.std.specs.Ordering.{eq_by_cmp}
use Rattle.std.specs.Set.{is_member}
use Rattle.edge_kit.specs.declared.bytes.PubKey.{PubKey}
use Rattle.slash_defs.specs.declared.message.Message.{Message}
use Rattle.doppel_watch.specs.declared.watch.WatchState.TheVariants as watch
use Rattle.desk_machine.specs.declared.call.KeyStanding.{KeyStanding}
use Rattle.desk_machine.specs.declared.call.KeyStanding.TheVariants as standing
use Rattle.record_join.specs.Keys.{key_cmp}
use Rattle.sign_roots.specs.declared.domains.Domains.{Domains}
use Rattle.duty_pruning.specs.Pruning.{is_after}
use Rattle.duty_plans.specs.declared.task.Task.{Task}
use Rattle.duty_plans.specs.Votes.{messages_of}

-- a key that stands so may sign: it is active, and its watch allows it
abbrev pub may_sign : KeyStanding → Bool
may_sign (standing.Active watch.Allowed) = true
may_sign s = false

-- the keys that may sign
abbrev pub allowed_of : List (PubKey × KeyStanding) → List PubKey
allowed_of listed = map (λ l. l.0) (filter (λ l. may_sign l.1) listed)

abbrev pub is_allowed : List PubKey → PubKey → Bool
is_allowed allowed key = is_member (eq_by_cmp key_cmp) allowed key

-- each whose key comes after that of the last one taken: of messages in the order of their keys, the first of each key
abbrev pub first_of_each : Option PubKey → List (PubKey × Message) → List (PubKey × Message)
first_of_each before [] = []
first_of_each before (m ∷ ms) = if is_after before m.0 then m ∷ first_of_each (Some m.0) ms else first_of_each before ms

-- of the messages of these votes, those of keys that may sign, and the first of each key
abbrev pub recorded : Domains → List PubKey → List Task → List (PubKey × Message)
recorded domains allowed tasks = first_of_each None (filter (λ m. is_allowed allowed m.0) (messages_of domains tasks))
