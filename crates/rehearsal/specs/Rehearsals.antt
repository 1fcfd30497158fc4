-- What a rehearsal does.
use Rattle.std.specs.Prelude.{◌≡◌, ℕ, ◌<◌, ◌≤◌, ◌%◌, List, [], ◌∷◌, ◌++◌, None, count_by, length, slice_index_or}
use Rattle.std.specs.List.{AllByRecursion}
use Rattle.desk_machine.specs.declared.call.DeskCall.TheVariants as call
use Rattle.desk_machine.specs.declared.call.DeskReply.{DeskReply}
use Rattle.slash_defs.specs.Lists.{unsafe_pairs}
use Rattle.world_law.specs.Worlds.{World, Event, at_client, empty_world, run, IsRun}
use Rattle.world_law.specs.Worlds.Event.{Call}
use Rattle.world_law.specs.Clients.{messages_in}
use Rattle.world_law.specs.Lawful.{IsLawful}
use Rattle.rehearsal.specs.Draws.{act_drawn, after_step, epoch_of, genesis, key_count, key_of, place_drawn}
use Rattle.rehearsal.specs.Plays.{IsGiven, Plays, is_handover, is_refusal, is_stop}
use Rattle.rehearsal.specs.Stages.{Stands}
use Rattle.rehearsal.specs.declared.acts.Act.{Act}
use Rattle.rehearsal.specs.declared.counts.Counts.{Counts}
use Rattle.rehearsal.specs.declared.stage.Stage.{Stage}

-- between steps: the state of the generator, the client that has the key of each place, and the acts so far, the latest first
pub record Scene : Type 0 where
  pub state : ℕ
  pub holder : ℕ → ℕ
  pub acts : List Act

-- the keys are dealt to the clients in turn
abbrev pub first_scene : ℕ → ℕ → Scene
first_scene number clients = record { state = number; holder = λ place. place % clients; acts = [] }

-- after the act of a step, with the client that has its key now
abbrev pub next_scene : ℕ → ℕ → Scene → ℕ → Scene
next_scene clients step scene holder = record {
  state = after_step scene.state;
  holder = at_client scene.holder (place_drawn clients scene.state) holder;
  acts = act_drawn clients step scene.state ∷ scene.acts;
}

-- the events of a step are those of the act that is drawn for it, with the key that is drawn, at the client that has that key
abbrev pub IsStep : ℕ → ℕ → Scene → List Event → ℕ → Type 0
IsStep clients step scene es holder =
    Plays (scene.holder (place_drawn clients scene.state)) (key_of (place_drawn clients scene.state)) (epoch_of step) (act_drawn clients step scene.state) es holder

-- these are the events of each step, the latest first, and this is the scene after them
abbrev pub IsPlayed : ℕ → ℕ → List (List Event) → Scene → Type 0
IsPlayed number clients [] scene = scene ≡ first_scene number clients
IsPlayed number clients (es ∷ earlier) scene = (before : Scene) × (holder : ℕ) × IsPlayed number clients earlier before
    × IsStep clients (length earlier) before es holder × (scene ≡ next_scene clients (length earlier) before holder)

-- all of them, in order
abbrev pub in_order : List (List Event) → List Event
in_order [] = []
in_order (es ∷ earlier) = in_order earlier ++ es

-- at first each key is made active, with these replies, the latest first
abbrev pub first_events : ℕ → List DeskReply → List Event
first_events clients [] = []
first_events clients (r ∷ rs) = first_events clients rs ++ Call (length rs % clients) (call.Activate (key_of (length rs)) 0) r ∷ []

-- no client has done anything
abbrev pub empty : World
empty = empty_world (λ client. genesis)

-- what happens in a rehearsal after so many steps
pub record Account (number clients steps : ℕ) : Type 0 where
  pub replies : List DeskReply
  pub each_key : length replies ≡ key_count clients
  pub given : AllByRecursion IsGiven replies
  pub played : List (List Event)
  pub each_step : length played ≡ steps
  pub scene : Scene
  pub is_played : IsPlayed number clients played scene
  pub events : List Event
  pub events_are : events ≡ first_events clients replies ++ in_order played
  pub runs : IsRun empty events
  pub lawful : IsLawful [] empty events

-- A rehearsal: there is a run of the world of all clients, lawful throughout, whose events are those of the acts that the number draws;
-- and what is counted is counted over these events and acts. Of the messages that are sent in it no two are slashable.
pub record IsRehearsal (number clients steps : ℕ) (counts : Counts) : Type 0 where
  pub account : Account number clients steps
  pub steps_are : counts.steps ≡ steps
  pub granted : counts.granted ≡ length (messages_in account.events)
  pub refused : counts.refused ≡ count_by is_refusal account.events
  pub handovers : counts.handovers ≡ count_by is_handover account.scene.acts
  pub stops : counts.stops ≡ count_by is_stop account.scene.acts
  pub conflicts : counts.conflicts ≡ unsafe_pairs (messages_in account.events)
  pub none : counts.conflicts ≡ 0

-- no call of a client is torn
abbrev pub NoneTorn : World → Type 0
NoneTorn w = (client : ℕ) → w.torn client ≡ None

-- what the stage is after so many steps
pub record Stood (number clients steps : ℕ) (stage : Stage) : Type 0 where
  pub account : Account number clients steps
  pub calm : NoneTorn (run empty account.events)
  pub stands : Stands stage.cast.clients.items (run empty account.events)
  pub sent : stage.cast.sent.items ≡ messages_in account.events
  pub refused : stage.cast.refused ≡ count_by is_refusal account.events
  pub handovers : stage.handovers ≡ count_by is_handover account.scene.acts
  pub stops : stage.stops ≡ count_by is_stop account.scene.acts
  pub state : stage.state ≡ account.scene.state
  pub holders : (place : ℕ) → place < key_count clients → slice_index_or stage.holders.items place 0 ≡ account.scene.holder place
  pub within : (place : ℕ) → place < key_count clients → slice_index_or stage.holders.items place 0 < clients
  pub clients_are : length stage.cast.clients.items ≡ clients
  pub keys_are : length stage.holders.items ≡ key_count clients
  pub few_sent : length stage.cast.sent.items ≤ steps
  pub few_refused : stage.cast.refused ≤ steps
  pub few_handovers : stage.handovers ≤ steps
  pub few_stops : stage.stops ≤ steps
