-- The states of the desk machine.
use Rattle.std.specs.Prelude.{◌≡◌, ◌≢◌, ℕ, Bool, true, false, List, [], Option, None, Some, unwrap_or, if◌then◌else◌}
use Rattle.std.specs.List.{list_any}
use Rattle.std.specs.BTreeMap.{is_at}
use Rattle.edge_kit.specs.declared.bytes.PubKey.{PubKey}
use Rattle.edge_kit.specs.declared.bytes.Root.{Root}
use Rattle.protect_record.specs.Pasts.{Past}
use Rattle.record_join.specs.Keys.{key_cmp, kept_of}
use Rattle.record_replay.specs.Replaying.{lasting_states}
use Rattle.record_replay.specs.declared.state.KeyState.{KeyState}
use Rattle.record_replay.specs.declared.state.KeyState.TheVariants.{Known, Active, Closing, Closed}
use Rattle.doppel_watch.specs.declared.watch.WatchState.{WatchState}
use Rattle.doppel_watch.specs.declared.watch.WatchState.TheVariants.{Allowed}
use Rattle.desk_machine.specs.Watches.{Watching, fresh_watching, standing_of}
use Rattle.desk_machine.specs.declared.open_grant.OpenGrant.{OpenGrant}
use Rattle.desk_machine.specs.declared.call.KeyStanding.{KeyStanding}
use Rattle.desk_machine.specs.declared.call.KeyStanding.TheVariants as standing

-- what outlasts a stop: each kept key with its past, in key order; the state of each that was activated or closed; and of the
-- journal's current file the size in bytes and the generation, which rises by one with each compaction
pub record Lasting : Type 0 where
  pub keys : List (PubKey × Past)
  pub states : List (PubKey × KeyState)
  pub size : ℕ
  pub generation : ℕ

-- beside that, the chain's genesis root; the open grants and the number of the next; the latest moment; the watches of the keys,
-- and whether keys are watched; and, where a fault of the disk tore a call, what would have outlasted its Ok: such a desk has failed
pub record State : Type 0 where
  pub genesis : Root
  pub keys : List (PubKey × Past)
  pub states : List (PubKey × KeyState)
  pub grants : List OpenGrant
  pub next : ℕ
  pub latest : ℕ
  pub watching : Watching
  pub size : ℕ
  pub generation : ℕ
  pub torn : Option Lasting

abbrev pub lasting : State → Lasting
lasting state = record { keys = state.keys; states = state.states; size = state.size; generation = state.generation }

-- nothing is kept, in a journal of its header alone
abbrev pub nothing_lasts : Lasting
nothing_lasts = record { keys = []; states = []; size = 42; generation = 0 }

-- the state of a desk that is opened, at this moment, over what lasted: no grant is open, a closing key is active, and the watch
-- of each active key begins now
abbrev pub reopened : Root → Lasting → Bool → ℕ → State
reopened genesis l watch now = record {
  genesis = genesis;
  keys = l.keys;
  states = lasting_states l.states;
  grants = [];
  next = 0;
  latest = now;
  watching = fresh_watching watch now;
  size = l.size;
  generation = l.generation;
  torn = None;
}

-- the state of an empty desk
abbrev pub no_state : Root → State
no_state genesis = reopened genesis nothing_lasts false 0

-- what was imported and recorded for a key, where it is kept
abbrev pub past_of : State → PubKey → Option Past
past_of state key = kept_of state.keys key

-- the state of a key that is kept
abbrev pub key_state : List (PubKey × KeyState) → PubKey → KeyState
key_state states key = unwrap_or (kept_of states key) Known

-- the key is among these
abbrev pub is_among : List PubKey → PubKey → Bool
is_among keys key = list_any (is_at (key_cmp key)) keys

abbrev pub is_active : KeyState → Bool
is_active Known = false
is_active Active = true
is_active Closing = false
is_active Closed = false

-- the key may sign
abbrev pub IsActive : State → PubKey → Type 0
IsActive state key = kept_of state.states key ≡ Some Active

-- the key is being closed
abbrev pub IsClosing : State → PubKey → Type 0
IsClosing state key = kept_of state.states key ≡ Some Closing

-- neither: it may become active
abbrev pub IsIdle : State → PubKey → Type 0
IsIdle state key = (kept_of state.states key ≢ Some Active) × (kept_of state.states key ≢ Some Closing)

-- the past of a key that may sign
abbrev pub active_past : State → PubKey → Option Past
active_past state key = if is_active (key_state state.states key) then past_of state key else None

-- the watch lets the key sign
abbrev pub IsAllowed : State → PubKey → Type 0
IsAllowed state key = standing_of state.watching key ≡ Allowed

-- how a kept key stands, by its state and its watch
abbrev pub key_standing : KeyState → WatchState → KeyStanding
key_standing Known watch = standing.Known
key_standing Active watch = standing.Active watch
key_standing Closing watch = standing.Closing
key_standing Closed watch = standing.Closed

-- the state of a key that stands so
abbrev pub state_in : KeyStanding → KeyState
state_in standing.Known = Known
state_in (standing.Active watch) = Active
state_in standing.Closing = Closing
state_in standing.Closed = Closed
