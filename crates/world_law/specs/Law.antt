-- The law over all clients.
use Rattle.std.specs.Prelude.{◌≡◌, ℕ, List, ◌∷◌, ◌++◌, Contains, Some}
use Rattle.edge_kit.specs.declared.bytes.PubKey.{PubKey}
use Rattle.edge_kit.specs.declared.bytes.Root.{Root}
use Rattle.slash_defs.specs.declared.message.Message.{Message}
use Rattle.slash_defs.specs.Lists.{SafeList}
use Rattle.desk_machine.specs.declared.open_grant.OpenGrant.{OpenGrant}
use Rattle.desk_machine.specs.declared.call.DeskCall.TheVariants as call
use Rattle.world_law.specs.Worlds.{Event, Deed, empty_world, run, IsRun, MayHappen, sent_of}
use Rattle.world_law.specs.Worlds.Event.{Send}
use Rattle.world_law.specs.Worlds.Deed.{Activated, Closed, Sent}
use Rattle.world_law.specs.Lawful.{IsLawful, MayHold, HasCovered}

-- between a Close of a key and a later message of it there is an activation of it; the latest deed stands first
abbrev pub NoneWhileClosed : List Deed → Type 0
NoneWhileClosed deeds = (later between earlier : List Deed) (sender closer : ℕ) (key : PubKey) (m : Message)
    → deeds ≡ later ++ Sent sender key m ∷ (between ++ Closed closer key ∷ earlier) → (client : ℕ) × Contains between (Activated client key)

-- what was signed before and all that is sent is safe
abbrev pub SafeOverall : Type 0
SafeOverall = (before : List (PubKey × Message)) (roots : ℕ → Root) (events : List Event) → SafeList before → IsRun (empty_world roots) events → IsLawful before (empty_world roots) events
    → SafeList (before ++ sent_of (run (empty_world roots) events).deeds)

-- nothing is sent for a key between its Close and its next activation
abbrev pub QuietWhileClosed : Type 0
QuietWhileClosed = (before : List (PubKey × Message)) (roots : ℕ → Root) (events : List Event) → IsRun (empty_world roots) events → IsLawful before (empty_world roots) events
    → NoneWhileClosed (run (empty_world roots) events).deeds

-- nor under a Close that a fault of the disk tore
abbrev pub QuietWhileTorn : Type 0
QuietWhileTorn = (before : List (PubKey × Message)) (roots : ℕ → Root) (events : List Event) → IsRun (empty_world roots) events → IsLawful before (empty_world roots) events
    → (closer sender : ℕ) (key : PubKey) (grant : OpenGrant) (m : Message) → (run (empty_world roots) events).torn closer ≡ Some (call.FinishClose key)
    → MayHappen (run (empty_world roots) events) (Send sender grant m) → ¬ (grant.key ≡ key)

-- at most one client may hold a key
abbrev pub OneMayHold : Type 0
OneMayHold = (before : List (PubKey × Message)) (roots : ℕ → Root) (events : List Event) → IsRun (empty_world roots) events → IsLawful before (empty_world roots) events
    → (client other : ℕ) (key : PubKey) → MayHold (run (empty_world roots) events) client key → MayHold (run (empty_world roots) events) other key → client ≡ other

-- and its past covers all that was signed for the key before and all that was sent
abbrev pub HolderCovers : Type 0
HolderCovers = (before : List (PubKey × Message)) (roots : ℕ → Root) (events : List Event) → IsRun (empty_world roots) events → IsLawful before (empty_world roots) events
    → (client : ℕ) (key : PubKey) (m : Message) → MayHold (run (empty_world roots) events) client key
    → Contains (before ++ sent_of (run (empty_world roots) events).deeds) (key, m) → HasCovered ((run (empty_world roots) events).desks client) key m
