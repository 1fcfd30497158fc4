-- What was told of a watched key before anything was granted for it.
use Rattle.std.specs.Prelude.{◌≡◌, ◌≢◌, ◌⊎◌, ℕ, ◌+◌, ◌<◌, max, Bool, true, false, List, [], ◌∷◌, ◌++◌, All, Contains}
use Rattle.edge_kit.specs.declared.bytes.PubKey.{PubKey}
use Rattle.desk_machine.specs.States.{State}
use Rattle.desk_machine.specs.declared.call.DeskCall.TheVariants as call
use Rattle.desk_machine.specs.declared.call.DeskReply.TheVariants as reply
use Rattle.world_law.specs.Worlds.{World, Event, client_of, IsRun}
use Rattle.world_law.specs.Worlds.Event.{Call, Crash}

-- the key's watch begins at this epoch: the key becomes active at a client whose watch is on, or the client starts with the watch on
abbrev pub BeginsWatch : State → Event → PubKey → ℕ → Type 0
BeginsWatch state (Call client (call.Activate key now) reply.Active) k start = (key ≡ k) × (state.watching.on ≡ true) × (start ≡ max state.latest now)
BeginsWatch state (Crash client within done now true) k start = start ≡ now
BeginsWatch state e k start = ⊥

-- the key's watch at the client does not begin anew
abbrev pub LeavesWatch : ℕ → PubKey → Event → Type 0
LeavesWatch c k (Call client (call.Activate key now) reply.Active) = client ≡ c → key ≢ k
LeavesWatch c k (Crash client within done now watch) = client ≢ c
LeavesWatch c k e = Unit {0}

-- something is granted for the key at the client: to sign a message, or what is no block and no vote
abbrev pub GrantsAt : ℕ → PubKey → Event → Type 0
GrantsAt c k (Call client (call.Propose key m now) (reply.Granted grant)) = (client ≡ c) × (key ≡ k)
GrantsAt c k (Call client (call.Allow key now) (reply.Granted grant)) = (client ≡ c) × (key ≡ k)
GrantsAt c k e = ⊥

-- the epoch was over by a moment at which the client was told something of the key: now, or in one of these events
abbrev pub IsOver : List Event → ℕ → PubKey → ℕ → ℕ → Type 0
IsOver es client key epoch now = (epoch < now) ⊎ ((other : ℕ) × (live : Bool) × (moment : ℕ) × Contains es (Call client (call.Answer key other live moment) reply.Noted) × (epoch < moment))

-- the client was told that the key was not live in the epoch, once it was over
abbrev pub IsToldAbsent : List Event → ℕ → PubKey → ℕ → Type 0
IsToldAbsent es client key epoch = (earlier : List Event) × (later : List Event) × (now : ℕ) × (es ≡ earlier ++ Call client (call.Answer key epoch false now) reply.Noted ∷ later) × IsOver earlier client key epoch now

-- and it was never told that the key was live in it
abbrev pub IsSilent : List Event → ℕ → PubKey → ℕ → Type 0
IsSilent es client key epoch = IsToldAbsent es client key epoch × ((now : ℕ) → ¬ (Contains es (Call client (call.Answer key epoch true now) reply.Noted)))

-- where a key's watch begins, nothing is granted for it, until it begins anew, before the client was told so of the two epochs after that one
abbrev pub WatchesFirst : Type 0
WatchesFirst = (w : World) (first last : Event) (between : List Event) (client : ℕ) (key : PubKey) (start : ℕ) → IsRun w (first ∷ (between ++ last ∷ []))
    → client_of first ≡ client → BeginsWatch (w.desks client) first key start → All (LeavesWatch client key) between → GrantsAt client key last
    → IsSilent between client key (start + 1) × IsSilent between client key (start + 2)
