-- Which lists of events are lawful: where a key becomes active, no other client may hold it, and the client has what was signed for it.
use Rattle.std.specs.Prelude.{◌≡◌, ℕ, ◌⊎◌, List, [], ◌∷◌, Contains, Option, Some, None, IsSomeAnd, MatchBool, if◌then◌else◌}
use Rattle.std.specs.BTreeMap.{is_at}
use Rattle.edge_kit.specs.declared.bytes.PubKey.{PubKey}
use Rattle.slash_defs.specs.declared.message.Message.{Message}
use Rattle.slash_defs.specs.declared.book.Book.{Book}
use Rattle.protect_record.specs.Passing.{Covers}
use Rattle.record_join.specs.Keys.{key_cmp, kept_of}
use Rattle.desk_machine.specs.States.{State, past_of, IsActive, IsClosing}
use Rattle.desk_machine.specs.Machine.{Succeeds, IsUp}
use Rattle.desk_machine.specs.declared.call.DeskCall.{DeskCall}
use Rattle.desk_machine.specs.declared.call.DeskCall.TheVariants as call
use Rattle.desk_machine.specs.declared.call.DeskReply.TheVariants as reply
use Rattle.world_law.specs.Worlds.{World, Event, Deed, client_of, happens}
use Rattle.world_law.specs.Worlds.Event.{Call, Crash}
use Rattle.world_law.specs.Worlds.Deed.{Activated, Closed, Exported, Sent}

-- the call makes the key active
abbrev pub IsActivation : Option DeskCall → PubKey → Type 0
IsActivation (Some (call.Activate key now)) k = key ≡ k
IsActivation c k = ⊥

-- a client may hold a key where it is active or closing there, or where its torn call is an activation of the key
abbrev pub MayHold : World → ℕ → PubKey → Type 0
MayHold w client key = (IsActive (w.desks client) key ⊎ IsClosing (w.desks client) key) ⊎ IsActivation (w.torn client) key

-- an activation of the key is begun: it is answered Active; it is torn; or the client stops within it, and Active was a possible reply
abbrev pub Begins : State → Event → PubKey → Type 0
Begins state (Call client (call.Activate key now) reply.Active) k = key ≡ k
Begins state (Call client (call.Activate key now) reply.Disk) k = (key ≡ k) × IsUp state
Begins state (Crash client (Some (call.Activate key now)) done moment watch) k = (key ≡ k) × Succeeds state (call.Activate key now)
Begins state e k = ⊥

-- the client of the last Close of the key
abbrev pub closed_by : List Deed → PubKey → Option ℕ
closed_by [] k = None
closed_by (Closed client key ∷ ds) k = if is_at (key_cmp k) key then Some client else closed_by ds k
closed_by (Activated client key ∷ ds) k = closed_by ds k
closed_by (Exported client books ∷ ds) k = closed_by ds k
closed_by (Sent client key m ∷ ds) k = closed_by ds k

-- the client handed out the book for the key, with the last Close of the key or after it
abbrev pub IsHandedOut : List Deed → PubKey → ℕ → Book → Type 0
IsHandedOut [] k client book = ⊥
IsHandedOut (Closed other key ∷ ds) k client book = MatchBool (is_at (key_cmp k) key) ⊥ (IsHandedOut ds k client book)
IsHandedOut (Exported other books ∷ ds) k client book = ((other ≡ client) × (kept_of books k ≡ Some book)) ⊎ IsHandedOut ds k client book
IsHandedOut (Activated other key ∷ ds) k client book = IsHandedOut ds k client book
IsHandedOut (Sent other key m ∷ ds) k client book = IsHandedOut ds k client book

-- the past of the key covers the message
abbrev pub HasCovered : State → PubKey → Message → Type 0
HasCovered state key m = IsSomeAnd (past_of state key) (λ past. Covers past m)

-- (a) the key was never active, and the client's past covers what was signed for it before
abbrev pub IsFirst : List (PubKey × Message) → World → ℕ → PubKey → Type 0
IsFirst before w client key = ((other : ℕ) → ¬ (Contains w.deeds (Activated other key))) × ((m : Message) → Contains before (key, m) → HasCovered (w.desks client) key m)

-- (b) the client is the one of the key's last Close
abbrev pub IsOwn : World → ℕ → PubKey → Type 0
IsOwn w client key = closed_by w.deeds key ≡ Some client

-- (c) among the books that the client imported for the key is one that the client of its last Close handed out for it, with that Close or after it
abbrev pub IsImported : World → ℕ → PubKey → Type 0
IsImported w client key = (last : ℕ) × (closed_by w.deeds key ≡ Some last) × (book : Book) × IsHandedOut w.deeds key last book × IsSomeAnd (past_of (w.desks client) key) (λ past. Contains past.books book)

abbrev pub MayActivate : List (PubKey × Message) → World → ℕ → PubKey → Type 0
MayActivate before w client key = ((other : ℕ) → ¬ (MayHold w other key)) × (IsFirst before w client key ⊎ IsOwn w client key ⊎ IsImported w client key)

-- each activation that begins may begin
abbrev pub IsLawfulNow : List (PubKey × Message) → World → Event → Type 0
IsLawfulNow before w e = (key : PubKey) → Begins (w.desks (client_of e)) e key → MayActivate before w (client_of e) key

-- the list is lawful, where before was signed before
abbrev pub IsLawful : List (PubKey × Message) → World → List Event → Type 0
IsLawful before w [] = Unit {0}
IsLawful before w (e ∷ es) = IsLawfulNow before w e × IsLawful before (happens w e) es
