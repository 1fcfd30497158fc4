-- A door that lanes share, as it is seen, and what came of handing connections back to it and taking others of it.
use Rattle.std.specs.Prelude.{◌≡◌, ◌⊎◌, ◌+◌, ◌<◌, ◌≤◌, ℕ, List, [], ◌∷◌, ◌++◌, length, Option, Some, None}
use Rattle.edge_kit.specs.Causes.{Rose}
use Rattle.edge_kit.specs.Doors.{Accepts, Counts}
use Rattle.edge_kit.specs.Links.{Stays}
use Rattle.edge_kit.specs.Tellings.{Tells}
use Rattle.desk_lock.specs.declared.types.Entry.{Entry}
use Rattle.door_lanes.specs.declared.counted.Taken.{Taken}
use Rattle.door_lanes.specs.declared.counted.Taken.TheVariants as taken

-- what a door tells: the connections that still come in, those that it took back, how many it gave and did not take back, and how often it failed
pub record DoorSeen (C : Type 0) : Type 0 where
  pub coming : Option (List C)
  pub finished : Option (List C)
  pub lent : Option ℕ
  pub faults : ℕ

abbrev pub door_seen : {R C : Type 0} → (R → Option (List C)) → (R → Option (List C)) → (R → Option ℕ) → (R → ℕ) → R → DoorSeen C
door_seen coming finished lent faults door = record { coming = coming door; finished = finished door; lent = lent door; faults = faults door }

-- a door, how many connections it gave since it was shared, and how many are wanted
pub record CountedSeen (C : Type 0) : Type 0 where
  pub door : DoorSeen C
  pub given : ℕ
  pub wanted : ℕ

-- a door that gave none yet
abbrev pub counted_anew : {C : Type 0} → DoorSeen C → ℕ → CountedSeen C
counted_anew door wanted = record { door = door; given = 0; wanted = wanted }

-- the connection that is handed back, if there is one
abbrev pub returned : {C : Type 0} → Option C → List C
returned None = []
returned (Some c) = c ∷ []

-- the connections that are handed back, in order
abbrev pub returned_in : {C : Type 0} → List (Option C) → List C
returned_in [] = []
returned_in (b ∷ bs) = returned b ++ returned_in bs

-- the connection of an answer, if it has one
abbrev pub connection_in : {C : Type 0} → Taken C → List C
connection_in (taken.Connection c) = c ∷ []
connection_in taken.Full = []
connection_in taken.NoMore = []
connection_in taken.Failed = []

-- the connections of these answers, in order
abbrev pub connections_in : {C : Type 0} → List (Taken C) → List C
connections_in [] = []
connections_in (r ∷ rs) = connection_in r ++ connections_in rs

-- one call at a door, by what it hands back, and its answer
abbrev pub Asked : Type 0 → Type 0
Asked C = Option C × Taken C

-- what these calls hand back, and their answers
abbrev pub calls : {C : Type 0} → List (Asked C) → List (Option C)
calls [] = []
calls (x ∷ xs) = x.0 ∷ calls xs

abbrev pub answers : {C : Type 0} → List (Asked C) → List (Taken C)
answers [] = []
answers (x ∷ xs) = x.1 ∷ answers xs

-- one turn at a door that is shared: the number of the lane that asked, what it handed back, and the answer
abbrev pub Turn : Type 0 → Type 0
Turn C = Entry (Option C) (Taken C)

-- what these turns handed back, and their answers, whoever asked
abbrev pub asks : {C : Type 0} → List (Turn C) → List (Option C)
asks [] = []
asks (e ∷ es) = e.call ∷ asks es

abbrev pub replies : {C : Type 0} → List (Turn C) → List (Taken C)
replies [] = []
replies (e ∷ es) = e.reply ∷ replies es

-- at least that many are lent, where the count is known
abbrev pub AreLent : Option ℕ → ℕ → Type 0
AreLent None n = Unit {0}
AreLent (Some m) n = n ≤ m

-- a known count rose by the first number, and fell by the second
abbrev pub Moves : Option ℕ → Option ℕ → ℕ → ℕ → Type 0
Moves None new more less = new ≡ None
Moves (Some n) None more less = ⊥
Moves (Some n) (Some m) more less = m + less ≡ n + more

-- whoever hands one back was given more than it handed back before
abbrev pub MayAsk : {C : Type 0} → List (Asked C) → Option C → Type 0
MayAsk made back = length (returned_in (calls made)) + length (returned back) ≤ length (connections_in (answers made))

-- what is handed back is lent
abbrev pub CanAsk : {C : Type 0} → CountedSeen C → Option C → Type 0
CanAsk d back = AreLent d.door.lent (length (returned back))

-- the door took these connections back, in this order, and did nothing else
pub record TookBack {C : Type 0} (h : DoorSeen C) (cs : List C) (k : DoorSeen C) : Type 0 where
  pub finished : Tells h.finished k.finished cs
  pub lent : Counts k.lent h.lent (length cs)
  pub coming : Stays h.coming k.coming
  pub faults : k.faults ≡ h.faults

-- Why this was the answer: fewer were given than are wanted, and the door gave its next one, had none, or failed; or as many were given, and
-- nothing changes.
abbrev pub TakenBy : {C : Type 0} → CountedSeen C → Taken C → CountedSeen C → Type 0
TakenBy h (taken.Connection c) k = (h.given < h.wanted) × Accepts h.door.coming k.door.coming (Some c)
TakenBy h taken.Full k = (h.wanted ≤ h.given) × (k ≡ h)
TakenBy h taken.NoMore k = (h.given < h.wanted) × Accepts h.door.coming k.door.coming None
TakenBy h taken.Failed k = (h.given < h.wanted) × Stays h.door.coming k.door.coming × Rose h.door.faults k.door.faults

-- the next one was asked for, and this was the answer
pub record NextStep {C : Type 0} (h : CountedSeen C) (r : Taken C) (k : CountedSeen C) : Type 0 where
  pub wanted : k.wanted ≡ h.wanted
  pub finished : Stays h.door.finished k.door.finished
  pub lent : Counts h.door.lent k.door.lent (length (connection_in r))
  pub faults : h.door.faults ≤ k.door.faults
  pub given : k.given ≡ h.given + length (connection_in r)
  pub by : TakenBy h r k

-- what was handed back was taken back first; then the next one was asked for, and this was the answer
pub record TakeStep {C : Type 0} (h : CountedSeen C) (back : Option C) (r : Taken C) (k : CountedSeen C) : Type 0 where
  pub between : DoorSeen C
  pub took : TookBack h.door (returned back) between
  pub next : NextStep (record { door = between; given = h.given; wanted = h.wanted }) r k

-- it stands at some place of the list
abbrev pub Among : {X : Type 0} → X → List X → Type 0
Among x [] = ⊥
Among x (y ∷ ys) = (y ≡ x) ⊎ Among x ys

-- it stands at no place of the list but the last
abbrev pub OnlyLast : {X : Type 0} → X → List X → Type 0
OnlyLast x [] = Unit {0}
OnlyLast x (y ∷ ys) = (y ≡ x → ys ≡ []) × OnlyLast x ys

-- Each of these calls handed back just as many as the answer before it gave: one, or none. The numbers are those of connections not handed back before the first call and after the last.
abbrev pub HandsOn : {C : Type 0} → ℕ → List (Asked C) → ℕ → Type 0
HandsOn n [] m = m ≡ n
HandsOn n (x ∷ xs) m = (length (returned x.0) ≡ n) × HandsOn (length (connection_in x.1)) xs m

-- of a known list these were the first, in order, and the others are left
abbrev pub Gives : {C : Type 0} → Option (List C) → List C → Option (List C) → Type 0
Gives None cs new = Unit {0}
Gives (Some xs) cs None = ⊥
Gives (Some xs) cs (Some ys) = xs ≡ cs ++ ys

-- of a known list none is left
abbrev pub Empties : {C : Type 0} → Option (List C) → Option (List C) → Type 0
Empties None new = Unit {0}
Empties (Some xs) None = ⊥
Empties (Some xs) (Some ys) = ys ≡ []

-- The door was handed these connections back and asked for others, call after call, whoever called, and these were the answers. Those that it gave
-- are, in that order, the first of those that came, and are counted. Those that were handed back are finished, in that order. The others are lent.
pub record Gave {C : Type 0} (h : CountedSeen C) (bs : List (Option C)) (rs : List (Taken C)) (k : CountedSeen C) : Type 0 where
  pub wanted : k.wanted ≡ h.wanted
  pub finished : Tells h.door.finished k.door.finished (returned_in bs)
  pub lent : Moves h.door.lent k.door.lent (length (connections_in rs)) (length (returned_in bs))
  pub faults : h.door.faults ≤ k.door.faults
  pub given : k.given ≡ h.given + length (connections_in rs)
  pub coming : Gives h.door.coming (connections_in rs) k.door.coming
  -- no more are given than are wanted; Full only once as many are; NoMore only where none is left; Failed only where the faults rose
  pub within : h.given ≤ h.wanted → k.given ≤ k.wanted
  pub full : Among taken.Full rs → k.wanted ≤ k.given
  pub none : Among taken.NoMore rs → Empties h.door.coming k.door.coming
  pub failed : Among taken.Failed rs → Rose h.door.faults k.door.faults
