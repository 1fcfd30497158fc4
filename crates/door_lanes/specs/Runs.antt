-- What lanes did with the connections of a door.
use Rattle.std.specs.Prelude.{◌≡◌, ◌⊎◌, ◌+◌, ◌≤◌, ℕ, suc, Bool, List, [], ◌∷◌, ◌++◌, length, slice_get, Option, Some, Result, Ok, Err}
use Rattle.std.specs.List.Sorted.{IsPermutation}
use Rattle.edge_kit.specs.Causes.{Rose}
use Rattle.edge_kit.specs.Links.{Stays}
use Rattle.edge_kit.specs.Tellings.{Tells}
use Rattle.call_plans.specs.Paths.{Path}
use Rattle.desk_lock.specs.Histories.{own}
use Rattle.desk_lock.specs.Passes.{Closes, IsNew, made, number}
use Rattle.door_lanes.specs.declared.counted.Taken.{Taken}
use Rattle.door_lanes.specs.declared.counted.Taken.TheVariants as taken
use Rattle.door_lanes.specs.declared.lanes.LoopEnd.{LoopEnd}
use Rattle.door_lanes.specs.declared.lanes.LoopEnd.TheVariants as loop
use Rattle.door_lanes.specs.Doors.{Among, Asked, CountedSeen, DoorSeen, Empties, Gave, HandsOn, MayAsk, OnlyLast, TakeStep, Turn, answers, asks, calls, connections_in, counted_anew, replies, returned, returned_in}
use Rattle.door_lanes.specs.Lanes.{EndsAlone, FailedAtLast, NoneFailed, OnlyLastFailed, Visit, Visits, accepted_in, finished_in}
use Rattle.door_lanes.specs.Seats.{DoorPass, IsDoorPass, IsUsedPass, SharedDoor}

-- the connections of all lanes, lane by lane: as they were accepted, and as they are to be finished
abbrev pub all_accepted : {C : Type 0} → List (List (Visit C)) → List C
all_accepted [] = []
all_accepted (vs ∷ vss) = accepted_in vs ++ all_accepted vss

abbrev pub all_finished : {C : Type 0} → List (List (Visit C)) → List C
all_finished [] = []
all_finished (vs ∷ vss) = finished_in vs ++ all_finished vss

-- passes that are new, numbered on from n
abbrev pub AreNew : {C : Type 0} → SharedDoor C → ℕ → List (DoorPass C) → Type 0
AreNew {C} s n ps = (k : ℕ) (p : DoorPass C) → slice_get ps k ≡ Some p → IsDoorPass s p × IsNew (n + k) p

-- what each lane's servant served, lane by lane, from what it was before to what it is left as
abbrev pub LanesServed : {V C : Type 0} → (V → C → C → Bool → V → Type 0) → List V → List (List (Visit C)) → List V → Type 0
LanesServed serves [] [] [] = Unit {0}
LanesServed serves [] [] (w ∷ ws) = ⊥
LanesServed serves [] (x ∷ xs) ws = ⊥
LanesServed serves (v ∷ vs) [] ws = ⊥
LanesServed serves (v ∷ vs) (x ∷ xs) [] = ⊥
LanesServed serves (v ∷ vs) (x ∷ xs) (w ∷ ws) = Path (Visits serves) v x w × LanesServed serves vs xs ws

-- the passes of lanes, numbered on from n: the calls of each with their answers, and what its lane kept in the end
abbrev pub PassesAre : {C : Type 0} → SharedDoor C → ℕ → List (List (Asked C)) → List (Option C) → List (DoorPass C) → Type 0
PassesAre s n [] [] [] = Unit {0}
PassesAre s n [] [] (p ∷ ps) = ⊥
PassesAre s n [] (o ∷ os) ps = ⊥
PassesAre s n (x ∷ xs) [] ps = ⊥
PassesAre s n (x ∷ xs) (o ∷ os) [] = ⊥
PassesAre s n (x ∷ xs) (o ∷ os) (p ∷ ps) = (IsUsedPass s p (length (returned o)) × (number p ≡ n) × (made p ≡ x)) × PassesAre s (suc n) xs os ps

-- Each lane served what it was given, in order. What it handed back and then what it kept in the end, if it kept one, is what it served, in order.
abbrev pub AreServed : {C : Type 0} → List (List (Asked C)) → List (Option C) → List (List (Visit C)) → Type 0
AreServed [] [] [] = Unit {0}
AreServed [] [] (v ∷ vs) = ⊥
AreServed [] (o ∷ os) vs = ⊥
AreServed (x ∷ xs) [] vs = ⊥
AreServed (x ∷ xs) (o ∷ os) [] = ⊥
AreServed (x ∷ xs) (o ∷ os) (v ∷ vs) = ((connections_in (answers x) ≡ accepted_in v) × (returned_in (calls x) ++ returned o ≡ finished_in v)) × AreServed xs os vs

-- some lane was answered so
abbrev pub AnyAmong : {C : Type 0} → Taken C → List (List (Asked C)) → Type 0
AnyAmong r [] = ⊥
AnyAmong r (x ∷ xs) = Among r (answers x) ⊎ AnyAmong r xs

-- of no lane the disk failed, by what was said after each connection
abbrev pub NoLaneFailed : {C : Type 0} → List (List (Visit C)) → Type 0
NoLaneFailed [] = Unit {0}
NoLaneFailed (x ∷ xs) = NoneFailed x × NoLaneFailed xs

-- of some lane it failed, as was said after its last connection
abbrev pub SomeLaneFailed : {C : Type 0} → List (List (Visit C)) → Type 0
SomeLaneFailed [] = ⊥
SomeLaneFailed (x ∷ xs) = FailedAtLast x ⊎ SomeLaneFailed xs

-- why lanes in their seats ended
abbrev pub SeatedEnds : {C : Type 0} → Result (Unit {0}) LoopEnd → List (List (Asked C)) → List (List (Visit C)) → Type 0
SeatedEnds (Ok u) xs vs = NoLaneFailed vs × (AnyAmong taken.Failed xs → ⊥) × (AnyAmong taken.Full xs ⊎ AnyAmong taken.NoMore xs)
SeatedEnds (Err loop.Door) xs vs = NoLaneFailed vs × AnyAmong taken.Failed xs
SeatedEnds (Err loop.Disk) xs vs = SomeLaneFailed vs
SeatedEnds (Err loop.Memory) xs vs = ⊥

-- what lanes in their seats did
pub record RanSeated {V C : Type 0} (serves : V → C → C → Bool → V → Type 0) (s : SharedDoor C) (servants : List V) (ps : List (DoorPass C)) (kept : List (Option C)) (left : List V) (result : Result (Unit {0}) LoopEnd) : Type 0 where
  pub visits : List (List (Visit C))
  pub asked : List (List (Asked C))
  pub served : LanesServed serves servants visits left
  pub passes_are : PassesAre s 0 asked kept ps
  pub are : AreServed asked kept visits
  pub door_stops : (k : ℕ) (xs : List (Asked C)) → slice_get asked k ≡ Some xs → OnlyLast taken.Failed (answers xs)
  pub disk_stops : (k : ℕ) (x : List (Visit C)) → slice_get visits k ≡ Some x → OnlyLastFailed x
  pub each_ends : (k : ℕ) (xs : List (Asked C)) (x : List (Visit C)) → slice_get asked k ≡ Some xs → slice_get visits k ≡ Some x → EndsAlone (answers xs) x
  pub ends : SeatedEnds result asked visits

-- a door that was lent to these passes, as it came back
pub record TakenBack {C : Type 0} (opened : CountedSeen C) (ps : List (DoorPass C)) (now : DoorSeen C) : Type 0 where
  pub value : CountedSeen C
  pub closes : Closes TakeStep MayAsk opened ps value
  pub door : now ≡ value.door

-- Why the lanes ended. Ok: nothing failed, and as many were given as are wanted, or the door had no more. Door: the door failed, and no disk.
-- Disk: a disk failed. Memory is no reason: lanes take none.
abbrev pub RanEnds : {C : Type 0} → Result (Unit {0}) LoopEnd → List (Turn C) → DoorSeen C → CountedSeen C → List (List (Visit C)) → Type 0
RanEnds (Ok u) log before mid visits = NoLaneFailed visits × (Among taken.Failed (replies log) → ⊥) × ((mid.given ≡ mid.wanted) ⊎ (Among taken.NoMore (replies log) × Empties before.coming mid.door.coming))
RanEnds (Err loop.Door) log before mid visits = NoLaneFailed visits × Among taken.Failed (replies log) × Rose before.faults mid.door.faults
RanEnds (Err loop.Disk) log before mid visits = SomeLaneFailed visits
RanEnds (Err loop.Memory) log before mid visits = ⊥

-- Lanes took connections of a door, served them, and handed them back.
pub record Ran {V C : Type 0} (serves : V → C → C → Bool → V → Type 0) (wanted : ℕ) (before now : DoorSeen C) (servants left : List V) (result : Result (Unit {0}) LoopEnd) : Type 0 where
  -- the turns of all lanes in the one order in which the door was asked, and the door after them
  pub log : List (Turn C)
  pub mid : CountedSeen C
  pub gave : Gave (counted_anew before wanted) (asks log) (replies log) mid
  -- what each lane served, and what it kept in the end, lane by lane
  pub visits : List (List (Visit C))
  pub served : LanesServed serves servants visits left
  pub kept : List (Option C)
  pub as_many_kept : length kept ≡ length visits
  -- a lane served just what its own turns were given, in that order; nobody else had a turn
  pub own_are : (k : ℕ) (x : List (Visit C)) → slice_get visits k ≡ Some x → connections_in (answers (own k log)) ≡ accepted_in x
  pub no_others : (k : ℕ) → length visits ≤ k → own k log ≡ []
  -- it handed back each with its next turn, and kept at most the last one, if it had no turn after it
  pub own_back : (k : ℕ) (x : List (Visit C)) (o : Option C) → slice_get visits k ≡ Some x → slice_get kept k ≡ Some o → returned_in (calls (own k log)) ++ returned o ≡ finished_in x
  pub at_once : (k : ℕ) (o : Option C) → slice_get kept k ≡ Some o → HandsOn 0 (own k log) (length (returned o))
  -- a lane asked no more once the door had failed it, and served no more once its disk had failed
  pub door_stops : (k : ℕ) → OnlyLast taken.Failed (answers (own k log))
  pub disk_stops : (k : ℕ) (x : List (Visit C)) → slice_get visits k ≡ Some x → OnlyLastFailed x
  -- a lane ended by its own cause alone: one that failed stopped no other
  pub each_ends : (k : ℕ) (x : List (Visit C)) → slice_get visits k ≡ Some x → EndsAlone (answers (own k log)) x
  -- so each connection that the door gave was served once, and no other was; and each was handed back once, by a turn or in the end
  pub once : IsPermutation (connections_in (replies log)) (all_accepted visits)
  pub once_back : IsPermutation (returned_in (asks log) ++ returned_in kept) (all_finished visits)
  pub as_many : length (all_finished visits) ≡ length (connections_in (replies log))
  -- the door finished them in the order of the turns, and in the end those that were kept, lane by lane; nothing else of it changed
  pub finished : Tells before.finished now.finished (returned_in (asks log) ++ returned_in kept)
  pub coming : Stays mid.door.coming now.coming
  pub lent : now.lent ≡ before.lent
  pub faults : now.faults ≡ mid.door.faults
  pub ends : RanEnds result log before mid visits

-- lanes served the connections of a door; or memory was wanted before anything was done
abbrev pub Served : {V C : Type 0} → (V → C → C → Bool → V → Type 0) → ℕ → DoorSeen C → DoorSeen C → List V → List V → Result (Unit {0}) LoopEnd → Type 0
Served serves wanted before now servants left result = ((result ≡ Err loop.Memory) × (now ≡ before) × (left ≡ servants)) ⊎ Ran serves wanted before now servants left result
