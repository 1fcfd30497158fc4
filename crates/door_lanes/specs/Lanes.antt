-- Lanes that serve the connections of a door.
use Rattle.std.specs.Prelude.{◌≡◌, ◌⊎◌, ℕ, Bool, true, false, cond, List, [], ◌∷◌, ◌++◌, length, Option, Some, None, Result, Ok, Err}
use Rattle.std.specs.List.{list_any}
use Rattle.call_plans.specs.Paths.{Path}
use Rattle.door_lanes.specs.declared.counted.Taken.{Taken}
use Rattle.door_lanes.specs.declared.counted.Taken.TheVariants as taken
use Rattle.door_lanes.specs.declared.lane.Lane.{Lane}
use Rattle.door_lanes.specs.declared.lane.LaneEnd.{LaneEnd}
use Rattle.door_lanes.specs.declared.lane.LaneEnd.TheVariants as end
use Rattle.door_lanes.specs.declared.lanes.LoopEnd.{LoopEnd}
use Rattle.door_lanes.specs.declared.lanes.LoopEnd.TheVariants as loop
use Rattle.door_lanes.specs.Doors.{Among, Asked, OnlyLast, answers, calls, connections_in, returned, returned_in}

-- a connection that was served: as it was accepted and as it is to be finished, and whether the disk of the desk was then said to have failed
pub record Visit (C : Type 0) : Type 0 where
  pub accepted : C
  pub finished : C
  pub failed : Bool

-- a servant served it
abbrev pub Visits : {V C : Type 0} → (V → C → C → Bool → V → Type 0) → V → Visit C → V → Type 0
Visits serves a v b = serves a v.accepted v.finished v.failed b

-- the connections as they were accepted, and as they are to be finished, in order
abbrev pub accepted_in : {C : Type 0} → List (Visit C) → List C
accepted_in [] = []
accepted_in (v ∷ vs) = v.accepted ∷ accepted_in vs

abbrev pub finished_in : {C : Type 0} → List (Visit C) → List C
finished_in [] = []
finished_in (v ∷ vs) = v.finished ∷ finished_in vs

-- no disk failed, by what was said after each connection
abbrev pub NoneFailed : {C : Type 0} → List (Visit C) → Type 0
NoneFailed [] = Unit {0}
NoneFailed (v ∷ vs) = (v.failed ≡ false) × NoneFailed vs

-- the disk failed, as was said after the last connection, and after none before it
abbrev pub FailedAtLast : {C : Type 0} → List (Visit C) → Type 0
FailedAtLast [] = ⊥
FailedAtLast (v ∷ vs) = ((vs ≡ []) × (v.failed ≡ true)) ⊎ ((v.failed ≡ false) × FailedAtLast vs)

-- no disk failed but after the last connection
abbrev pub OnlyLastFailed : {C : Type 0} → List (Visit C) → Type 0
OnlyLastFailed [] = Unit {0}
OnlyLastFailed (v ∷ vs) = (v.failed ≡ true → vs ≡ []) × OnlyLastFailed vs

-- Why a lane ended, by the answers of the door and the connections that it served: the door answered so, and where it failed this was the last
-- answer; or the disk failed.
abbrev pub EndsBy : {C : Type 0} → LaneEnd → List (Taken C) → List (Visit C) → Type 0
EndsBy end.Full rs vs = Among taken.Full rs × (Among taken.Failed rs → ⊥) × NoneFailed vs
EndsBy end.NoMore rs vs = Among taken.NoMore rs × (Among taken.Failed rs → ⊥) × NoneFailed vs
EndsBy end.Door rs vs = Among taken.Failed rs × OnlyLast taken.Failed rs × NoneFailed vs
EndsBy end.Disk rs vs = (Among taken.Failed rs → ⊥) × FailedAtLast vs

-- It ended by its own cause alone, whatever became of others: the door told it that enough were given or that no other comes, or failed it; or the
-- disk failed under it.
abbrev pub EndsAlone : {C : Type 0} → List (Taken C) → List (Visit C) → Type 0
EndsAlone rs vs = (Among taken.Full rs ⊎ Among taken.NoMore rs) ⊎ (Among taken.Failed rs ⊎ FailedAtLast vs)

-- after these answers and connections it ended so, or goes on
abbrev pub StepEnds : {C : Type 0} → Option LaneEnd → List (Taken C) → List (Visit C) → Type 0
StepEnds None rs vs = (Among taken.Failed rs → ⊥) × NoneFailed vs
StepEnds (Some e) rs vs = EndsBy e rs vs

-- it can take and serve connections, and hands back with its next turn the one that it keeps, if it has one
abbrev pub IsReady : {T V C : Type 0} → (T → ℕ → Type 0) → (V → Type 0) → Lane T V C → Type 0
IsReady takes serves lane = takes lane.taker (length (returned lane.kept)) × serves lane.servant

-- it took a connection, can serve it and keeps no other
abbrev pub HasTaken : {T V C : Type 0} → (T → ℕ → Type 0) → (V → Type 0) → Lane T V C → Type 0
HasTaken takes serves lane = takes lane.taker 1 × serves lane.servant × (lane.kept ≡ None)

module _ {T V C : Type 0} (leads : T → List (Asked C) → T → Type 0) (serves : V → C → C → Bool → V → Type 0) where
  -- These were a lane's calls at the door with their answers. The connections that it was given it served, in their order. Those that it handed back
  -- and the one that it keeps, if it keeps one, are the one that it kept before and those that it served, in that order.
  pub record Did (a : Lane T V C) (vs : List (Visit C)) (xs : List (Asked C)) (b : Lane T V C) : Type 0 where
    pub took : leads a.taker xs b.taker
    pub path : Path (Visits serves) a.servant vs b.servant
    pub are : connections_in (answers xs) ≡ accepted_in vs
    pub back : returned_in (calls xs) ++ returned b.kept ≡ returned a.kept ++ finished_in vs

  -- it took and served one connection, or none; Some: why it takes no other
  pub record Steps (a b : Lane T V C) (e : Option LaneEnd) : Type 0 where
    pub visits : List (Visit C)
    pub asked : List (Asked C)
    pub did : Did a visits asked b
    pub ends : StepEnds e (answers asked) visits

  -- it took and served connections, and goes on
  pub record Goes (a b : Lane T V C) : Type 0 where
    pub visits : List (Visit C)
    pub asked : List (Asked C)
    pub did : Did a visits asked b
    pub works : Among taken.Failed (answers asked) → ⊥
    pub up : NoneFailed visits

  -- it took and served connections up to its end
  pub record Went (a b : Lane T V C) : Type 0 where
    pub visits : List (Visit C)
    pub asked : List (Asked C)
    pub did : Did a visits asked b
    pub ends : EndsBy b.end (answers asked) visits

  -- each lane did
  abbrev pub AllWent : List (Lane T V C) → List (Lane T V C) → Type 0
  AllWent [] [] = Unit {0}
  AllWent [] (b ∷ bs) = ⊥
  AllWent (a ∷ olds) [] = ⊥
  AllWent (a ∷ olds) (b ∷ bs) = Went a b × AllWent olds bs

-- a connection that was taken was served and is kept; the lane ends after it exactly where the disk failed
pub record ServesOne {T V C : Type 0} (serves : V → C → C → Bool → V → Type 0) (a : Lane T V C) (connection : C) (b : Lane T V C) (e : Option LaneEnd) : Type 0 where
  pub finished : C
  pub failed : Bool
  pub served : serves a.servant connection finished failed b.servant
  pub taker : b.taker ≡ a.taker
  pub kept : b.kept ≡ Some finished
  pub ends : e ≡ cond failed (Some end.Disk) None

-- the disk of its desk failed
abbrev pub is_disk : LaneEnd → Bool
is_disk end.Full = false
is_disk end.NoMore = false
is_disk end.Door = false
is_disk end.Disk = true

-- the door failed
abbrev pub is_door : LaneEnd → Bool
is_door end.Full = false
is_door end.NoMore = false
is_door end.Door = true
is_door end.Disk = false

-- how the lanes ended: a failed disk comes before a failed door, and memory was never wanted
abbrev pub LanesEnd : {T V C : Type 0} → Result (Unit {0}) LoopEnd → List (Lane T V C) → Type 0
LanesEnd (Ok u) lanes = (list_any (λ lane. is_disk lane.end) lanes ≡ false) × (list_any (λ lane. is_door lane.end) lanes ≡ false)
LanesEnd (Err loop.Disk) lanes = list_any (λ lane. is_disk lane.end) lanes ≡ true
LanesEnd (Err loop.Door) lanes = (list_any (λ lane. is_disk lane.end) lanes ≡ false) × (list_any (λ lane. is_door lane.end) lanes ≡ true)
LanesEnd (Err loop.Memory) lanes = ⊥
