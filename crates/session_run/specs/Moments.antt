-- What a crash in the middle of a session leaves: to each moment belongs a number of calls that were over by then.
use Rattle.std.specs.Prelude.{◌⊎◌, ℕ, ◌≤◌, List, [], ◌∷◌, Option, None, Some, IfSome}
use Rattle.edge_kit.specs.declared.bytes.PubKey.{PubKey}
use Rattle.edge_kit.specs.declared.bytes.Root.{Root}
use Rattle.edge_kit.specs.declared.disk.Disks.{Disks}
use Rattle.slash_defs.specs.declared.message.Message.{Message}
use Rattle.check_sign.specs.Contents.{Seen, disks_in}
use Rattle.check_sign.specs.Crashes.{Between, Files, Moments, NotAfter, now_of}
use Rattle.desk_machine.specs.States.{State, Lasting}
use Rattle.check_sign.specs.Standing.{DeskStands, MayOpen, Opens}
use Rattle.check_sign.specs.Calls.{LeavesDesk}
use Rattle.check_sign.specs.Paths.{Path, moments_behind}
use Rattle.desk_machine.specs.Machine.{after}
use Rattle.desk_machine.specs.declared.call.DeskCall.{DeskCall}
use Rattle.desk_machine.specs.declared.call.DeskCall.TheVariants as call
use Rattle.desk_machine.specs.declared.call.DeskReply.{DeskReply}
use Rattle.desk_machine.specs.declared.call.DeskReply.TheVariants as reply
use Rattle.session_run.specs.Durable.{CoversKey}

-- The images that the last disks may have at each moment from this on: up to the moments after the first call they open to what
-- lasts before it or after it, from there to the moments after the second to what lasts before that or after it, and so on; after
-- the last call to what lasts in the end.
abbrev pub FollowCalls : {D : Type 0} → (D → ℕ) → (D → ℕ → List ℕ → Type 0) → Root → Disks D → State → List (DeskCall × DeskReply) → List Moments → Moments → Type 0
FollowCalls moment leaves genesis last state [] [] from = NotAfter from (now_of moment last) × Between leaves last from (now_of moment last) (MayOpen genesis state)
FollowCalls moment leaves genesis last state [] (m ∷ ms) from = ⊥
FollowCalls moment leaves genesis last state (x ∷ made) [] from = ⊥
FollowCalls moment leaves genesis last state (x ∷ made) (m ∷ ms) from =
    NotAfter from m
    × Between leaves last from m (λ files. MayOpen genesis state files ⊎ MayOpen genesis (after state x.0 x.1) files)
    × FollowCalls moment leaves genesis last (after state x.0 x.1) made ms m

-- the message that a call was granted, with its key
abbrev pub granted_by : DeskCall → DeskReply → Option (PubKey × Message)
granted_by (call.Propose key m now) (reply.Granted grant) = Some (key, m)
granted_by c r = None

-- files open to a past of the key that lets nothing pass which is slashable with the message
abbrev pub OpensCovered : Root → PubKey × Message → Files → Type 0
OpensCovered genesis sent files = (l : Lasting) × Opens genesis files l × CoversKey l.keys sent.0 sent.1

-- so does each image from these moments on: in each of the calls that follow, whose ends these are, and after the last
abbrev pub CoveredFrom : {D : Type 0} → (D → ℕ) → (D → ℕ → List ℕ → Type 0) → Root → Disks D → List Moments → Moments → PubKey × Message → Type 0
CoveredFrom moment leaves genesis last [] from sent = Between leaves last from (now_of moment last) (OpensCovered genesis sent)
CoveredFrom moment leaves genesis last (m ∷ ms) from sent = Between leaves last from m (OpensCovered genesis sent) × CoveredFrom moment leaves genesis last ms m sent

-- a message that a call was granted is covered from the moments after that call on
abbrev pub GrantsLast : {D : Type 0} → (D → ℕ) → (D → ℕ → List ℕ → Type 0) → Root → Disks D → List (DeskCall × DeskReply) → List Moments → Type 0
GrantsLast moment leaves genesis last [] ms = Unit {0}
GrantsLast moment leaves genesis last (x ∷ made) [] = ⊥
GrantsLast moment leaves genesis last (x ∷ made) (m ∷ ms) = IfSome (granted_by x.0 x.1) (CoveredFrom moment leaves genesis last ms m) × GrantsLast moment leaves genesis last made ms

-- for a state that the desk stood for at first; what a crash before might have left stays
pub record Follows {D : Type 0} (moment : D → ℕ) (leaves : D → ℕ → List ℕ → Type 0) (genesis : Root) (first last : Disks D) (state : State) (made : List (DeskCall × DeskReply)) (moments : List Moments) : Type 0 where
  pub first_stays : (k : ℕ) (a : List ℕ) → k ≤ moment first.first → leaves last.first k a → leaves first.first k a
  pub second_stays : (k : ℕ) (b : List ℕ) → k ≤ moment first.second → leaves last.second k b → leaves first.second k b
  pub follow : FollowCalls moment leaves genesis last state made moments (now_of moment first)
  pub granted : GrantsLast moment leaves genesis last made moments

-- The calls led from the first desk to the last, and by the moments of both disks after each of them the images follow the calls.
-- From now on each opens to what the desk stands for.
pub record Images {D : Type 0} (moment : D → ℕ) (leaves : D → ℕ → List ℕ → Type 0) (faults : D → ℕ) (first last : Seen D) (made : List (DeskCall × DeskReply)) : Type 0 where
  pub calls : Path moment leaves faults first made last
  pub follows : (state : State) → DeskStands first.contents state → Follows moment leaves first.contents.genesis (disks_in first) (disks_in last) state made (moments_behind moment leaves faults first made last calls)
  pub left : LeavesDesk moment leaves (disks_in last) last.contents
