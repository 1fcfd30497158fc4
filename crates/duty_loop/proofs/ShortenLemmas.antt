-- A journal that has grown is compacted.
use Rattle.std.proofs.Common.{◌≡◌, ℕ, if◌then◌else◌, Bool, true, false, List, [], ◌∷◌, Option, Result, Ok, refl, sym, subst}
use Rattle.std.specs.declared.alloc.AllocError.{AllocError}
use Rattle.client_calls.proofs.SeatLemmas.{Leads}
use Rattle.desk_machine.specs.Grants.{IsGrantFor}
use Rattle.desk_machine.specs.Kinds.{IsKind}
use Rattle.desk_machine.specs.declared.call.DeskCall.TheVariants as call
use Rattle.desk_machine.specs.declared.call.DeskReply.{DeskReply}
use Rattle.desk_machine.specs.declared.call.DeskReply.TheVariants as reply
use Rattle.node_fallback.specs.Seen.{Seen}
use Rattle.call_plans.specs.Paths.{Comes}
use Rattle.call_plans.proofs.PathLemmas.{comes_none}
use Rattle.duty_plans.specs.Hands.{Free, hand_given}
use Rattle.duty_plans.specs.Seats.{Seat}
use Rattle.duty_turns.specs.Standing.{Standing}
use Rattle.duty_turns.specs.Times.{is_first_slot}
use Rattle.duty_turns.specs.Turns.{NextPlan, calls, is_worth_compacting, shortens, sized, unless_short}
use Rattle.duty_turns.specs.TurnSteps.{Does, Fits, House, SinkSeen}
use Rattle.duty_work.specs.Houses.{CalledOn, house, short_by}
use Rattle.duty_loop.specs.Shortening.{IsCompaction}
use Rattle.duty_work.proofs.HouseLemmas.{turn_comes}
use Rattle.duty_work.proofs.PruneLemmas.{called_last, called_more}

pub kind_compaction : (r : DeskReply) → IsKind call.Compact r → IsCompaction r
kind_compaction reply.Disk h = tt
kind_compaction reply.LastGeneration h = tt
kind_compaction reply.OutOfMemory h = tt
kind_compaction (reply.Full size wanted) h = tt
kind_compaction (reply.Compacted before after) h = tt
kind_compaction r h = absurd h

-- no grant comes of them
compaction_hand : (r : DeskReply) → IsCompaction r → hand_given Free r ≡ Free
compaction_hand reply.Disk h = refl
compaction_hand reply.LastGeneration h = refl
compaction_hand reply.OutOfMemory h = refl
compaction_hand (reply.Full size wanted) h = refl
compaction_hand (reply.Compacted before after) h = refl
compaction_hand r h = absurd h

size_hand : (r : DeskReply) → IsKind call.Size r → hand_given Free r ≡ Free
size_hand (reply.Size size weight) h = refl
size_hand r h = absurd h

module _ {K : Type 0} (leads : Leads K) (start : Option ℕ) where
  -- ---- the compaction

  pub not_compacted : (next : NextPlan) (size weight : ℕ) (a : House K) → is_worth_compacting size weight ≡ false → CalledOn leads start (sized (reply.Size size weight) next) next a a (Ok tt)
  not_compacted next size weight a not_worth =
      subst (λ (t : Bool). Comes Fits (Does leads start) (if t then calls call.Compact (λ r. unless_short r next) else next) next a a) (sym not_worth) (comes_none Fits (Does leads start) next a)

  pub journal_compacted : (next : NextPlan) (size weight : ℕ) (d e : K) (ls : List (Seat K)) (nodes : List Seen) (out : SinkSeen) (r : DeskReply) (result : Result (Unit {0}) AllocError)
      → is_worth_compacting size weight ≡ true → leads d ((call.Compact, r) ∷ []) e → IsKind call.Compact r → IsGrantFor call.Compact r → result ≡ short_by r
      → CalledOn leads start (sized (reply.Size size weight) next) next (house d ls nodes out) (house e ls nodes out) result
  journal_compacted next size weight d e ls nodes out r result worth led kind for is =
      subst (λ (t : Bool). CalledOn leads start (if t then calls call.Compact (λ x. unless_short x next) else next) next (house d ls nodes out) (house e ls nodes out) result) (sym worth)
      (called_last leads start call.Compact next d e ls nodes out r result refl (compaction_hand r (kind_compaction r kind)) led kind for is)

  -- ---- at an epoch's first slot

  pub other_slot : (s : Standing) (next : NextPlan) (slot : ℕ) (a : House K) → slot ≡ s.slot → is_first_slot slot ≡ false → CalledOn leads start (shortens s next) next a a (Ok tt)
  other_slot s next slot a at h =
      let other : is_first_slot s.slot ≡ false = subst (λ n. is_first_slot n ≡ false) at h in
      subst (λ (t : Bool). Comes Fits (Does leads start) (if t then calls call.Size (λ r. sized r next) else next) next a a) (sym other) (comes_none Fits (Does leads start) next a)

  pub first_slot : (s : Standing) (next : NextPlan) (slot size weight : ℕ) (d e : K) (ls : List (Seat K)) (nodes : List Seen) (out : SinkSeen) (c : House K) (r : DeskReply) (result : Result (Unit {0}) AllocError) → slot ≡ s.slot → is_first_slot slot ≡ true
      → leads d ((call.Size, r) ∷ []) e → IsKind call.Size r → IsGrantFor call.Size r → r ≡ reply.Size size weight → CalledOn leads start (sized (reply.Size size weight) next) next (house e ls nodes out) c result
      → CalledOn leads start (shortens s next) next (house d ls nodes out) c result
  first_slot s next slot size weight d e ls nodes out c r result at h led kind for is rest =
      let first : is_first_slot s.slot ≡ true = subst (λ n. is_first_slot n ≡ true) at h in
      let on = turn_comes leads start d e ls nodes out call.Size r (λ x. sized x next) refl (size_hand r kind) led kind for in
      let then_on = subst (λ (x : DeskReply). CalledOn leads start (sized x next) next (house e ls nodes out) c result) (sym is) rest in
      subst (λ (t : Bool). CalledOn leads start (if t then calls call.Size (λ x. sized x next) else next) next (house d ls nodes out) c result) (sym first)
      (called_more leads start (calls call.Size (λ x. sized x next)) (sized r next) next (house d ls nodes out) (house e ls nodes out) c result on then_on)
