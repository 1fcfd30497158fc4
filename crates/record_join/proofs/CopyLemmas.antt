-- A record that is joined to an empty one is copied.
use Rattle.std.proofs.Common.{◌≡◌, ℕ, ◌⊎◌, inl, inr, max, List, [], None, Some, Option, refl, sym, ◌∙◌, ap, subst, arith, Contains}
use Rattle.std.specs.declared.cmp.Ordering.{Ordering}
use Rattle.protect_record.specs.Parts.{Parts, no_floors}
use Rattle.protect_record.specs.Floors.{greater, greater_floors, greater_pair}
use Rattle.protect_record.specs.Gathering.{HasGathered, IsJoin, IsWellKept, SameEntries}
use Rattle.protect_record.specs.declared.floors.Floors.{Floors}
use Rattle.record_join.specs.KeyByKey.{IsEmpty}

max_same : (x : ℕ) → max x x ≡ x
max_same x = omega arith

greater_same : (o : Option ℕ) → greater o o ≡ o
greater_same None = refl
greater_same (Some x) = ap (λ n. Some n) (max_same x)

greater_pair_same : (o : Option (ℕ × ℕ)) → greater_pair o o ≡ o
greater_pair_same None = refl
greater_pair_same (Some p) = rw (max_same p.0, max_same p.1) refl

floors_same : (f : Floors) → greater_floors f f ≡ f
floors_same f = rw (greater_same f.block, greater_pair_same f.vote) refl

from_none : (f : Floors) → greater_floors no_floors f ≡ f
from_none f = refl

gathered_again : {X : Type 0} (cmp : X → X → Ordering) (Dead : X → Type 0) (old more new : List X) → old ≡ [] → HasGathered cmp Dead old more new → HasGathered cmp Dead more more new
gathered_again {X} cmp Dead old more new none g = record {
  elements = λ e. (λ has. let h = (g.elements e).0 has in (inl (second e h.0), h.1), λ h. (g.elements e).1 (inr (either e h.0), h.1));
  in_order = g.in_order;
} where
  empty : (e : X) → Contains [] e → ⊥
  empty e h = omega (arith, h.1)

  second : (e : X) → Contains old e ⊎ Contains more e → Contains more e
  second e (inl h) = absurd (empty e (subst (λ (l : List X). Contains l e) none h))
  second e (inr h) = h

  either : (e : X) → Contains more e ⊎ Contains more e → Contains more e
  either e (inl h) = h
  either e (inr h) = h

pub copied_of : (old other new : Parts) → ((r t : Parts) → IsWellKept r.floors r.blocks r.votes → IsJoin r r t → SameEntries r t) → IsWellKept other.floors other.blocks other.votes → IsJoin old other new → IsEmpty old → SameEntries other new
copied_of old other new idempotent well_kept joined empty = idempotent other new well_kept (record {
  floors = joined.floors ∙ ap (λ (f : Floors). greater_floors f other.floors) empty.floors ∙ from_none other.floors ∙ sym (floors_same other.floors);
  blocks = gathered_again _ _ _ _ _ empty.blocks joined.blocks;
  votes = gathered_again _ _ _ _ _ empty.votes joined.votes;
})
