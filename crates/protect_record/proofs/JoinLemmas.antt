-- Joining is commutative, associative and idempotent.
use Rattle.std.proofs.Common.{◌≡◌, ◌⊎◌, inl, inr, List, sym, ◌∙◌, ap, subst, Contains}
use Rattle.std.specs.declared.cmp.Ordering.{Ordering}
use Rattle.std.specs.Cmp.{IsTotalOrder}
use Rattle.std.proofs.lemmas.List.Elements.{All-contains}
use Rattle.slash_defs.specs.FileOrder.{block_cmp, vote_cmp, blocks_total, votes_total}
use Rattle.protect_record.specs.declared.floors.Floors.{Floors}
use Rattle.protect_record.specs.Order.{IsInOrder}
use Rattle.protect_record.specs.Parts.{Parts}
use Rattle.protect_record.specs.Floors.{IsDeadBlock, IsDeadVote, greater_floors}
use Rattle.protect_record.specs.Gathering.{HasGathered, IsJoin, IsWellKept, SameEntries}
use Rattle.protect_record.proofs.BoundLemmas.{greater_floors-comm, greater_floors-assoc, greater_floors-same}
use Rattle.protect_record.proofs.LiveLemmas.{blocks_die_left, blocks_die_right, votes_die_left, votes_die_right}
use Rattle.protect_record.proofs.UniteLemmas.{same_in_order}

swapped : {A B C : Type 0} → (A ⊎ B) × C → (B ⊎ A) × C
swapped (inl a, c) = (inr a, c)
swapped (inr b, c) = (inl b, c)

lists_commute : {X : Type 0} (cmp : X → X → Ordering) → IsTotalOrder cmp → (Dead : X → Type 0) (rs ss ts us : List X)
    → HasGathered cmp Dead rs ss ts → HasGathered cmp Dead ss rs us → ts ≡ us
lists_commute cmp total Dead rs ss ts us one other =
    same_in_order cmp total ts us one.in_order other.in_order (λ e has. (other.elements e).1 (swapped ((one.elements e).0 has))) (λ e has. (one.elements e).1 (swapped ((other.elements e).0 has)))

pub join-comm : (r s t u : Parts) → IsJoin r s t → IsJoin s r u → SameEntries t u
join-comm r s t u one other =
    let same : u.floors ≡ t.floors = other.floors ∙ greater_floors-comm s.floors r.floors ∙ sym one.floors in record {
      floors = sym same;
      blocks = lists_commute block_cmp blocks_total (IsDeadBlock t.floors) r.blocks s.blocks t.blocks u.blocks one.blocks (subst (λ (f : Floors). HasGathered block_cmp (IsDeadBlock f) s.blocks r.blocks u.blocks) same other.blocks);
      votes = lists_commute vote_cmp votes_total (IsDeadVote t.floors) r.votes s.votes t.votes u.votes one.votes (subst (λ (f : Floors). HasGathered vote_cmp (IsDeadVote f) s.votes r.votes u.votes) same other.votes);
    }

lists_associate : {X : Type 0} (cmp : X → X → Ordering) → IsTotalOrder cmp → (DeadT DeadW Dead : X → Type 0) → ((e : X) → DeadT e → Dead e) → ((e : X) → DeadW e → Dead e)
    → (rs ss ts us vs ws xs : List X) → HasGathered cmp DeadT rs ss ts → HasGathered cmp Dead ts us vs → HasGathered cmp DeadW ss us ws → HasGathered cmp Dead rs ws xs → vs ≡ xs
lists_associate {X} cmp total DeadT DeadW Dead up_t up_w rs ss ts us vs ws xs rs_ss ts_us ss_us rs_ws =
    same_in_order cmp total vs xs ts_us.in_order rs_ws.in_order (λ e has. forth e ((ts_us.elements e).0 has)) (λ e has. back e ((rs_ws.elements e).0 has)) where
      forth : (e : X) → (Contains ts e ⊎ Contains us e) × ¬ (Dead e) → Contains xs e
      forth e (inl in_t, live) = in_first ((rs_ss.elements e).0 in_t) where
        in_first : (Contains rs e ⊎ Contains ss e) × ¬ (DeadT e) → Contains xs e
        in_first (inl in_r, n) = (rs_ws.elements e).1 (inl in_r, live)
        in_first (inr in_s, n) = (rs_ws.elements e).1 (inr ((ss_us.elements e).1 (inl in_s, λ d. live (up_w e d))), live)
      forth e (inr in_u, live) = (rs_ws.elements e).1 (inr ((ss_us.elements e).1 (inr in_u, λ d. live (up_w e d))), live)

      back : (e : X) → (Contains rs e ⊎ Contains ws e) × ¬ (Dead e) → Contains vs e
      back e (inl in_r, live) = (ts_us.elements e).1 (inl ((rs_ss.elements e).1 (inl in_r, λ d. live (up_t e d))), live)
      back e (inr in_w, live) = in_second ((ss_us.elements e).0 in_w) where
        in_second : (Contains ss e ⊎ Contains us e) × ¬ (DeadW e) → Contains vs e
        in_second (inl in_s, n) = (ts_us.elements e).1 (inl ((rs_ss.elements e).1 (inr in_s, λ d. live (up_t e d))), live)
        in_second (inr in_u, n) = (ts_us.elements e).1 (inr in_u, live)

pub join-assoc : (r s t u v w x : Parts) → IsJoin r s t → IsJoin t u v → IsJoin s u w → IsJoin r w x → SameEntries v x
join-assoc r s t u v w x rs tu su r_w =
    let same : v.floors ≡ x.floors = tu.floors ∙ ap (λ f. greater_floors f u.floors) rs.floors ∙ greater_floors-assoc r.floors s.floors u.floors ∙ ap (λ f. greater_floors r.floors f) (sym su.floors) ∙ sym r_w.floors in record {
      floors = same;
      blocks = lists_associate block_cmp blocks_total (IsDeadBlock t.floors) (IsDeadBlock w.floors) (IsDeadBlock v.floors)
          (λ e d. subst (λ (f : Floors). IsDeadBlock f e) (sym tu.floors) (blocks_die_left t.floors u.floors e d))
          (λ e d. subst (λ (f : Floors). IsDeadBlock f e) (sym r_w.floors ∙ sym same) (blocks_die_right r.floors w.floors e d))
          r.blocks s.blocks t.blocks u.blocks v.blocks w.blocks x.blocks rs.blocks tu.blocks su.blocks (subst (λ (f : Floors). HasGathered block_cmp (IsDeadBlock f) r.blocks w.blocks x.blocks) (sym same) r_w.blocks);
      votes = lists_associate vote_cmp votes_total (IsDeadVote t.floors) (IsDeadVote w.floors) (IsDeadVote v.floors)
          (λ e d. subst (λ (f : Floors). IsDeadVote f e) (sym tu.floors) (votes_die_left t.floors u.floors e d))
          (λ e d. subst (λ (f : Floors). IsDeadVote f e) (sym r_w.floors ∙ sym same) (votes_die_right r.floors w.floors e d))
          r.votes s.votes t.votes u.votes v.votes w.votes x.votes rs.votes tu.votes su.votes (subst (λ (f : Floors). HasGathered vote_cmp (IsDeadVote f) r.votes w.votes x.votes) (sym same) r_w.votes);
    }

either_one : {A : Type 0} → A ⊎ A → A
either_one (inl a) = a
either_one (inr a) = a

lists_same : {X : Type 0} (cmp : X → X → Ordering) → IsTotalOrder cmp → (Dead : X → Type 0) (rs ts : List X) → IsInOrder cmp rs → ((e : X) → Contains rs e → ¬ (Dead e)) → HasGathered cmp Dead rs rs ts → rs ≡ ts
lists_same cmp total Dead rs ts up live both =
    same_in_order cmp total rs ts up both.in_order (λ e has. (both.elements e).1 (inl has, live e has)) (λ e has. either_one ((both.elements e).0 has).0)

pub join-same : (r t : Parts) → IsWellKept r.floors r.blocks r.votes → IsJoin r r t → SameEntries r t
join-same r t kept both =
    let same : t.floors ≡ r.floors = both.floors ∙ greater_floors-same r.floors in record {
      floors = sym same;
      blocks = lists_same block_cmp blocks_total (IsDeadBlock r.floors) r.blocks t.blocks kept.blocks_in_order (λ e has. All-contains (λ x. ¬ (IsDeadBlock r.floors x)) r.blocks e kept.live_blocks has) (subst (λ (f : Floors). HasGathered block_cmp (IsDeadBlock f) r.blocks r.blocks t.blocks) same both.blocks);
      votes = lists_same vote_cmp votes_total (IsDeadVote r.floors) r.votes t.votes kept.votes_in_order (λ e has. All-contains (λ x. ¬ (IsDeadVote r.floors x)) r.votes e kept.live_votes has) (subst (λ (f : Floors). HasGathered vote_cmp (IsDeadVote f) r.votes r.votes t.votes) same both.votes);
    }
