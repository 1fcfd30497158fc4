-- Which entries of a list in order may be dead.
use Rattle.std.proofs.Common.{◌≡◌, ℕ, zero, suc, ◌<◌, ◌≤◌, ◌⊎◌, inl, inr, Bool, true, false, List, Option, Some, None, length, get_or, refl, sym, ◌∙◌, ap, subst, arith, All, IsSomeAnd, nat_lt, nat_le}
use Rattle.std.specs.Bool.{OnFalse}
use Rattle.std.specs.Ordering.{nat_cmp, ordering_then}
use Rattle.std.specs.declared.cmp.Ordering.{Ordering}
use Rattle.std.specs.declared.cmp.Ordering.TheVariants.{Less, Greater}
use Rattle.std.proofs.lemmas.Bool.{cases_lt, cases_order, ltb-true, leb-true, lt-ltb, le-leb, and_parts, and_from}
use Rattle.std.proofs.lemmas.Cmp.{ranked, by_ranked}
use Rattle.std.proofs.lemmas.List.{get_or_default}
use Rattle.slash_defs.specs.declared.entry.BlockEntry.{BlockEntry}
use Rattle.slash_defs.specs.declared.entry.VoteEntry.{VoteEntry}
use Rattle.slash_defs.specs.FileOrder.{block_cmp, vote_cmp}
use Rattle.protect_record.specs.declared.floors.Floors.{Floors}
use Rattle.protect_record.specs.Order.{IsInOrder}
use Rattle.protect_record.specs.Floors.{IsDeadBlock, IsDeadVote, is_dead_block, is_dead_vote, is_below, is_below_both, greater, greater_pair, greater_floors}

-- an order that goes first by a number
rises : (a b : ℕ) (o : Ordering) → ordering_then (nat_cmp a b) o ≡ Less → a ≤ b
rises a b o less = at (cases_lt b a) where
  greater_than : b < a → nat_cmp a b ≡ Greater
  greater_than lt = by_ranked (a < b) (a ≡ b) (b < a) (nat_cmp a b) (ranked a b (nat_cmp a b) refl) (λ e h. absurd (omega arith)) (λ e h. absurd (omega arith)) (λ e h. e)

  at : (b < a) ⊎ (a ≤ b) → a ≤ b
  at (inl lt) = let no : Greater ≡ Less = ap (λ p. ordering_then p o) (sym (greater_than lt)) ∙ less in cc
  at (inr le) = le

pub slots_rise : (a b : BlockEntry) → block_cmp a b ≡ Less → a.slot ≤ b.slot
slots_rise a b less = rises a.slot b.slot _ less

pub targets_rise : (a b : VoteEntry) → vote_cmp a b ≡ Less → a.target ≤ b.target
targets_rise a b less = rises a.target b.target _ less

-- what is at least a number that is not below the floor is not below it
block_above : (o : Option ℕ) (slot other : ℕ) → slot ≤ other → ¬ (IsSomeAnd o (λ f. slot < f)) → ¬ (IsSomeAnd o (λ f. other < f))
block_above None slot other le live dead = dead
block_above (Some f) slot other le live dead = live (omega (arith, dead))

-- where the first block is not below the floor, none is
pub lowest_lives : (f : Floors) (xs : List BlockEntry) → IsInOrder block_cmp xs → (lowest : BlockEntry) → get_or xs 0 lowest ≡ lowest → ¬ (IsDeadBlock f lowest) → All (λ e. ¬ (IsDeadBlock f e)) xs
lowest_lives f xs up lowest at live k d lt = place k d lt where
  place : (k : ℕ) (d : BlockEntry) → k < length xs → ¬ (IsDeadBlock f (get_or xs k d))
  place zero d lt = subst (λ (e : BlockEntry). ¬ (IsDeadBlock f e)) (sym at ∙ get_or_default xs 0 lowest d lt) live
  place (suc k) d lt =
      let first : get_or xs 0 d ≡ lowest = get_or_default xs 0 d lowest (omega arith) ∙ at in
      let le : lowest.slot ≤ (get_or xs (suc k) d).slot = subst (λ (e : BlockEntry). e.slot ≤ (get_or xs (suc k) d).slot) first (slots_rise (get_or xs 0 d) (get_or xs (suc k) d) (up 0 (suc k) d (omega arith) lt)) in
      block_above f.block lowest.slot (get_or xs (suc k) d).slot le live

target_above : (o : Option (ℕ × ℕ)) (e : VoteEntry) (source floor : ℕ) → o ≡ Some (source, floor) → floor ≤ e.target → ¬ (IsSomeAnd o (λ f. (e.target < f.1) × (e.source ≤ f.0)))
target_above o e source floor is le =
    let P : Option (ℕ × ℕ) → Type 0 = λ p. ¬ (IsSomeAnd p (λ f. (e.target < f.1) × (e.source ≤ f.0))) in
    let there : P (Some (source, floor)) = λ dead. omega (arith, dead.0) in
    subst P (sym is) there

-- from the first vote at the target floor on none is dead
pub floor_lives : (f : Floors) (xs : List VoteEntry) → IsInOrder vote_cmp xs → (source floor : ℕ) → f.vote ≡ Some (source, floor) → (i : ℕ) (d : VoteEntry) → i < length xs
    → ((k : ℕ) (e : VoteEntry) → k < i → ¬ (IsDeadVote f (get_or xs k e))) → floor ≤ (get_or xs i d).target → All (λ e. ¬ (IsDeadVote f e)) xs
floor_lives f xs up source floor is i d within before high k e lt = at (cases_order k i) where
  high_at : (c : VoteEntry) → floor ≤ (get_or xs i c).target
  high_at c = subst (λ (x : VoteEntry). floor ≤ x.target) (get_or_default xs i d c within) high

  at : (k ≡ i) ⊎ ((k < i) ⊎ (i < k)) → ¬ (IsDeadVote f (get_or xs k e))
  at (inl same) = target_above f.vote (get_or xs k e) source floor is (subst (λ (j : ℕ). floor ≤ (get_or xs j e).target) (sym same) (high_at e))
  at (inr (inl earlier)) = before k e earlier
  at (inr (inr later)) =
      let le = targets_rise (get_or xs i e) (get_or xs k e) (up i k e later lt) in
      target_above f.vote (get_or xs k e) source floor is (omega (arith, le, high_at e))

-- the tests tell what is dead
below_decides : (o : Option ℕ) (n : ℕ) → (is_below o n ≡ true → IsSomeAnd o (λ f. n < f)) × (IsSomeAnd o (λ f. n < f) → is_below o n ≡ true)
below_decides None n = (λ e. cc, λ h. absurd h)
below_decides (Some f) n = (λ e. ltb-true n f e, λ h. lt-ltb n f h)

pub block_decides : (f : Floors) (e : BlockEntry) → (is_dead_block f e ≡ true → IsDeadBlock f e) × (IsDeadBlock f e → is_dead_block f e ≡ true)
block_decides f e = below_decides f.block e.slot

both_decides : (o : Option (ℕ × ℕ)) (e : VoteEntry) → (is_below_both o e ≡ true → IsSomeAnd o (λ f. (e.target < f.1) × (e.source ≤ f.0))) × (IsSomeAnd o (λ f. (e.target < f.1) × (e.source ≤ f.0)) → is_below_both o e ≡ true)
both_decides None e = (λ h. cc, λ h. absurd h)
both_decides (Some f) e =
    (λ h. let p = and_parts (nat_lt e.target f.1) (nat_le e.source f.0) h in (ltb-true e.target f.1 p.0, leb-true e.source f.0 p.1), λ h. and_from _ _ (lt-ltb e.target f.1 h.0) (le-leb e.source f.0 h.1))

pub vote_decides : (f : Floors) (e : VoteEntry) → (is_dead_vote f e ≡ true → IsDeadVote f e) × (IsDeadVote f e → is_dead_vote f e ≡ true)
vote_decides f e = both_decides f.vote e

-- what is dead stays dead under greater floors
dead_left : (p q : Option ℕ) (n : ℕ) → IsSomeAnd p (λ f. n < f) → IsSomeAnd (greater p q) (λ f. n < f)
dead_left None q n dead = absurd dead
dead_left (Some x) None n dead = dead
dead_left (Some x) (Some y) n dead = omega arith

dead_right : (p q : Option ℕ) (n : ℕ) → IsSomeAnd q (λ f. n < f) → IsSomeAnd (greater p q) (λ f. n < f)
dead_right None q n dead = dead
dead_right (Some x) None n dead = absurd dead
dead_right (Some x) (Some y) n dead = omega arith

both_left : (p q : Option (ℕ × ℕ)) (e : VoteEntry) → IsSomeAnd p (λ f. (e.target < f.1) × (e.source ≤ f.0)) → IsSomeAnd (greater_pair p q) (λ f. (e.target < f.1) × (e.source ≤ f.0))
both_left None q e dead = absurd dead
both_left (Some x) None e dead = dead
both_left (Some x) (Some y) e dead = (omega (arith, dead.0), omega (arith, dead.1))

both_right : (p q : Option (ℕ × ℕ)) (e : VoteEntry) → IsSomeAnd q (λ f. (e.target < f.1) × (e.source ≤ f.0)) → IsSomeAnd (greater_pair p q) (λ f. (e.target < f.1) × (e.source ≤ f.0))
both_right None q e dead = dead
both_right (Some x) None e dead = absurd dead
both_right (Some x) (Some y) e dead = (omega (arith, dead.0), omega (arith, dead.1))

pub blocks_die_left : (f g : Floors) (e : BlockEntry) → IsDeadBlock f e → IsDeadBlock (greater_floors f g) e
blocks_die_left f g e dead = dead_left f.block g.block e.slot dead

pub blocks_die_right : (f g : Floors) (e : BlockEntry) → IsDeadBlock g e → IsDeadBlock (greater_floors f g) e
blocks_die_right f g e dead = dead_right f.block g.block e.slot dead

pub votes_die_left : (f g : Floors) (e : VoteEntry) → IsDeadVote f e → IsDeadVote (greater_floors f g) e
votes_die_left f g e dead = both_left f.vote g.vote e dead

pub votes_die_right : (f g : Floors) (e : VoteEntry) → IsDeadVote g e → IsDeadVote (greater_floors f g) e
votes_die_right f g e dead = both_right f.vote g.vote e dead

-- what holds where a test is false
pub on_false : (b : Bool) (P : Type 0) → (b ≡ false → P) → OnFalse b P
on_false true P h = tt
on_false false P h = h refl

pub not_true : (b : Bool) → b ≡ false → b ≡ true → ⊥
not_true b off on = cc

pub at_false : (b : Bool) (P : Type 0) → b ≡ false → OnFalse b P → P
at_false b P off h = let there : OnFalse false P = subst (λ (c : Bool). OnFalse c P) off h in there
