-- The floors that imported books set (EIP-3076, conditions 2, 4 and 5), and which entries they leave without use.
use Rattle.std.specs.Prelude.{ℕ, ◌<◌, ◌≤◌, min, max, List, [], ◌∷◌, Option, Some, None, IsSomeAnd, Bool, false, nat_lt, nat_le, ◌&&◌}
use Rattle.slash_defs.specs.declared.entry.BlockEntry.{BlockEntry}
use Rattle.slash_defs.specs.declared.entry.VoteEntry.{VoteEntry}
use Rattle.slash_defs.specs.declared.book.Book.{Book}
use Rattle.protect_record.specs.declared.floors.Floors.{Floors}

-- the lesser of those of two numbers that there are
abbrev pub lesser : Option ℕ → Option ℕ → Option ℕ
lesser None q = q
lesser (Some x) None = Some x
lesser (Some x) (Some y) = Some (min x y)

-- the same of a source and of a target, each for itself
abbrev pub lesser_pair : Option (ℕ × ℕ) → Option (ℕ × ℕ) → Option (ℕ × ℕ)
lesser_pair None q = q
lesser_pair (Some p) None = Some p
lesser_pair (Some p) (Some q) = Some (min p.0 q.0, min p.1 q.1)

-- the greater of those of two numbers that there are
abbrev pub greater : Option ℕ → Option ℕ → Option ℕ
greater None q = q
greater (Some x) None = Some x
greater (Some x) (Some y) = Some (max x y)

-- the same of a source and of a target, each for itself
abbrev pub greater_pair : Option (ℕ × ℕ) → Option (ℕ × ℕ) → Option (ℕ × ℕ)
greater_pair None q = q
greater_pair (Some p) None = Some p
greater_pair (Some p) (Some q) = Some (max p.0 q.0, max p.1 q.1)

-- the least of what each element of a list has, where there are elements
abbrev pub least_by : {X : Type 0} → (X → ℕ) → List X → Option ℕ
least_by f [] = None
least_by f (x ∷ xs) = lesser (Some (f x)) (least_by f xs)

-- the same of a source and of a target, each for itself
abbrev pub least_pair_by : {X : Type 0} → (X → ℕ × ℕ) → List X → Option (ℕ × ℕ)
least_pair_by f [] = None
least_pair_by f (x ∷ xs) = lesser_pair (Some (f x)) (least_pair_by f xs)

-- the greatest of what each element of a list has, over those that have it
abbrev pub greatest_by : {X : Type 0} → (X → Option ℕ) → List X → Option ℕ
greatest_by f [] = None
greatest_by f (x ∷ xs) = greater (f x) (greatest_by f xs)

-- the same of a source and of a target, each for itself
abbrev pub greatest_pair_by : {X : Type 0} → (X → Option (ℕ × ℕ)) → List X → Option (ℕ × ℕ)
greatest_pair_by f [] = None
greatest_pair_by f (x ∷ xs) = greater_pair (f x) (greatest_pair_by f xs)

-- a vote's source and target
abbrev pub epochs : VoteEntry → ℕ × ℕ
epochs e = (e.source, e.target)

-- what one book sets: the least slot of its blocks (EIP-3076, condition 2); the least source and the least target of
-- its votes (conditions 4 and 5)
abbrev pub book_floors : Book → Floors
book_floors b = record { block = least_by (λ e. e.slot) b.blocks; vote = least_pair_by epochs b.votes }

-- the greatest that the books set, each for itself; own messages set none
abbrev pub floors_of : List Book → Floors
floors_of books = record {
  block = greatest_by (λ b. least_by (λ e. e.slot) b.blocks) books;
  vote = greatest_pair_by (λ b. least_pair_by epochs b.votes) books;
}

-- the greater of each floor
abbrev pub greater_floors : Floors → Floors → Floors
greater_floors f g = record { block = greater f.block g.block; vote = greater_pair f.vote g.vote }

-- a block below the block floor decides nothing any more, since condition 2 refuses its slot
abbrev pub IsDeadBlock : Floors → BlockEntry → Type 0
IsDeadBlock f e = IsSomeAnd f.block (λ floor. e.slot < floor)

-- nor does a vote below the target floor whose source is at most the source floor: conditions 4 and 5 refuse what
-- would double, surround or be surrounded by it
abbrev pub IsDeadVote : Floors → VoteEntry → Type 0
IsDeadVote f e = IsSomeAnd f.vote (λ floor. (e.target < floor.1) × (e.source ≤ floor.0))

-- whether a number is below a floor
abbrev pub is_below : Option ℕ → ℕ → Bool
is_below None n = false
is_below (Some floor) n = nat_lt n floor

-- whether a vote is below the target floor and its source at most the source floor
abbrev pub is_below_both : Option (ℕ × ℕ) → VoteEntry → Bool
is_below_both None e = false
is_below_both (Some floor) e = nat_lt e.target floor.1 && nat_le e.source floor.0

-- the test of `IsDeadBlock`, to filter by
abbrev pub is_dead_block : Floors → BlockEntry → Bool
is_dead_block f e = is_below f.block e.slot

-- the test of `IsDeadVote`
abbrev pub is_dead_vote : Floors → VoteEntry → Bool
is_dead_vote f e = is_below_both f.vote e
