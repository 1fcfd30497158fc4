-- Which votes are cast, where each has an answer, and how often.
use Rattle.std.proofs.Common.{◌≡◌, ◌⊎◌, inl, inr, suc, List, [], ◌∷◌, map, Option, Some, refl, subst, arith}
use Rattle.std.specs.Prelude.{◌++◌, AllPairs, Contains}
use Rattle.std.proofs.lemmas.List.Kept.{AllPairs-cons}
use Rattle.phase0_types.specs.declared.attestation.AttestationData.{AttestationData}
use Rattle.protect_record.proofs.MemberLemmas.{All-from_contains, contains_cases, contains_first, contains_later, contains_none}
use Rattle.node_calls.specs.declared.answer.AttesterRow.{AttesterRow}
use Rattle.duty_schedule.specs.declared.rows.Duty.{Duty}
use Rattle.duty_schedule.specs.declared.rows.Duty.TheVariants as duty
use Rattle.duty_plans.specs.declared.ended.Aggregation.{Aggregation}
use Rattle.duty_plans.specs.declared.ended.Aggregation.TheVariants as votes
use Rattle.duty_plans.specs.declared.ended.Ended.{Ended}
use Rattle.duty_plans.specs.declared.task.Task.{Task}
use Rattle.duty_plans.specs.declared.task.Task.TheVariants as task
use Rattle.duty_plans.specs.Votes.{vote_by, vote_tasks}
use Rattle.aggregation_law.specs.Questions.{AreOfTwo, AreTwo}

-- a vote of these duties is cast for the data of its answer
abbrev pub IsCast : (Duty → Ended) → List Duty → Task → Type 0
IsCast f ds t = (row : AttesterRow) × (details : AttestationData) × Contains ds (duty.Vote row) × ((f (duty.Vote row)).aggregation ≡ Some (votes.Voted details)) × (task.Vote row details ≡ t)

-- what is cast of a vote with this answer and of the votes after it
by_answer : (v : AttesterRow) (o : Option Aggregation) (more : List Task) (t : Task) → Contains (vote_by (duty.Vote v) o ++ more) t
    → ((details : AttestationData) × (o ≡ Some (votes.Voted details)) × (task.Vote v details ≡ t)) ⊎ Contains more t
by_answer v (Some (votes.Voted details)) more t c = own (contains_cases (task.Vote v details) more t c) where
  own : (task.Vote v details ≡ t) ⊎ Contains more t → ((voted : AttestationData) × (◌≡◌ {A = Option Aggregation} (Some (votes.Voted details)) (Some (votes.Voted voted))) × (task.Vote v voted ≡ t)) ⊎ Contains more t
  own (inl is) = inl (details, refl, is)
  own (inr later) = inr later
by_answer v o more t c = inr c

-- each vote that is cast is one of the duties', for the data of its answer
pub only_votes : (f : Duty → Ended) (ds : List Duty) (t : Task) → Contains (vote_tasks ds (map f ds)) t → IsCast f ds t
only_votes f [] t c = contains_none t c
only_votes f (duty.Block b ∷ ds) t c = let more = only_votes f ds t c in (more.0, more.1, contains_later (duty.Block b) ds (duty.Vote more.0) more.2, more.3, more.4)
only_votes f (duty.Vote v ∷ ds) t c = by_cases (λ later. only_votes f ds t later) (by_answer v (f (duty.Vote v)).aggregation (vote_tasks ds (map f ds)) t c) where
  by_cases : (Contains (vote_tasks ds (map f ds)) t → IsCast f ds t) → ((details : AttestationData) × ((f (duty.Vote v)).aggregation ≡ Some (votes.Voted details)) × (task.Vote v details ≡ t)) ⊎ Contains (vote_tasks ds (map f ds)) t
      → IsCast f (duty.Vote v ∷ ds) t
  by_cases later (inl own) = (v, own.0, contains_first (duty.Vote v) ds, own.1, own.2)
  by_cases later (inr behind) = let more = later behind in (more.0, more.1, contains_later (duty.Vote v) ds (duty.Vote more.0) more.2, more.3, more.4)

-- ---- no vote of a validator is cast twice

-- of a list whose pairs are related the first is related to each other one, and so are those
first_related : {X : Type 0} (R : X → X → Type 0) (x : X) (xs : List X) → AllPairs R (x ∷ xs) → (y : X) → Contains xs y → R x y
first_related R x xs related y c = subst (R x) c.2 (related 0 (suc c.0) y (omega arith) (omega (arith, c.1)))

others_related : {X : Type 0} (R : X → X → Type 0) (x : X) (xs : List X) → AllPairs R (x ∷ xs) → AllPairs R xs
others_related R x xs related = λ i j d less within. related (suc i) (suc j) d (omega (arith, less)) (omega (arith, within))

-- a vote that is cast is of another validator than that of a duty before
of_another : (f : Duty → Ended) (v : AttesterRow) (voted : AttestationData) (ds : List Duty) (t : Task) → AllPairs AreTwo (duty.Vote v ∷ ds) → IsCast f ds t → AreOfTwo (task.Vote v voted) t
of_another f v voted ds t two cast = subst (AreOfTwo (task.Vote v voted)) cast.4 (first_related AreTwo (duty.Vote v) ds two (duty.Vote cast.0) cast.2)

pub all_of_two : (f : Duty → Ended) (ds : List Duty) → AllPairs AreTwo ds → AllPairs AreOfTwo (vote_tasks ds (map f ds))
all_of_two f [] two = λ i j d less within. absurd (omega (arith, within))
all_of_two f (duty.Block b ∷ ds) two = all_of_two f ds (others_related AreTwo (duty.Block b) ds two)
all_of_two f (duty.Vote v ∷ ds) two = by_aggregation (f (duty.Vote v)).aggregation (all_of_two f ds (others_related AreTwo (duty.Vote v) ds two)) where
  more : List Task
  more = vote_tasks ds (map f ds)

  by_aggregation : (o : Option Aggregation) → AllPairs AreOfTwo more → AllPairs AreOfTwo (vote_by (duty.Vote v) o ++ more)
  by_aggregation (Some (votes.Voted details)) later =
      AllPairs-cons AreOfTwo (task.Vote v details) more (All-from_contains (AreOfTwo (task.Vote v details)) more (λ t c. of_another f v details ds t two (only_votes f ds t c))) later
  by_aggregation o later = later
