-- The questions for what committees are to vote, and how they ended for each vote.
use Rattle.std.proofs.Common.{◌≡◌, ◌⊎◌, inl, inr, ℕ, zero, suc, ◌<◌, ◌==◌, Bool, true, false, cond, not, nat_lt, List, [], ◌∷◌, length, get_or, drop, map, position, Option, Some, None, is_none, refl, sym, ◌∙◌, ap, subst, arith}
use Rattle.std.specs.Prelude.{◌++◌, if◌then◌else◌, AllPairs, Contains, filter}
use Rattle.std.proofs.lemmas.Bool.{cond-true, eq-eqb, eqb-true, lt-ltb, ne_eqb}
use Rattle.std.proofs.lemmas.List.Kept.{AllPairs-cons, AllPairs-filter}
use Rattle.std.proofs.lemmas.List.Quantifiers.{position-Some}
use Rattle.std.proofs.lemmas.List.Sums.{position_or_len_is}
use Rattle.phase0_types.specs.declared.attestation.AttestationData.{AttestationData}
use Rattle.protect_record.proofs.MemberLemmas.{All-from_contains, contains_cases, contains_first, contains_later, contains_none}
use Rattle.protect_record.proofs.UniteLemmas.{contains_filter, contains_from_filter}
use Rattle.node_calls.specs.declared.answer.AttesterRow.{AttesterRow}
use Rattle.duty_schedule.specs.declared.checks.DataDiffers.{DataDiffers}
use Rattle.duty_schedule.specs.Checking.{data_members, first_that_differs}
use Rattle.duty_schedule.specs.declared.rows.Duty.{Duty}
use Rattle.duty_schedule.specs.declared.rows.Duty.TheVariants as duty
use Rattle.duty_plans.specs.declared.ended.Aggregation.{Aggregation}
use Rattle.duty_plans.specs.declared.ended.Aggregation.TheVariants as votes
use Rattle.duty_plans.specs.declared.ended.Ended.{Ended}
use Rattle.duty_plans.specs.declared.result.DutyResult.{DutyResult}
use Rattle.duty_plans.specs.declared.result.DutyResult.TheVariants as ended
use Rattle.duty_plans.specs.declared.task.Task.{Task}
use Rattle.duty_plans.specs.declared.task.Task.TheVariants as task
use Rattle.duty_plans.specs.Ends.{over}
use Rattle.duty_plans.specs.Votes.{answer_at, answer_by, answer_of, asks_for, data_tasks, is_own, vote_answers, vote_by, vote_tasks}
use Rattle.duty_turns.specs.Turns.{votes_in}
use Rattle.aggregation_law.specs.Questions.{AreApart}
use Rattle.aggregation_law.specs.Reasons.{IsPair}

-- ---- the question of a vote's committee

-- what stands at one place of two lists is a pair
pair_at : {A B : Type 0} (xs : List A) (ys : List B) (i : ℕ) (d : A) (y : B) (rest : List B) → i < length xs → drop i ys ≡ y ∷ rest → IsPair xs ys (get_or xs i d) y
pair_at [] ys i d y rest within is = absurd (omega (arith, within))
pair_at (x ∷ xs) [] zero d y rest within is = absurd (let bad : [] ≡ y ∷ rest = is in cc)
pair_at (x ∷ xs) [] (suc i) d y rest within is = absurd (let bad : [] ≡ y ∷ rest = is in cc)
pair_at {A} {B} (x ∷ xs) (z ∷ ys) zero d y rest within is = inl (refl, ap (λ (l : List B). get_or l 0 y) is)
pair_at (x ∷ xs) (z ∷ ys) (suc i) d y rest within is = inr (pair_at xs ys i d y rest (omega (arith, within)) is)

asked_one : (row : AttesterRow) (t : Task) → asks_for row t ≡ true → (asked : AttesterRow) × (t ≡ task.Data asked) × (asked.committee_index ≡ row.committee_index)
asked_one row (task.Data asked) is = (asked, refl, eqb-true asked.committee_index row.committee_index is)
asked_one row t is = absurd (let bad : false ≡ true = is in cc)

-- how a question ended for a vote: so that nothing follows, or as that of its committee did, where what a node said is the vote's own
module _ (row : AttesterRow) (tasks : List Task) (ends : List Ended) where
  pub answer_cases : (P : Ended → Type 0) → ((by : DutyResult) → P (over by))
      → ((asked : AttesterRow) (e : Ended) → IsPair tasks ends (task.Data asked) e → asked.committee_index ≡ row.committee_index → is_own row e.aggregation ≡ true → P e) → P (answer_of tasks ends (duty.Vote row))
  answer_cases P none some = by_place (position (asks_for row) tasks) refl where
    by_own : (i : ℕ) (e : Ended) (rest : List Ended) → position (asks_for row) tasks ≡ Some i → drop i ends ≡ e ∷ rest → (b : Bool) → is_own row e.aggregation ≡ b → P (if b then e else over ended.DataDiffers)
    by_own i e rest at is false own = none ended.DataDiffers
    by_own i e rest at is true own =
        let first = position-Some (asks_for row) tasks i (task.Data row) at in
        let one = asked_one row (get_or tasks i (task.Data row)) first.1 in
        let pair = pair_at tasks ends i (task.Data row) e rest first.0 is in
        some one.0 e (subst (λ (t : Task). IsPair tasks ends t e) one.1 pair) one.2 own

    by_ends : (i : ℕ) (es : List Ended) → position (asks_for row) tasks ≡ Some i → drop i ends ≡ es → P (answer_by row es)
    by_ends i [] at is = none ended.NoData
    by_ends i (e ∷ rest) at is = by_own i e rest at is (is_own row e.aggregation) refl

    by_place : (o : Option ℕ) → position (asks_for row) tasks ≡ o → P (answer_at row ends o)
    by_place None at = none ended.NoData
    by_place (Some i) at = by_ends i (drop i ends) at refl

-- ---- what a vote is cast for

-- the question of the vote's committee went on with this data, which is the vote's own
pub record IsVotedBy (tasks : List Task) (ends : List Ended) (row : AttesterRow) (details : AttestationData) : Type 0 where
  pub asked : AttesterRow
  pub ended : Ended
  pub pair : IsPair tasks ends (task.Data asked) ended
  pub same : asked.committee_index ≡ row.committee_index
  pub goes_on : ended.aggregation ≡ Some (votes.Voted details)
  pub own : first_that_differs (data_members row details) ≡ None

none_from : {X : Type 0} (o : Option X) → is_none o ≡ true → o ≡ None
none_from None is = refl
none_from (Some x) is = absurd (let bad : false ≡ true = is in cc)

pub voted_by : (tasks : List Task) (ends : List Ended) (row : AttesterRow) (details : AttestationData) → (answer_of tasks ends (duty.Vote row)).aggregation ≡ Some (votes.Voted details) → IsVotedBy tasks ends row details
voted_by tasks ends row details =
    let P : Ended → Type 0 = λ a. a.aggregation ≡ Some (votes.Voted details) → IsVotedBy tasks ends row details in
    let Own : Option Aggregation → Type 0 = λ o. is_own row o ≡ true in
    answer_cases row tasks ends P (λ by is. absurd (let bad : None ≡ Some (votes.Voted details) = is in cc))
    (λ asked e pair same mine is. record { asked = asked; ended = e; pair = pair; same = same; goes_on = is; own = none_from (first_that_differs (data_members row details)) (subst Own is mine) })

-- what is paired with the votes of these duties by their answers
pub answer_pair : (f : Duty → Ended) (ds : List Duty) (d : Duty) (a : Ended) → IsPair (votes_in ds) (map f (votes_in ds)) d a
    → (row : AttesterRow) × (d ≡ duty.Vote row) × (a ≡ f (duty.Vote row)) × Contains ds (duty.Vote row)
answer_pair f [] d a p = absurd p
answer_pair f (duty.Block b ∷ ds) d a p = let more = answer_pair f ds d a p in (more.0, more.1, more.2, contains_later (duty.Block b) ds (duty.Vote more.0) more.3)
answer_pair f (duty.Vote v ∷ ds) d a (inl p) = (v, sym p.0, sym p.1, contains_first (duty.Vote v) ds)
answer_pair f (duty.Vote v ∷ ds) d a (inr p) = let more = answer_pair f ds d a p in (more.0, more.1, more.2, contains_later (duty.Vote v) ds (duty.Vote more.0) more.3)

-- ---- one question for each committee

-- each vote's committee has one
pub each_asked : (ds : List Duty) (row : AttesterRow) → Contains ds (duty.Vote row) → (asked : AttesterRow) × Contains (data_tasks ds) (task.Data asked) × (asked.committee_index ≡ row.committee_index)
each_asked [] row c = contains_none (duty.Vote row) c
each_asked (duty.Block b ∷ ds) row c = by_cases (λ h. each_asked ds row h) (contains_cases (duty.Block b) ds (duty.Vote row) c) where
  by_cases : (Contains ds (duty.Vote row) → (asked : AttesterRow) × Contains (data_tasks ds) (task.Data asked) × (asked.committee_index ≡ row.committee_index)) → (duty.Block b ≡ duty.Vote row) ⊎ Contains ds (duty.Vote row)
      → (asked : AttesterRow) × Contains (data_tasks ds) (task.Data asked) × (asked.committee_index ≡ row.committee_index)
  by_cases more (inl e) = absurd (let bad : duty.Block b ≡ duty.Vote row = e in cc)
  by_cases more (inr h) = more h
each_asked (duty.Vote v ∷ ds) row c = by_cases (λ h. each_asked ds row h) (contains_cases (duty.Vote v) ds (duty.Vote row) c) where
  others : List Task
  others = filter (λ t. not (asks_for v t)) (data_tasks ds)

  by_index : (asked : AttesterRow) → Contains (data_tasks ds) (task.Data asked) → asked.committee_index ≡ row.committee_index → (b : Bool) → (asked.committee_index == v.committee_index) ≡ b
      → (one : AttesterRow) × Contains (task.Data v ∷ others) (task.Data one) × (one.committee_index ≡ row.committee_index)
  by_index asked h same true is = (v, contains_first (task.Data v) others, sym (eqb-true asked.committee_index v.committee_index is) ∙ same)
  by_index asked h same false is = (asked, contains_later (task.Data v) others (task.Data asked) (contains_filter (λ t. not (asks_for v t)) (data_tasks ds) (task.Data asked) h (ap not is)), same)

  by_cases : (Contains ds (duty.Vote row) → (asked : AttesterRow) × Contains (data_tasks ds) (task.Data asked) × (asked.committee_index ≡ row.committee_index)) → (duty.Vote v ≡ duty.Vote row) ⊎ Contains ds (duty.Vote row)
      → (one : AttesterRow) × Contains (task.Data v ∷ others) (task.Data one) × (one.committee_index ≡ row.committee_index)
  by_cases more (inl e) = let same : v ≡ row = cc in (v, contains_first (task.Data v) others, ap (λ (r : AttesterRow). r.committee_index) same)
  by_cases more (inr h) = let one = more h in by_index one.0 one.1 one.2 (one.0.committee_index == v.committee_index) refl

-- a question that is not for a vote's committee is apart from that vote's
apart_from : (v : AttesterRow) (t : Task) → not (asks_for v t) ≡ true → AreApart (task.Data v) t
apart_from v (task.Data asked) is = λ same. let no : false ≡ true = sym (ap not (eq-eqb asked.committee_index v.committee_index (sym same))) ∙ is in cc
apart_from v t is = tt

-- and none has two
pub all_apart : (ds : List Duty) → AllPairs AreApart (data_tasks ds)
all_apart [] = λ i j d less within. absurd (omega (arith, within))
all_apart (duty.Block b ∷ ds) = all_apart ds
all_apart (duty.Vote v ∷ ds) =
    let passes : Task → Bool = λ t. not (asks_for v t) in
    let others = filter passes (data_tasks ds) in
    let each = All-from_contains (AreApart (task.Data v)) others (λ t h. apart_from v t (contains_from_filter passes (data_tasks ds) t h).1) in
    AllPairs-cons AreApart (task.Data v) others each (AllPairs-filter AreApart passes (data_tasks ds) (all_apart ds))

-- ---- a vote that was told its answer

-- a pair stands at one place
record StandsAt (xs : List Task) (ys : List Ended) (x : Task) (y : Ended) : Type 0 where
  at : ℕ
  within : at < length xs
  is : (d : Task) → get_or xs at d ≡ x
  rest : List Ended
  from : drop at ys ≡ y ∷ rest

pair_place : (xs : List Task) (ys : List Ended) (x : Task) (y : Ended) → IsPair xs ys x y → StandsAt xs ys x y
pair_place [] ys x y p = absurd p
pair_place (a ∷ xs) [] x y p = absurd p
pair_place (a ∷ xs) (b ∷ ys) x y (inl p) = record { at = 0; within = omega arith; is = λ d. p.0; rest = ys; from = ap (λ (e : Ended). e ∷ ys) p.1 }
pair_place (a ∷ xs) (b ∷ ys) x y (inr p) =
    let more = pair_place xs ys x y p in
    record { at = suc more.at; within = omega (arith, more.within); is = more.is; rest = more.rest; from = more.from }

-- a task before a question, where no two are of one committee, is no question of that committee
asks_no : (row asked : AttesterRow) (t : Task) → asked.committee_index ≡ row.committee_index → AreApart t (task.Data asked) → asks_for row t ≡ false
asks_no row asked (task.Data one) same apart = ne_eqb one.committee_index row.committee_index (λ e. apart (e ∙ sym same))
asks_no row asked t same apart = refl

asked_at : (row asked : AttesterRow) (tasks : List Task) (i : ℕ) → asked.committee_index ≡ row.committee_index → AllPairs AreApart tasks → i < length tasks → ((d : Task) → get_or tasks i d ≡ task.Data asked) → position (asks_for row) tasks ≡ Some i
asked_at row asked tasks i same apart within is =
    let d = task.Data row in
    let Passes : Task → Type 0 = λ t. asks_for row t ≡ true in
    let here = subst Passes (sym (is d)) (eq-eqb asked.committee_index row.committee_index same) in
    let before : (k : ℕ) → k < i → asks_for row (get_or tasks k d) ≡ false = λ k less. asks_no row asked (get_or tasks k d) same (subst (λ (t : Task). AreApart (get_or tasks k d) t) (is d) (apart k i d less within)) in
    let first = position_or_len_is (asks_for row) tasks i d (omega (arith, within)) before (λ w. here) in
    ap (λ (k : ℕ). cond (nat_lt k (length tasks)) (Some k) None) first ∙ cond-true (nat_lt i (length tasks)) (Some i) None (lt-ltb i (length tasks) within)

-- what the end of its committee's question leaves of a vote
module _ (ds : List Duty) (ends : List Ended) (row asked : AttesterRow) (e : Ended) (pair : IsPair (data_tasks ds) ends (task.Data asked) e) (same : asked.committee_index ≡ row.committee_index) where
  abbrev Own : Option Aggregation → Bool → Type 0
  Own o b = is_own row o ≡ b

  answer_is : (b : Bool) → is_own row e.aggregation ≡ b → answer_of (data_tasks ds) ends (duty.Vote row) ≡ (if b then e else over ended.DataDiffers)
  answer_is b own =
      let place = pair_place (data_tasks ds) ends (task.Data asked) e pair in
      ap (λ (o : Option ℕ). answer_at row ends o) (asked_at row asked (data_tasks ds) place.at same (all_apart ds) place.within place.is) ∙ ap (λ (l : List Ended). answer_by row l) place.from
      ∙ ap (λ (x : Bool). if x then e else over ended.DataDiffers) own

  -- with data that is the vote's own it is the vote's answer
  pub answer_told : (details : AttestationData) → e.aggregation ≡ Some (votes.Voted details) → first_that_differs (data_members row details) ≡ None → answer_of (data_tasks ds) ends (duty.Vote row) ≡ e
  answer_told details goes_on none = answer_is true (subst (λ (o : Option Aggregation). Own o true) (sym goes_on) (ap (λ (o : Option DataDiffers). is_none o) none))

  -- with other data the vote has none
  pub answer_differs : (details : AttestationData) (member : DataDiffers) → e.aggregation ≡ Some (votes.Voted details) → first_that_differs (data_members row details) ≡ Some member
      → answer_of (data_tasks ds) ends (duty.Vote row) ≡ over ended.DataDiffers
  answer_differs details member goes_on differs = answer_is false (subst (λ (o : Option Aggregation). Own o false) (sym goes_on) (ap (λ (o : Option DataDiffers). is_none o) differs))

  -- without data it is the vote's answer
  pub answer_failed : e.aggregation ≡ None → answer_of (data_tasks ds) ends (duty.Vote row) ≡ e
  answer_failed none = answer_is true (subst (λ (o : Option Aggregation). Own o true) (sym none) refl)

-- ---- a vote whose answer has data

contains_after : {X : Type 0} (xs ys : List X) (x : X) → Contains ys x → Contains (xs ++ ys) x
contains_after [] ys x c = c
contains_after (y ∷ xs) ys x c = contains_later y (xs ++ ys) x (contains_after xs ys x c)

-- of duties whose answers these are, a vote whose answer has data is cast for it
answer_votes : (f : Duty → Ended) (ds : List Duty) (row : AttesterRow) (details : AttestationData) → (f (duty.Vote row)).aggregation ≡ Some (votes.Voted details) → Contains ds (duty.Vote row)
    → Contains (vote_tasks ds (map f ds)) (task.Vote row details)
answer_votes f [] row details is c = contains_none (duty.Vote row) c
answer_votes f (duty.Block b ∷ ds) row details is c = by_cases (λ h. answer_votes f ds row details is h) (contains_cases (duty.Block b) ds (duty.Vote row) c) where
  by_cases : (Contains ds (duty.Vote row) → Contains (vote_tasks ds (map f ds)) (task.Vote row details)) → (duty.Block b ≡ duty.Vote row) ⊎ Contains ds (duty.Vote row) → Contains (vote_tasks ds (map f ds)) (task.Vote row details)
  by_cases later (inl e) = absurd (let bad : duty.Block b ≡ duty.Vote row = e in cc)
  by_cases later (inr h) = later h
answer_votes f (duty.Vote v ∷ ds) row details is c = by_cases (λ h. answer_votes f ds row details is h) (contains_cases (duty.Vote v) ds (duty.Vote row) c) where
  more : List Task
  more = vote_tasks ds (map f ds)

  Here : AttesterRow → Option Aggregation → Type 0
  Here r o = Contains (vote_by (duty.Vote r) o ++ more) (task.Vote row details)

  own : Here row (f (duty.Vote row)).aggregation
  own = subst (λ (o : Option Aggregation). Here row o) (sym is) (contains_first (task.Vote row details) more)

  by_cases : (Contains ds (duty.Vote row) → Contains more (task.Vote row details)) → (duty.Vote v ≡ duty.Vote row) ⊎ Contains ds (duty.Vote row) → Here v (f (duty.Vote v)).aggregation
  by_cases later (inl e) = let same : v ≡ row = cc in subst (λ (r : AttesterRow). Here r (f (duty.Vote r)).aggregation) (sym same) own
  by_cases later (inr h) = contains_after (vote_by (duty.Vote v) (f (duty.Vote v)).aggregation) more (task.Vote row details) (later h)

pub answer_cast : (ds : List Duty) (ends : List Ended) (row : AttesterRow) (details : AttestationData) → Contains ds (duty.Vote row) → (answer_of (data_tasks ds) ends (duty.Vote row)).aggregation ≡ Some (votes.Voted details)
    → Contains (vote_tasks ds (vote_answers ds ends)) (task.Vote row details)
answer_cast ds ends row details c is = answer_votes (answer_of (data_tasks ds) ends) ds row details is c
