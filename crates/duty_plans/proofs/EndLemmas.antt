-- How duties ended at last, what follows of them, and what is reported of aggregates, up to a place.
use Rattle.std.proofs.Common.{◌≡◌, ℕ, zero, suc, ◌+◌, ◌<◌, ◌≤◌, List, [], ◌∷◌, ◌++◌, length, drop, take, get_or, Option, Some, None, add-one, append_assoc, refl, sym, ◌∙◌, ap, arith}
use Rattle.std.proofs.lemmas.List.{append-nil, at_drop_more, drop_all, drop-drop, map-append, take_more}
use Rattle.duty_plans.specs.declared.ended.Aggregation.{Aggregation}
use Rattle.duty_plans.specs.declared.ended.Ended.{Ended}
use Rattle.duty_plans.specs.declared.ended.Unsent.{Unsent}
use Rattle.duty_plans.specs.declared.result.DutyResult.{DutyResult}
use Rattle.duty_plans.specs.declared.task.Task.{Task}
use Rattle.duty_plans.specs.Ends.{last_result, left_after, merged, place_after, place_by, results_of}
use Rattle.duty_plans.specs.Choices.{ends_after, next_by, next_place, report_of, reports}
use Rattle.duty_plans.specs.Tasks.{tasks_by}
use Rattle.duty_plans.specs.Votes.{end_by, vote_ends}

-- ---- how duties ended

pub results_more : (ends : List Ended) (got now : List DutyResult) (i : ℕ) (e : Ended) → i < length ends → e ≡ get_or ends i e → now ≡ got ++ e.result ∷ [] → got ≡ results_of (take i ends) → now ≡ results_of (take (i + 1) ends)
results_more ends got now i e l is pushed so =
    pushed ∙ ap (λ (x : List DutyResult). x ++ e.result ∷ []) so ∙ ap (λ (x : Ended). results_of (take i ends) ++ x.result ∷ []) is
    ∙ sym (ap (λ (x : List Ended). results_of x) (take_more ends i e l) ∙ map-append (λ (x : Ended). x.result) (take i ends) (get_or ends i e ∷ []))

-- ---- how duties ended at last

left_place : (o : Option Unsent) (at : ℕ) (again : List Ended) → left_after o (drop at again) ≡ drop (place_by o at) again
left_place None at again = refl
left_place (Some unsent) at again = drop-drop 1 at again

next_merged : (ends again : List Ended) (i at next : ℕ) (e : Ended) (r : DutyResult) → i < length ends → e ≡ get_or ends i e → r ≡ last_result e (drop at again) → next ≡ place_after e at
    → merged (drop i ends) (drop at again) ≡ r ∷ merged (drop (i + 1) ends) (drop next again)
next_merged ends again i at next e r l is by turn =
    at_drop_more (λ x. merged x (drop at again)) ends i e l
    ∙ ap (λ (x : Ended). merged (x ∷ drop (i + 1) ends) (drop at again)) (sym is)
    ∙ ap (λ (x : DutyResult). x ∷ merged (drop (i + 1) ends) (left_after e.unsent (drop at again))) (sym by)
    ∙ ap (λ (x : List Ended). r ∷ merged (drop (i + 1) ends) x) (left_place e.unsent at again ∙ ap (λ n. drop n again) (sym turn))

pub merged_more : (ends again : List Ended) (got now : List DutyResult) (i at next : ℕ) (e : Ended) (r : DutyResult) → i < length ends → e ≡ get_or ends i e → r ≡ last_result e (drop at again) → next ≡ place_after e at
    → now ≡ got ++ r ∷ [] → got ++ merged (drop i ends) (drop at again) ≡ merged ends again → now ++ merged (drop (i + 1) ends) (drop next again) ≡ merged ends again
merged_more ends again got now i at next e r l is by turn pushed so =
    let rest : List DutyResult = merged (drop (i + 1) ends) (drop next again) in
    ap (λ (x : List DutyResult). x ++ rest) pushed ∙ append_assoc got (r ∷ []) rest ∙ ap (λ (x : List DutyResult). got ++ x) (sym (next_merged ends again i at next e r l is by turn)) ∙ so

pub merged_over : (ends again : List Ended) (got : List DutyResult) (i at : ℕ) → length ends ≤ i → got ++ merged (drop i ends) (drop at again) ≡ merged ends again → got ≡ merged ends again
merged_over ends again got i at l so = sym (append-nil got) ∙ ap (λ (x : List Ended). got ++ merged x (drop at again)) (sym (drop_all i ends l)) ∙ so

pub place_within : (e : Ended) (at i next : ℕ) → at ≤ i → next ≡ place_after e at → next ≤ i + 1
place_within e at i next h turn = by e.unsent turn where
  by : (o : Option Unsent) → next ≡ place_by o at → next ≤ i + 1
  by None is = omega arith
  by (Some unsent) is = omega arith

-- ---- what follows of each

module _ {A : Type 0} (next : A → Ended → List Task) where
  tasks_nil : (xs : List A) → tasks_by next xs [] ≡ []
  tasks_nil [] = refl
  tasks_nil (x ∷ xs) = refl

  tasks_from : (xs : List A) (ends : List Ended) (i : ℕ) (x : A) (e : Ended) → i < length xs → i < length ends → e ≡ get_or ends i e
      → tasks_by next (drop i xs) (drop i ends) ≡ next (get_or xs i x) e ++ tasks_by next (drop (suc i) xs) (drop (suc i) ends)
  tasks_from [] ends i x e l h at = absurd (omega arith)
  tasks_from (y ∷ xs) [] i x e l h at = absurd (omega arith)
  tasks_from (y ∷ xs) (f ∷ ends) zero x e l h at = ap (λ (z : Ended). next y z ++ tasks_by next xs ends) (sym at)
  tasks_from (y ∷ xs) (f ∷ ends) (suc i) x e l h at = tasks_from xs ends i x e (omega arith) (omega arith) at

  -- those of one more
  pub tasks_more : (xs : List A) (ends : List Ended) (i : ℕ) (x : A) (e : Ended) (got now : List Task) → i < length xs → i < length ends → e ≡ get_or ends i e → now ≡ got ++ next (get_or xs i x) e
      → got ++ tasks_by next (drop i xs) (drop i ends) ≡ tasks_by next xs ends → now ++ tasks_by next (drop (i + 1) xs) (drop (i + 1) ends) ≡ tasks_by next xs ends
  tasks_more xs ends i x e got now l h at pushed so =
      let one : List Task = next (get_or xs i x) e in
      ap (λ (t : List Task). t ++ tasks_by next (drop (i + 1) xs) (drop (i + 1) ends)) pushed
      ∙ append_assoc got one (tasks_by next (drop (i + 1) xs) (drop (i + 1) ends))
      ∙ ap (λ n. got ++ (one ++ tasks_by next (drop n xs) (drop n ends))) (add-one i)
      ∙ ap (λ (t : List Task). got ++ t) (sym (tasks_from xs ends i x e l h at)) ∙ so

  -- the ends are over
  pub tasks_end : (xs : List A) (ends : List Ended) (i : ℕ) (got : List Task) → length ends ≤ i → got ++ tasks_by next (drop i xs) (drop i ends) ≡ tasks_by next xs ends → got ≡ tasks_by next xs ends
  tasks_end xs ends i got h so = sym (append-nil got) ∙ ap (λ (t : List Task). got ++ t) (sym (ap (λ (x : List Ended). tasks_by next (drop i xs) x) (drop_all i ends h) ∙ tasks_nil (drop i xs))) ∙ so

  -- the others are over
  pub tasks_over : (xs : List A) (ends : List Ended) (i : ℕ) (got : List Task) → length xs ≤ i → got ++ tasks_by next (drop i xs) (drop i ends) ≡ tasks_by next xs ends → got ≡ tasks_by next xs ends
  tasks_over xs ends i got h so = sym (append-nil got) ∙ ap (λ (x : List A). got ++ tasks_by next x (drop i ends)) (sym (drop_all i xs h)) ∙ so

-- ---- what is reported of aggregates

after_place : (o : Option Aggregation) (at : ℕ) (ends : List Ended) → ends_after o (drop at ends) ≡ drop (next_by o at) ends
after_place None at ends = refl
after_place (Some x) at ends = drop-drop 1 at ends

next_report : (cs ends : List Ended) (i at next : ℕ) (c : Ended) (r : Option DutyResult) → i < length cs → c ≡ get_or cs i c → r ≡ report_of c (drop at ends) → next ≡ next_place c at
    → reports (drop i cs) (drop at ends) ≡ r ∷ reports (drop (i + 1) cs) (drop next ends)
next_report cs ends i at next c r l is by turn =
    at_drop_more (λ x. reports x (drop at ends)) cs i c l
    ∙ ap (λ (x : Ended). reports (x ∷ drop (i + 1) cs) (drop at ends)) (sym is)
    ∙ ap (λ (x : Option DutyResult). x ∷ reports (drop (i + 1) cs) (ends_after c.aggregation (drop at ends))) (sym by)
    ∙ ap (λ (x : List Ended). r ∷ reports (drop (i + 1) cs) x) (after_place c.aggregation at ends ∙ ap (λ n. drop n ends) (sym turn))

pub reports_more : (cs ends : List Ended) (got now : List (Option DutyResult)) (i at next : ℕ) (c : Ended) (r : Option DutyResult) → i < length cs → c ≡ get_or cs i c → r ≡ report_of c (drop at ends) → next ≡ next_place c at
    → now ≡ got ++ r ∷ [] → got ++ reports (drop i cs) (drop at ends) ≡ reports cs ends → now ++ reports (drop (i + 1) cs) (drop next ends) ≡ reports cs ends
reports_more cs ends got now i at next c r l is by turn pushed so =
    let rest : List (Option DutyResult) = reports (drop (i + 1) cs) (drop next ends) in
    ap (λ (x : List (Option DutyResult)). x ++ rest) pushed ∙ append_assoc got (r ∷ []) rest ∙ ap (λ (x : List (Option DutyResult)). got ++ x) (sym (next_report cs ends i at next c r l is by turn)) ∙ so

pub reports_over : (cs ends : List Ended) (got : List (Option DutyResult)) (i at : ℕ) → length cs ≤ i → got ++ reports (drop i cs) (drop at ends) ≡ reports cs ends → got ≡ reports cs ends
reports_over cs ends got i at l so = sym (append-nil got) ∙ ap (λ (x : List Ended). got ++ reports x (drop at ends)) (sym (drop_all i cs l)) ∙ so

pub next_within : (c : Ended) (at i next : ℕ) → at ≤ i → next ≡ next_place c at → next ≤ i + 1
next_within c at i next h turn = by c.aggregation turn where
  by : (o : Option Aggregation) → next ≡ next_by o at → next ≤ i + 1
  by None is = omega arith
  by (Some x) is = omega arith

-- ---- how votes ended

next_vote : (asked ends : List Ended) (i at next : ℕ) (c r : Ended) → i < length asked → c ≡ get_or asked i c → r ≡ end_by c.aggregation c (drop at ends) → next ≡ next_place c at
    → vote_ends (drop i asked) (drop at ends) ≡ r ∷ vote_ends (drop (i + 1) asked) (drop next ends)
next_vote asked ends i at next c r l is by turn =
    at_drop_more (λ x. vote_ends x (drop at ends)) asked i c l
    ∙ ap (λ (x : Ended). vote_ends (x ∷ drop (i + 1) asked) (drop at ends)) (sym is)
    ∙ ap (λ (x : Ended). x ∷ vote_ends (drop (i + 1) asked) (ends_after c.aggregation (drop at ends))) (sym by)
    ∙ ap (λ (x : List Ended). r ∷ vote_ends (drop (i + 1) asked) x) (after_place c.aggregation at ends ∙ ap (λ n. drop n ends) (sym turn))

pub votes_more : (asked ends got now : List Ended) (i at next : ℕ) (c r : Ended) → i < length asked → c ≡ get_or asked i c → r ≡ end_by c.aggregation c (drop at ends) → next ≡ next_place c at
    → now ≡ got ++ r ∷ [] → got ++ vote_ends (drop i asked) (drop at ends) ≡ vote_ends asked ends → now ++ vote_ends (drop (i + 1) asked) (drop next ends) ≡ vote_ends asked ends
votes_more asked ends got now i at next c r l is by turn pushed so =
    let rest : List Ended = vote_ends (drop (i + 1) asked) (drop next ends) in
    ap (λ (x : List Ended). x ++ rest) pushed ∙ append_assoc got (r ∷ []) rest ∙ ap (λ (x : List Ended). got ++ x) (sym (next_vote asked ends i at next c r l is by turn)) ∙ so
