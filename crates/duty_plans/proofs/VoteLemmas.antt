-- Which committees are asked what they are to vote, and what the ends of these questions are for each vote, up to a place.
use Rattle.std.proofs.Common.{◌≡◌, ℕ, ◌+◌, ◌<◌, Bool, true, false, List, [], ◌∷◌, ◌++◌, length, drop, take, get_or, append_assoc, refl, sym, ◌∙◌, ap, arith}
use Rattle.std.specs.Prelude.{◌==◌, ◌&&◌, ◌||◌, not, if◌then◌else◌, filter, map}
use Rattle.std.specs.List.{list_any}
use Rattle.std.proofs.lemmas.Bool.{eqb-true}
use Rattle.std.proofs.lemmas.Bool.Decides.{nat_tests}
use Rattle.std.proofs.lemmas.List.{at_drop_more, map-append, take_more}
use Rattle.node_calls.specs.declared.answer.AttesterRow.{AttesterRow}
use Rattle.duty_schedule.specs.declared.rows.Duty.{Duty}
use Rattle.duty_schedule.specs.declared.rows.Duty.TheVariants as duty
use Rattle.duty_plans.specs.declared.ended.Ended.{Ended}
use Rattle.duty_plans.specs.declared.task.Task.{Task}
use Rattle.duty_plans.specs.declared.task.Task.TheVariants as task
use Rattle.duty_plans.specs.Votes.{answer_of, asks_for, data_tasks, with_question}

-- ---- filters

filter_kept : {A : Type 0} (p : A → Bool) (x : A) (xs : List A) (b : Bool) → p x ≡ b → filter p (x ∷ xs) ≡ (if b then x ∷ filter p xs else filter p xs)
filter_kept p x xs b is = ap (λ (c : Bool). if c then x ∷ filter p xs else filter p xs) is

filter_both : {A : Type 0} (p q r : A → Bool) → ((x : A) → r x ≡ (q x && p x)) → (xs : List A) → filter p (filter q xs) ≡ filter r xs
filter_both p q r h [] = refl
filter_both {A} p q r h (x ∷ xs) = by_cases (q x) (p x) refl refl (filter_both p q r h xs) where
  by_cases : (a b : Bool) → q x ≡ a → p x ≡ b → filter p (filter q xs) ≡ filter r xs → filter p (filter q (x ∷ xs)) ≡ filter r (x ∷ xs)
  by_cases true true qx px more =
      ap (λ (l : List A). filter p l) (filter_kept q x xs true qx) ∙ filter_kept p x (filter q xs) true px ∙ ap (λ (l : List A). x ∷ l) more
      ∙ sym (filter_kept r x xs true (h x ∙ ap (λ (c : Bool). c && p x) qx ∙ px))
  by_cases true false qx px more =
      ap (λ (l : List A). filter p l) (filter_kept q x xs true qx) ∙ filter_kept p x (filter q xs) false px ∙ more
      ∙ sym (filter_kept r x xs false (h x ∙ ap (λ (c : Bool). c && p x) qx ∙ px))
  by_cases false b qx px more =
      ap (λ (l : List A). filter p l) (filter_kept q x xs false qx) ∙ more ∙ sym (filter_kept r x xs false (h x ∙ ap (λ (c : Bool). c && p x) qx))

filter_whole : {A : Type 0} (p : A → Bool) → ((x : A) → p x ≡ true) → (xs : List A) → filter p xs ≡ xs
filter_whole p h [] = refl
filter_whole {A} p h (x ∷ xs) = filter_kept p x xs true (h x) ∙ ap (λ (l : List A). x ∷ l) (filter_whole p h xs)

or_more : (a b c : Bool) → (a || (b || c)) ≡ ((a || b) || c)
or_more true b c = refl
or_more false b c = refl

or_last : (a : Bool) → (a || false) ≡ (false || a)
or_last true = refl
or_last false = refl

any_last : {A : Type 0} (p : A → Bool) (xs : List A) (y : A) → list_any p (xs ++ y ∷ []) ≡ (list_any p xs || p y)
any_last p [] y = or_last (p y)
any_last p (x ∷ xs) y = ap (λ (b : Bool). p x || b) (any_last p xs y) ∙ or_more (p x) (list_any p xs) (p y)

-- ---- questions

-- none of these questions is that
abbrev pub is_new : List Task → Task → Bool
is_new tasks (task.Data row) = not (list_any (asks_for row) tasks)
is_new tasks t = true

new_at_first : (t : Task) → is_new [] t ≡ true
new_at_first (task.Data row) = refl
new_at_first t = refl

same_asks : (a b : AttesterRow) → a.committee_index ≡ b.committee_index → (t : Task) → asks_for a t ≡ asks_for b t
same_asks a b e (task.Data asked) = ap (λ n. asked.committee_index == n) e
same_asks a b e t = refl

same_any : (a b : AttesterRow) → a.committee_index ≡ b.committee_index → (tasks : List Task) → list_any (asks_for a) tasks ≡ list_any (asks_for b) tasks
same_any a b e [] = refl
same_any a b e (t ∷ tasks) = ap (λ (x : Bool). x || list_any (asks_for a) tasks) (same_asks a b e t) ∙ ap (λ (x : Bool). asks_for b t || x) (same_any a b e tasks)

-- a committee that is asked is new no more
old_more : (tasks : List Task) (row : AttesterRow) → list_any (asks_for row) tasks ≡ true → (t : Task) → is_new tasks t ≡ (not (asks_for row t) && is_new tasks t)
old_more tasks row is (task.Data r) = by_cases (asks_for row (task.Data r)) refl where
  by_cases : (b : Bool) → asks_for row (task.Data r) ≡ b → is_new tasks (task.Data r) ≡ (not b && is_new tasks (task.Data r))
  by_cases true h = ap (λ (x : Bool). not x) (same_any r row (eqb-true r.committee_index row.committee_index h) tasks ∙ is)
  by_cases false h = refl
old_more tasks row is t = refl

not_both : (a b : Bool) → not (a || b) ≡ (not b && not a)
not_both true true = refl
not_both true false = refl
not_both false true = refl
not_both false false = refl

either_way : (a b : ℕ) → (a == b) ≡ (b == a)
either_way a b = grind (arith, nat_tests)

new_more : (tasks : List Task) (row : AttesterRow) (t : Task) → is_new (tasks ++ task.Data row ∷ []) t ≡ (not (asks_for row t) && is_new tasks t)
new_more tasks row (task.Data r) =
    ap (λ (x : Bool). not x) (any_last (asks_for r) tasks (task.Data row)) ∙ not_both (list_any (asks_for r) tasks) (asks_for r (task.Data row))
    ∙ ap (λ (x : Bool). not x && not (list_any (asks_for r) tasks)) (either_way row.committee_index r.committee_index)
new_more tasks row t = refl

with_one : (tasks : List Task) (d : Duty) (rest : List Duty) → with_question tasks d ++ filter (is_new (with_question tasks d)) (data_tasks rest) ≡ tasks ++ filter (is_new tasks) (data_tasks (d ∷ rest))
with_one tasks (duty.Block row) rest = refl
with_one tasks (duty.Vote row) rest = by_cases (list_any (asks_for row) tasks) refl where
  others : List Task
  others = filter (λ t. not (asks_for row t)) (data_tasks rest)

  by_cases : (b : Bool) → list_any (asks_for row) tasks ≡ b
      → (if b then tasks else tasks ++ task.Data row ∷ []) ++ filter (is_new (if b then tasks else tasks ++ task.Data row ∷ [])) (data_tasks rest) ≡ tasks ++ filter (is_new tasks) (task.Data row ∷ others)
  by_cases true is =
      ap (λ (l : List Task). tasks ++ l)
      (sym (filter_kept (is_new tasks) (task.Data row) others false (ap (λ (x : Bool). not x) is) ∙ filter_both (is_new tasks) (λ t. not (asks_for row t)) (is_new tasks) (old_more tasks row is) (data_tasks rest)))
  by_cases false is =
      let now : List Task = tasks ++ task.Data row ∷ [] in
      append_assoc tasks (task.Data row ∷ []) (filter (is_new now) (data_tasks rest))
      ∙ ap (λ (l : List Task). tasks ++ l)
      (sym (filter_kept (is_new tasks) (task.Data row) others true (ap (λ (x : Bool). not x) is)
      ∙ ap (λ (l : List Task). task.Data row ∷ l) (filter_both (is_new tasks) (λ t. not (asks_for row t)) (is_new now) (new_more tasks row) (data_tasks rest))))

pub asked_first : (ds : List Duty) → filter (is_new []) (data_tasks ds) ≡ data_tasks ds
asked_first ds = filter_whole (is_new []) new_at_first (data_tasks ds)

pub asked_more : (ds : List Duty) (tasks now : List Task) (i : ℕ) (x : Duty) → i < length ds → now ≡ with_question tasks (get_or ds i x)
    → tasks ++ filter (is_new tasks) (data_tasks (drop i ds)) ≡ data_tasks ds → now ++ filter (is_new now) (data_tasks (drop (i + 1) ds)) ≡ data_tasks ds
asked_more ds tasks now i x l by so =
    ap (λ (y : List Task). y ++ filter (is_new y) (data_tasks (drop (i + 1) ds))) by ∙ with_one tasks (get_or ds i x) (drop (i + 1) ds)
    ∙ sym (at_drop_more (λ y. tasks ++ filter (is_new tasks) (data_tasks y)) ds i x l) ∙ so

-- ---- answers

pub answers_more : (tasks : List Task) (ends : List Ended) (ds : List Duty) (got now : List Ended) (i : ℕ) (x : Duty) (e : Ended) → i < length ds → e ≡ answer_of tasks ends (get_or ds i x) → now ≡ got ++ e ∷ []
    → got ≡ map (answer_of tasks ends) (take i ds) → now ≡ map (answer_of tasks ends) (take (i + 1) ds)
answers_more tasks ends ds got now i x e l by pushed so =
    pushed ∙ ap (λ (y : List Ended). y ++ e ∷ []) so ∙ ap (λ (y : Ended). map (answer_of tasks ends) (take i ds) ++ y ∷ []) by
    ∙ sym (ap (λ (y : List Duty). map (answer_of tasks ends) y) (take_more ds i x l) ∙ map-append (answer_of tasks ends) (take i ds) (get_or ds i x ∷ []))
