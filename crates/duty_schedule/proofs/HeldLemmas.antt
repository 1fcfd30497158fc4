-- Which answer is held once another has come.
use Rattle.std.proofs.Common.{◌≡◌, ◌≢◌, ℕ, max, Bool, true, false, cond, List, [], ◌∷◌, ◌++◌, map, reverse, fold, take_while, filter_map, nat_eq, bytes_eq, Option, Some, None, refl, sym, ◌∙◌, ap, subst, eq-eqb, ne_eqb, append-nil}
use Rattle.std.specs.Cmp.Lexicographic.{pointwise}
use Rattle.std.specs.List.{cons_option, last_or}
use Rattle.std.proofs.lemmas.Bool.{and_from, and_parts, false≢true, false_from_ne_true}
use Rattle.std.proofs.lemmas.Grind.{fold-append}
use Rattle.std.proofs.lemmas.List.{map-append, reverse-append}
use Rattle.std.proofs.lemmas.List.Elements.{filter_map-append}
use Rattle.std.proofs.lemmas.List.Sums.{take_while-cons}
use Rattle.std.proofs.lemmas.Slice.Eq.{bytes_eq-Decides}
use Rattle.node_calls.specs.declared.answer.AttesterRow.{AttesterRow}
use Rattle.node_calls.specs.declared.answer.ProposerRow.{ProposerRow}
use Rattle.duty_schedule.specs.Answers.{TakenAnswer, attester_answers, attesters_of, held, newest_epoch, proposer_answers, proposers_of, run_of_last, same_basis}
use Rattle.duty_schedule.specs.Holding.{next_held}
use Rattle.duty_schedule.specs.declared.answer.Basis.{Basis}
use Rattle.duty_schedule.specs.declared.answer.DutyAnswer.{DutyAnswer}
use Rattle.duty_schedule.specs.declared.rows.DutyRows.{DutyRows}
use Rattle.duty_schedule.specs.declared.rows.DutyRows.TheVariants as kind

pub basis_is : (a b : Basis) → same_basis a b ≡ true → a ≡ b
basis_is a b e =
    let both = and_parts (bytes_eq a.dependent_root.0 b.dependent_root.0) (pointwise nat_eq a.asked b.asked) e in
    let root : a.dependent_root.0 ≡ b.dependent_root.0 = (bytes_eq-Decides a.dependent_root.0 b.dependent_root.0).0 both.0 in
    let asked : a.asked ≡ b.asked = (bytes_eq-Decides a.asked b.asked).0 both.1 in
    let with_asked : List ℕ → Basis = λ x. record { asked = x; dependent_root = a.dependent_root } in
    let with_root : List ℕ → Basis = λ x. record { asked = b.asked; dependent_root = record { 0 = x } } in
    ap with_asked asked ∙ ap with_root root

pub basis_itself : (a : Basis) → same_basis a a ≡ true
basis_itself a = and_from (bytes_eq a.dependent_root.0 a.dependent_root.0) (pointwise nat_eq a.asked a.asked) ((bytes_eq-Decides a.dependent_root.0 a.dependent_root.0).1 refl) ((bytes_eq-Decides a.asked a.asked).1 refl)

pub basis_apart : (a b : Basis) → a ≢ b → same_basis a b ≡ false
basis_apart a b apart = false_from_ne_true (same_basis a b) (λ e. apart (basis_is a b e))

pub next_same : {T : Type 0} (h a : DutyAnswer T) → h.basis ≡ a.basis → next_held (Some h) a ≡ h
next_same h a e = pick (same_basis h.basis a.basis) (subst (λ (b : Basis). same_basis h.basis b ≡ true) e (basis_itself h.basis)) where
  pick : (t : Bool) → t ≡ true → cond t h a ≡ h
  pick true d = refl
  pick false d = absurd (false≢true d)

pub next_apart : {T : Type 0} (h a : DutyAnswer T) → h.basis ≢ a.basis → next_held (Some h) a ≡ a
next_apart h a apart = pick (same_basis h.basis a.basis) (basis_apart h.basis a.basis apart) where
  pick : (t : Bool) → t ≡ false → cond t h a ≡ a
  pick true d = absurd (false≢true (sym d))
  pick false d = refl

-- the earliest of a run has the basis of its last
run_end : {T : Type 0} (basis : Basis) (last : DutyAnswer T) (earlier : List (DutyAnswer T)) → last.basis ≡ basis
    → (h : DutyAnswer T) × (last_or (Some last) (take_while (λ a. same_basis basis a.basis) earlier) ≡ Some h) × (h.basis ≡ basis)
run_end basis last [] e = (last, refl, e)
run_end {T} basis last (x ∷ earlier) e =
    let End : List (DutyAnswer T) → Type 0 = λ run. (h : DutyAnswer T) × (last_or (Some last) run ≡ Some h) × (h.basis ≡ basis) in
    subst End (sym (take_while-cons (λ a. same_basis basis a.basis) x earlier)) (at (same_basis basis x.basis) refl (run_end basis x earlier)) where
      at : (t : Bool) → same_basis basis x.basis ≡ t → (x.basis ≡ basis → (h : DutyAnswer T) × (last_or (Some x) (take_while (λ a. same_basis basis a.basis) earlier) ≡ Some h) × (h.basis ≡ basis))
          → (h : DutyAnswer T) × (last_or (Some last) (cond t (x ∷ take_while (λ a. same_basis basis a.basis) earlier) []) ≡ Some h) × (h.basis ≡ basis)
      at true same rest = rest (sym (basis_is basis x.basis same))
      at false differs rest = (last, refl, e)

-- with the last answers first
held_once_more : {T : Type 0} (a : DutyAnswer T) (back : List (DutyAnswer T)) → last_or (Some a) (take_while (λ x. same_basis a.basis x.basis) back) ≡ Some (next_held (last_or None (run_of_last back)) a)
held_once_more a [] = refl
held_once_more {T} a (last ∷ earlier) =
    ap (λ (run : List (DutyAnswer T)). last_or (Some a) run) (take_while-cons (λ x. same_basis a.basis x.basis) last earlier) ∙ at (same_basis a.basis last.basis) refl where
      was : (h : DutyAnswer T) × (last_or (Some last) (take_while (λ x. same_basis last.basis x.basis) earlier) ≡ Some h) × (h.basis ≡ last.basis)
      was = run_end last.basis last earlier refl

      at : (t : Bool) → same_basis a.basis last.basis ≡ t
          → last_or (Some a) (cond t (last ∷ take_while (λ x. same_basis a.basis x.basis) earlier) []) ≡ Some (next_held (last_or (Some last) (take_while (λ x. same_basis last.basis x.basis) earlier)) a)
      at true same =
          let e : a.basis ≡ last.basis = basis_is a.basis last.basis same in
          ap (λ (basis : Basis). last_or (Some last) (take_while (λ x. same_basis basis x.basis) earlier)) e
          ∙ was.1
          ∙ ap Some (sym (next_same was.0 a (was.2 ∙ sym e)))
          ∙ ap (λ (o : Option (DutyAnswer T)). Some (next_held o a)) (sym was.1)
      at false differs =
          let apart : was.0.basis ≢ a.basis = λ e. false≢true (sym differs ∙ subst (λ (b : Basis). same_basis a.basis b ≡ true) (sym e ∙ was.2) (basis_itself a.basis)) in
          ap Some (sym (next_apart was.0 a apart)) ∙ ap (λ (o : Option (DutyAnswer T)). Some (next_held o a)) (sym was.1)

pub held-append : {T : Type 0} (answers : List (DutyAnswer T)) (a : DutyAnswer T) → held (answers ++ a ∷ []) ≡ Some (next_held (held answers) a)
unfolding held
held-append {T} answers a = ap (λ (back : List (DutyAnswer T)). last_or None (run_of_last back)) (reverse-append answers (a ∷ [])) ∙ held_once_more a (reverse answers)

pub held_none : {T : Type 0} → held {T = T} [] ≡ None
unfolding held
held_none = refl

-- of no answers
pub newest_none : newest_epoch [] ≡ 0
unfolding newest_epoch
newest_none = refl

pub proposers_none : (epoch : ℕ) → held (proposer_answers epoch []) ≡ None
unfolding held proposer_answers
proposers_none epoch = refl

pub attesters_none : (epoch : ℕ) → held (attester_answers epoch []) ≡ None
unfolding held attester_answers
attesters_none epoch = refl

pub newest-append : (answers : List TakenAnswer) (a : TakenAnswer) → newest_epoch (answers ++ a ∷ []) ≡ max (newest_epoch answers) a.epoch
unfolding newest_epoch
newest-append answers a =
    ap (λ (epochs : List ℕ). fold max 0 epochs) (map-append (λ (x : TakenAnswer). x.epoch) answers (a ∷ [])) ∙ fold-append max 0 (map (λ (x : TakenAnswer). x.epoch) answers) (a.epoch ∷ [])

one_more : {X Y : Type 0} (h : X → Option Y) (xs : List X) (x : X) (y : Y) → h x ≡ Some y → filter_map h (xs ++ x ∷ []) ≡ filter_map h xs ++ y ∷ []
one_more {X} {Y} h xs x y e = filter_map-append h xs (x ∷ []) ∙ ap (λ (o : Option Y). filter_map h xs ++ cons_option o []) e

none_more : {X Y : Type 0} (h : X → Option Y) (xs : List X) (x : X) → h x ≡ None → filter_map h (xs ++ x ∷ []) ≡ filter_map h xs
none_more {X} {Y} h xs x e = filter_map-append h xs (x ∷ []) ∙ ap (λ (o : Option Y). filter_map h xs ++ cons_option o []) e ∙ append-nil (filter_map h xs)

same_either_way : {Y : Type 0} (b : Bool) (o : Option Y) → cond b o o ≡ o
same_either_way true o = refl
same_either_way false o = refl

abbrev pub answer_at : ℕ → Basis → DutyRows → TakenAnswer
answer_at epoch basis rows = record { epoch = epoch; basis = basis; rows = rows }

abbrev pub one_kind : {T : Type 0} → Basis → List T → DutyAnswer T
one_kind basis rows = record { basis = basis; rows = rows }

module _ (answers : List TakenAnswer) (epoch : ℕ) (basis : Basis) where
  pub proposers_here : (rows : List ProposerRow) → proposer_answers epoch (answers ++ answer_at epoch basis (kind.Proposer rows) ∷ []) ≡ proposer_answers epoch answers ++ one_kind basis rows ∷ []
  unfolding proposer_answers
  proposers_here rows = one_more (proposers_of epoch) answers (answer_at epoch basis (kind.Proposer rows)) (one_kind basis rows) (ap (λ (b : Bool). cond b (Some (one_kind basis rows)) None) (eq-eqb epoch epoch refl))

  pub proposers_elsewhere : (rows : List ProposerRow) (other : ℕ) → other ≢ epoch → proposer_answers other (answers ++ answer_at epoch basis (kind.Proposer rows) ∷ []) ≡ proposer_answers other answers
  unfolding proposer_answers
  proposers_elsewhere rows other apart =
      none_more (proposers_of other) answers (answer_at epoch basis (kind.Proposer rows)) (ap (λ (b : Bool). cond b (Some (one_kind basis rows)) None) (ne_eqb epoch other (λ e. apart (sym e))))

  pub proposers_of_attesters : (rows : List AttesterRow) (other : ℕ) → proposer_answers other (answers ++ answer_at epoch basis (kind.Attester rows) ∷ []) ≡ proposer_answers other answers
  unfolding proposer_answers
  proposers_of_attesters rows other = none_more (proposers_of other) answers (answer_at epoch basis (kind.Attester rows)) (same_either_way (nat_eq epoch other) None)

  pub attesters_here : (rows : List AttesterRow) → attester_answers epoch (answers ++ answer_at epoch basis (kind.Attester rows) ∷ []) ≡ attester_answers epoch answers ++ one_kind basis rows ∷ []
  unfolding attester_answers
  attesters_here rows = one_more (attesters_of epoch) answers (answer_at epoch basis (kind.Attester rows)) (one_kind basis rows) (ap (λ (b : Bool). cond b (Some (one_kind basis rows)) None) (eq-eqb epoch epoch refl))

  pub attesters_elsewhere : (rows : List AttesterRow) (other : ℕ) → other ≢ epoch → attester_answers other (answers ++ answer_at epoch basis (kind.Attester rows) ∷ []) ≡ attester_answers other answers
  unfolding attester_answers
  attesters_elsewhere rows other apart =
      none_more (attesters_of other) answers (answer_at epoch basis (kind.Attester rows)) (ap (λ (b : Bool). cond b (Some (one_kind basis rows)) None) (ne_eqb epoch other (λ e. apart (sym e))))

  pub attesters_of_proposers : (rows : List ProposerRow) (other : ℕ) → attester_answers other (answers ++ answer_at epoch basis (kind.Proposer rows) ∷ []) ≡ attester_answers other answers
  unfolding attester_answers
  attesters_of_proposers rows other = none_more (attesters_of other) answers (answer_at epoch basis (kind.Proposer rows)) (same_either_way (nat_eq epoch other) None)
