-- What one answer more changes of what is due.
use Rattle.std.proofs.Common.{◌≡◌, ◌≢◌, ◌⊎◌, ◌↔◌, ℕ, ◌+◌, ◌/◌, ◌<◌, ◌≤◌, max, Bool, true, cond, List, [], ◌∷◌, ◌++◌, map, fold, filter_map, nat_le, option_map, Option, Some, None, inl, inr, refl, sym, ◌∙◌, ap, subst, arith, le-leb, leb-true, ne_eqb}
use Rattle.std.specs.List.{cons_option}
use Rattle.std.proofs.lemmas.Bool.{cases_eq, cases_lt}
use Rattle.edge_kit.specs.declared.bytes.PubKey.{PubKey}
use Rattle.node_calls.specs.declared.answer.AttesterRow.{AttesterRow}
use Rattle.node_calls.specs.declared.answer.ProposerRow.{ProposerRow}
use Rattle.duty_schedule.specs.Answers.{TakenAnswer, attester_answers, attesters_of, held, held_basis, if_attesters, if_proposers, is_kept, newest_epoch, proposer_answers, proposers_of}
use Rattle.duty_schedule.specs.Due.{AreDueBlocks, AreDueVotes, IsDue, kept_attesters, kept_proposers, rows_of}
use Rattle.duty_schedule.specs.Holding.{next_held}
use Rattle.duty_schedule.specs.Law.{Replaces}
use Rattle.duty_schedule.specs.declared.answer.Basis.{Basis}
use Rattle.duty_schedule.specs.declared.answer.DutyAnswer.{DutyAnswer}
use Rattle.duty_schedule.specs.declared.rows.Duty.{Duty}
use Rattle.duty_schedule.specs.declared.rows.Duty.TheVariants as duty
use Rattle.duty_schedule.specs.declared.rows.DutyRows.{DutyRows}
use Rattle.duty_schedule.specs.declared.rows.DutyRows.TheVariants as kind
use Rattle.duty_schedule.proofs.HeldLemmas.{answer_at, attesters_elsewhere, attesters_here, attesters_of_proposers, held-append, held_none, newest-append, next_apart, next_same, one_kind, proposers_elsewhere, proposers_here, proposers_of_attesters}
use Rattle.duty_schedule.proofs.OrderLemmas.{by_key_once}

none_some : {X A : Type 0} (x : X) → None ≡ Some x → A
none_some x e = cc

some_same : {X : Type 0} (x y : X) → Some x ≡ Some y → x ≡ y
some_same x y e = cc

held_of_basis : {T : Type 0} (o : Option (DutyAnswer T)) (basis : Basis) → option_map (λ a. a.basis) o ≡ Some basis → (h : DutyAnswer T) × (o ≡ Some h) × (h.basis ≡ basis)
held_of_basis None basis e = none_some basis e
held_of_basis (Some h) basis e = (h, refl, some_same h.basis basis e)

-- one list is due
both_once : (b d : List ProposerRow) (v w : List AttesterRow) (one two : List Duty) → b ≡ d → v ≡ w → one ≡ map duty.Block b ++ map duty.Vote v → two ≡ map duty.Block d ++ map duty.Vote w → one ≡ two
both_once b d v w one two blocks votes first second =
    first
    ∙ ap (λ (x : List ProposerRow). map duty.Block x ++ map duty.Vote v) blocks
    ∙ ap (λ (x : List AttesterRow). map duty.Block d ++ map duty.Vote x) votes
    ∙ sym second

pub due_once : (answers : List TakenAnswer) (slot : ℕ) (active : List PubKey) (one two : List Duty) → IsDue answers slot active one → IsDue answers slot active two → one ≡ two
due_once answers slot active one two a b =
    both_once a.blocks b.blocks a.votes b.votes one two (by_key_once (λ row. row.pubkey) _ a.blocks b.blocks a.are_blocks b.are_blocks) (by_key_once (λ row. row.pubkey) _ a.votes b.votes a.are_votes b.are_votes) a.are_both b.are_both

-- the epoch of an answer that comes is as new as before
kept_still : (answers : List TakenAnswer) (a : TakenAnswer) → is_kept answers a.epoch ≡ true → is_kept (answers ++ a ∷ []) a.epoch ≡ true
kept_still answers a kept =
    let within : newest_epoch answers ≤ a.epoch + 1 = leb-true (newest_epoch answers) (a.epoch + 1) kept in
    ap (λ (n : ℕ). nat_le n (a.epoch + 1)) (newest-append answers a) ∙ le-leb (max (newest_epoch answers) a.epoch) (a.epoch + 1) (omega arith)

module _ (answers : List TakenAnswer) (epoch slot : ℕ) (basis held_on : Basis) (kept : is_kept answers epoch ≡ true) (apart : held_on ≢ basis) (there : slot / 32 ≡ epoch) where
  replaced : {T : Type 0} (rows : List T) (h : DutyAnswer T) (before : Option (DutyAnswer T)) → before ≡ Some h → h.basis ≡ held_on → Some (next_held before (one_kind basis rows)) ≡ Some (one_kind basis rows)
  replaced {T} rows h before is on_it =
      ap (λ (o : Option (DutyAnswer T)). Some (next_held o (one_kind basis rows))) is ∙ ap Some (next_apart h (one_kind basis rows) (λ e. apart (sym on_it ∙ e)))

  proposers_replaced : (rows : List ProposerRow) → held_basis answers epoch (kind.Proposer rows) ≡ Some held_on → kept_proposers (answers ++ answer_at epoch basis (kind.Proposer rows) ∷ []) slot ≡ rows
  unfolding kept_proposers
  proposers_replaced rows is =
      let new : List TakenAnswer = answers ++ answer_at epoch basis (kind.Proposer rows) ∷ [] in
      let h = held_of_basis (held (proposer_answers epoch answers)) held_on is in
      let now : held (proposer_answers epoch new) ≡ Some (one_kind basis rows) =
      ap (λ (l : List (DutyAnswer ProposerRow)). held l) (proposers_here answers epoch basis rows) ∙ held-append (proposer_answers epoch answers) (one_kind basis rows) ∙ replaced rows h.0 (held (proposer_answers epoch answers)) h.1 h.2
      in
      ap (λ (e : ℕ). cond (is_kept new e) (rows_of (held (proposer_answers e new))) []) there
      ∙ ap (λ (b : Bool). cond b (rows_of (held (proposer_answers epoch new))) []) (kept_still answers (answer_at epoch basis (kind.Proposer rows)) kept)
      ∙ ap (λ (o : Option (DutyAnswer ProposerRow)). rows_of o) now

  attesters_replaced : (rows : List AttesterRow) → held_basis answers epoch (kind.Attester rows) ≡ Some held_on → kept_attesters (answers ++ answer_at epoch basis (kind.Attester rows) ∷ []) slot ≡ rows
  unfolding kept_attesters
  attesters_replaced rows is =
      let new : List TakenAnswer = answers ++ answer_at epoch basis (kind.Attester rows) ∷ [] in
      let h = held_of_basis (held (attester_answers epoch answers)) held_on is in
      let now : held (attester_answers epoch new) ≡ Some (one_kind basis rows) =
      ap (λ (l : List (DutyAnswer AttesterRow)). held l) (attesters_here answers epoch basis rows) ∙ held-append (attester_answers epoch answers) (one_kind basis rows) ∙ replaced rows h.0 (held (attester_answers epoch answers)) h.1 h.2
      in
      ap (λ (e : ℕ). cond (is_kept new e) (rows_of (held (attester_answers e new))) []) there
      ∙ ap (λ (b : Bool). cond b (rows_of (held (attester_answers epoch new))) []) (kept_still answers (answer_at epoch basis (kind.Attester rows)) kept)
      ∙ ap (λ (o : Option (DutyAnswer AttesterRow)). rows_of o) now

replaces_at : (answers : List TakenAnswer) (epoch : ℕ) (basis : Basis) (rows : DutyRows) (held_on : Basis) → is_kept answers epoch ≡ true → held_basis answers epoch rows ≡ Some held_on → held_on ≢ basis
    → Replaces answers (answer_at epoch basis rows)
replaces_at answers epoch basis (kind.Proposer rows) held_on kept is apart = λ slot active duties there due.
    let P : List ProposerRow → Type 0 = λ l. AreDueBlocks slot active l due.blocks in subst P (proposers_replaced answers epoch slot basis held_on kept apart there rows is) due.are_blocks
replaces_at answers epoch basis (kind.Attester rows) held_on kept is apart = λ slot active duties there due.
    let P : List AttesterRow → Type 0 = λ l. AreDueVotes slot active l due.votes in subst P (attesters_replaced answers epoch slot basis held_on kept apart there rows is) due.are_votes

pub replaces : (answers : List TakenAnswer) (a : TakenAnswer) (held_on : Basis) → is_kept answers a.epoch ≡ true → held_basis answers a.epoch a.rows ≡ Some held_on → held_on ≢ a.basis → Replaces answers a
replaces answers a held_on kept is apart = replaces_at answers a.epoch a.basis a.rows held_on kept is apart

-- no answer of a kind and epoch is held that is newer than the newest
least_fold : (n : ℕ) (xs : List ℕ) → n ≤ fold max n xs
least_fold n [] = omega arith
least_fold n (x ∷ xs) = let rest = least_fold (max n x) xs in omega (arith, rest)

past_none : {Y : Type 0} (h : TakenAnswer → Option Y) (epoch : ℕ) → ((a : TakenAnswer) → a.epoch ≢ epoch → h a ≡ None) → (answers : List TakenAnswer) (n : ℕ) → fold max n (map (λ a. a.epoch) answers) < epoch → filter_map h answers ≡ []
past_none h epoch skips [] n past = refl
past_none {Y} h epoch skips (a ∷ answers) n past =
    let least = least_fold (max n a.epoch) (map (λ (x : TakenAnswer). x.epoch) answers) in
    let apart : a.epoch ≢ epoch = λ e. omega (arith, least, past) in
    ap (λ (o : Option Y). cons_option o (filter_map h answers)) (skips a apart) ∙ past_none h epoch skips answers (max n a.epoch) past

proposers_skipped : (epoch : ℕ) (a : TakenAnswer) → a.epoch ≢ epoch → proposers_of epoch a ≡ None
proposers_skipped epoch a apart = ap (λ (b : Bool). cond b (if_proposers a.basis a.rows) None) (ne_eqb a.epoch epoch apart)

attesters_skipped : (epoch : ℕ) (a : TakenAnswer) → a.epoch ≢ epoch → attesters_of epoch a ≡ None
attesters_skipped epoch a apart = ap (λ (b : Bool). cond b (if_attesters a.basis a.rows) None) (ne_eqb a.epoch epoch apart)

proposers_past : (answers : List TakenAnswer) (epoch : ℕ) → newest_epoch answers < epoch → proposer_answers epoch answers ≡ []
unfolding newest_epoch proposer_answers
proposers_past answers epoch past = past_none (proposers_of epoch) epoch (proposers_skipped epoch) answers 0 past

attesters_past : (answers : List TakenAnswer) (epoch : ℕ) → newest_epoch answers < epoch → attester_answers epoch answers ≡ []
unfolding newest_epoch attester_answers
attesters_past answers epoch past = past_none (attesters_of epoch) epoch (attesters_skipped epoch) answers 0 past

held_in : {T : Type 0} (found : List (DutyAnswer T)) (h : DutyAnswer T) (newest epoch : ℕ) → held found ≡ Some h → (newest < epoch → found ≡ []) → epoch ≤ newest
held_in {T} found h newest epoch is none = at (cases_lt newest epoch) where
  at : (newest < epoch) ⊎ (epoch ≤ newest) → epoch ≤ newest
  at (inl past) = none_some h (sym held_none ∙ ap (λ (l : List (DutyAnswer T)). held l) (sym (none past)) ∙ is)
  at (inr within) = within

newest_same : (answers : List TakenAnswer) (a : TakenAnswer) → a.epoch ≤ newest_epoch answers → newest_epoch (answers ++ a ∷ []) ≡ newest_epoch answers
newest_same answers a within = let same : max (newest_epoch answers) a.epoch ≡ newest_epoch answers = omega arith in newest-append answers a ∙ same

-- an answer that rests on the same as what is held changes nothing
same_held : {T : Type 0} (before after : List (DutyAnswer T)) (h a : DutyAnswer T) → held before ≡ Some h → h.basis ≡ a.basis → after ≡ before ++ a ∷ [] → held after ≡ held before
same_held {T} before after h a is on_it more =
    ap (λ (l : List (DutyAnswer T)). held l) more ∙ held-append before a ∙ ap (λ (o : Option (DutyAnswer T)). Some (next_held o a)) is ∙ ap Some (next_same h a on_it) ∙ sym is

module _ (answers new : List TakenAnswer) (slot : ℕ) (newest : newest_epoch new ≡ newest_epoch answers) where
  proposers_kept : ((epoch : ℕ) → held (proposer_answers epoch new) ≡ held (proposer_answers epoch answers)) → kept_proposers new slot ≡ kept_proposers answers slot
  unfolding kept_proposers
  proposers_kept same =
      ap (λ (n : ℕ). cond (nat_le n (slot / 32 + 1)) (rows_of (held (proposer_answers (slot / 32) new))) []) newest ∙ ap (λ (o : Option (DutyAnswer ProposerRow)). cond (is_kept answers (slot / 32)) (rows_of o) []) (same (slot / 32))

  attesters_kept : ((epoch : ℕ) → held (attester_answers epoch new) ≡ held (attester_answers epoch answers)) → kept_attesters new slot ≡ kept_attesters answers slot
  unfolding kept_attesters
  attesters_kept same =
      ap (λ (n : ℕ). cond (nat_le n (slot / 32 + 1)) (rows_of (held (attester_answers (slot / 32) new))) []) newest ∙ ap (λ (o : Option (DutyAnswer AttesterRow)). cond (is_kept answers (slot / 32)) (rows_of o) []) (same (slot / 32))

due_through : (answers new : List TakenAnswer) (slot : ℕ) (active : List PubKey) (duties : List Duty) → kept_proposers new slot ≡ kept_proposers answers slot → kept_attesters new slot ≡ kept_attesters answers slot
    → IsDue new slot active duties → IsDue answers slot active duties
due_through answers new slot active duties proposers attesters due =
    let P : List ProposerRow → Type 0 = λ l. AreDueBlocks slot active l due.blocks in
    let A : List AttesterRow → Type 0 = λ l. AreDueVotes slot active l due.votes in
    record { blocks = due.blocks; votes = due.votes; are_blocks = subst P proposers due.are_blocks; are_votes = subst A attesters due.are_votes; are_both = due.are_both }

abbrev ChangesNothing : List TakenAnswer → TakenAnswer → Type 0
ChangesNothing answers a = (slot : ℕ) (active : List PubKey) (duties : List Duty) → IsDue (answers ++ a ∷ []) slot active duties ↔ IsDue answers slot active duties

nothing_changes : (answers : List TakenAnswer) (a : TakenAnswer) → newest_epoch (answers ++ a ∷ []) ≡ newest_epoch answers
    → ((epoch : ℕ) → held (proposer_answers epoch (answers ++ a ∷ [])) ≡ held (proposer_answers epoch answers))
    → ((epoch : ℕ) → held (attester_answers epoch (answers ++ a ∷ [])) ≡ held (attester_answers epoch answers)) → ChangesNothing answers a
nothing_changes answers a newest proposers attesters = λ slot active duties.
    let blocks = proposers_kept answers (answers ++ a ∷ []) slot newest proposers in
    let votes = attesters_kept answers (answers ++ a ∷ []) slot newest attesters in
    (due_through answers (answers ++ a ∷ []) slot active duties blocks votes, due_through (answers ++ a ∷ []) answers slot active duties (sym blocks) (sym votes))

at_epoch : (P : ℕ → Type 0) (epoch : ℕ) → P epoch → ((other : ℕ) → other ≢ epoch → P other) → (other : ℕ) → P other
at_epoch P epoch here elsewhere other = at (cases_eq other epoch) where
  at : (other ≡ epoch) ⊎ (other ≡ epoch → ⊥) → P other
  at (inl e) = subst P (sym e) here
  at (inr apart) = elsewhere other apart

same_at : (answers : List TakenAnswer) (epoch : ℕ) (basis : Basis) (rows : DutyRows) → held_basis answers epoch rows ≡ Some basis → ChangesNothing answers (answer_at epoch basis rows)
same_at answers epoch basis (kind.Proposer rows) is =
    let a : TakenAnswer = answer_at epoch basis (kind.Proposer rows) in
    let h = held_of_basis (held (proposer_answers epoch answers)) basis is in
    let within : epoch ≤ newest_epoch answers = held_in (proposer_answers epoch answers) h.0 (newest_epoch answers) epoch h.1 (proposers_past answers epoch) in
    let P : ℕ → Type 0 = λ n. held (proposer_answers n (answers ++ a ∷ [])) ≡ held (proposer_answers n answers) in
    let here : P epoch = same_held (proposer_answers epoch answers) (proposer_answers epoch (answers ++ a ∷ [])) h.0 (one_kind basis rows) h.1 h.2 (proposers_here answers epoch basis rows) in
    nothing_changes answers a (newest_same answers a within) (at_epoch P epoch here (λ other apart. ap (λ (l : List (DutyAnswer ProposerRow)). held l) (proposers_elsewhere answers epoch basis rows other apart)))
    (λ other. ap (λ (l : List (DutyAnswer AttesterRow)). held l) (attesters_of_proposers answers epoch basis rows other))
same_at answers epoch basis (kind.Attester rows) is =
    let a : TakenAnswer = answer_at epoch basis (kind.Attester rows) in
    let h = held_of_basis (held (attester_answers epoch answers)) basis is in
    let within : epoch ≤ newest_epoch answers = held_in (attester_answers epoch answers) h.0 (newest_epoch answers) epoch h.1 (attesters_past answers epoch) in
    let P : ℕ → Type 0 = λ n. held (attester_answers n (answers ++ a ∷ [])) ≡ held (attester_answers n answers) in
    let here : P epoch = same_held (attester_answers epoch answers) (attester_answers epoch (answers ++ a ∷ [])) h.0 (one_kind basis rows) h.1 h.2 (attesters_here answers epoch basis rows) in
    nothing_changes answers a (newest_same answers a within) (λ other. ap (λ (l : List (DutyAnswer ProposerRow)). held l) (proposers_of_attesters answers epoch basis rows other))
    (at_epoch P epoch here (λ other apart. ap (λ (l : List (DutyAnswer AttesterRow)). held l) (attesters_elsewhere answers epoch basis rows other apart)))

pub changes_nothing : (answers : List TakenAnswer) (a : TakenAnswer) → held_basis answers a.epoch a.rows ≡ Some a.basis → ChangesNothing answers a
changes_nothing answers a is = same_at answers a.epoch a.basis a.rows is
