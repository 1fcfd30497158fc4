-- What an exported book does not refuse the record lets pass, and the converse where the record is exported exactly.
use Rattle.std.proofs.Common.{◌≡◌, ◌≢◌, ℕ, ◌<◌, ◌≤◌, max, ◌⊎◌, inl, inr, ◌==◌, ◌&&◌, nat_le, Bool, true, false, cond, List, [], ◌∷◌, Option, Some, None, refl, sym, ◌∙◌, ap, subst, arith, Contains, IfSome, IsSomeAnd, IsSome}
use Rattle.std.specs.List.{list_all, list_any}
use Rattle.std.proofs.lemmas.Bool.{cases_lt, and_parts, leb-true, eqb-true}
use Rattle.std.proofs.lemmas.List.Elements.{All-contains}
use Rattle.std.proofs.lemmas.List.Sums.{AllPass-from_list_all}
use Rattle.std.proofs.lemmas.List.Folds.{Any-from_list_any}
use Rattle.edge_kit.specs.declared.bytes.Root.{Root}
use Rattle.slash_defs.specs.declared.message.Message.{Message}
use Rattle.slash_defs.specs.declared.message.Message.TheVariants as message
use Rattle.slash_defs.specs.declared.entry.BlockEntry.{BlockEntry}
use Rattle.slash_defs.specs.declared.entry.VoteEntry.{VoteEntry}
use Rattle.slash_defs.specs.declared.entry.Entry.TheVariants as entry
use Rattle.slash_defs.specs.declared.book.Book.{Book}
use Rattle.slash_defs.specs.Slashing.{Conflict}
use Rattle.protect_record.specs.Parts.{Parts}
use Rattle.protect_record.specs.Pasts.{Past}
use Rattle.protect_record.specs.Passing.{Passes, BookRefuses}
use Rattle.protect_record.specs.Floors.{greater_pair, greatest_pair_by, epochs}
use Rattle.protect_record.specs.Standing.{Stands}
use Rattle.protect_record.specs.Verdicts.{ConflictsWith, Clashes, NoneClashes, IsOverFloors}
use Rattle.protect_record.specs.Exporting.{greatest_epochs, is_regular_at, IsRegular, vote_without_root, exported_votes, export_of, IsExportedExactly}
use Rattle.protect_record.specs.declared.clash.Clash.{Clash}
use Rattle.protect_record.specs.declared.clash.Clash.TheVariants as clash
use Rattle.protect_record.specs.declared.verdict.Verdict.TheVariants as verdict
use Rattle.protect_record.proofs.MemberLemmas.{All-from_contains, contains_cases, contains_none}
use Rattle.protect_record.proofs.FloorLemmas.{floor_set}
use Rattle.protect_record.proofs.BlockLemmas.{block_passes, block_passed, same_root, refused_block, floor_of}
use Rattle.protect_record.proofs.VoteLemmas.{vote_passes, vote_passed, refused, same_number}

-- ---- blocks

-- a record with a block floor keeps a block there
kept_at_floor : (parts : Parts) (past : Past) (f : ℕ) → Stands parts past → parts.floors.block ≡ Some f → (e : BlockEntry) × Contains parts.blocks e × (e.slot ≡ f)
kept_at_floor parts past f stands is =
    let set = floor_set (λ c. c.blocks) (λ e. e.slot) past.books f (sym (floor_of parts past stands) ∙ is) in
    let e = set.3.0 in
    let P : Option ℕ → Type 0 = λ o. ¬ (IsSomeAnd o (λ floor. e.slot < floor)) in
    let live : P (Some f) = λ below. omega (arith, below, set.3.2) in
    (e, (stands.blocks e).1 (inl (set.0, set.1, set.3.1), subst P (sym is) live), set.3.2)

-- and no block below it
kept_above : (parts : Parts) (past : Past) (f : ℕ) → Stands parts past → parts.floors.block ≡ Some f → (e : BlockEntry) → Contains parts.blocks e → f ≤ e.slot
kept_above parts past f stands is e has = at (cases_lt e.slot f) where
  dead : e.slot < f → IsSomeAnd parts.floors.block (λ floor. e.slot < floor)
  dead lt = let P : Option ℕ → Type 0 = λ o. IsSomeAnd o (λ floor. e.slot < floor) in let here : P (Some f) = lt in subst P (sym is) here

  at : (e.slot < f) ⊎ (f ≤ e.slot) → f ≤ e.slot
  at (inl lt) = absurd (((stands.blocks e).0 has).1 (dead lt))
  at (inr le) = le

block_no_more : (parts : Parts) (past : Past) (slot : ℕ) (root : Root) → Stands parts past → ¬ (BookRefuses (export_of parts) (message.Block slot root)) → Passes past (message.Block slot root)
block_no_more parts past slot root stands fresh = block_passes parts past slot root stands (over parts.floors.block refl, All-from_contains (λ e. ¬ (ConflictsWith slot root e)) parts.blocks (λ e has conflict. fresh (inl (e, has, conflict)))) where
  high : (f : ℕ) → parts.floors.block ≡ Some f → (slot < f) ⊎ (f ≤ slot) → f ≤ slot
  high f is (inr le) = le
  high f is (inl lt) =
      let one = kept_at_floor parts past f stands is in
      absurd (fresh (inr (
        (λ none. contains_none one.0 (subst (λ (xs : List BlockEntry). Contains xs one.0) none one.1)),
        All-from_contains (λ e. slot ≤ e.slot) parts.blocks (λ e has. let up = kept_above parts past f stands is e has in omega (arith, up)),
        λ same. let up = kept_above parts past f stands is same.0 same.1 in omega (arith, up, same.2.0),
      )))

  over : (o : Option ℕ) → parts.floors.block ≡ o → IfSome o (λ f. f ≤ slot)
  over None is = tt
  over (Some f) is = high f is (cases_lt slot f)

-- what a passing block is known to meet
block_over : (parts : Parts) (past : Past) (slot : ℕ) (root : Root) (f : ℕ) → Stands parts past → Passes past (message.Block slot root) → parts.floors.block ≡ Some f → f ≤ slot
block_over parts past slot root f stands passes is = at (cases_lt slot f) where
  at : (slot < f) ⊎ (f ≤ slot) → f ≤ slot
  at (inr le) = le
  at (inl lt) = let no = block_passed parts past slot root stands passes (verdict.SlotBelow f) (is, lt) in cc

block_no_less : (parts : Parts) (past : Past) (slot : ℕ) (root : Root) → Stands parts past → IsSome parts.floors.block ⊎ (parts.blocks ≡ []) → Passes past (message.Block slot root)
    → ¬ (BookRefuses (export_of parts) (message.Block slot root))
block_no_less parts past slot root stands exact passes (inl conflict) = refused_block past slot root conflict.0 passes conflict.2 ((stands.blocks conflict.0).0 conflict.1).0
block_no_less parts past slot root stands (inr none) passes (inr low) = low.0 none
block_no_less parts past slot root stands (inl some) passes (inr low) = at parts.floors.block refl some where
  at : (o : Option ℕ) → parts.floors.block ≡ o → IsSome o → ⊥
  at None is nothing = cc
  at (Some f) is found =
      let one = kept_at_floor parts past f stands is in
      let over = block_over parts past slot root f stands passes is in
      let under : slot ≤ one.0.slot = All-contains (λ e. slot ≤ e.slot) parts.blocks one.0 low.1 one.1 in
      let same : one.0.slot ≡ slot = omega (arith, over, under, one.2) in
      low.2 (one.0, one.1, (same, same_root one.0.root root (λ d. refused_block past slot root one.0 passes (same, d) ((stands.blocks one.0).0 one.1).0)))

-- ---- votes

-- no clash where the book, which has all kept votes, does not refuse
free_of : (votes : List VoteEntry) (b : Book) (s t : ℕ) (root : Root) → b.votes ≡ votes → ¬ (BookRefuses b (message.Vote s t root)) → (kind : Clash) → NoneClashes kind s t root votes
free_of votes b s t root same fresh kind = All-from_contains (λ e. ¬ (Clashes kind s t root e)) votes (λ e has. clash_of kind e (subst (λ (xs : List VoteEntry). Contains xs e) (sym same) has)) where
  clash_of : (kind : Clash) (e : VoteEntry) → Contains b.votes e → ¬ (Clashes kind s t root e)
  clash_of clash.Double e has h = fresh (inl (e, has, inl h))
  clash_of clash.Surrounds e has h = fresh (inl (e, has, inr (inr h)))
  clash_of clash.Surrounded e has h = fresh (inl (e, has, inr (inl h)))

-- what regular means
record RegularAt (floor : ℕ × ℕ) (votes : List VoteEntry) : Type 0 where
  over : (e : VoteEntry) → Contains votes e → (floor.0 ≤ e.source) × (floor.1 ≤ e.target)
  source : (e : VoteEntry) × Contains votes e × (e.source ≡ floor.0)
  target : (e : VoteEntry) × Contains votes e × (e.target ≡ floor.1)

regular_at : (floor : ℕ × ℕ) (votes : List VoteEntry) → is_regular_at floor votes ≡ true → RegularAt floor votes
regular_at floor votes is =
    let outer = and_parts (list_all (λ e. nat_le floor.0 e.source && nat_le floor.1 e.target) votes && list_any (λ e. e.source == floor.0) votes) (list_any (λ e. e.target == floor.1) votes) is in
    let inner = and_parts (list_all (λ e. nat_le floor.0 e.source && nat_le floor.1 e.target) votes) (list_any (λ e. e.source == floor.0) votes) outer.0 in
    let from = Any-from_list_any (λ e. e.source == floor.0) votes inner.1 in
    let to = Any-from_list_any (λ e. e.target == floor.1) votes outer.1 in record {
      over = λ e has. parts_of e (All-contains (λ x. (nat_le floor.0 x.source && nat_le floor.1 x.target) ≡ true) votes e (AllPass-from_list_all (λ x. nat_le floor.0 x.source && nat_le floor.1 x.target) votes inner.0) has);
      source = (from.1, (from.0, from.2, from.3), eqb-true from.1.source floor.0 from.4);
      target = (to.1, (to.0, to.2, to.3), eqb-true to.1.target floor.1 to.4);
    } where
      parts_of : (e : VoteEntry) → (nat_le floor.0 e.source && nat_le floor.1 e.target) ≡ true → (floor.0 ≤ e.source) × (floor.1 ≤ e.target)
      parts_of e h = let p = and_parts (nat_le floor.0 e.source) (nat_le floor.1 e.target) h in (leb-true floor.0 e.source p.0, leb-true floor.1 e.target p.1)

-- the greatest epochs are at least each vote's
votes_below : (votes : List VoteEntry) (e : VoteEntry) → Contains votes e → (q : ℕ × ℕ) × (greatest_pair_by (λ x. Some (epochs x)) votes ≡ Some q) × (e.source ≤ q.0) × (e.target ≤ q.1)
votes_below [] e has = contains_none e has
votes_below (v ∷ vs) e has = at (λ later. votes_below vs e later) (contains_cases v vs e has) where
  here : (r : Option (ℕ × ℕ)) → (q : ℕ × ℕ) × (greater_pair (Some (epochs v)) r ≡ Some q) × (v.source ≤ q.0) × (v.target ≤ q.1)
  here None = (epochs v, refl, omega arith, omega arith)
  here (Some p) = ((max v.source p.0, max v.target p.1), refl, omega arith, omega arith)

  at : (Contains vs e → (q : ℕ × ℕ) × (greatest_pair_by (λ x. Some (epochs x)) vs ≡ Some q) × (e.source ≤ q.0) × (e.target ≤ q.1)) → (v ≡ e) ⊎ Contains vs e
      → (q : ℕ × ℕ) × (greater_pair (Some (epochs v)) (greatest_pair_by (λ x. Some (epochs x)) vs) ≡ Some q) × (e.source ≤ q.0) × (e.target ≤ q.1)
  at rest (inl same) = let h = here (greatest_pair_by (λ x. Some (epochs x)) vs) in (h.0, h.1, subst (λ (x : VoteEntry). x.source ≤ h.0.0) same h.2, subst (λ (x : VoteEntry). x.target ≤ h.0.1) same h.3)
  at rest (inr later) = let r = rest later in ((max v.source r.0.0, max v.target r.0.1), ap (λ q. greater_pair (Some (epochs v)) q) r.1, omega (arith, r.2), omega (arith, r.3))

-- and, floors counted, at least each floor
record AtLeastAll (floor : ℕ × ℕ) (votes : List VoteEntry) (p : ℕ × ℕ) : Type 0 where
  is : greatest_epochs (Some floor) votes ≡ Some p
  floors : (floor.0 ≤ p.0) × (floor.1 ≤ p.1)
  kept : (e : VoteEntry) → Contains votes e → (e.source ≤ p.0) × (e.target ≤ p.1)

at_least_all : (floor : ℕ × ℕ) (votes : List VoteEntry) → (p : ℕ × ℕ) × AtLeastAll floor votes p
at_least_all floor votes = at (greatest_pair_by (λ e. Some (epochs e)) votes) refl where
  same_pair : (p q : ℕ × ℕ) → Some p ≡ Some q → p ≡ q
  same_pair p q e = cc

  at : (r : Option (ℕ × ℕ)) → greatest_pair_by (λ e. Some (epochs e)) votes ≡ r → (p : ℕ × ℕ) × AtLeastAll floor votes p
  at None none = (
    floor,
    record {
      is = ap (λ r. greater_pair (Some floor) r) none;
      floors = (omega arith, omega arith);
      kept = λ e has. let h = votes_below votes e has in let no : Some h.0 ≡ None = sym h.1 ∙ none in cc;
    },
  )
  at (Some q) some = (
    (max floor.0 q.0, max floor.1 q.1),
    record {
      is = ap (λ r. greater_pair (Some floor) r) some;
      floors = (omega arith, omega arith);
      kept = λ e has. let h = votes_below votes e has in let same : h.0 ≡ q = same_pair h.0 q (sym h.1 ∙ some) in
          (let le : e.source ≤ q.0 = subst (λ (x : ℕ × ℕ). e.source ≤ x.0) same h.2 in omega (arith, le), let le : e.target ≤ q.1 = subst (λ (x : ℕ × ℕ). e.target ≤ x.1) same h.3 in omega (arith, le));
    },
  )

-- a book of one vote without a root lets pass only what is beyond it
beyond : (blocks : List BlockEntry) (p : ℕ × ℕ) (s t : ℕ) (root : Root) → ¬ (BookRefuses (record { blocks = blocks; votes = vote_without_root (Some p) }) (message.Vote s t root)) → (p.0 ≤ s) × (p.1 < t)
beyond blocks p s t root fresh = (source (cases_lt s p.0), target (cases_lt p.1 t)) where
  source : (s < p.0) ⊎ (p.0 ≤ s) → p.0 ≤ s
  source (inr le) = le
  source (inl lt) = absurd (fresh (inr (inl ((λ none. cc), All-from_contains (λ e. s < e.source) (record { target = p.1; source = p.0; root = None } ∷ []) (λ e has. low e (contains_cases (record { target = p.1; source = p.0; root = None }) [] e has)))))) where
    low : (e : VoteEntry) → (record { target = p.1; source = p.0; root = None } ≡ e) ⊎ Contains [] e → s < e.source
    low e (inl same) = subst (λ (x : VoteEntry). s < x.source) same lt
    low e (inr none) = contains_none e none

  target : (p.1 < t) ⊎ (t ≤ p.1) → p.1 < t
  target (inl lt) = lt
  target (inr le) = absurd (fresh (inr (inr ((λ none. cc), All-from_contains (λ e. t ≤ e.target) (record { target = p.1; source = p.0; root = None } ∷ []) (λ e has. low e (contains_cases (record { target = p.1; source = p.0; root = None }) [] e has)), λ same. repeat same.0 same.2.2 (contains_cases (record { target = p.1; source = p.0; root = None }) [] same.0 same.1))))) where
    low : (e : VoteEntry) → (record { target = p.1; source = p.0; root = None } ≡ e) ⊎ Contains [] e → t ≤ e.target
    low e (inl same) = subst (λ (x : VoteEntry). t ≤ x.target) same le
    low e (inr none) = contains_none e none

    repeat : (e : VoteEntry) → e.root ≡ Some root → (record { target = p.1; source = p.0; root = None } ≡ e) ⊎ Contains [] e → ⊥
    repeat e is (inl same) = let no : None ≡ Some root = ap (λ (x : VoteEntry). x.root) same ∙ is in cc
    repeat e is (inr none) = contains_none e none

-- beyond all that is kept nothing clashes
none_beyond : (votes : List VoteEntry) (p : ℕ × ℕ) (s t : ℕ) (root : Root) → ((e : VoteEntry) → Contains votes e → (e.source ≤ p.0) × (e.target ≤ p.1)) → p.0 ≤ s → p.1 < t → (kind : Clash) → NoneClashes kind s t root votes
none_beyond votes p s t root below source target kind = All-from_contains (λ e. ¬ (Clashes kind s t root e)) votes (λ e has. apart kind e (below e has)) where
  apart : (kind : Clash) (e : VoteEntry) → (e.source ≤ p.0) × (e.target ≤ p.1) → ¬ (Clashes kind s t root e)
  apart clash.Double e le h = omega (arith, le.1, h.0)
  apart clash.Surrounds e le h = omega (arith, le.0, h.0)
  apart clash.Surrounded e le h = omega (arith, le.1, h.1)

vote_no_more : (parts : Parts) (past : Past) (s t : ℕ) (root : Root) → Stands parts past → ¬ (BookRefuses (export_of parts) (message.Vote s t root)) → Passes past (message.Vote s t root)
vote_no_more parts past s t root stands fresh = under parts.floors.vote refl where
  all_free : (o : Option (ℕ × ℕ)) → parts.floors.vote ≡ o → IsOverFloors o s t → ((kind : Clash) → NoneClashes kind s t root parts.votes) → Passes past (message.Vote s t root)
  all_free o is over free = vote_passes parts past s t root stands (subst (λ (p : Option (ℕ × ℕ)). IsOverFloors p s t) (sym is) over, free clash.Double, free clash.Surrounds, free clash.Surrounded)

  exported : (vs : List VoteEntry) → exported_votes parts.floors.vote parts.votes ≡ vs → ¬ (BookRefuses (record { blocks = parts.blocks; votes = vs }) (message.Vote s t root))
  exported vs is = subst (λ (xs : List VoteEntry). ¬ (BookRefuses (record { blocks = parts.blocks; votes = xs }) (message.Vote s t root))) is fresh

  regular : (floor : ℕ × ℕ) → parts.floors.vote ≡ Some floor → RegularAt floor parts.votes → ¬ (BookRefuses (record { blocks = parts.blocks; votes = parts.votes }) (message.Vote s t root)) → Passes past (message.Vote s t root)
  regular floor is reg lets = all_free (Some floor) is (source (cases_lt s floor.0), target (cases_lt t floor.1)) (free_of parts.votes (record { blocks = parts.blocks; votes = parts.votes }) s t root refl lets) where
    some : parts.votes ≢ []
    some none = contains_none reg.source.0 (subst (λ (xs : List VoteEntry). Contains xs reg.source.0) none reg.source.1)

    source : (s < floor.0) ⊎ (floor.0 ≤ s) → floor.0 ≤ s
    source (inr le) = le
    source (inl lt) = absurd (lets (inr (inl (some, All-from_contains (λ e. s < e.source) parts.votes (λ e has. omega (arith, (reg.over e has).0))))))

    target : (t < floor.1) ⊎ (floor.1 ≤ t) → floor.1 ≤ t
    target (inr le) = le
    target (inl lt) = absurd (lets (inr (inr (some, All-from_contains (λ e. t ≤ e.target) parts.votes (λ e has. omega (arith, (reg.over e has).1)), λ same. omega (arith, (reg.over same.0 same.1).1, same.2.1)))))

  irregular : (floor : ℕ × ℕ) → parts.floors.vote ≡ Some floor → ¬ (BookRefuses (record { blocks = parts.blocks; votes = vote_without_root (greatest_epochs (Some floor) parts.votes) }) (message.Vote s t root)) → Passes past (message.Vote s t root)
  irregular floor is lets =
      let all = at_least_all floor parts.votes in
      let far = beyond parts.blocks all.0 s t root (subst (λ (o : Option (ℕ × ℕ)). ¬ (BookRefuses (record { blocks = parts.blocks; votes = vote_without_root o }) (message.Vote s t root))) all.1.is lets) in
      all_free (Some floor) is (omega (arith, far.0, all.1.floors.0), omega (arith, far.1, all.1.floors.1)) (none_beyond parts.votes all.0 s t root all.1.kept far.0 far.1)

  by_test : (floor : ℕ × ℕ) → parts.floors.vote ≡ Some floor → (b : Bool) → is_regular_at floor parts.votes ≡ b
      → ¬ (BookRefuses (record { blocks = parts.blocks; votes = cond b parts.votes (vote_without_root (greatest_epochs (Some floor) parts.votes)) }) (message.Vote s t root)) → Passes past (message.Vote s t root)
  by_test floor is true reg lets = regular floor is (regular_at floor parts.votes reg) lets
  by_test floor is false reg lets = irregular floor is lets

  under : (o : Option (ℕ × ℕ)) → parts.floors.vote ≡ o → Passes past (message.Vote s t root)
  under None is = all_free None is tt (free_of parts.votes (record { blocks = parts.blocks; votes = parts.votes }) s t root refl (exported parts.votes (ap (λ o. exported_votes o parts.votes) is)))
  under (Some floor) is = by_test floor is (is_regular_at floor parts.votes) refl (exported _ (ap (λ o. exported_votes o parts.votes) is))

vote_no_less : (parts : Parts) (past : Past) (s t : ℕ) (root : Root) → Stands parts past → IsRegular parts ⊎ ((parts.votes ≡ []) × (parts.floors.vote ≡ None)) → Passes past (message.Vote s t root)
    → ¬ (BookRefuses (export_of parts) (message.Vote s t root))
vote_no_less parts past s t root stands exact passes refuses = at exact where
  moved : (vs : List VoteEntry) → exported_votes parts.floors.vote parts.votes ≡ vs → BookRefuses (record { blocks = parts.blocks; votes = vs }) (message.Vote s t root)
  moved vs is = subst (λ (xs : List VoteEntry). BookRefuses (record { blocks = parts.blocks; votes = xs }) (message.Vote s t root)) is refuses

  conflicts_not : (e : VoteEntry) → Contains parts.votes e → ¬ (Conflict (entry.Vote e) (message.Vote s t root))
  conflicts_not e has conflict = refused past s t root e passes conflict ((stands.votes e).0 has).0

  none : BookRefuses (record { blocks = parts.blocks; votes = [] }) (message.Vote s t root) → ⊥
  none (inl conflict) = contains_none conflict.0 conflict.1
  none (inr (inl low)) = low.0 refl
  none (inr (inr low)) = low.0 refl

  source_over : (floor : ℕ × ℕ) → parts.floors.vote ≡ Some floor → (s < floor.0) ⊎ (floor.0 ≤ s) → floor.0 ≤ s
  source_over floor is (inr le) = le
  source_over floor is (inl lt) =
      let P : Option (ℕ × ℕ) → Type 0 = λ o. IsSomeAnd o (λ f. (floor.0 ≡ f.0) × (s < f.0)) in
      let here : P (Some floor) = (refl, lt) in
      let no = vote_passed parts past s t root stands passes (verdict.SourceBelow floor.0) (subst P (sym is) here) in cc

  target_over : (floor : ℕ × ℕ) → parts.floors.vote ≡ Some floor → floor.0 ≤ s → (t < floor.1) ⊎ (floor.1 ≤ t) → floor.1 ≤ t
  target_over floor is le (inr high) = high
  target_over floor is le (inl lt) =
      let P : Option (ℕ × ℕ) → Type 0 = λ o. IsSomeAnd o (λ f. (f.0 ≤ s) × (floor.1 ≡ f.1) × (t < f.1)) in
      let here : P (Some floor) = (le, refl, lt) in
      let no = vote_passed parts past s t root stands passes (verdict.TargetBelow floor.1) (subst P (sym is) here) in cc

  regular : (floor : ℕ × ℕ) → parts.floors.vote ≡ Some floor → RegularAt floor parts.votes → BookRefuses (record { blocks = parts.blocks; votes = parts.votes }) (message.Vote s t root) → ⊥
  regular floor is reg (inl conflict) = conflicts_not conflict.0 conflict.1 conflict.2
  regular floor is reg (inr (inl low)) =
      let over = source_over floor is (cases_lt s floor.0) in
      let under : s < reg.source.0.source = All-contains (λ e. s < e.source) parts.votes reg.source.0 low.1 reg.source.1 in
      omega (arith, over, under, reg.source.2)
  regular floor is reg (inr (inr low)) =
      let over = target_over floor is (source_over floor is (cases_lt s floor.0)) (cases_lt t floor.1) in
      let one = reg.target.0 in
      let under : t ≤ one.target = All-contains (λ e. t ≤ e.target) parts.votes one low.1 reg.target.1 in
      let same : one.target ≡ t = omega (arith, over, under, reg.target.2) in
      low.2 (
        one,
        reg.target.1,
        (
          same_number one.source s (λ n. conflicts_not one reg.target.1 (inl (same, inl n))),
          same,
          same_root one.root root (λ d. conflicts_not one reg.target.1 (inl (same, inr d))),
        ),
      )

  by_floor : (o : Option (ℕ × ℕ)) → parts.floors.vote ≡ o → IsSomeAnd o (λ floor. is_regular_at floor parts.votes ≡ true) → ⊥
  by_floor None is nothing = nothing
  by_floor (Some floor) is reg = regular floor is (regular_at floor parts.votes reg) (moved parts.votes (ap (λ o. exported_votes o parts.votes) is ∙ ap (λ b. cond b parts.votes (vote_without_root (greatest_epochs (Some floor) parts.votes))) reg))

  at : IsRegular parts ⊎ ((parts.votes ≡ []) × (parts.floors.vote ≡ None)) → ⊥
  at (inl reg) = by_floor parts.floors.vote refl reg
  at (inr empty) = none (moved [] (ap (λ o. exported_votes o parts.votes) empty.1 ∙ empty.0))

pub exports_no_more : (parts : Parts) (b : Book) → b ≡ export_of parts → (past : Past) (m : Message) → Stands parts past → ¬ (BookRefuses b m) → Passes past m
exports_no_more parts b is past (message.Block slot root) stands fresh = block_no_more parts past slot root stands (subst (λ (c : Book). ¬ (BookRefuses c (message.Block slot root))) is fresh)
exports_no_more parts b is past (message.Vote s t root) stands fresh = vote_no_more parts past s t root stands (subst (λ (c : Book). ¬ (BookRefuses c (message.Vote s t root))) is fresh)

pub exports_no_less : (parts : Parts) (b : Book) → b ≡ export_of parts → (past : Past) (m : Message) → Stands parts past → IsExportedExactly parts m → Passes past m → ¬ (BookRefuses b m)
exports_no_less parts b is past (message.Block slot root) stands exact passes = subst (λ (c : Book). ¬ (BookRefuses c (message.Block slot root))) (sym is) (block_no_less parts past slot root stands exact passes)
exports_no_less parts b is past (message.Vote s t root) stands exact passes = subst (λ (c : Book). ¬ (BookRefuses c (message.Vote s t root))) (sym is) (vote_no_less parts past s t root stands exact passes)
