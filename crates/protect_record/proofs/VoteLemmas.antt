-- A vote passes a past exactly where a record that stands for it says so.
use Rattle.std.proofs.Common.{◌≡◌, ◌≢◌, ℕ, ◌<◌, ◌≤◌, ◌⊎◌, inl, inr, Option, Some, None, refl, sym, ◌∙◌, ap, arith, Contains, IsSomeAnd}
use Rattle.std.specs.Option.{option_map}
use Rattle.std.proofs.lemmas.Bool.{cases_eq}
use Rattle.std.proofs.lemmas.List.Elements.{All-contains}
use Rattle.edge_kit.specs.declared.bytes.Root.{Root}
use Rattle.slash_defs.specs.declared.message.Message.{Message}
use Rattle.slash_defs.specs.declared.message.Message.TheVariants as message
use Rattle.slash_defs.specs.declared.entry.VoteEntry.{VoteEntry}
use Rattle.slash_defs.specs.declared.entry.Entry.TheVariants as entry
use Rattle.slash_defs.specs.declared.book.Book.{Book}
use Rattle.slash_defs.specs.Slashing.{Slashable, Conflict}
use Rattle.protect_record.specs.Parts.{Parts}
use Rattle.protect_record.specs.Pasts.{Past, IsPastVote}
use Rattle.protect_record.specs.Passing.{Passes, BookRefuses}
use Rattle.protect_record.specs.Floors.{floors_of}
use Rattle.protect_record.specs.Standing.{Stands}
use Rattle.protect_record.specs.Verdicts.{IsVoteVerdict, IsOverFloors, Clashes}
use Rattle.protect_record.specs.declared.clash.Clash.{Clash}
use Rattle.protect_record.specs.declared.clash.Clash.TheVariants as clash
use Rattle.protect_record.specs.declared.verdict.Verdict.{Verdict}
use Rattle.protect_record.specs.declared.verdict.Verdict.TheVariants as verdict
use Rattle.protect_record.proofs.MemberLemmas.{All-from_contains}
use Rattle.protect_record.proofs.FloorLemmas.{source_floor-is, target_floor-is, entry_below, floor_set}
use Rattle.protect_record.proofs.BlockLemmas.{same_root, differs}

-- over the floors a vote that is dead neither has the target, nor is surrounded, nor surrounds
pub vote_lives : (o : Option (ℕ × ℕ)) (source target : ℕ) (e : VoteEntry) → IsOverFloors o source target → (target ≤ e.target) ⊎ (source < e.source)
    → ¬ (IsSomeAnd o (λ floor. (e.target < floor.1) × (e.source ≤ floor.0)))
vote_lives None source target e over high dead = dead
vote_lives (Some f) source target e over (inl high) dead = absurd (omega (arith, over.1, dead.0))
vote_lives (Some f) source target e over (inr high) dead = absurd (omega (arith, over.0, dead.1))

-- a vote that clashes is not dead
high_enough : (kind : Clash) (source target : ℕ) (root : Root) (e : VoteEntry) → Clashes kind source target root e → (target ≤ e.target) ⊎ (source < e.source)
high_enough clash.Double source target root e h = inl (omega (arith, h.0))
high_enough clash.Surrounds source target root e h = inr h.0
high_enough clash.Surrounded source target root e h = inl (omega (arith, h.1))

over_source : (o : Option (ℕ × ℕ)) (source target m : ℕ) → IsOverFloors o source target → option_map (λ x. x.0) o ≡ Some m → m ≤ source
over_source None source target m over is = cc
over_source (Some f) source target m over is = let same : f.0 ≡ m = cc in omega (arith, over.0)

over_target : (o : Option (ℕ × ℕ)) (source target m : ℕ) → IsOverFloors o source target → option_map (λ x. x.1) o ≡ Some m → m ≤ target
over_target None source target m over is = cc
over_target (Some f) source target m over is = let same : f.1 ≡ m = cc in omega (arith, over.1)

source_of : (parts : Parts) (past : Past) → Stands parts past → option_map (λ x. x.0) parts.floors.vote ≡ option_map (λ x. x.0) (floors_of past.books).vote
source_of parts past stands = ap (λ f. option_map (λ x. x.0) f.vote) stands.floors

target_of : (parts : Parts) (past : Past) → Stands parts past → option_map (λ x. x.1) parts.floors.vote ≡ option_map (λ x. x.1) (floors_of past.books).vote
target_of parts past stands = ap (λ f. option_map (λ x. x.1) f.vote) stands.floors

pub same_number : (a b : ℕ) → ¬ (a ≢ b) → a ≡ b
same_number a b same = at (cases_eq a b) where
  at : (a ≡ b) ⊎ (a ≡ b → ⊥) → a ≡ b
  at (inl e) = e
  at (inr n) = absurd (same n)

pub vote_passes : (parts : Parts) (past : Past) (s t : ℕ) (root : Root) → Stands parts past
    → IsVoteVerdict parts.floors.vote parts.votes s t root verdict.Pass → Passes past (message.Vote s t root)
vote_passes parts past s t root stands pass =
    (All-from_contains (λ b. ¬ (BookRefuses b (message.Vote s t root))) past.books in_book, All-from_contains (λ n. ¬ (Slashable n (message.Vote s t root))) past.own own) where
      kept : (e : VoteEntry) → IsPastVote past e → (t ≤ e.target) ⊎ (s < e.source) → Contains parts.votes e
      kept e is high = (stands.votes e).1 (is, vote_lives parts.floors.vote s t e pass.0 high)

      free : (kind : Clash) (e : VoteEntry) → IsPastVote past e → ¬ (Clashes kind s t root e)
      free clash.Double e is h = All-contains (λ x. ¬ (Clashes clash.Double s t root x)) parts.votes e pass.1 (kept e is (high_enough clash.Double s t root e h)) h
      free clash.Surrounds e is h = All-contains (λ x. ¬ (Clashes clash.Surrounds s t root x)) parts.votes e pass.2 (kept e is (high_enough clash.Surrounds s t root e h)) h
      free clash.Surrounded e is h = All-contains (λ x. ¬ (Clashes clash.Surrounded s t root x)) parts.votes e pass.3 (kept e is (high_enough clash.Surrounded s t root e h)) h

      conflicts : (e : VoteEntry) → IsPastVote past e → ¬ (Conflict (entry.Vote e) (message.Vote s t root))
      conflicts e is (inl double) = free clash.Double e is double
      conflicts e is (inr (inl outer)) = free clash.Surrounded e is outer
      conflicts e is (inr (inr inner)) = free clash.Surrounds e is inner

      in_book : (b : Book) → Contains past.books b → ¬ (BookRefuses b (message.Vote s t root))
      in_book b has (inl conflict) = conflicts conflict.0 (inl (b, has, conflict.1)) conflict.2
      in_book b has (inr (inl low)) =
          let one = entry_below (λ c. c.votes) (λ e. e.source) past.books b has low.0 in
          let over : one.2.0 ≤ s = over_source parts.floors.vote s t one.2.0 pass.0 (source_of parts past stands ∙ source_floor-is past.books ∙ one.2.1) in
          let under : s < one.0.source = All-contains (λ e. s < e.source) b.votes one.0 low.1 one.1 in
          omega (arith, over, under, one.2.2)
      in_book b has (inr (inr low)) =
          let one = entry_below (λ c. c.votes) (λ e. e.target) past.books b has low.0 in
          let over : one.2.0 ≤ t = over_target parts.floors.vote s t one.2.0 pass.0 (target_of parts past stands ∙ target_floor-is past.books ∙ one.2.1) in
          let under : t ≤ one.0.target = All-contains (λ e. t ≤ e.target) b.votes one.0 low.1 one.1 in
          let same : one.0.target ≡ t = omega (arith, over, under, one.2.2) in
          let is : IsPastVote past one.0 = inl (b, has, one.1) in
          low.2 (
            one.0,
            one.1,
            (
              same_number one.0.source s (λ n. free clash.Double one.0 is (same, inl n)),
              same,
              same_root one.0.root root (λ d. free clash.Double one.0 is (same, inr d)),
            ),
          )

      own : (n : Message) → Contains past.own n → ¬ (Slashable n (message.Vote s t root))
      own (message.Vote u v r) has slash = let e : VoteEntry = record { target = v; source = u; root = Some r } in conflicts e (inr (r, refl, has)) slash
      own (message.Block a r) has slash = slash

-- an entry of the past that conflicts keeps the vote from passing
pub refused : (past : Past) (s t : ℕ) (root : Root) (e : VoteEntry) → Passes past (message.Vote s t root) → Conflict (entry.Vote e) (message.Vote s t root) → IsPastVote past e → ⊥
refused past s t root e passes conflict (inl in_book) = All-contains (λ b. ¬ (BookRefuses b (message.Vote s t root))) past.books in_book.0 passes.0 in_book.1 (inl (e, in_book.2, conflict))
refused past s t root e passes conflict (inr own) = All-contains (λ n. ¬ (Slashable n (message.Vote s t root))) past.own (message.Vote e.source e.target own.0) passes.1 own.2 (slash conflict) where
  slash : Conflict (entry.Vote e) (message.Vote s t root) → Slashable (message.Vote e.source e.target own.0) (message.Vote s t root)
  slash (inl (same, inl n)) = inl (same, inl n)
  slash (inl (same, inr d)) = inl (same, inr (differs e.root own.0 root own.1 d))
  slash (inr surrounds) = inr surrounds

source_below : (o : Option (ℕ × ℕ)) (s f : ℕ) → IsSomeAnd o (λ floor. (f ≡ floor.0) × (s < floor.0)) → (option_map (λ x. x.0) o ≡ Some f) × (s < f)
source_below None s f h = absurd h
source_below (Some p) s f h = (ap Some (sym h.0), omega (arith, h.0, h.1))

target_below : (o : Option (ℕ × ℕ)) (s t f : ℕ) → IsSomeAnd o (λ floor. (floor.0 ≤ s) × (f ≡ floor.1) × (t < floor.1)) → (option_map (λ x. x.1) o ≡ Some f) × (t < f)
target_below None s t f h = absurd h
target_below (Some p) s t f h = (ap Some (sym h.1), omega (arith, h.1, h.2))

pub vote_passed : (parts : Parts) (past : Past) (s t : ℕ) (root : Root) → Stands parts past → Passes past (message.Vote s t root)
    → (v : Verdict) → IsVoteVerdict parts.floors.vote parts.votes s t root v → v ≡ verdict.Pass
vote_passed parts past s t root stands passes verdict.Pass is = refl
vote_passed parts past s t root stands passes (verdict.SourceBelow f) is =
    let low = source_below parts.floors.vote s f is in
    let set = floor_set (λ c. c.votes) (λ e. e.source) past.books f (sym (source_floor-is past.books) ∙ sym (source_of parts past stands) ∙ low.0) in
    absurd (All-contains (λ b. ¬ (BookRefuses b (message.Vote s t root))) past.books set.0 passes.0 set.1 (inr (inl (
      set.2,
      All-from_contains (λ e. s < e.source) set.0.votes (λ e has. let up : f ≤ e.source = All-contains (λ y. f ≤ y.source) set.0.votes e set.4 has in omega (arith, low.1)),
    ))))
vote_passed parts past s t root stands passes (verdict.TargetBelow f) is =
    let low = target_below parts.floors.vote s t f is in
    let set = floor_set (λ c. c.votes) (λ e. e.target) past.books f (sym (target_floor-is past.books) ∙ sym (target_of parts past stands) ∙ low.0) in
    absurd (All-contains (λ b. ¬ (BookRefuses b (message.Vote s t root))) past.books set.0 passes.0 set.1 (inr (inr (
      set.2,
      All-from_contains (λ e. t ≤ e.target) set.0.votes (λ e has. let up : f ≤ e.target = All-contains (λ y. f ≤ y.target) set.0.votes e set.4 has in omega (arith, low.1)),
      λ same. let up : f ≤ same.0.target = All-contains (λ y. f ≤ y.target) set.0.votes same.0 set.4 same.1 in omega (arith, low.1, same.2.1),
    ))))
vote_passed parts past s t root stands passes (verdict.DoubleVote e) is = absurd (refused past s t root e passes (inl is.1.passes) ((stands.votes e).0 is.1.is_kept).0)
vote_passed parts past s t root stands passes (verdict.Surrounds e) is = absurd (refused past s t root e passes (inr (inr is.2.passes)) ((stands.votes e).0 is.2.is_kept).0)
vote_passed parts past s t root stands passes (verdict.Surrounded e) is = absurd (refused past s t root e passes (inr (inl is.3.passes)) ((stands.votes e).0 is.3.is_kept).0)
vote_passed parts past s t root stands passes v is = absurd is
