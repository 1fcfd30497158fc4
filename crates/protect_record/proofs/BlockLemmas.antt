-- A block passes a past exactly where a record that stands for it says so.
use Rattle.std.proofs.Common.{◌≡◌, ◌≢◌, ℕ, ◌<◌, ◌≤◌, ◌⊎◌, inl, inr, true, false, Option, Some, None, refl, sym, ◌∙◌, ap, subst, arith, Contains, IfSome, IsSomeAnd}
use Rattle.std.specs.Str.{bytes_eq}
use Rattle.std.proofs.lemmas.Bool.{cases_Bool}
use Rattle.std.proofs.lemmas.Bool.Decides.{not_from_Decides}
use Rattle.std.proofs.lemmas.List.Elements.{All-contains}
use Rattle.std.proofs.lemmas.Slice.Eq.{bytes_eq-Decides}
use Rattle.edge_kit.specs.declared.bytes.Root.{Root}
use Rattle.slash_defs.specs.declared.message.Message.{Message}
use Rattle.slash_defs.specs.declared.message.Message.TheVariants as message
use Rattle.slash_defs.specs.declared.entry.BlockEntry.{BlockEntry}
use Rattle.slash_defs.specs.declared.book.Book.{Book}
use Rattle.slash_defs.specs.Slashing.{Slashable, Differs}
use Rattle.protect_record.specs.Parts.{Parts}
use Rattle.protect_record.specs.Pasts.{Past, IsPastBlock}
use Rattle.protect_record.specs.Passing.{Passes, BookRefuses}
use Rattle.protect_record.specs.Floors.{floors_of}
use Rattle.protect_record.specs.Standing.{Stands}
use Rattle.protect_record.specs.Verdicts.{IsBlockVerdict, ConflictsWith}
use Rattle.protect_record.specs.declared.verdict.Verdict.{Verdict}
use Rattle.protect_record.specs.declared.verdict.Verdict.TheVariants as verdict
use Rattle.protect_record.proofs.MemberLemmas.{All-from_contains}
use Rattle.protect_record.proofs.FloorLemmas.{entry_below, floor_set}

pub root_cases : (r q : Root) → (r ≡ q) ⊎ (r ≢ q)
root_cases r q = at (cases_Bool (bytes_eq r.0 q.0)) where
  at : (bytes_eq r.0 q.0 ≡ true) ⊎ (bytes_eq r.0 q.0 ≡ false) → (r ≡ q) ⊎ (r ≢ q)
  at (inl e) = inl (ap (λ bytes. record { 0 = bytes }) ((bytes_eq-Decides r.0 q.0).0 e))
  at (inr e) = inr (λ same. not_from_Decides _ (bytes_eq-Decides r.0 q.0) e (ap (λ (x : Root). x.0) same))

-- a root that does not differ is there, and is the same
pub same_root : (o : Option Root) (root : Root) → ¬ (Differs o root) → o ≡ Some root
same_root None root same = absurd (same tt)
same_root (Some r) root same = at (root_cases r root) where
  at : (r ≡ root) ⊎ (r ≢ root) → Some r ≡ Some root
  at (inl e) = ap Some e
  at (inr n) = absurd (same n)

pub differs : (o : Option Root) (r root : Root) → o ≡ Some r → Differs o root → r ≢ root
differs o r root is d = let there : Differs (Some r) root = subst (λ (p : Option Root). Differs p root) is d in there

-- over the floor nothing is dead
pub lives : (o : Option ℕ) (slot other : ℕ) → IfSome o (λ f. f ≤ slot) → slot ≤ other → ¬ (IsSomeAnd o (λ f. other < f))
lives None slot other over le dead = dead
lives (Some f) slot other over le dead = absurd (omega arith)

at_floor : (o : Option ℕ) (slot m : ℕ) → IfSome o (λ f. f ≤ slot) → o ≡ Some m → m ≤ slot
at_floor o slot m over is = let there : IfSome (Some m) (λ f. f ≤ slot) = subst (λ (p : Option ℕ). IfSome p (λ f. f ≤ slot)) is over in there

pub floor_of : (parts : Parts) (past : Past) → Stands parts past → parts.floors.block ≡ (floors_of past.books).block
floor_of parts past stands = ap (λ f. f.block) stands.floors

pub block_passes : (parts : Parts) (past : Past) (slot : ℕ) (root : Root) → Stands parts past
    → IsBlockVerdict parts.floors.block parts.blocks slot root verdict.Pass → Passes past (message.Block slot root)
block_passes parts past slot root stands pass =
    (All-from_contains (λ b. ¬ (BookRefuses b (message.Block slot root))) past.books in_book, All-from_contains (λ n. ¬ (Slashable n (message.Block slot root))) past.own own) where
      kept : (e : BlockEntry) → IsPastBlock past e → slot ≤ e.slot → Contains parts.blocks e
      kept e is le = (stands.blocks e).1 (is, lives parts.floors.block slot e.slot pass.0 le)

      free : (e : BlockEntry) → IsPastBlock past e → slot ≤ e.slot → ¬ (ConflictsWith slot root e)
      free e is le = All-contains (λ x. ¬ (ConflictsWith slot root x)) parts.blocks e pass.1 (kept e is le)

      in_book : (b : Book) → Contains past.books b → ¬ (BookRefuses b (message.Block slot root))
      in_book b has (inl conflict) = free conflict.0 (inl (b, has, conflict.1)) (omega (arith, conflict.2.0)) conflict.2
      in_book b has (inr low) =
          let one = entry_below (λ c. c.blocks) (λ e. e.slot) past.books b has low.0 in
          let floor : parts.floors.block ≡ Some one.2.0 = floor_of parts past stands ∙ one.2.1 in
          let over : one.2.0 ≤ slot = at_floor parts.floors.block slot one.2.0 pass.0 floor in
          let under : slot ≤ one.0.slot = All-contains (λ e. slot ≤ e.slot) b.blocks one.0 low.1 one.1 in
          let same : one.0.slot ≡ slot = omega (arith, over, under, one.2.2) in
          low.2 (one.0, one.1, (same, same_root one.0.root root (λ d. free one.0 (inl (b, has, one.1)) under (same, d))))

      own : (n : Message) → Contains past.own n → ¬ (Slashable n (message.Block slot root))
      own (message.Block a r) has slash = let e : BlockEntry = record { slot = a; root = Some r } in free e (inr (r, refl, has)) (omega (arith, slash.0)) slash
      own (message.Vote s t r) has slash = slash

-- an entry of the past that conflicts keeps the block from passing
pub refused_block : (past : Past) (slot : ℕ) (root : Root) (e : BlockEntry) → Passes past (message.Block slot root) → ConflictsWith slot root e → IsPastBlock past e → ⊥
refused_block past slot root e passes conflict (inl in_book) = All-contains (λ b. ¬ (BookRefuses b (message.Block slot root))) past.books in_book.0 passes.0 in_book.1 (inl (e, in_book.2, conflict))
refused_block past slot root e passes conflict (inr own) = All-contains (λ n. ¬ (Slashable n (message.Block slot root))) past.own (message.Block e.slot own.0) passes.1 own.2 (conflict.0, differs e.root own.0 root own.1 conflict.1)

pub block_passed : (parts : Parts) (past : Past) (slot : ℕ) (root : Root) → Stands parts past → Passes past (message.Block slot root)
    → (v : Verdict) → IsBlockVerdict parts.floors.block parts.blocks slot root v → v ≡ verdict.Pass
block_passed parts past slot root stands passes verdict.Pass is = refl
block_passed parts past slot root stands passes (verdict.SlotBelow f) is =
    let set = floor_set (λ c. c.blocks) (λ e. e.slot) past.books f (sym (floor_of parts past stands) ∙ is.0) in
    absurd (All-contains (λ b. ¬ (BookRefuses b (message.Block slot root))) past.books set.0 passes.0 set.1 (inr (
      set.2,
      All-from_contains (λ e. slot ≤ e.slot) set.0.blocks (λ e has. let up : f ≤ e.slot = All-contains (λ y. f ≤ y.slot) set.0.blocks e set.4 has in omega (arith, is.1)),
      λ same. let up : f ≤ same.0.slot = All-contains (λ y. f ≤ y.slot) set.0.blocks same.0 set.4 same.1 in omega (arith, is.1, same.2.0),
    )))
block_passed parts past slot root stands passes (verdict.DoubleBlock e) is = absurd (refused_block past slot root e passes is.1.passes ((stands.blocks e).0 is.1.is_kept).0)
block_passed parts past slot root stands passes v is = absurd is
