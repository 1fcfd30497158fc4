-- The order in which a written file lists entries: blocks by slot, absent root first, root; votes by target, source,
-- absent root first, root. Both are total orders, and entries that compare alike are one.
use Rattle.std.specs.Prelude.{◌≡◌, ℕ, Option, Some, None, refl}
use Rattle.std.specs.Ordering.{nat_cmp, ordering_then}
use Rattle.std.specs.Option.{option_cmp}
use Rattle.std.specs.declared.cmp.Ordering.{Ordering}
use Rattle.std.specs.declared.cmp.Ordering.TheVariants.{Less, Equal, Greater}
use Rattle.std.specs.Cmp.{IsTotalOrder}
use Rattle.std.specs.Cmp.Lexicographic.{slice_cmp, options_total}
use Rattle.std.proofs.Common.{ap}
use Rattle.std.proofs.lemmas.Cmp.{nat_cmp_total, nat_list_cmp_total, on_total, then_total}
use Rattle.std.proofs.lemmas.Map.Lookups.{CmpEqualImpliesEq, exact_pairs, exact_unsigned, exact_bytes}
use Rattle.edge_kit.specs.declared.bytes.Root.{Root}
use Rattle.slash_defs.specs.declared.entry.BlockEntry.{BlockEntry}
use Rattle.slash_defs.specs.declared.entry.VoteEntry.{VoteEntry}

-- byte by byte
abbrev pub root_cmp : Root → Root → Ordering
root_cmp a b = slice_cmp nat_cmp a.0 b.0

abbrev pub block_cmp : BlockEntry → BlockEntry → Ordering
block_cmp a b = ordering_then (nat_cmp a.slot b.slot) (option_cmp root_cmp a.root b.root)

abbrev pub vote_cmp : VoteEntry → VoteEntry → Ordering
vote_cmp a b = ordering_then (nat_cmp a.target b.target) (ordering_then (nat_cmp a.source b.source) (option_cmp root_cmp a.root b.root))

pub roots_total : IsTotalOrder (option_cmp root_cmp)
roots_total = options_total (on_total (λ (r : Root). r.0) nat_list_cmp_total)

pub blocks_total : IsTotalOrder block_cmp
blocks_total = then_total (on_total (λ (e : BlockEntry). e.slot) nat_cmp_total) (on_total (λ (e : BlockEntry). e.root) roots_total)

pub votes_total : IsTotalOrder vote_cmp
votes_total = then_total (on_total (λ (e : VoteEntry). e.target) nat_cmp_total) (then_total (on_total (λ (e : VoteEntry). e.source) nat_cmp_total) (on_total (λ (e : VoteEntry). e.root) roots_total))

less≢equal : {A : Type 0} → Less ≡ Equal → A
less≢equal {A} e = cc

greater≢equal : {A : Type 0} → Greater ≡ Equal → A
greater≢equal {A} e = cc

pub exact_roots : CmpEqualImpliesEq (option_cmp root_cmp)
exact_roots None None e = refl
exact_roots None (Some y) e = less≢equal e
exact_roots (Some x) None e = greater≢equal e
exact_roots (Some x) (Some y) e = ap (λ bytes. Some (record { 0 = bytes })) (exact_bytes x.0 y.0 e)

pub exact_blocks : CmpEqualImpliesEq block_cmp
exact_blocks a b e = ap (λ (p : ℕ × Option Root). record { slot = p.0; root = p.1 }) (exact_pairs nat_cmp (option_cmp root_cmp) exact_unsigned exact_roots (a.slot, a.root) (b.slot, b.root) e)

abbrev source_and_root : ℕ × Option Root → ℕ × Option Root → Ordering
source_and_root p q = ordering_then (nat_cmp p.0 q.0) (option_cmp root_cmp p.1 q.1)

pub exact_votes : CmpEqualImpliesEq vote_cmp
exact_votes a b e = ap (λ (p : ℕ × (ℕ × Option Root)). record { target = p.0; source = p.1.0; root = p.1.1 })
    (exact_pairs nat_cmp source_and_root exact_unsigned (exact_pairs nat_cmp (option_cmp root_cmp) exact_unsigned exact_roots) (a.target, (a.source, a.root)) (b.target, (b.source, b.root)) e)
