use Rattle.std.proofs.Common.{◌≡◌, ◌<◌, ◌-◌, [], length, sym, refl, inl, inr, arith, get_or-set_other, get_or-set_same, length-set}
use Rattle.edge_kit.specs.declared.bytes.Root.{Root}
use Rattle.std.proofs.lemmas.Bool.{cases_eq}
use Rattle.ssz_roots.proofs.TreeLemmas.{zero_root-zero, zero_root-step}
use Rattle.ssz_roots.proofs.zeros.zero_roots.Goals as goal

pub depths-init : goal.depths-init
depths-init c = record {
  whole = refl;
  zeros = λ depth other h. let e : depth ≡ 0 = omega arith in rw e (sym zero_root-zero);
}

pub depths-preserved : goal.depths-preserved
depths-preserved c = record {
  whole = simp length-set c.depths.invariant.whole;
  zeros = λ depth other h. elim (cases_eq depth c.depths.depth) [
    | inl same ↦
        let here : c.depths.depth < length c.depths.roots = omega arith in
        let none : Root = record { 0 = [] } in
        let below = c.depths.invariant.zeros (c.depths.depth - 1) none (omega arith) in
        rw (same, get_or-set_same c.depths.roots c.depths.depth c.hash_pair.result other here) (cc (c.hash_pair.ensures, below, zero_root-step c.depths.depth (omega arith)))
    | inr different ↦ rw (get_or-set_other c.depths.roots c.depths.depth depth c.hash_pair.result other different) (c.depths.invariant.zeros depth other (omega arith))
  ];
}
