-- How runs of disk calls go on.
use Rattle.std.proofs.Common.{◌≡◌, inl, inr, ℕ, List, refl, sym, subst, arith}
use Rattle.std.proofs.lemmas.Bool.{cases_lt}
use Rattle.edge_kit.specs.Disks.{Elapses, LeavesOnly, Same, Torn}

pub torn_nothing : (at n : ℕ) (c : List ℕ) → Torn at n c c
torn_nothing at n c = record { before = λ k low fits. refl; after = refl; no_shorter = omega arith; no_longer = omega arith }

-- a call after which nothing changes, behind one that takes a step or none
pub elapses_on : (step : List ℕ → List ℕ → Type 0) (before mid now : ℕ) (past since later : ℕ → List ℕ → Type 0) → ((c : List ℕ) → step c c) → Elapses step before mid past since → Elapses Same mid now since later → Elapses step before now past later
elapses_on step before mid now past since later none first second = record {
  later = omega (arith, first.later, second.later);
  past_stays = λ k c le left. first.past_stays k c le (second.past_stays k c (omega (arith, first.later)) left);
  steps = λ k lt le c left. elim (cases_lt mid k) [
    | inl past_mid ↦ let from = second.steps k past_mid le c left in to_now c (subst (λ e. since mid e) (sym from.2) from.1)
    | inr within ↦ first.steps k lt within c (second.past_stays k c within left)
  ];
}
  where
    to_now : (c : List ℕ) → since mid c → (d : List ℕ) × past before d × step d c
    to_now c left = elim (cases_lt before mid) [
      | inl moved ↦ first.steps mid moved (omega arith) c left
      | inr still ↦ let same : mid ≡ before = omega (arith, first.later) in (c, first.past_stays before c (omega arith) (subst (λ k. since k c) same left), none c)
    ]

module _ {D : Type 0} (moment : D → ℕ) (leaves : D → ℕ → List ℕ → Type 0) where
  -- before the first call
  pub leaves_now : (disk : D) (P : List ℕ → Type 0) → ((c : List ℕ) → leaves disk (moment disk) c → P c) → LeavesOnly moment leaves disk disk P
  leaves_now disk P here = record {
    later = omega arith;
    past_stays = λ k c le left. left;
    each = λ k c low high left. let now : k ≡ moment disk = omega arith in here c (subst (λ m. leaves disk m c) now left);
  }

  -- two runs join
  pub leaves_on : (old mid new : D) (P : List ℕ → Type 0) → LeavesOnly moment leaves old mid P → LeavesOnly moment leaves mid new P → LeavesOnly moment leaves old new P
  leaves_on old mid new P first second = record {
    later = omega (arith, first.later, second.later);
    past_stays = λ k c le left. first.past_stays k c le (second.past_stays k c (omega (arith, first.later)) left);
    each = λ k c low high left. elim (cases_lt (moment mid) k) [
      | inl past ↦ second.each k c (omega arith) high left
      | inr within ↦ first.each k c low within (second.past_stays k c within left)
    ];
  }

  pub leaves_weaker : (old new : D) (P Q : List ℕ → Type 0) → LeavesOnly moment leaves old new P → ((c : List ℕ) → P c → Q c) → LeavesOnly moment leaves old new Q
  leaves_weaker old new P Q run weaker = record { later = run.later; past_stays = run.past_stays; each = λ k c low high left. weaker c (run.each k c low high left) }

  -- what is left at its end
  pub leaves_end : (old new : D) (P : List ℕ → Type 0) → LeavesOnly moment leaves old new P → (c : List ℕ) → leaves new (moment new) c → P c
  leaves_end old new P run c left = run.each (moment new) c run.later (omega arith) left

  -- one call
  pub leaves_call : (step : List ℕ → List ℕ → Type 0) (old new : D) (P : List ℕ → Type 0) → Elapses step (moment old) (moment new) (leaves old) (leaves new)
      → ((c : List ℕ) → leaves old (moment old) c → P c) → ((d c : List ℕ) → leaves old (moment old) d → step d c → P c) → LeavesOnly moment leaves old new P
  leaves_call step old new P time here there = record {
    later = time.later;
    past_stays = time.past_stays;
    each = λ k c low high left. elim (cases_lt (moment old) k) [
      | inl past ↦ let from = time.steps k past high c left in there from.0 c from.1 from.2
      | inr within ↦ let now : k ≡ moment old = omega arith in here c (subst (λ m. leaves old m c) now (time.past_stays k c within left))
    ];
  }
