-- How a desk with its disks fares through calls.
use Rattle.std.proofs.Common.{◌≡◌, ℕ, List, Option, Some, None, true, false, refl, ◌∙◌}
use Rattle.std.specs.Prelude.{IsSome}
use Rattle.edge_kit.specs.declared.disk.Disks.{Disks}
use Rattle.record_journal.specs.TwoDisks.{FaultsLater, EitherRose}
use Rattle.check_sign.specs.Contents.{Seen, disks_in}
use Rattle.check_sign.proofs.FaultLemmas.{later_none, later_on, either_back, either_on}
use Rattle.session_run.specs.Acts.{DeskFares}

not_both : {X : Type 0} (t : Option X) (A : Type 0) → t ≡ None → IsSome t → A
not_both None A none some = let bad : false ≡ true = some in absurd cc
not_both (Some x) A none some = let bad : Some x ≡ None = none in absurd cc

module _ {D : Type 0} (faults : D → ℕ) where
  pub fares_none : (desk : Seen D) → DeskFares faults desk desk
  fares_none desk = record {
    later = later_none faults (disks_in desk);
    fails = λ none some. not_both desk.contents.torn (EitherRose faults (disks_in desk) (disks_in desk)) none some;
    genesis = refl;
  }

  by_torn : (t : Option (List (List ℕ))) (x y z : Disks D) → (t ≡ None → EitherRose faults y z) → (IsSome t → EitherRose faults x y) → FaultsLater faults x y → FaultsLater faults y z → EitherRose faults x z
  by_torn None x y z later first xy yz = either_back faults x y z xy (later refl)
  by_torn (Some p) x y z later first xy yz = either_on faults x y z (first refl) yz

  pub fares_on : (old mid new : Seen D) → DeskFares faults old mid → DeskFares faults mid new → DeskFares faults old new
  fares_on old mid new first second = record {
    later = later_on faults (disks_in old) (disks_in mid) (disks_in new) first.later second.later;
    fails = λ none some. by_torn mid.contents.torn (disks_in old) (disks_in mid) (disks_in new) (λ up. second.fails up some) (λ down. first.fails none down) first.later second.later;
    genesis = second.genesis ∙ first.genesis;
  }
