-- What a crash may leave, from one call to the next.
use Rattle.std.proofs.Common.{⊎_elim, inl, inr, ℕ, List}
use Rattle.record_journal.proofs.TwoDisks.{pairs_now, pairs_weaker}
use Rattle.desk_machine.specs.States.{State}
use Rattle.desk_machine.specs.declared.call.DeskCall.{DeskCall}
use Rattle.desk_machine.specs.declared.call.DeskReply.{DeskReply}
use Rattle.check_sign.specs.Contents.{Seen, disks_in}
use Rattle.check_sign.specs.Crashes.{Files}
use Rattle.check_sign.specs.Standing.{DeskStands, MayOpen}
use Rattle.check_sign.specs.Calls.{IsCallOf}
use Rattle.check_sign.specs.Images.{Leaves, OpensByCall}

module _ {D : Type 0} (moment : D → ℕ) (leaves : D → ℕ → List ℕ → Type 0) where
  -- where nothing was called
  pub still : (desk : Seen D) (May : State → Files → Type 0) → ((state : State) (files : Files) → MayOpen desk.contents.genesis state files → May state files) → Leaves moment leaves May desk desk
  still desk May may left = record {
    moments = λ state stands. pairs_now moment leaves (disks_in desk) (λ a b. May state (a, b)) (λ a b l l_too. may state (a, b) (left state stands a b l l_too));
    left = left;
  }

  pub weaker : (old new : Seen D) (May Than : State → Files → Type 0) → ((state : State) → DeskStands old.contents state → (files : Files) → May state files → Than state files) → Leaves moment leaves May old new → Leaves moment leaves Than old new
  weaker old new May Than h at left = let files = at left in record {
    moments = λ state stands. pairs_weaker moment leaves (disks_in old) (disks_in new) (λ a b. May state (a, b)) (λ a b. Than state (a, b)) (files.moments state stands) (λ a b. h state stands (a, b));
    left = files.left;
  }

  -- a call of the desk
  pub called : (faults : D → ℕ) (old new : Seen D) (c : DeskCall) (r : DeskReply) → IsCallOf moment leaves faults old new c r → Leaves moment leaves (OpensByCall old.contents.genesis c) old new
  called faults old new c r call at = record {
    moments = λ state stands. pairs_weaker moment leaves (disks_in old) (disks_in new) _ (λ a b. OpensByCall old.contents.genesis c state (a, b)) (call.moments state stands)
        (λ a b either. ⊎_elim (λ before. inl before) (λ now. inr (r, (call.machine state stands).0, now)) either);
    left = call.left;
  }
