-- From what the two files of a journal may read as to what they may open to.
use Rattle.std.proofs.Common.{◌≡◌, ◌⊎◌, inl, inr, ⊎_elim, ℕ, List, Option, Some, None, refl, ◌∙◌, subst, arith}
use Rattle.std.specs.Prelude.{IsSome, IsSomeAnd, true, false}
use Rattle.edge_kit.specs.declared.bytes.Root.{Root}
use Rattle.record_journal.specs.TwoDisks.{LeftPair, EitherRose}
use Rattle.record_journal.specs.Pairs.{Reads}
use Rattle.record_journal.specs.Journals.{Journaled, MayRead, disks_of}
use Rattle.record_journal.proofs.TwoDisks.{pairs_now, pairs_weaker}
use Rattle.check_sign.specs.Contents.{Seen, disks_in}
use Rattle.check_sign.specs.Crashes.{Files, LeavesFiles, LeftNow}
use Rattle.desk_machine.specs.States.{State, Lasting}
use Rattle.check_sign.specs.Standing.{DeskStands, TornStands, Opens, MayOpen}
use Rattle.check_sign.specs.Writing.{KeepsJournal, Moved, journal_of}
use Rattle.check_sign.specs.Calls.{Counted, IsCallOf, IsOwn, IsStep, WritesOne}
use Rattle.desk_machine.specs.Machine.{after}
use Rattle.desk_machine.specs.declared.call.DeskCall.{DeskCall}
use Rattle.desk_machine.specs.declared.call.DeskReply.{DeskReply}
use Rattle.desk_machine.specs.declared.call.DeskReply.TheVariants as reply

torn_opens : (genesis : Root) (files : Files) (t : Option (List (List ℕ))) (l : Option Lasting) → TornStands t l → IsSomeAnd t (λ qs. Reads genesis.0 qs files.0 files.1) → IsSomeAnd l (λ x. Opens genesis files x)
torn_opens genesis files None None s read = absurd read
torn_opens genesis files None (Some l) s read = absurd read
torn_opens genesis files (Some qs) None s read = absurd s
torn_opens genesis files (Some qs) (Some l) s read = record { payloads = qs; read = read; stand = s }

pub may_open : {D : Type 0} (seen : Seen D) (state : State) → DeskStands seen.contents state → (files : Files) → MayRead (journal_of seen) files.0 files.1 → MayOpen seen.contents.genesis state files
may_open seen state s files (inl read) = inl (record { payloads = seen.contents.payloads; read = read; stand = s.payloads })
may_open seen state s files (inr read) = inr (torn_opens seen.contents.genesis files seen.contents.torn state.torn s.torn read)

not_both : {X : Type 0} (t : Option X) (A : Type 0) → t ≡ None → IsSome t → A
not_both None A none some = let bad : false ≡ true = some in absurd cc
not_both (Some x) A none some = let bad : Some x ≡ None = none in absurd cc

module _ {D : Type 0} (moment : D → ℕ) (leaves : D → ℕ → List ℕ → Type 0) (faults : D → ℕ) where
  pub moments_open : (old new : Seen D) (state now : State) → KeepsJournal moment leaves faults (journal_of old) (journal_of new) → new.contents.genesis ≡ old.contents.genesis
      → DeskStands old.contents state → DeskStands new.contents now
      → LeavesFiles moment leaves (disks_in old) (disks_in new) (λ files. MayOpen old.contents.genesis state files ⊎ MayOpen old.contents.genesis now files)
  moments_open old new state now moved same s t =
      pairs_weaker moment leaves (disks_in old) (disks_in new) (λ a b. MayRead (journal_of old) a b ⊎ MayRead (journal_of new) a b) (λ a b. MayOpen old.contents.genesis state (a, b) ⊎ MayOpen old.contents.genesis now (a, b)) moved.moments
      (λ a b either. ⊎_elim (λ read. inl (may_open old state s (a, b) read)) (λ read. inr (subst (λ (g : Root). MayOpen g now (a, b)) same (may_open new now t (a, b) read))) either)

  pub left_opens : (old new : Seen D) (state : State) → KeepsJournal moment leaves faults (journal_of old) (journal_of new) → DeskStands new.contents state
      → LeftNow moment leaves (disks_in new) (MayOpen new.contents.genesis state)
  left_opens old new state moved s a b left left_too = may_open new state s (a, b) (moved.left a b left left_too)

  -- where nothing was written
  pub still : (old : Journaled D) → LeftPair moment leaves (disks_of old) (MayRead old) → Moved moment leaves faults old old
  still old left = record {
    keeps = record {
      moments = pairs_now moment leaves (disks_of old) (λ a b. MayRead old a b ⊎ MayRead old a b) (λ a b l l_too. inl (left a b l l_too));
      left = left;
      root = refl;
      later = record { first = omega arith; second = omega arith };
      fails = λ none some. not_both old.torn (EitherRose faults (disks_of old) (disks_of old)) none some;
    };
    other = refl;
    place = refl;
  }

  -- the same journals, with the root as the desk knows it
  pub moved_rooted : (j k : Journaled D) (root : List ℕ) → j.root ≡ root → Moved moment leaves faults j k → Moved moment leaves faults (record j { root = root }) (record k { root = root })
  moved_rooted j k root e moved =
      let K : List ℕ → Type 0 = λ r. Moved moment leaves faults j (record k { root = r }) in
      let J : List ℕ → Type 0 = λ r. Moved moment leaves faults (record j { root = r }) (record k { root = root }) in
      subst J e (subst K (moved.keeps.root ∙ e) moved)

  -- a step over a journal that moved is one call of the desk
  pub is_call : (old new : Seen D) (c : DeskCall) (r : DeskReply) → IsStep old.contents c r new.contents → Counted old.contents c r new.contents → IsOwn old.contents c r new.contents
      → KeepsJournal moment leaves faults (journal_of old) (journal_of new) → (r ≡ reply.Disk → old.contents.torn ≡ None → EitherRose faults (disks_in old) (disks_in new))
      → WritesOne c r old new → IsCallOf moment leaves faults old new c r
  is_call old new c r step counted own moved rose disks = record {
    machine = step;
    counted = counted;
    own = own;
    journal = moved;
    moments = λ state stands. moments_open old new state (after state c r) moved counted.genesis stands (step state stands).1;
    left = λ state stands. left_opens old new state moved stands;
    later = moved.later;
    fails = moved.fails;
    rose = rose;
    disks = disks;
  }
