-- That a run which is asked for another chain than that of the journal leaves the journal as it was.
use Rattle.std.proofs.Common.{◌≡◌, inl, inr, ⊎_elim, ℕ, Bool, false, List, [], Option, Some, None, refl, sym, ◌∙◌, ap, subst}
use Rattle.edge_kit.specs.declared.bytes.Root.{Root}
use Rattle.edge_kit.specs.declared.disk.Disks.{Disks}
use Rattle.phase0_types.specs.declared.fork.Fork.{Fork}
use Rattle.service_url.specs.Services.{Service}
use Rattle.record_journal.specs.declared.place.Place.{Place}
use Rattle.record_journal.specs.declared.open.OpenFault.TheVariants as journal_fault
use Rattle.record_journal.specs.Pairs.{NoneBegun, OneGenesis, Reads, pair_begun, pair_reading}
use Rattle.record_journal.specs.Opened.{PairBeginning, PairUnwritten}
use Rattle.desk_machine.specs.declared.event.DeskEvent.{DeskEvent}
use Rattle.check_sign.specs.Contents.{Seen}
use Rattle.check_sign.specs.Crashes.{Files, now_of}
use Rattle.check_sign.specs.Opening.{Opening, RefusedLeaves}
use Rattle.check_sign.specs.declared.open.OpenFault.{OpenFault}
use Rattle.check_sign.specs.declared.open.OpenFault.TheVariants as open_fault
use Rattle.world_law.specs.Worlds.{Event}
use Rattle.program_end.specs.declared.status.Status.{Status}
use Rattle.command_line.specs.Plans.{session, serve, proxy, merge, show, rehearse, shown, nothing}
use Rattle.validator_cli.specs.Endings.{IsUntouched, Outside, RunEnds}
use Rattle.serve_world.specs.Others.{AreOfAnother, OtherIdles}
use Rattle.serve_world.specs.SessionRunning.{Idle, LeftBy, StaysSo}
use Rattle.serve_world.specs.Starting.{Show}
use Rattle.serve_world.proofs.SessionRunLemmas.{idle}

none_read : {A : Type 0} (x : List (List ℕ)) → None ≡ Some x → A
none_read x e = absurd cc

none_begun : {A : Type 0} (file : Place) (kept : List ℕ) → NoneBegun ≡ OneGenesis file kept → A
none_begun file kept e = absurd cc

-- nothing of the journal was touched: a crash leaves what one before would have left, and the disks show the same files
pub record Untouched {D : Type 0} (shows : D → List ℕ → Type 0) (moment : D → ℕ) (leaves : D → ℕ → List ℕ → Type 0) (genesis : Root) (client : ℕ) (past : List Event) (files : Files) (disks_before disks_now : Disks D) : Type 0 where
  pub stays : StaysSo moment leaves genesis client past disks_before disks_now
  pub visible : Show shows disks_now files

module _ {D : Type 0} (shows : D → List ℕ → Type 0) (moment : D → ℕ) (leaves : D → ℕ → List ℕ → Type 0) (faults : D → ℕ) (root genesis : Root) (disks_before disks_now : Disks D) (client : ℕ) (past : List Event)
    (files : Files) (other : AreOfAnother root files) (visible : Show shows disks_before files) (left : LeftBy leaves genesis client past disks_before (now_of moment disks_before)) where
  abbrev Kept : Type 0
  Kept = Untouched shows moment leaves genesis client past files disks_before disks_now

  -- no desk is opened over these files
  pub unopened : {A : Type 0} (watch : Bool) (epoch : ℕ) (desk : Seen D) → Opening shows moment leaves faults disks_before root watch epoch desk → A
  unopened watch epoch desk opening =
      let read = opening.opened.read in
      let A : List ℕ → Type 0 = λ a. Reads root.0 desk.contents.payloads a files.1 in
      let B : List ℕ → Type 0 = λ b. Reads root.0 desk.contents.payloads read.a b in
      let reads : Reads root.0 desk.contents.payloads files.0 files.1 = subst A (sym (read.first_shown files.0 visible.0)) (subst B (sym (read.second_shown files.1 visible.1)) read.holds) in
      none_read desk.contents.payloads (sym (ap pair_begun other.2) ∙ reads)

  -- nor is a journal begun where they are
  unbegun : {A : Type 0} → PairBeginning shows moment leaves root.0 disks_before disks_now → A
  unbegun begins =
      let one = begins.first.read in
      let two = begins.second_read in
      let read : pair_reading root.0 one.bytes two.bytes ≡ NoneBegun = rw (one.holds, two.holds) refl in
      let both : pair_reading root.0 files.0 files.1 ≡ NoneBegun = ap (λ (c : List ℕ). pair_reading root.0 c files.1) (one.shown files.0 visible.0) ∙ ap (λ (c : List ℕ). pair_reading root.0 one.bytes c) (two.shown files.1 visible.1) ∙ read in
      none_begun other.0 other.1 (sym both ∙ other.2)

  unwritten : PairUnwritten shows moment leaves disks_before disks_now → Kept
  unwritten u = record {
    stays = λ k low high c l. left c (u.first.left.each k.0 c.0 low.0 high.0 l.0, u.second.left.each k.1 c.1 low.1 high.1 l.1);
    visible = (u.first.seen.forth files.0 visible.0, u.second.seen.forth files.1 visible.1);
  }

  pub refused : (fault : OpenFault) → RefusedLeaves shows moment leaves root disks_before fault disks_now → Kept
  refused (open_fault.Journal journal_fault.Disk) l = ⊎_elim (λ u. unwritten u) (λ b. unbegun b) l
  refused (open_fault.Journal journal_fault.OutOfMemory) l = ⊎_elim (λ u. unwritten u) (λ b. unbegun b) l
  refused (open_fault.Journal (journal_fault.Damaged file offset byte)) l = unwritten l
  refused (open_fault.Journal (journal_fault.Genesis kept given)) l = unwritten l
  refused (open_fault.TooManyKeys have new) l = unwritten l

  pub untouched : disks_now ≡ disks_before → Kept
  untouched same = record {
    stays = idle moment leaves genesis disks_before disks_now client past same left;
    visible = let S : Disks D → Type 0 = λ d. Show shows d files in subst S (sym same) visible;
  }

  module _ (before now : Outside) (noted : List DeskEvent) (ended : Status) where
    abbrev Idles : Type 0
    Idles = Idle moment leaves genesis client past before now noted disks_before disks_now × Show shows disks_now files

    is_idle : Kept → IsUntouched before now → noted ≡ [] → Idles
    is_idle kept same none = (record { stays = kept.stays; untouched = same; none = none }, kept.visible)

    session_idles : (journal : Option (List ℕ)) (fork : Fork) (altair : Option ℕ) (signer : Option Service) (watch : Bool) → RunEnds shows moment leaves faults (session root journal fork altair signer watch) disks_before disks_now before now noted ended → Idles
    session_idles journal fork altair signer watch (inr none) = is_idle (untouched none.1.same) none.1.untouched none.1.none
    session_idles journal fork altair signer watch (inl (inl not)) = is_idle (refused not.0.fault not.0.refused.writes) not.1 not.0.unnoted
    session_idles journal fork altair signer watch (inl (inr had)) = unopened watch 0 had.opened had.opening

    merge_idles : (journal : List ℕ) → RunEnds shows moment leaves faults (merge root journal) disks_before disks_now before now noted ended → Idles
    merge_idles journal (inr none) = is_idle (untouched none.1.same) none.1.untouched none.1.none
    merge_idles journal (inl (inl not, unasked)) = is_idle (refused not.0.fault not.0.refused.writes) (record { unread = not.1; unasked = unasked }) not.0.unnoted
    merge_idles journal (inl (inr had, unasked)) = unopened false 0 had.opened had.opening

    show_idles : (journal : List ℕ) → RunEnds shows moment leaves faults (show root journal) disks_before disks_now before now noted ended → Idles
    show_idles journal (inr none) = is_idle (untouched none.1.same) none.1.untouched none.1.none
    show_idles journal (inl (inl not, same)) = is_idle (refused not.fault not.refused.writes) same not.unnoted
    show_idles journal (inl (inr had, same)) = unopened false 0 had.opened had.opening

module _ {D : Type 0} (shows : D → List ℕ → Type 0) (moment : D → ℕ) (leaves : D → ℕ → List ℕ → Type 0) (faults : D → ℕ) where
  pub other_idles : OtherIdles shows moment leaves faults
  other_idles (session root journal fork altair signer watch) disks_before disks_now before now noted ended ends genesis client past files other visible stop left =
      session_idles shows moment leaves faults root genesis disks_before disks_now client past files other visible left before now noted ended journal fork altair signer watch ends
  other_idles (merge root journal) disks_before disks_now before now noted ended ends genesis client past files other visible stop left =
      merge_idles shows moment leaves faults root genesis disks_before disks_now client past files other visible left before now noted ended journal ends
  other_idles (show root journal) disks_before disks_now before now noted ended ends genesis client past files other visible stop left =
      show_idles shows moment leaves faults root genesis disks_before disks_now client past files other visible left before now noted ended journal ends
  other_idles (serve options) disks_before disks_now before now noted ended ends genesis client past files other visible stop left = absurd other
  other_idles (proxy options) disks_before disks_now before now noted ended ends genesis client past files other visible stop left = absurd other
  other_idles (rehearse number clients steps) disks_before disks_now before now noted ended ends genesis client past files other visible stop left = absurd other
  other_idles shown disks_before disks_now before now noted ended ends genesis client past files other visible stop left = absurd other
  other_idles nothing disks_before disks_now before now noted ended ends genesis client past files other visible stop left = absurd other
