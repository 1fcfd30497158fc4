-- What the parts of a run make of its ending.
use Rattle.std.proofs.Common.{◌≡◌, ◌⊎◌, ℕ, List, [], Option, refl, sym, subst, inl, inr}
use Rattle.edge_kit.specs.Causes.{Rose}
use Rattle.edge_kit.specs.declared.disk.Disks.{Disks}
use Rattle.desk_machine.specs.declared.event.DeskEvent.{DeskEvent}
use Rattle.program_end.specs.declared.closing.ClosingLine.TheVariants as closing
use Rattle.program_end.specs.declared.status.Status.{Status}
use Rattle.program_end.specs.declared.status.Status.TheVariants as status
use Rattle.program_end.proofs.ClosingLemmas.{closed_by, ended_by}
use Rattle.command_line.specs.Plans.{Asked, session, serve, proxy, merge, show, rehearse, shown, nothing}
use Rattle.journal_commands.specs.Views.{Output, EndsBy, Unwritten}
use Rattle.validator_cli.specs.Rehearsing.{IsRehearsalComplete, RehearsalEnds}
use Rattle.validator_cli.specs.Endings.{Outside, Causes, DoesNothing, EndsAs, IsComplete, IsWithin, NoCommand, RunEnds}

module _ {D : Type 0} (shows : D → List ℕ → Type 0) (moment : D → ℕ) (leaves : D → ℕ → List ℕ → Type 0) (faults : D → ℕ) (first last : Disks D) (before now : Outside) (events : List DeskEvent) (s : Status) where
  -- at what the words ask for
  pub asked_for : (own asked : Asked) → own ≡ asked → EndsAs shows moment leaves faults own first last before now events s → RunEnds shows moment leaves faults asked first last before now events s
  asked_for own asked is ends = let P : Asked → Type 0 = λ a. RunEnds shows moment leaves faults a first last before now events s in subst P is (inl ends)

pub caused_for : (own asked : Asked) (left : Option (List ℕ)) (Reads Writes Disk : Type 0) (s : Status) → own ≡ asked → Causes own left Reads Writes Disk s → Causes asked left Reads Writes Disk s
caused_for own asked left Reads Writes Disk s is causes = let P : Asked → Type 0 = λ a. Causes a left Reads Writes Disk s in subst P is causes

-- words that are no command
pub refused : {D : Type 0} (shows : D → List ℕ → Type 0) (moment : D → ℕ) (leaves : D → ℕ → List ℕ → Type 0) (faults : D → ℕ) (disks : Disks D) (before : Outside) (out : Output) (events : List DeskEvent) (s : Status) (asked : Asked)
    → nothing ≡ asked → events ≡ [] → NoCommand before.view.out out s ⊎ Unwritten before.view.out out s
    → RunEnds shows moment leaves faults asked disks disks before (record before { view = record before.view { out = out } }) events s
refused shows moment leaves faults disks before out events s asked is none ends =
    let P : Asked → Type 0 = λ a. RunEnds shows moment leaves faults a disks disks before (record before { view = record before.view { out = out } }) events s in
    subst P is (at ends) where
      still : DoesNothing disks disks before (record before { view = record before.view { out = out } }) events
      still = record { same = refl; untouched = record { unread = record { left = refl; failed = refl }; unasked = record { told = refl; failed = refl; denied = refl } }; none = none }

      at : NoCommand before.view.out out s ⊎ Unwritten before.view.out out s → RunEnds shows moment leaves faults nothing disks disks before (record before { view = record before.view { out = out } }) events s
      at (inl c) = inl (c, still)
      at (inr c) = inr (record { same = λ i. record before { view = record before.view { out = record { held = c.1 i; failed = c.2 i } } }; is = c.0 }, still)

-- a status that tells of the output alone, where nothing was asked for
abbrev OfOutput : Type 0 → Status → Type 0
OfOutput Writes status.Usage = Unit {0}
OfOutput Writes status.OutOfMemory = Unit {0}
OfOutput Writes status.WriteFault = Writes
OfOutput Writes s = ⊥

of_output : (left : Option (List ℕ)) (Reads Writes Disk : Type 0) (s : Status) → OfOutput Writes s → Causes nothing left Reads Writes Disk s
of_output left Reads Writes Disk s h = record {
  read_fault = λ is. let P : Status → Type 0 = λ x. OfOutput Writes x in absurd (subst P is h);
  write_fault = λ is. let P : Status → Type 0 = λ x. OfOutput Writes x in subst P is h;
  disk_fault = λ is. let P : Status → Type 0 = λ x. OfOutput Writes x in absurd (subst P is h);
  complete = λ within reads writes disk. absurd within;
}

pub refused_causes : (before now : Output) (left : Option (List ℕ)) (Reads Disk : Type 0) (s : Status) (asked : Asked) → nothing ≡ asked
    → NoCommand before now s ⊎ Unwritten before now s → Causes asked left Reads (Rose before.failed now.failed) Disk s
refused_causes before now left Reads Disk s asked is ends = caused_for nothing asked left Reads (Rose before.failed now.failed) Disk s is (of_output left Reads (Rose before.failed now.failed) Disk s (at ends)) where
  at : NoCommand before now s ⊎ Unwritten before now s → OfOutput (Rose before.failed now.failed) s
  at (inl c) = closed_by (OfOutput (Rose before.failed now.failed)) (closing.Usage c.line) s before.held now.held before.failed now.failed c.closes (λ _. tt) (λ w. w.rose) (λ _ _ _. tt)
  at (inr c) = let P : Status → Type 0 = λ x. OfOutput (Rose before.failed now.failed) x in subst P (sym c.0) tt

-- want of memory is complete
want_complete : (asked : Asked) (left : Option (List ℕ)) → IsWithin asked left → IsComplete asked status.OutOfMemory
want_complete (session genesis journal fork altair signer watch) left within = tt
want_complete (serve options) left within = absurd within
want_complete (proxy options) left within = absurd within
want_complete (merge genesis journal) left within = tt
want_complete (show genesis journal) left within = tt
want_complete (rehearse number clients steps) left within = tt
want_complete shown left within = inr refl
want_complete nothing left within = absurd within

pub want_causes : (asked : Asked) (left : Option (List ℕ)) (Reads Writes Disk : Type 0) → Causes asked left Reads Writes Disk status.OutOfMemory
want_causes asked left Reads Writes Disk = record {
  read_fault = λ is. let bad : status.OutOfMemory ≡ status.ReadFault = is in absurd cc;
  write_fault = λ is. let bad : status.OutOfMemory ≡ status.WriteFault = is in absurd cc;
  disk_fault = λ is. let bad : status.OutOfMemory ≡ status.DiskFault = is in absurd cc;
  complete = λ within reads writes disk. want_complete asked left within;
}

-- a text was asked for
abbrev OfText : Type 0 → Status → Type 0
OfText Writes status.Done = Unit {0}
OfText Writes status.WriteFault = Writes
OfText Writes s = ⊥

text_done : (Writes : Type 0) (st : Status) → OfText Writes st → ¬ Writes → st ≡ status.Done
text_done Writes status.Done p writes = refl
text_done Writes status.WriteFault p writes = absurd (writes p)
text_done Writes st p writes = absurd p

pub shown_causes : (before now : Output) (text : List ℕ) (left : Option (List ℕ)) (Reads Disk : Type 0) (s : Status) (asked : Asked) → shown ≡ asked → EndsBy status.Done text before now s → Causes asked left Reads (Rose before.failed now.failed) Disk s
shown_causes before now text left Reads Disk s asked is ends =
    let P : Status → Type 0 = λ st. OfText (Rose before.failed now.failed) st in
    let h : P s = ended_by P status.Done s text before.held now.held before.failed now.failed ends (λ _. tt) (λ w. w.rose) in
    caused_for shown asked left Reads (Rose before.failed now.failed) Disk s is (record {
      read_fault = λ e. absurd (subst P e h);
      write_fault = λ e. subst P e h;
      disk_fault = λ e. absurd (subst P e h);
      complete = λ within reads writes disk. inl (text_done (Rose before.failed now.failed) s h writes);
    })

-- a rehearsal was asked for
pub rehearsal_causes : (number clients steps : ℕ) (before now : Output) (left : Option (List ℕ)) (Reads Disk : Type 0) (s : Status) → RehearsalEnds number clients steps before now s → Causes (rehearse number clients steps) left Reads (Rose before.failed now.failed) Disk s
rehearsal_causes number clients steps before now left Reads Disk s (inl done) =
    let P : Status → Type 0 = λ st. OfText (Rose before.failed now.failed) st in
    let C : Status → Type 0 = λ st. IsRehearsalComplete st in
    let h : P s = ended_by P status.Done s _ before.held now.held before.failed now.failed done.writes (λ _. tt) (λ w. w.rose) in
    record {
      read_fault = λ e. absurd (subst P e h);
      write_fault = λ e. subst P e h;
      disk_fault = λ e. absurd (subst P e h);
      complete = λ within reads writes disk. subst C (sym (text_done (Rose before.failed now.failed) s h writes)) tt;
    }
rehearsal_causes number clients steps before now left Reads Disk s (inr want) =
    let P : Status → Type 0 = λ st. Causes (rehearse number clients steps) left Reads (Rose before.failed now.failed) Disk st in
    subst P (sym want.0) (want_causes (rehearse number clients steps) left Reads (Rose before.failed now.failed) Disk)
