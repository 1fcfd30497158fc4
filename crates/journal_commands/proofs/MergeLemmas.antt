-- How a merge ends, by what was met.
use Rattle.std.proofs.Common.{◌≡◌, ℕ, List, sym, subst, ⊎_elim, inl, inr}
use Rattle.std.specs.Prelude.{false}
use Rattle.edge_kit.specs.declared.bytes.Root.{Root}
use Rattle.edge_kit.specs.declared.disk.Disks.{Disks}
use Rattle.desk_machine.specs.declared.call.DeskCall.TheVariants as call
use Rattle.desk_machine.specs.declared.event.DeskEvent.{DeskEvent}
use Rattle.check_sign.specs.Contents.{Seen}
use Rattle.check_sign.specs.Opening.{Opening}
use Rattle.check_sign.specs.Images.{Leaves, OpensByCall}
use Rattle.check_sign.proofs.ImageLemmas.{called, still, weaker}
use Rattle.program_end.specs.declared.status.Status.{Status}
use Rattle.journal_commands.specs.Views.{View}
use Rattle.journal_commands.specs.Openings.{EachImage, WritesCurrent}
use Rattle.journal_commands.specs.Merging.{DeskMergeEnds, MergeEnds, OpensByMerge}
use Rattle.journal_commands.proofs.OpeningLemmas.{Fares, Handed, fares_call, each_image, fares_same, had_desk, writes_none}

module _ {D : Type 0} (moment : D → ℕ) (leaves : D → ℕ → List ℕ → Type 0) (faults : D → ℕ) (before now : View) (opened ended : Seen D) (result : Status) where
  abbrev Ends : Type 0
  Ends = DeskMergeEnds moment leaves faults before now opened ended result

  -- what becomes of a desk into which the input is merged
  pub merge_fares : Ends → Fares faults opened ended
  merge_fares (inl e) = fares_same faults opened ended e.uncalled
  merge_fares (inr (inl e)) = fares_same faults opened ended e.uncalled
  merge_fares (inr (inr e)) = fares_call moment leaves faults opened ended (call.Merge e.file) e.reply_is e.called

  -- a merge is no compaction
  pub merge_writes : Ends → WritesCurrent opened ended
  merge_writes (inl e) = writes_none opened ended e.uncalled
  merge_writes (inr (inl e)) = writes_none opened ended e.uncalled
  merge_writes (inr (inr e)) = record { other = e.called.disks.0; place = e.called.disks.1 }

  same_leaves : ended ≡ opened → Leaves moment leaves (OpensByMerge opened.contents.genesis before now) opened ended
  same_leaves same =
      let L : Seen D → Type 0 = λ desk. Leaves moment leaves (OpensByMerge opened.contents.genesis before now) opened desk in
      subst L (sym same) (still moment leaves opened (OpensByMerge opened.contents.genesis before now) (λ state c may. inl may))

  own_leaves : Ends → Leaves moment leaves (OpensByMerge opened.contents.genesis before now) opened ended
  own_leaves (inl e) = same_leaves e.uncalled
  own_leaves (inr (inl e)) = same_leaves e.uncalled
  own_leaves (inr (inr e)) =
      weaker moment leaves opened ended (OpensByCall opened.contents.genesis (call.Merge e.file)) (OpensByMerge opened.contents.genesis before now)
      (λ state stands c. ⊎_elim (λ was. inl was) (λ is. inr (e.file, is.0, e.read, is.1, is.2)))
      (called moment leaves faults opened ended (call.Merge e.file) e.reply_is e.called)

  -- what a crash leaves of it
  pub merge_leaves : (genesis : Root) → opened.contents.genesis ≡ genesis → Ends → Leaves moment leaves (OpensByMerge genesis before now) opened ended
  merge_leaves genesis is ends = let L : Root → Type 0 = λ root. Leaves moment leaves (OpensByMerge root before now) opened ended in subst L is (own_leaves ends)

-- a desk was opened, the input merged into it, and its disks handed back
pub merge_ended : {D : Type 0} (shows : D → List ℕ → Type 0) (moment : D → ℕ) (leaves : D → ℕ → List ℕ → Type 0) (faults : D → ℕ) (genesis : Root) (first last : Disks D) (before now : View) (events : List DeskEvent) (result : Status) (opened ended : Seen D)
    → Opening shows moment leaves faults first genesis false 0 opened → DeskMergeEnds moment leaves faults before now opened ended result → Handed ended last events
    → MergeEnds shows moment leaves faults genesis first last before now events result
merge_ended shows moment leaves faults genesis first last before now events result opened ended opening ends handed =
    let run = merge_leaves moment leaves faults before now opened ended result genesis opening.opened.genesis_is ends in
    inr (had_desk moment leaves faults shows genesis false 0 first last events
    (λ o e. DeskMergeEnds moment leaves faults before now o e result × EachImage shows moment leaves genesis first last (OpensByMerge genesis before now) o × WritesCurrent o e) opened ended opening
    (ends, each_image moment leaves faults shows genesis false first last (OpensByMerge genesis before now) opened ended opening run handed.disks, merge_writes moment leaves faults before now opened ended result ends)
    (merge_fares moment leaves faults before now opened ended result ends) (run opening.left).left handed)
