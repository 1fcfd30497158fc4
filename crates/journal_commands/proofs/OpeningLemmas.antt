-- A desk that was opened and ended.
use Rattle.std.proofs.Common.{◌≡◌, ℕ, Bool, List, Option, None, Some, refl, sym, ◌∙◌, subst}
use Rattle.std.specs.Prelude.{IsSome, true, false}
use Rattle.edge_kit.specs.declared.bytes.Root.{Root}
use Rattle.edge_kit.specs.declared.disk.Disks.{Disks}
use Rattle.record_journal.specs.TwoDisks.{EitherRose, FaultsLater}
use Rattle.desk_machine.specs.States.{State}
use Rattle.desk_machine.specs.declared.call.DeskCall.{DeskCall}
use Rattle.desk_machine.specs.declared.call.DeskReply.{DeskReply}
use Rattle.desk_machine.specs.declared.event.DeskEvent.{DeskEvent}
use Rattle.check_sign.specs.Contents.{Seen, disks_in}
use Rattle.check_sign.specs.Crashes.{Files, LeavesFiles}
use Rattle.check_sign.specs.Calls.{IsCallOf, LeavesDesk}
use Rattle.check_sign.specs.Images.{Leaves}
use Rattle.check_sign.specs.Opening.{Opening}
use Rattle.check_sign.proofs.FaultLemmas.{either_back, later_none, later_on}
use Rattle.command_line.specs.declared.planned.Plan.{Plan}
use Rattle.command_line.specs.declared.planned.Plan.TheVariants as plan
use Rattle.journal_commands.specs.Openings.{EachImage, HadDeskAt, OpenedLeaves, WritesCurrent}

-- the chain of a plan, if it has one
abbrev pub root_of : Root → Plan → Root
root_of none (plan.Session genesis journal fork altair signer watch) = genesis
root_of none (plan.Serve options) = options.genesis
root_of none (plan.Proxy options) = options.genesis
root_of none (plan.Merge genesis journal) = genesis
root_of none (plan.Show genesis journal) = genesis
root_of none (plan.Rehearse number size) = none
root_of none (plan.Shown text) = none

-- what a command made of a desk: its chain is the same, and it has failed only where a disk's count of faults rose
pub record Fares {D : Type 0} (faults : D → ℕ) (old new : Seen D) : Type 0 where
  pub genesis : new.contents.genesis ≡ old.contents.genesis
  pub later : FaultsLater faults (disks_in old) (disks_in new)
  pub fails : old.contents.torn ≡ None → IsSome new.contents.torn → EitherRose faults (disks_in old) (disks_in new)

-- the desk as it was handed out
pub record Handed {D : Type 0} (ended : Seen D) (now : Disks D) (events : List DeskEvent) : Type 0 where
  pub disks : now ≡ disks_in ended
  pub noted : events ≡ ended.contents.events

not_both : {X : Type 0} (t : Option X) (A : Type 0) → t ≡ None → IsSome t → A
not_both None A none some = let bad : false ≡ true = some in absurd cc
not_both (Some x) A none some = let bad : Some x ≡ None = none in absurd cc

-- a desk that was not called
pub fares_same : {D : Type 0} (faults : D → ℕ) (old new : Seen D) → new ≡ old → Fares faults old new
fares_same {D} faults old new same =
    let F : Seen D → Type 0 = λ desk. Fares faults old desk in
    subst F (sym same) (record { genesis = refl; later = later_none faults (disks_in old); fails = λ none some. not_both old.contents.torn (EitherRose faults (disks_in old) (disks_in old)) none some })

pub writes_none : {D : Type 0} (old new : Seen D) → new ≡ old → WritesCurrent old new
writes_none {D} old new same =
    let W : Seen D → Type 0 = λ desk. WritesCurrent old desk in
    subst W (sym same) (record { other = refl; place = refl })

module _ {D : Type 0} (moment : D → ℕ) (leaves : D → ℕ → List ℕ → Type 0) (faults : D → ℕ) where
  pub fares_call : (old new : Seen D) (c : DeskCall) (r : DeskReply) → IsCallOf moment leaves faults old new c r → Fares faults old new
  fares_call old new c r call = record { genesis = call.counted.genesis; later = call.later; fails = call.fails }

  pub had_desk : (shows : D → List ℕ → Type 0) (genesis : Root) (watch : Bool) (epoch : ℕ) (before now : Disks D) (events : List DeskEvent) (Ends : Seen D → Seen D → Type 0) (opened ended : Seen D)
      → Opening shows moment leaves faults before genesis watch epoch opened → Ends opened ended → Fares faults opened ended → LeavesDesk moment leaves (disks_in ended) ended.contents → Handed ended now events
      → HadDeskAt shows moment leaves faults genesis watch epoch before now events Ends
  had_desk shows genesis watch epoch before now events Ends opened ended opening ends fares left handed =
      let L : Disks D → Type 0 = λ disks. LeavesDesk moment leaves disks ended.contents in
      let F : Disks D → Type 0 = λ disks. IsSome ended.contents.torn → EitherRose faults before disks in
      let N : Disks D → Type 0 = λ disks. FaultsLater faults before disks in
      record {
        opened = opened;
        ended = ended;
        opening = opening;
        ends = ends;
        desk = record {
          disks = handed.disks;
          noted = handed.noted;
          genesis_is = fares.genesis ∙ opening.opened.genesis_is;
          fails = subst F (sym handed.disks) (λ torn. either_back faults before (disks_in opened) (disks_in ended) opening.later (fares.fails opening.opened.up torn));
          later = subst N (sym handed.disks) (later_on faults before (disks_in opened) (disks_in ended) opening.later fares.later);
          left = subst L (sym handed.disks) left;
        };
      }

  -- the images while it was opened are those that it left then
  leaves_by : (shows : D → List ℕ → Type 0) (genesis : Root) (watch : Bool) (before now : Disks D) (May : Files → Type 0) (opened : Seen D)
      → Opening shows moment leaves faults before genesis watch 0 opened → LeavesFiles moment leaves (disks_in opened) now May → OpenedLeaves shows moment leaves genesis before now May opened
  leaves_by shows genesis watch before now May opened opening run = record {
    opening = λ k files low high l.
        opening.moments.each k.0 k.1 files.0 files.1 low.0 high.0 low.1 high.1 (run.first_stays k.0 files.0 high.0 l.0) (run.second_stays k.1 files.1 high.1 l.1);
    command = run;
  }

  pub each_image : (shows : D → List ℕ → Type 0) (genesis : Root) (watch : Bool) (before now : Disks D) (May : State → Files → Type 0) (opened ended : Seen D)
      → Opening shows moment leaves faults before genesis watch 0 opened → Leaves moment leaves May opened ended → now ≡ disks_in ended → EachImage shows moment leaves genesis before now May opened
  each_image shows genesis watch before now May opened ended opening run last = λ state stands.
      let T : Disks D → Type 0 = λ disks. LeavesFiles moment leaves (disks_in opened) disks (May state) in
      leaves_by shows genesis watch before now (May state) opened opening (subst T (sym last) ((run opening.left).moments state stands))
