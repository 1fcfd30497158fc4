-- A session over the desk of a journal.
use Rattle.std.proofs.Common.{◌≡◌, ℕ, Bool, List, Option, refl, sym, subst, inr}
use Rattle.edge_kit.specs.Causes.{Rose}
use Rattle.edge_kit.specs.declared.disk.Disks.{Disks}
use Rattle.signer_link.specs.declared.reply.Told.{Told}
use Rattle.desk_machine.specs.declared.event.DeskEvent.{DeskEvent}
use Rattle.record_journal.specs.TwoDisks.{EitherRose}
use Rattle.check_sign.specs.Contents.{Seen, disks_in}
use Rattle.check_sign.proofs.FaultLemmas.{either_back}
use Rattle.check_sign.specs.Calls.{LeavesDesk}
use Rattle.check_sign.specs.Opening.{Opening}
use Rattle.program_end.specs.declared.status.Status.{Status}
use Rattle.program_end.specs.declared.status.Status.TheVariants as status
use Rattle.session_format.specs.declared.chain.SessionChain.{SessionChain}
use Rattle.session_run.specs.Acts.{AtBench, DeskFares}
use Rattle.session_run.specs.Ends.{Ends}
use Rattle.session_run.specs.Inputs.{WithinLimits}
use Rattle.session_run.proofs.EndLemmas.{ends_disk, ends_fares, ends_read, ends_within, ends_write}
use Rattle.command_line.specs.declared.planned.Plan.{Plan}
use Rattle.command_line.specs.declared.planned.Plan.TheVariants as plan
use Rattle.journal_commands.proofs.OpeningLemmas.{Fares, Handed, had_desk}
use Rattle.validator_cli.specs.Endings.{Outside, IsSessionComplete, SessionEnds, bench_at, session_chain, wires_of}

-- the chain of a plan, if it is a session's
abbrev pub chain_of : SessionChain → Plan → SessionChain
chain_of none (plan.Session genesis journal fork altair signer watch) = session_chain genesis fork altair
chain_of none (plan.Serve options) = none
chain_of none (plan.Proxy options) = none
chain_of none (plan.Merge genesis journal) = none
chain_of none (plan.Show genesis journal) = none
chain_of none (plan.Rehearse number size) = none
chain_of none (plan.Shown text) = none

-- whether keys are watched by a plan, if it says
abbrev pub watch_of : Bool → Plan → Bool
watch_of none (plan.Session genesis journal fork altair signer watch) = watch
watch_of none (plan.Serve options) = none
watch_of none (plan.Proxy options) = none
watch_of none (plan.Merge genesis journal) = none
watch_of none (plan.Show genesis journal) = none
watch_of none (plan.Rehearse number size) = none
watch_of none (plan.Shown text) = none

pub at_bench : {D : Type 0} (b : AtBench D) (desk : Seen D) (told : Option (List Told)) (failed denied : ℕ) → b.desk ≡ desk → b.signer.told ≡ told → b.signer.faults ≡ failed → b.signer.denials ≡ denied → b ≡ record { desk = desk; signer = record { told = told; faults = failed; denials = denied } }
at_bench b desk told failed denied d t f n = λ i. record { desk = d i; signer = record { told = t i; faults = f i; denials = n i } }

fares_as : {D : Type 0} (faults : D → ℕ) (old new : Seen D) → DeskFares faults old new → Fares faults old new
fares_as faults old new f = record { genesis = f.genesis; later = f.later; fails = f.fails }

module _ {D : Type 0} (shows : D → List ℕ → Type 0) (moment : D → ℕ) (leaves : D → ℕ → List ℕ → Type 0) (faults : D → ℕ) (chain : SessionChain) (before now : Outside) (result : Status) (opened ended : Seen D) where
  abbrev pub Served : Status → Type 0
  Served st = Ends moment leaves faults chain (bench_at opened before) (bench_at ended now) (wires_of before.view) (wires_of now.view) st

  -- the lines were served at these benches, for this chain
  pub served_at : (own : SessionChain) (bench_before bench_now : AtBench D) → own ≡ chain → bench_before ≡ bench_at opened before → bench_now ≡ bench_at ended now
      → Ends moment leaves faults own bench_before bench_now (wires_of before.view) (wires_of now.view) result → Served result
  served_at own bench_before bench_now d b n ends =
      let E : SessionChain → Type 0 = λ x. Ends moment leaves faults x bench_before bench_now (wires_of before.view) (wires_of now.view) result in
      let B : AtBench D → Type 0 = λ x. Ends moment leaves faults chain x bench_now (wires_of before.view) (wires_of now.view) result in
      let N : AtBench D → Type 0 = λ x. Ends moment leaves faults chain (bench_at opened before) x (wires_of before.view) (wires_of now.view) result in
      subst N n (subst B b (subst E d ends))

  module _ (watch : Bool) (first last : Disks D) (events : List DeskEvent) (opening : Opening shows moment leaves faults first chain.domains.genesis watch 0 opened) (handed : Handed ended last events) (ends : Served result) where
    pub session_ended : LeavesDesk moment leaves (disks_in ended) ended.contents → SessionEnds shows moment leaves faults chain watch first last before now events result
    session_ended left = inr (had_desk moment leaves faults shows chain.domains.genesis watch 0 first last events
        (λ o e. Ends moment leaves faults chain (bench_at o before) (bench_at e now) (wires_of before.view) (wires_of now.view) result) opened ended opening ends
        (fares_as faults opened ended (ends_fares moment leaves faults chain (bench_at opened before) (bench_at ended now) (wires_of before.view) (wires_of now.view) result ends)) left handed)

    pub session_read : result ≡ status.ReadFault → Rose before.view.failed now.view.failed
    session_read = ends_read moment leaves faults chain (bench_at opened before) (bench_at ended now) (wires_of before.view) (wires_of now.view) result ends

    pub session_write : result ≡ status.WriteFault → Rose before.view.out.failed now.view.out.failed
    session_write = ends_write moment leaves faults chain (bench_at opened before) (bench_at ended now) (wires_of before.view) (wires_of now.view) result ends

    pub session_disk : result ≡ status.DiskFault → EitherRose faults first last
    session_disk is =
        let R : Disks D → Type 0 = λ disks. EitherRose faults first disks in
        let rose = ends_disk moment leaves faults chain (bench_at opened before) (bench_at ended now) (wires_of before.view) (wires_of now.view) result ends is in
        subst R (sym handed.disks) (either_back faults first (disks_in opened) (disks_in ended) opening.later rose)

    pub session_complete : WithinLimits before.view.left → ¬ (Rose before.view.failed now.view.failed) → ¬ (Rose before.view.out.failed now.view.out.failed) → ¬ (EitherRose faults first last) → IsSessionComplete result
    session_complete within reads writes disk = at result refl where
      at : (st : Status) → result ≡ st → IsSessionComplete st
      at status.Done is = tt
      at status.OutOfMemory is = tt
      at status.Damaged is = tt
      at status.GenesisDiffers is = tt
      at status.Usage is = absurd (subst Served is ends).ends
      at status.NoNode is = absurd (subst Served is ends).ends
      at status.DoorFault is = absurd (subst Served is ends).ends
      at status.FileRefused is = absurd (subst Served is ends).ends
      at status.ReadFault is = absurd (reads (session_read is))
      at status.WriteFault is = absurd (writes (session_write is))
      at status.DiskFault is = absurd (disk (session_disk is))
      at (status.InputTooLong l) is = absurd (ends_within moment leaves faults chain (bench_at opened before) (bench_at ended now) (wires_of before.view) (wires_of now.view) result ends within l is)
