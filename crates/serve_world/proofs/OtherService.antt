-- That the validator client which is asked for another chain than that of the journal leaves the journal as it was.
use Rattle.std.proofs.Common.{◌≡◌, ⊎_elim, ℕ, Bool, List, [], Option, ap}
use Rattle.edge_kit.specs.declared.bytes.Root.{Root}
use Rattle.edge_kit.specs.declared.disk.Disks.{Disks}
use Rattle.desk_machine.specs.declared.event.DeskEvent.{DeskEvent}
use Rattle.check_sign.specs.Crashes.{Files, now_of}
use Rattle.world_law.specs.Worlds.{Event}
use Rattle.serve_world.specs.Others.{AreOfAnother}
use Rattle.serve_world.specs.SessionRunning.{LeftBy}
use Rattle.serve_world.specs.Starting.{Show}
use Rattle.serve_world.proofs.OtherSession.{Untouched, refused, unopened, untouched}
use Rattle.program_end.specs.declared.status.Status.{Status}
use Rattle.journal_commands.specs.Openings.{open_line}
use Rattle.keymanager_api.specs.Serving.{LinkSeen}
use Rattle.command_line.specs.declared.serve_options.ServeOptions.{ServeOptions}
use Rattle.duty_turns.specs.Times.{epoch_of, slot_of}
use Rattle.serve_run.specs.Clients.{Parts}
use Rattle.serve_run.specs.Ends.{ServeEnds}
use Rattle.serve_world.specs.Running.{OnlyBegins, OtherServiceIdles, Unstarted}
use Rattle.serve_world.proofs.ServiceLemmas.{IsClosed, begins_bare, begins_equipped, begins_none, begins_refused, closed_from, closed_refused, closed_same}

module _ {D C : Type 0} (shows : D → List ℕ → Type 0) (moment : D → ℕ) (leaves : D → ℕ → List ℕ → Type 0) (faults : D → ℕ) (see : C → LinkSeen) where
  module _ (clock : Option ℕ) (options : ServeOptions) (disks_before disks_now : Disks D) (before : Parts C) (now : List Bool → Parts C) (flags : List Bool) (noted : List DeskEvent) (ended : Status)
      (genesis : Root) (client : ℕ) (past : List Event) (files : Files) (other : AreOfAnother options.genesis files) (visible : Show shows disks_before files)
      (left : LeftBy leaves genesis client past disks_before (now_of moment disks_before)) where
    abbrev Idles : Type 0
    Idles = Unstarted moment leaves genesis options client past before now noted ended disks_before disks_now × Show shows disks_now files

    idles : Untouched shows moment leaves genesis client past files disks_before disks_now → noted ≡ [] → OnlyBegins options before (now flags) → IsClosed before.out (now flags).out ended → Idles
    idles kept none begins closed = (record { stays = kept.stays; none = none; flags = flags; begins = begins; line = closed.0; closes = closed.1 }, kept.visible)

    same_disks : disks_now ≡ disks_before → Untouched shows moment leaves genesis client past files disks_before disks_now
    same_disks same = untouched shows moment leaves faults options.genesis genesis disks_before disks_now client past files other visible left same

    pub ends_idle : ServeEnds shows moment leaves faults see clock options disks_before disks_now before (now flags) noted ended → Idles
    ends_idle ends = ⊎_elim
        (λ not_started. idles
        (same_disks not_started.disks)
        not_started.unnoted
        (begins_refused options before (now flags) not_started.why not_started.starts not_started.signer not_started.lanes not_started.door)
        (closed_refused options.genesis not_started.why before.out (now flags).out ended not_started.closes))
        (λ started. ⊎_elim
        (λ not_equipped. idles
        (same_disks not_equipped.disks)
        not_equipped.unnoted
        (begins_bare options before (now flags) started.start started.nodes started.starts not_equipped.parts)
        (closed_same before.out (now flags).out ended not_equipped.is (ap (λ (p : Parts C). p.out) not_equipped.parts)))
        (λ equipped. ⊎_elim
        (λ not_opened. idles
        (refused shows moment leaves faults options.genesis genesis disks_before disks_now client past files other visible left not_opened.refused.fault not_opened.refused.refused.writes)
        not_opened.refused.unnoted
        (begins_equipped options before (now flags) started.start started.nodes started.starts equipped.equipped equipped.has not_opened.writes)
        (closed_from before.out equipped.equipped.out (now flags).out ended (ap (λ (p : Parts C). p.out) equipped.has.is) (open_line not_opened.refused.fault, not_opened.refused.tells)))
        (λ had. unopened shows moment leaves faults options.genesis genesis disks_before disks_now client past files other visible left options.watch (epoch_of (slot_of started.start.genesis_time equipped.over.shown)) had.opened had.opening)
        equipped.over.serves)
        started.goes_on)
        ends

  pub other_service_idles : OtherServiceIdles shows moment leaves faults see
  other_service_idles clock options disks_before disks_now before now noted ended runs genesis client past files other visible stop left = ⊎_elim
      (λ ended_so. ends_idle clock options disks_before disks_now before now ended_so.flags noted ended genesis client past files other visible left ended_so.ends)
      (λ unbegun. idles clock options disks_before disks_now before now [] noted ended genesis client past files other visible left
      (same_disks clock options disks_before disks_now before now [] noted ended genesis client past files other visible left unbegun.disks)
      unbegun.unnoted
      (begins_none options before (now []) unbegun.parts)
      (closed_same before.out (now []).out ended unbegun.is (ap (λ (p : Parts C). p.out) unbegun.parts)))
      runs
