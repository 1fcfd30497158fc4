-- That a run of the signing proxy goes on from where a stop left its client, and that one which is asked for another chain than that of the
-- journal leaves the journal as it was.
use Rattle.std.proofs.Common.{◌≡◌, ◌⊎◌, inl, inr, ⊎_elim, ℕ, false, List, Option, refl, ap, ◌∙◌}
use Rattle.edge_kit.specs.declared.bytes.Root.{Root}
use Rattle.edge_kit.specs.declared.disk.Disks.{Disks}
use Rattle.edge_clock.specs.Clocks.{IsNow}
use Rattle.desk_machine.specs.States.{no_state}
use Rattle.desk_machine.specs.declared.event.DeskEvent.{DeskEvent}
use Rattle.client_calls.specs.Seats.{SignerSeen}
use Rattle.check_sign.specs.Contents.{Seen}
use Rattle.check_sign.specs.Crashes.{Files, now_of}
use Rattle.check_sign.specs.Opening.{Opening}
use Rattle.desk_seat.specs.Turns.{calls_of}
use Rattle.world_law.specs.Worlds.{Event}
use Rattle.duty_turns.specs.Times.{epoch_of, slot_of}
use Rattle.keymanager_api.specs.Serving.{LinkSeen}
use Rattle.command_line.specs.declared.proxy_options.ProxyOptions.{ProxyOptions}
use Rattle.program_end.specs.declared.status.Status.{Status}
use Rattle.journal_commands.specs.Openings.{HadDeskAt, open_line}
use Rattle.proxy_run.specs.Begun.{joined, sent_of}
use Rattle.proxy_run.specs.Ends.{HasLanes, NotEquipped, OnlyWrites, OverJournal, ProxyEnds, ServesDesk, Unopened, signatures}
use Rattle.proxy_run.specs.Parts.{Parts}
use Rattle.serve_world.specs.Others.{AreOfAnother}
use Rattle.serve_world.specs.SessionRunning.{LeftBy, StaysSo}
use Rattle.serve_world.specs.Starting.{Show}
use Rattle.serve_world.specs.Stopping.{StopsIn}
use Rattle.serve_world.proofs.BehindLemmas.{begun_stands, begun_up, begun_whole, goes_behind, opening_stays, state_begun}
use Rattle.serve_world.proofs.OtherSession.{Untouched, refused, unopened, untouched}
use Rattle.serve_world.proofs.ServiceLemmas.{closed_from, closed_same}
use Rattle.serve_world.proofs.SessionRunLemmas.{idle}
use Rattle.serve_world.proofs.SessionStarts.{starts_keep}
use Rattle.client_world.specs.Running.{OnlyEquips, OtherProxyIdles, Proxied, ProxyGoesOn, Unproxied}
use Rattle.client_world.proofs.ProxyLemmas.{proxy_acts, proxy_go, proxy_hands_out}

-- ---- parts of which only the lanes and the output were touched

module _ {C : Type 0} (options : ProxyOptions) (signer : SignerSeen) (before now : Parts C) where
  equips_none : now ≡ before → OnlyEquips options signer before now
  equips_none same = record { door = ap (λ (p : Parts C). p.door) same; lanes = inl (ap (λ (p : Parts C). p.lanes) same) }

  equips_some : (made : Parts C) → HasLanes signer options.lanes before made → OnlyWrites made now → OnlyEquips options signer before now
  equips_some made has writes = record { door = writes.door ∙ ap (λ (p : Parts C). p.door) has.is; lanes = inr (made, has, writes) }

module _ {D C : Type 0} (shows : D → List ℕ → Type 0) (moment : D → ℕ) (leaves : D → ℕ → List ℕ → Type 0) (faults : D → ℕ) (see : C → LinkSeen) (clock : Option ℕ) (options : ProxyOptions) (signer : SignerSeen)
    (disks_before disks_now : Disks D) (before now : Parts C) (noted : List DeskEvent) (ended : Status) where
  -- ---- no desk was opened

  module _ (genesis : Root) (client : ℕ) (past : List Event) where
    abbrev Idles : Type 0
    Idles = Unproxied moment leaves genesis options signer client past before now noted ended disks_before disks_now

    none_equipped : StaysSo moment leaves genesis client past disks_before disks_now → NotEquipped disks_before disks_now before now noted ended → Idles
    none_equipped stays not =
        let closed = closed_same before.out now.out ended not.is (ap (λ (p : Parts C). p.out) not.parts) in
        record { stays = stays; none = not.unnoted; equips = equips_none options signer before now not.parts; line = closed.0; closes = closed.1 }

    none_opened : StaysSo moment leaves genesis client past disks_before disks_now → (equipped : Parts C) → HasLanes signer options.lanes before equipped
        → Unopened shows moment leaves faults options disks_before disks_now equipped now noted ended → Idles
    none_opened stays equipped has not =
        let closed = closed_from before.out equipped.out now.out ended (ap (λ (p : Parts C). p.out) has.is) (open_line not.refused.fault, not.refused.tells) in
        record { stays = stays; none = not.refused.unnoted; equips = equips_some options signer before now equipped has not.writes; line = closed.0; closes = closed.1 }

  -- ---- over the client's own journal

  module _ (client : ℕ) (past : List Event) (files : Files) (visible : Show shows disks_before files) (stop : StopsIn options.genesis client (no_state options.genesis) past files)
      (left : LeftBy leaves options.genesis client past disks_before (now_of moment disks_before)) where
    abbrev Goes : Type 0
    Goes = Unproxied moment leaves options.genesis options signer client past before now noted ended disks_before disks_now
        ⊎ ((x : Proxied moment leaves faults see clock options signer before now noted ended client past files stop disks_before disks_now)
        × Opening shows moment leaves faults disks_before options.genesis false x.epoch x.opened)

    proxied : (equipped : Parts C) → HasLanes signer options.lanes before equipped → (shown : ℕ) → IsNow clock shown
        → HadDeskAt shows moment leaves faults options.genesis false (epoch_of (slot_of options.genesis_time shown)) disks_before disks_now noted (λ opened closed. ServesDesk moment leaves faults see clock options opened closed equipped now ended)
        → (x : Proxied moment leaves faults see clock options signer before now noted ended client past files stop disks_before disks_now) × Opening shows moment leaves faults disks_before options.genesis false x.epoch x.opened
    proxied equipped has shown is_shown had =
        let genesis = options.genesis in
        let epoch : ℕ = epoch_of (slot_of options.genesis_time shown) in
        let Ends : Seen D → Seen D → Type 0 = λ opened closed. ServesDesk moment leaves faults see clock options opened closed equipped now ended in
        let stands = begun_stands shows moment leaves faults genesis false epoch disks_before disks_now noted Ends had client past files visible stop left in (
          record {
            equipped = equipped;
            has = has;
            shown = shown;
            is_shown = is_shown;
            epoch = epoch;
            epoch_is = refl;
            opened = had.opened;
            closed = had.ended;
            begins = stands;
            whole = begun_whole genesis false epoch client past files stop;
            up = begun_up genesis false epoch client past files stop;
            noted_is = had.desk.noted;
            last_is = had.desk.disks;
            serves = had.ends;
            told = proxy_acts moment leaves faults see clock options had.opened had.ended equipped now ended had.ends client;
            behind = λ acts are.
                goes_behind shows moment leaves faults genesis false epoch disks_before disks_now noted Ends had client past files visible stop left acts (sent_of (joined (signatures had.ends.shares)))
                (proxy_go moment leaves faults see clock options had.opened had.ended equipped now ended had.ends client acts are (state_begun genesis client past files stop epoch false) stands)
                (proxy_hands_out moment leaves faults see clock options had.opened had.ended equipped now ended had.ends client acts are);
            opening =
                opening_stays shows moment leaves faults genesis false epoch disks_before disks_now noted Ends had client past files visible stop left (calls_of had.ends.shares.ran.shared.log) had.ends.shares.ran.shared.path;
          },
          had.opening,
        )

    over_journal : (equipped : Parts C) → HasLanes signer options.lanes before equipped → OverJournal shows moment leaves faults see clock options disks_before disks_now equipped now noted ended → Goes
    over_journal equipped has over = ⊎_elim
        (λ not. inl (none_opened options.genesis client past
        (λ k low high c l. starts_keep shows moment leaves disks_before disks_now options.genesis not.refused.refused.moments client (no_state options.genesis) past left files visible stop k c low high l) equipped has not))
        (λ had. inr (proxied equipped has over.shown over.is_shown had))
        over.serves

    own_ends : ProxyEnds shows moment leaves faults see clock options signer disks_before disks_now before now noted ended → Goes
    own_ends ends = ⊎_elim
        (λ not. inl (none_equipped options.genesis client past (idle moment leaves options.genesis disks_before disks_now client past not.disks left) not))
        (λ equipped. over_journal equipped.equipped equipped.has equipped.over)
        ends

  -- ---- over that of another chain

  module _ (genesis : Root) (client : ℕ) (past : List Event) (files : Files) (other : AreOfAnother options.genesis files) (visible : Show shows disks_before files)
      (left : LeftBy leaves genesis client past disks_before (now_of moment disks_before)) where
    abbrev Kept : Type 0
    Kept = Untouched shows moment leaves genesis client past files disks_before disks_now

    other_ends : ProxyEnds shows moment leaves faults see clock options signer disks_before disks_now before now noted ended
        → Unproxied moment leaves genesis options signer client past before now noted ended disks_before disks_now × Show shows disks_now files
    other_ends ends = ⊎_elim
        (λ not.
        let kept : Kept = untouched shows moment leaves faults options.genesis genesis disks_before disks_now client past files other visible left not.disks in
        (none_equipped genesis client past kept.stays not, kept.visible))
        (λ equipped. ⊎_elim
        (λ not.
        let kept : Kept = refused shows moment leaves faults options.genesis genesis disks_before disks_now client past files other visible left not.refused.fault not.refused.refused.writes in
        (none_opened genesis client past kept.stays equipped.equipped equipped.has not, kept.visible))
        (λ had. unopened shows moment leaves faults options.genesis genesis disks_before disks_now client past files other visible left false (epoch_of (slot_of options.genesis_time equipped.over.shown)) had.opened had.opening)
        equipped.over.serves)
        ends

module _ {D C : Type 0} (shows : D → List ℕ → Type 0) (moment : D → ℕ) (leaves : D → ℕ → List ℕ → Type 0) (faults : D → ℕ) (see : C → LinkSeen) where
  pub proxy_goes_on : ProxyGoesOn shows moment leaves faults see
  proxy_goes_on clock options signer disks_before disks_now before now noted ended ends client past files visible stop left =
      own_ends shows moment leaves faults see clock options signer disks_before disks_now before now noted ended client past files visible stop left ends

  pub other_proxy_idles : OtherProxyIdles shows moment leaves faults see
  other_proxy_idles clock options signer disks_before disks_now before now noted ended ends genesis client past files other visible stop left =
      other_ends shows moment leaves faults see clock options signer disks_before disks_now before now noted ended genesis client past files other visible left ends
