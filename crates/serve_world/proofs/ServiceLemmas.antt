-- That a run of the validator client goes on from where a stop left its client.
use Rattle.std.proofs.Common.{◌≡◌, ◌⊎◌, ◌≤◌, inl, inr, ⊎_elim, ℕ, Bool, List, [], ◌∷◌, ◌++◌, map, Option, Some, None, Result, Ok, Err, Contains, refl, sym, ◌∙◌, ap, subst, arith}
use Rattle.std.specs.List.{AllZip}
use Rattle.std.proofs.lemmas.List.{map-append}
use Rattle.edge_kit.specs.declared.bytes.PubKey.{PubKey}
use Rattle.edge_kit.specs.declared.bytes.Root.{Root}
use Rattle.edge_kit.specs.declared.disk.Disks.{Disks}
use Rattle.edge_kit.specs.Tellings.{Tells as TellsMore}
use Rattle.edge_kit.proofs.TellingLemmas.{Tells-nil, Tells-trans}
use Rattle.edge_clock.specs.Clocks.{IsNow}
use Rattle.node_calls.specs.Asking.{told_ask}
use Rattle.node_calls.specs.declared.ask.Ask.{Ask}
use Rattle.node_calls.specs.declared.ask.Ask.TheVariants as ask
use Rattle.node_calls.specs.declared.answer.Answer.{Answer}
use Rattle.node_calls.specs.declared.answer.Answer.TheVariants as answer
use Rattle.node_calls.specs.declared.answer.NodeFault.{NodeFault}
use Rattle.node_calls.specs.declared.answer.NodeFault.TheVariants as fault
use Rattle.node_calls.specs.declared.told.NodeCall.{NodeCall}
use Rattle.node_fallback.specs.InOrder.{AreTried, IsTried, Tries, told_turn}
use Rattle.node_fallback.specs.Seen.{Seen as Asked}
use Rattle.node_fallback.specs.declared.no_node.NoAnswer.{NoAnswer}
use Rattle.node_fallback.specs.declared.no_node.NoAnswer.TheVariants as none
use Rattle.slash_defs.specs.declared.message.Message.{Message}
use Rattle.desk_machine.specs.States.{State, no_state}
use Rattle.desk_machine.specs.declared.call.DeskCall.{DeskCall}
use Rattle.desk_machine.specs.declared.call.DeskReply.{DeskReply}
use Rattle.desk_machine.specs.declared.event.DeskEvent.{DeskEvent}
use Rattle.check_sign.specs.Contents.{Seen}
use Rattle.check_sign.specs.Crashes.{Files, now_of}
use Rattle.check_sign.specs.Opening.{Opening}
use Rattle.check_sign.specs.Paths.{Path}
use Rattle.check_sign.specs.Standing.{DeskStands}
use Rattle.desk_seat.specs.Turns.{calls_of}
use Rattle.world_law.specs.Worlds.{Event}
use Rattle.world_law.specs.Clients.{state_over, messages_in}
use Rattle.serve_world.specs.SessionRunning.{LeftBy}
use Rattle.serve_world.specs.Starting.{Show}
use Rattle.serve_world.specs.Stopping.{StopsIn}
use Rattle.serve_world.proofs.BehindLemmas.{begun_stands, begun_up, begun_whole, goes_behind, opening_stays}
use Rattle.serve_world.proofs.SessionRunLemmas.{idle}
use Rattle.serve_world.proofs.SessionStarts.{starts_keep}
use Rattle.program_end.specs.declared.closing.ClosingLine.{ClosingLine}
use Rattle.program_end.specs.declared.closing.ClosingLine.TheVariants as closing
use Rattle.program_end.specs.declared.status.Status.{Status}
use Rattle.program_end.specs.declared.status.Status.TheVariants as status
use Rattle.journal_commands.specs.Openings.{HadDeskAt, open_line}
use Rattle.journal_commands.specs.Views.{ClosedBy, Output}
use Rattle.keymanager_api.specs.Serving.{LinkSeen}
use Rattle.command_line.specs.declared.serve_options.ServeOptions.{ServeOptions}
use Rattle.duty_turns.specs.Times.{epoch_of, slot_of}
use Rattle.serve_run.specs.Clients.{Parts}
use Rattle.serve_run.specs.Ends.{HasLanes, OnlyWrites, OverJournal, ServeEnds, ServesDesk, with_nodes}
use Rattle.serve_run.specs.Starting.{ByGenesis, ClosesUnstarted, StartsBy}
use Rattle.serve_run.specs.declared.start.Start.{Start}
use Rattle.serve_run.specs.declared.start.Unstarted.{Unstarted as NoStart}
use Rattle.serve_run.specs.declared.start.Unstarted.TheVariants as unstarted
use Rattle.serve_world.specs.Acts.{AreActs}
use Rattle.serve_world.specs.Running.{CameOf, OnlyAsked, OnlyBegins, ServiceGoesOn, Serviced, TellsOf, Unstarted, posted_of, question, restarted}
use Rattle.serve_world.specs.Serving.{ServeRuns, ServeStops, ServeTold}
use Rattle.serve_world.specs.Weaving.{Act, done_in}
use Rattle.serve_world.proofs.HeldLemmas.{Goes, goes}
use Rattle.serve_world.proofs.StopLemmas.{acts_stop}
use Rattle.serve_world.proofs.ThreadLemmas.{all_held, lane_sends, lanes_post, told}

-- ---- nodes that are asked before the journal is opened tell no post

only_self : (n : Asked) → OnlyAsked n n
only_self n = record { asks = []; tells = Tells-nil n.told; later = omega arith; syncing = refl }

all_self : (ns : List Asked) → AllZip OnlyAsked ns ns
all_self [] = tt
all_self (n ∷ ns) = (only_self n, all_self ns)

all_same : (old new : List Asked) → new ≡ old → AllZip OnlyAsked old new
all_same old new same = let P : List Asked → Type 0 = λ l. AllZip OnlyAsked old l in subst P (sym same) (all_self old)

only_on : (a b c : Asked) → OnlyAsked a b → OnlyAsked b c → OnlyAsked a c
only_on a b c p q =
    let T : List NodeCall → Type 0 = λ l. TellsMore a.told c.told l in
    record {
      asks = p.asks ++ q.asks;
      tells = subst T (sym (map-append question p.asks q.asks)) (Tells-trans a.told b.told c.told (map question p.asks) (map question q.asks) p.tells q.tells);
      later = (let l : a.faults ≤ b.faults = p.later in let m : b.faults ≤ c.faults = q.later in omega arith);
      syncing = q.syncing ∙ p.syncing;
    }

all_on : (a b c : List Asked) → AllZip OnlyAsked a b → AllZip OnlyAsked b c → AllZip OnlyAsked a c
all_on [] [] [] s t = tt
all_on [] [] (z ∷ c) s t = absurd t
all_on [] (y ∷ b) c s t = absurd s
all_on (x ∷ a) [] c s t = absurd s
all_on (x ∷ a) (y ∷ b) [] s t = absurd t
all_on (x ∷ a) (y ∷ b) (z ∷ c) s t = (only_on x y z s.0 t.0, all_on a b c s.1 t.1)

-- what a node tells of a question is that question, or nothing
turn_asks : (q : Ask) (r : Option (Result Answer NodeFault)) → (asks : List (Ask × Result Answer NodeFault)) × (told_turn (told_ask q) r ≡ map question asks)
turn_asks q None = ([], refl)
turn_asks q (Some (Ok a)) = ((q, Ok a) ∷ [], refl)
turn_asks q (Some (Err fault.Fault)) = ((q, Err fault.Fault) ∷ [], refl)
turn_asks q (Some (Err (fault.Status status))) = ((q, Err (fault.Status status)) ∷ [], refl)
turn_asks q (Some (Err (fault.Unreadable body))) = ((q, Err (fault.Unreadable body)) ∷ [], refl)
turn_asks q (Some (Err fault.OutOfMemory)) = ([], refl)

only_tried : (q : Ask) (o n : Asked) (r : Option (Result Answer NodeFault)) → IsTried (told_ask q) o r n → OnlyAsked o n
only_tried q o n r t =
    let T : List NodeCall → Type 0 = λ l. TellsMore o.told n.told l in
    let asks = turn_asks q r in
    record { asks = asks.0; tells = subst T asks.1 t.tells; later = t.later; syncing = t.syncing }

all_tried : (q : Ask) (old new : List Asked) (rs : List (Option (Result Answer NodeFault))) → AreTried (told_ask q) old rs new → AllZip OnlyAsked old new
all_tried q old new [] same = all_same old new same
all_tried q [] new (r ∷ rs) t = absurd t
all_tried q (o ∷ old) [] (r ∷ rs) t = absurd t
all_tried q (o ∷ old) (n ∷ new) (r ∷ rs) t = (only_tried q o n r t.0, all_tried q old new rs t.1)

all_asked : (q : Ask) (old new : List Asked) (given : Result Answer NoAnswer) → Tries (told_ask q) old new given → AllZip OnlyAsked old new
all_asked q old new given tries = ⊎_elim (λ tried. all_tried q old new tried.replies tried.tried) (λ short. all_same old new short.1) tries

all_given : (genesis : Root) (old new : List Asked) (given : Result Answer NoAnswer) (result : Result Start NoStart) → ByGenesis genesis old new given result → AllZip OnlyAsked old new
all_given genesis old new (Ok (answer.Genesis time root)) result by = ⊎_elim (λ asked. all_asked ask.Fork old new asked.1.given asked.1.asked) (λ other. all_same old new other.2) by
all_given genesis old new (Ok a) result by = absurd by
all_given genesis old new (Err (none.NoNode causes)) result by = all_same old new by.1
all_given genesis old new (Err none.OutOfMemory) result by = all_same old new by.1

all_started : (genesis : Root) (old new : List Asked) (result : Result Start NoStart) → StartsBy genesis old new result → AllZip OnlyAsked old new
all_started genesis old new result s = all_on old s.mid new (all_asked ask.Genesis old s.mid s.given s.asked) (all_given genesis s.mid new s.given result s.by)

-- ---- an output that one line closed

abbrev pub IsClosed : Output → Output → Status → Type 0
IsClosed before now ended = (line : Option ClosingLine) × ClosedBy line before now ended

pub closed_same : (before now : Output) (ended : Status) → ended ≡ status.OutOfMemory → now ≡ before → IsClosed before now ended
closed_same before now ended is same = (None, (is, ap (λ (o : Output). o.held) same, ap (λ (o : Output). o.failed) same))

pub closed_refused : (genesis : Root) (why : NoStart) (before now : Output) (ended : Status) → ClosesUnstarted genesis why before now ended → IsClosed before now ended
closed_refused genesis (unstarted.NoNode causes) before now ended closes = ⊎_elim (λ named. (Some (closing.NoNode named.0), named.2)) (λ bare. (None, bare)) closes
closed_refused genesis (unstarted.GenesisDiffers given) before now ended closes = (Some (closing.GenesisDiffers genesis given), closes)
closed_refused genesis unstarted.OutOfMemory before now ended closes = (None, closes)

pub closed_from : (before mid now : Output) (ended : Status) → mid ≡ before → IsClosed mid now ended → IsClosed before now ended
closed_from before mid now ended same closed = let P : Output → Type 0 = λ o. IsClosed o now ended in subst P same closed

-- ---- parts of which only the nodes were touched

module _ {C : Type 0} (options : ServeOptions) (before now : Parts C) where
  pub begins_none : now ≡ before → OnlyBegins options before now
  begins_none same = record {
    signer = ap (λ (p : Parts C). p.signer) same;
    door = ap (λ (p : Parts C). p.door) same;
    nodes = inl (ap (λ (p : Parts C). p.nodes) same);
    unposted = all_same before.nodes now.nodes (ap (λ (p : Parts C). p.nodes) same);
    lanes = inl (ap (λ (p : Parts C). p.lanes) same);
  }

  pub begins_refused : (why : NoStart) → StartsBy options.genesis before.nodes now.nodes (Err why) → now.signer ≡ before.signer → now.lanes ≡ before.lanes → now.door ≡ before.door → OnlyBegins options before now
  begins_refused why starts signer lanes door = record {
    signer = signer;
    door = door;
    nodes = inr (Err why, starts);
    unposted = all_started options.genesis before.nodes now.nodes (Err why) starts;
    lanes = inl lanes;
  }

  module _ (start : Start) (nodes : List Asked) (starts : StartsBy options.genesis before.nodes nodes (Ok start)) where
    starts_now : now.nodes ≡ nodes → StartsBy options.genesis before.nodes now.nodes (Ok start)
    starts_now same = let P : List Asked → Type 0 = λ l. StartsBy options.genesis before.nodes l (Ok start) in subst P (sym same) starts

    pub begins_bare : now ≡ with_nodes before nodes → OnlyBegins options before now
    begins_bare same =
        let started = starts_now (ap (λ (p : Parts C). p.nodes) same) in
        record {
          signer = ap (λ (p : Parts C). p.signer) same;
          door = ap (λ (p : Parts C). p.door) same;
          nodes = inr (Ok start, started);
          unposted = all_started options.genesis before.nodes now.nodes (Ok start) started;
          lanes = inl (ap (λ (p : Parts C). p.lanes) same);
        }

    pub begins_equipped : (made : Parts C) → HasLanes (with_nodes before nodes) options.lanes made → OnlyWrites made now → OnlyBegins options before now
    begins_equipped made has writes =
        let here : now.nodes ≡ nodes = writes.nodes ∙ ap (λ (p : Parts C). p.nodes) has.is in
        let started = starts_now here in
        let H : List Asked → Type 0 = λ l. HasLanes (with_nodes before l) options.lanes made in
        record {
          signer = writes.signer ∙ ap (λ (p : Parts C). p.signer) has.is;
          door = writes.door ∙ ap (λ (p : Parts C). p.door) has.is;
          nodes = inr (Ok start, started);
          unposted = all_started options.genesis before.nodes now.nodes (Ok start) started;
          lanes = inr (made, subst H (sym here) has, writes);
        }

module _ {D C : Type 0} (moment : D → ℕ) (leaves : D → ℕ → List ℕ → Type 0) (faults : D → ℕ) (see : C → LinkSeen) where
  -- ---- a client that served over its desk

  module _ (clock : Option ℕ) (options : ServeOptions) (start : Start) (opened ended : Seen D) (before now : Parts C) (result : Status)
      (s : ServesDesk moment leaves faults see clock options start opened ended before now result) (client : ℕ) where
    pub acts_go : (acts : List (Act Event)) → AreActs client s acts → (state : State) → DeskStands opened.contents state → Goes moment leaves faults client opened ended state acts
    acts_go acts are state stands = goes moment leaves faults client opened ended s.shared.log acts are.turns s.shared.history (all_held moment leaves faults see clock options start opened ended before now result s client acts are) state stands

  pub serve_told : ServeTold moment leaves faults see
  serve_told clock options start opened ended before now result s client = told moment leaves faults see clock options start opened ended before now result s client

  pub serve_runs : ServeRuns moment leaves faults see
  serve_runs clock options start opened ended before now result s client acts are state stands =
      let g = acts_go clock options start opened ended before now result s client acts are state stands in
      record {
        at_client = g.at_client;
        runs = g.runs;
        stands = g.stands;
        sends = lane_sends moment leaves faults see clock options start opened ended before now result s client acts are;
        posts = lanes_post moment leaves faults see clock options start opened ended before now result s client acts are;
      }

  pub serve_stops : ServeStops moment leaves faults see
  serve_stops clock options start opened ended before now result s client over rest are state stands left here path_over path_rest k files during is_left =
      let g = acts_go clock options start opened ended before now result s client (over ++ rest) are state stands in
      acts_stop moment leaves faults client opened here ended over rest g.calm state g.runs stands left path_over path_rest k files during is_left

  -- ---- after its start

  module _ (shows : D → List ℕ → Type 0) (clock : Option ℕ) (options : ServeOptions) (start : Start) (disks_before disks_now : Disks D) (equipped now : Parts C) (noted : List DeskEvent) (ended : Status) (epoch : ℕ)
      (client : ℕ) (past : List Event) (files : Files) (visible : Show shows disks_before files) (stop : StopsIn options.genesis client (no_state options.genesis) past files)
      (left : LeftBy leaves options.genesis client past disks_before (now_of moment disks_before)) where
    abbrev Came : Seen D → Seen D → Type 0
    Came opened closed = CameOf moment leaves faults see clock options start opened closed equipped now ended

    abbrev Tells : (opened closed : Seen D) → Came opened closed → List (Act Event) → Type 0
    Tells opened closed came acts = TellsOf moment leaves faults see clock options start opened closed equipped now ended client came acts

    abbrev front : List Event
    front = restarted options.genesis client past files stop epoch options.watch

    abbrev state : State
    state = state_over (no_state options.genesis) front

    -- the acts of either ending
    record Acted (opened closed : Seen D) (acts : List (Act Event)) (posted : List (PubKey × Message)) : Type 0 where
      go : Goes moment leaves faults client opened closed state acts
      posts : (x : PubKey × Message) → Contains posted x → Contains (messages_in (done_in acts)) x

    acted : (opened closed : Seen D) (came : Came opened closed) (acts : List (Act Event)) → Tells opened closed came acts → DeskStands opened.contents state
        → Acted opened closed acts (posted_of moment leaves faults see clock options start opened closed equipped now ended came)
    acted opened closed (inl s) acts are stands = record {
      go = acts_go clock options start opened closed equipped now ended s client acts are state stands;
      posts = lanes_post moment leaves faults see clock options start opened closed equipped now ended s client acts are;
    }
    acted opened closed (inr u) acts none stands =
        let P : List (Act Event) → Type 0 = λ l. Acted opened closed l [] in
        let S : Seen D → Type 0 = λ d. DeskStands d.contents state in
        subst P (sym none) (record {
          go = record { at_client = refl; runs = tt; calm = tt; stands = subst S (sym u.desk) stands };
          posts = λ x has. has;
        })

    tell : (opened closed : Seen D) (came : Came opened closed) → (acts : List (Act Event)) × Tells opened closed came acts
    tell opened closed (inl s) = told moment leaves faults see clock options start opened closed equipped now ended s client
    tell opened closed (inr u) = ([], refl)

    path_of : (opened closed : Seen D) → Came opened closed → (made : List (DeskCall × DeskReply)) × Path moment leaves faults opened made closed
    path_of opened closed (inl s) = (calls_of s.shared.log, s.shared.path)
    path_of opened closed (inr u) = ([], u.desk)

    serviced : (before : Parts C) (nodes : List Asked) → StartsBy options.genesis before.nodes nodes (Ok start) → HasLanes (with_nodes before nodes) options.lanes equipped
        → (shown : ℕ) → IsNow clock shown → epoch ≡ epoch_of (slot_of start.genesis_time shown)
        → HadDeskAt shows moment leaves faults options.genesis options.watch epoch disks_before disks_now noted Came
        → (x : Serviced moment leaves faults see clock options before now noted ended client past files stop disks_before disks_now)
        × Opening shows moment leaves faults disks_before options.genesis options.watch x.epoch x.opened
    serviced before nodes starts has shown is_shown epoch_is had =
        let genesis = options.genesis in
        let stands = begun_stands shows moment leaves faults genesis options.watch epoch disks_before disks_now noted Came had client past files visible stop left in
        let path = path_of had.opened had.ended had.ends in (
          record {
            start = start;
            nodes = nodes;
            starts = starts;
            equipped = equipped;
            has = has;
            shown = shown;
            is_shown = is_shown;
            epoch = epoch;
            epoch_is = epoch_is;
            opened = had.opened;
            closed = had.ended;
            begins = stands;
            whole = begun_whole genesis options.watch epoch client past files stop;
            up = begun_up genesis options.watch epoch client past files stop;
            noted_is = had.desk.noted;
            last_is = had.desk.disks;
            came = had.ends;
            told = tell had.opened had.ended had.ends;
            behind = λ acts tells.
                let a = acted had.opened had.ended had.ends acts tells stands in
                goes_behind shows moment leaves faults genesis options.watch epoch disks_before disks_now noted Came had client past files visible stop left acts
                (posted_of moment leaves faults see clock options start had.opened had.ended equipped now ended had.ends) a.go a.posts;
            opening = opening_stays shows moment leaves faults genesis options.watch epoch disks_before disks_now noted Came had client past files visible stop left path.0 path.1;
          },
          had.opening,
        )

  module _ (shows : D → List ℕ → Type 0) (clock : Option ℕ) (options : ServeOptions) (disks_before disks_now : Disks D) (before : Parts C) (now : List Bool → Parts C) (flags : List Bool) (noted : List DeskEvent) (ended : Status)
      (client : ℕ) (past : List Event) (files : Files) (visible : Show shows disks_before files) (stop : StopsIn options.genesis client (no_state options.genesis) past files)
      (left : LeftBy leaves options.genesis client past disks_before (now_of moment disks_before)) where
    abbrev GoesOn : Type 0
    GoesOn = Unstarted moment leaves options.genesis options client past before now noted ended disks_before disks_now
        ⊎ ((some : List Bool) × (x : Serviced moment leaves faults see clock options before (now some) noted ended client past files stop disks_before disks_now)
        × Opening shows moment leaves faults disks_before options.genesis options.watch x.epoch x.opened)

    untouched : disks_now ≡ disks_before → noted ≡ [] → OnlyBegins options before (now flags) → IsClosed before.out (now flags).out ended → GoesOn
    untouched same none begins closed = inl (record {
      stays = idle moment leaves options.genesis disks_before disks_now client past same left;
      none = none;
      flags = flags;
      begins = begins;
      line = closed.0;
      closes = closed.1;
    })

    over_journal : (start : Start) (nodes : List Asked) → StartsBy options.genesis before.nodes nodes (Ok start) → (equipped : Parts C) → HasLanes (with_nodes before nodes) options.lanes equipped
        → OverJournal shows moment leaves faults see clock options start disks_before disks_now equipped (now flags) noted ended → GoesOn
    over_journal start nodes starts equipped has over = ⊎_elim
        (λ unopened.
        let closed = closed_from before.out equipped.out (now flags).out ended (ap (λ (p : Parts C). p.out) has.is) (open_line unopened.refused.fault, unopened.refused.tells) in
        inl (record {
          stays = λ k low high c l. starts_keep shows moment leaves disks_before disks_now options.genesis unopened.refused.refused.moments client (no_state options.genesis) past left files visible stop k c low high l;
          none = unopened.refused.unnoted;
          flags = flags;
          begins = begins_equipped options before (now flags) start nodes starts equipped has unopened.writes;
          line = closed.0;
          closes = closed.1;
        }))
        (λ had.
        let x = serviced shows clock options start disks_before disks_now equipped (now flags) noted ended (epoch_of (slot_of start.genesis_time over.shown)) client past files visible stop left before nodes starts has over.shown over.is_shown refl had in
        inr (flags, x.0, x.1))
        over.serves

    by_ends : ServeEnds shows moment leaves faults see clock options disks_before disks_now before (now flags) noted ended → GoesOn
    by_ends ends = ⊎_elim
        (λ not_started. untouched
        not_started.disks
        not_started.unnoted
        (begins_refused options before (now flags) not_started.why not_started.starts not_started.signer not_started.lanes not_started.door)
        (closed_refused options.genesis not_started.why before.out (now flags).out ended not_started.closes))
        (λ started. ⊎_elim
        (λ not_equipped. untouched
        not_equipped.disks
        not_equipped.unnoted
        (begins_bare options before (now flags) started.start started.nodes started.starts not_equipped.parts)
        (closed_same before.out (now flags).out ended not_equipped.is (ap (λ (p : Parts C). p.out) not_equipped.parts)))
        (λ equipped. over_journal started.start started.nodes started.starts equipped.equipped equipped.has equipped.over)
        started.goes_on)
        ends

  pub service_goes_on : (shows : D → List ℕ → Type 0) → ServiceGoesOn shows moment leaves faults see
  service_goes_on shows clock options disks_before disks_now before now noted ended runs client past files visible stop left = ⊎_elim
      (λ ended_so. by_ends shows clock options disks_before disks_now before now ended_so.flags noted ended client past files visible stop left ended_so.ends)
      (λ unbegun.
      let closed = closed_same before.out (now []).out ended unbegun.is (ap (λ (p : Parts C). p.out) unbegun.parts) in
      inl (record {
        stays = idle moment leaves options.genesis disks_before disks_now client past unbegun.disks left;
        none = unbegun.unnoted;
        flags = [];
        begins = begins_none options before (now []) unbegun.parts;
        line = closed.0;
        closes = closed.1;
      }))
      runs
