-- That what a signing proxy did is a run of its client.
use Rattle.std.proofs.Common.{◌≡◌, ⊎_elim, ℕ, zero, suc, List, [], ◌∷◌, ◌++◌, Contains, Option, sym, ap, ◌∙◌, subst}
use Rattle.std.specs.Prelude.{slice_index_or}
use Rattle.std.proofs.lemmas.Grind.{flat_map-append}
use Rattle.std.proofs.lemmas.List.Elements.{Contains-append_cases}
use Rattle.edge_kit.specs.declared.bytes.PubKey.{PubKey}
use Rattle.slash_defs.specs.declared.message.Message.{Message}
use Rattle.protect_record.proofs.MemberLemmas.{contains_none}
use Rattle.desk_machine.specs.States.{State}
use Rattle.desk_machine.specs.Given.{MayMake}
use Rattle.desk_machine.specs.declared.call.DeskCall.{DeskCall}
use Rattle.desk_machine.specs.declared.call.DeskReply.{DeskReply}
use Rattle.desk_lock.specs.Histories.{Legal, entry, own}
use Rattle.check_sign.specs.Contents.{Seen}
use Rattle.check_sign.specs.Standing.{DeskStands}
use Rattle.desk_seat.specs.Spans.{History}
use Rattle.desk_seat.specs.Steps.{DeskStep}
use Rattle.desk_seat.specs.Turns.{calls_of}
use Rattle.desk_seat.proofs.PlaceLemmas.{place, turn_at}
use Rattle.world_law.specs.Worlds.{Event}
use Rattle.world_law.specs.Clients.{messages_in}
use Rattle.keymanager_api.specs.Serving.{LinkSeen}
use Rattle.command_line.specs.declared.proxy_options.ProxyOptions.{ProxyOptions}
use Rattle.program_end.specs.declared.status.Status.{Status}
use Rattle.proxy_run.specs.Begun.{Signed, joined, sent_by, sent_of}
use Rattle.proxy_run.specs.Ends.{ServesDesk, signatures, terms_in}
use Rattle.proxy_run.specs.Parts.{Parts}
use Rattle.serve_world.specs.Acts.{call_in}
use Rattle.serve_world.specs.Weaving.{Act, done_in, of_thread}
use Rattle.serve_world.proofs.HeldLemmas.{AreHeld, Goes, goes}
use Rattle.serve_world.proofs.SilenceLemmas.{stays_ungranted}
use Rattle.serve_world.proofs.SilentLemmas.{stays_silent}
use Rattle.serve_world.proofs.StopLemmas.{acts_stop}
use Rattle.serve_world.proofs.ThreadLemmas.{thread_messages}
use Rattle.serve_world.proofs.WeaveLemmas.{woven}
use Rattle.client_world.specs.Acts.{AreProxyActs, ProxyRuns, ProxyStops, ProxyTold, calls_by_lane, lane_events}
use Rattle.client_world.specs.Silence.{ProxySilent, ProxyUngranted}
use Rattle.client_world.proofs.LaneLemmas.{AreAllowed, lane_called, lane_closed, lane_held, lane_messages}
use Rattle.client_world.proofs.SignedLemmas.{served_sent}

-- what lanes sent, lane by lane
joined_sent : (signed : List (List Signed)) (x : PubKey × Message) → Contains (sent_of (joined signed)) x → (k : ℕ) × Contains (sent_of (slice_index_or signed k [])) x
joined_sent [] x has = contains_none x has
joined_sent (xs ∷ xss) x has =
    let P : List (PubKey × Message) → Type 0 = λ l. Contains l x in
    ⊎_elim
    (λ here. (zero, here))
    (λ later. let rest = joined_sent xss x later in (suc rest.0, rest.1))
    (Contains-append_cases (sent_of xs) (sent_of (joined xss)) x (subst P (flat_map-append sent_by xs (joined xss)) has))

-- in a legal history each pass made what it might make
own_allowed : {D : Type 0} (moment : D → ℕ) (leaves : D → ℕ → List ℕ → Type 0) (faults : D → ℕ) (opened ended : Seen D) (log : History) → Legal (DeskStep moment leaves faults) MayMake [] opened log ended
    → (k : ℕ) → AreAllowed [] (own k log)
own_allowed moment leaves faults opened ended log led k xs ys c r is =
    let at = place k log xs c r ys is in
    let L : History → Type 0 = λ l. Legal (DeskStep moment leaves faults) MayMake [] opened l ended in
    let turn = turn_at (DeskStep moment leaves faults) MayMake [] opened at.before (entry k c r) at.later ended (subst L at.log_is led) in
    let M : List (DeskCall × DeskReply) → Type 0 = λ l. MayMake l c in
    subst M at.own_before turn.allowed

module _ {D C : Type 0} (moment : D → ℕ) (leaves : D → ℕ → List ℕ → Type 0) (faults : D → ℕ) (see : C → LinkSeen) where
  module _ (clock : Option ℕ) (options : ProxyOptions) (opened ended : Seen D) (before now : Parts C) (result : Status) (s : ServesDesk moment leaves faults see clock options opened ended before now result) (client : ℕ) where
    abbrev made : ℕ → List (DeskCall × DeskReply)
    made k = calls_by_lane s.shares.ran.lanes k

    pub proxy_acts : (acts : List (Act Event)) × AreProxyActs client s acts
    proxy_acts = woven call_in s.shares.ran.shared.log (λ k. lane_events client (made k)) (λ k. (lane_called client (made k) ∙ sym (s.shares.ran.shared.own_is k), lane_closed client (made k)))

    lane_allowed : (k : ℕ) → AreAllowed [] (made k)
    lane_allowed k =
        let P : List (DeskCall × DeskReply) → Type 0 = λ l. AreAllowed [] l in
        subst P (s.shares.ran.shared.own_is k) (own_allowed moment leaves faults opened ended s.shares.ran.shared.log s.shares.ran.shared.history k)

    all_held : (acts : List (Act Event)) → AreProxyActs client s acts → (k : ℕ) → AreHeld client (of_thread k acts)
    all_held acts are k = let P : List Event → Type 0 = λ l. AreHeld client l in subst P (sym (are.threads k)) (lane_held client (made k) (lane_allowed k))

    pub proxy_go : (acts : List (Act Event)) → AreProxyActs client s acts → (state : State) → DeskStands opened.contents state → Goes moment leaves faults client opened ended state acts
    proxy_go acts are state stands = goes moment leaves faults client opened ended s.shares.ran.shared.log acts are.turns s.shares.ran.shared.history (all_held acts are) state stands

    lane_sends : (acts : List (Act Event)) → AreProxyActs client s acts → (lane : ℕ) → messages_in (of_thread lane acts) ≡ sent_of (slice_index_or (signatures s.shares) lane [])
    lane_sends acts are lane =
        ap (λ (l : List Event). messages_in l) (are.threads lane) ∙ lane_messages client (made lane)
        ∙ served_sent see (terms_in clock options) options.connections before.door now.door before.lanes s.shares.ran.lanes s.shares.lanes_end s.shares.ran.served lane

    pub proxy_hands_out : (acts : List (Act Event)) → AreProxyActs client s acts → (x : PubKey × Message) → Contains (sent_of (joined (signatures s.shares))) x → Contains (messages_in (done_in acts)) x
    proxy_hands_out acts are x has =
        let at = joined_sent (signatures s.shares) x has in
        let P : List (PubKey × Message) → Type 0 = λ l. Contains l x in
        thread_messages at.0 acts x (subst P (sym (lane_sends acts are at.0)) at.1)

  pub proxy_told : ProxyTold moment leaves faults see
  proxy_told clock options opened ended before now result s client = proxy_acts clock options opened ended before now result s client

  pub proxy_runs : ProxyRuns moment leaves faults see
  proxy_runs clock options opened ended before now result s client acts are state stands =
      let g = proxy_go clock options opened ended before now result s client acts are state stands in
      record {
        at_client = g.at_client;
        runs = g.runs;
        stands = g.stands;
        sends = lane_sends clock options opened ended before now result s client acts are;
        hands_out = proxy_hands_out clock options opened ended before now result s client acts are;
      }

  pub proxy_stops : ProxyStops moment leaves faults see
  proxy_stops clock options opened ended before now result s client over rest are state stands left here path_over path_rest k files during is_left =
      let g = proxy_go clock options opened ended before now result s client (over ++ rest) are state stands in
      acts_stop moment leaves faults client opened here ended over rest g.calm state g.runs stands left path_over path_rest k files during is_left

  pub proxy_ungranted : ProxyUngranted moment leaves faults see
  proxy_ungranted clock options opened ended before now result s state stands = stays_ungranted state (calls_of s.shares.ran.shared.log) (s.machine state stands).0

  pub proxy_silent : ProxySilent moment leaves faults see
  proxy_silent clock options opened ended before now result s client acts are state stands =
      let g = proxy_go clock options opened ended before now result s client acts are state stands in
      stays_silent state (done_in acts) g.runs g.calm
