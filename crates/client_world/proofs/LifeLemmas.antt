-- That what all clients did is a run of the world, which the handover law speaks of.
use Rattle.std.proofs.Common.{◌≡◌, ⊎_elim, ℕ, zero, suc, false, List, [], ◌∷◌, ◌++◌, Option, Some, None, sym, ◌∙◌, subst, append-nil}
use Rattle.edge_kit.specs.declared.bytes.PubKey.{PubKey}
use Rattle.edge_kit.specs.declared.bytes.Root.{Root}
use Rattle.slash_defs.specs.declared.message.Message.{Message}
use Rattle.slash_defs.specs.Lists.{SafeList}
use Rattle.std.specs.Prelude.{IsSomeAnd}
use Rattle.protect_record.specs.Passing.{Passes}
use Rattle.record_join.specs.BooksPasts.{IsRefusal}
use Rattle.record_replay.specs.declared.state.KeyState.TheVariants.{Active, Closing}
use Rattle.doppel_watch.specs.declared.watch.WatchState.TheVariants as watch
use Rattle.desk_machine.specs.States.{State, no_state, past_of}
use Rattle.desk_machine.specs.Machine.{Reply}
use Rattle.desk_machine.specs.declared.call.DeskCall.TheVariants as call
use Rattle.desk_machine.specs.declared.call.DeskReply.{DeskReply}
use Rattle.desk_machine.specs.declared.call.DeskReply.TheVariants as reply
use Rattle.world_law.specs.Worlds.{World, Event, MayHappen, empty_world, happens, run, IsRun, state_after}
use Rattle.world_law.specs.Worlds.Event.{Call}
use Rattle.world_law.specs.Clients.{RunsFrom, own}
use Rattle.world_law.proofs.ApartLemmas.{runs_apart, sends_all}
use Rattle.world_law.proofs.EventLemmas.{quiet_while_closed, safe_overall}
use Rattle.keymanager_api.specs.Serving.{LinkSeen}
use Rattle.client_world.specs.Lives.{CommandRun, HasLived, HasLivedSoFar, Headline, IsGrant, IsLeave, Lived, MayPass, PassesExactly, ProxyRun, ServiceRun, SessionRun}
use Rattle.serve_world.specs.Running.{restarted}
use Rattle.serve_world.specs.Weaving.{done_in}

-- ---- one event

happens_at : (w : World) (earlier later : List Event) (e : Event) → IsRun w (earlier ++ e ∷ later) → MayHappen (run w earlier) e
happens_at w [] later e runs = runs.0
happens_at w (x ∷ earlier) later e runs = happens_at (happens w x) earlier later e runs.1

-- ---- a front

-- what may happen, may happen up to any point
runs_front : (state : State) (front more : List Event) → RunsFrom state (front ++ more) → RunsFrom state front
runs_front state [] more runs = tt
runs_front state (e ∷ front) more runs = (runs.0, runs_front (state_after state e) front more runs.1)

-- ---- a proposal

some_both : {X : Type 0} (P Q : X → Type 0) (o : Option X) → IsSomeAnd o P → IsSomeAnd o Q → (x : X) × P x × Q x
some_both P Q None p q = absurd p
some_both P Q (Some x) p q = (x, p, q)

none_such : {X : Type 0} (P : X → Type 0) (o : Option X) → IsSomeAnd o P → o ≡ None → ⊥
none_such P None p e = p
none_such P (Some x) p e = cc e

leave : (state : State) (key : PubKey) (m : Message) (at : ℕ) (r : DeskReply) → Reply state (call.Propose key m at) r → MayPass state key m → IsLeave r
leave state key m at (reply.Granted grant) can may = tt
leave state key m at reply.OutOfMemory can may = tt
leave state key m at (reply.Full size wanted) can may = tt
leave state key m at reply.Disk can may = tt
leave state key m at (reply.Refused v) can may =
    let found = some_both (λ p. IsRefusal p m v) (λ p. Passes p m) (past_of state key) can.1.1 may.0.1 in
    absurd (found.1.forbids found.2)
leave state key m at reply.Unknown can may = absurd (none_such (λ p. Passes p m) (past_of state key) may.0.1 can.1)
leave state key m at reply.NotActive can may = absurd (can.2.0 may.0.0)
leave state key m at reply.Closing can may = absurd (let bad : Some Closing ≡ Some Active = sym can.2 ∙ may.0.0 in cc)
leave state key m at (reply.Live epoch) can may = absurd (let bad : watch.Live epoch ≡ watch.Allowed = sym can.2 ∙ may.1 in cc)
leave state key m at (reply.Watching first second) can may = absurd (let bad : watch.Missing first second ≡ watch.Allowed = sym can.2 ∙ may.1 in cc)
leave state key m at r can may = absurd can

granted : (state : State) (key : PubKey) (m : Message) (at : ℕ) (r : DeskReply) → Reply state (call.Propose key m at) r → IsGrant r → MayPass state key m
granted state key m at (reply.Granted g) can is = can.0.1
granted state key m at r can is = absurd is

passes_exactly : (state : State) (key : PubKey) (m : Message) (at : ℕ) (r : DeskReply) → Reply state (call.Propose key m at) r → PassesExactly state key m r
passes_exactly state key m at r can = (λ is. granted state key m at r can is, λ may. leave state key m at r can may)

-- ---- a client's runs

module _ {D C : Type 0} (moment : D → ℕ) (leaves : D → ℕ → List ℕ → Type 0) (faults : D → ℕ) (see : C → LinkSeen) where
  session_may : (genesis : Root) (client : ℕ) (past events : List Event) → SessionRun {D = D} {C = C} moment leaves faults see genesis client past events → RunsFrom (no_state genesis) events
  session_may genesis client past events r = let P : List Event → Type 0 = λ l. RunsFrom (no_state genesis) l in subst P (sym r.are) r.served.runs

  command_may : (genesis : Root) (client : ℕ) (past events : List Event) → CommandRun {D = D} {C = C} moment leaves faults see genesis client past events → RunsFrom (no_state genesis) events
  command_may genesis client past events r = let P : List Event → Type 0 = λ l. RunsFrom (no_state genesis) l in subst P (sym r.are) r.called.runs

  service_may : (genesis : Root) (client : ℕ) (past events : List Event) → ServiceRun {D = D} {C = C} moment leaves faults see genesis client past events → RunsFrom (no_state genesis) events
  service_may genesis client past events r =
      let done = restarted r.options.genesis client past r.files r.stop r.serviced.epoch r.options.watch ++ done_in r.acts in
      let P : List Event → Type 0 = λ l. RunsFrom (no_state genesis) l in
      let G : Root → Type 0 = λ g. RunsFrom (no_state g) done in
      subst P (sym r.are) (subst G r.chain (r.serviced.behind r.acts r.tell).runs)

  proxy_may : (genesis : Root) (client : ℕ) (past events : List Event) → ProxyRun {D = D} {C = C} moment leaves faults see genesis client past events → RunsFrom (no_state genesis) events
  proxy_may genesis client past events r =
      let done = restarted r.options.genesis client past r.files r.stop r.proxied.epoch false ++ done_in r.acts in
      let P : List Event → Type 0 = λ l. RunsFrom (no_state genesis) l in
      let G : Root → Type 0 = λ g. RunsFrom (no_state g) done in
      subst P (sym r.are) (subst G r.chain (r.proxied.behind r.acts r.tell).runs)

  lived_may : (genesis : Root) (client n : ℕ) (events : List Event) → Lived {D = D} {C = C} moment leaves faults see genesis client n events → RunsFrom (no_state genesis) events
  lived_may genesis client zero events none = let P : List Event → Type 0 = λ l. RunsFrom (no_state genesis) l in subst P (sym none) tt
  lived_may genesis client (suc n) events lived = ⊎_elim
      (λ session. session_may genesis client lived.0 events session)
      (λ others. ⊎_elim
      (λ command. command_may genesis client lived.0 events command)
      (λ servers. ⊎_elim (λ service. service_may genesis client lived.0 events service) (λ proxy. proxy_may genesis client lived.0 events proxy) servers)
      others)
      lived.2

  so_far_may : (genesis : Root) (client : ℕ) (events : List Event) → HasLivedSoFar {D = D} {C = C} moment leaves faults see genesis client events → RunsFrom (no_state genesis) events
  so_far_may genesis client events lived = runs_front (no_state genesis) events lived.0 (lived_may genesis client lived.1.0 (events ++ lived.0) lived.1.1)

  -- where all runs have returned, all that the client did is what it did so far
  pub all_so_far : (genesis : Root) (client : ℕ) (events : List Event) → HasLived {D = D} {C = C} moment leaves faults see genesis client events → HasLivedSoFar {D = D} {C = C} moment leaves faults see genesis client events
  all_so_far genesis client events lived = let P : List Event → Type 0 = λ l. HasLived {D = D} {C = C} moment leaves faults see genesis client l in ([], subst P (sym (append-nil events)) lived)

  pub headline : Headline {D = D} {C = C} moment leaves faults see
  headline before roots events safe lived lawful =
      let runs : IsRun (empty_world roots) events = (runs_apart (empty_world roots) events).1 (λ client. so_far_may (roots client) client (own client events) (lived client)) in
      let S : List (PubKey × Message) → Type 0 = λ l. SafeList (before ++ l) in
      record {
        runs = runs;
        safe = subst S (sends_all (empty_world roots) events) (safe_overall before roots events safe runs lawful);
        quiet = quiet_while_closed before roots events runs lawful;
        passes = λ earlier later client key m at r is.
            let R : List Event → Type 0 = λ l. IsRun (empty_world roots) l in
            passes_exactly ((run (empty_world roots) earlier).desks client) key m at r (happens_at (empty_world roots) earlier later (Call client (call.Propose key m at) r) (subst R is runs));
      }
