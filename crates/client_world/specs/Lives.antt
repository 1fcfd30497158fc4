-- All runs of all clients.
use Rattle.std.specs.Prelude.{◌≡◌, ◌⊎◌, ℕ, zero, suc, Bool, false, List, [], ◌∷◌, ◌++◌, Option}
use Rattle.edge_kit.specs.declared.bytes.PubKey.{PubKey}
use Rattle.edge_kit.specs.declared.bytes.Root.{Root}
use Rattle.edge_kit.specs.declared.disk.Disks.{Disks}
use Rattle.phase0_types.specs.declared.fork.Fork.{Fork}
use Rattle.slash_defs.specs.declared.message.Message.{Message}
use Rattle.slash_defs.specs.Lists.{SafeList}
use Rattle.protect_record.specs.Passing.{Passes}
use Rattle.desk_machine.specs.States.{State, IsAllowed, no_state}
use Rattle.desk_machine.specs.Machine.{ActiveAnd}
use Rattle.desk_machine.specs.declared.call.DeskCall.TheVariants as call
use Rattle.desk_machine.specs.declared.call.DeskReply.{DeskReply}
use Rattle.desk_machine.specs.declared.call.DeskReply.TheVariants as reply
use Rattle.desk_machine.specs.declared.event.DeskEvent.{DeskEvent}
use Rattle.check_sign.specs.Crashes.{Files, now_of}
use Rattle.check_sign.specs.Opening.{Opening}
use Rattle.world_law.specs.Worlds.{Event, empty_world, run, IsRun}
use Rattle.world_law.specs.Worlds.Event.{Call}
use Rattle.world_law.specs.Clients.{own, messages_in}
use Rattle.world_law.specs.Law.{NoneWhileClosed}
use Rattle.world_law.specs.Lawful.{IsLawful}
use Rattle.serve_world.specs.Events.{calls_of}
use Rattle.serve_world.specs.SessionRunning.{Called, Idle, IsOfChain, LeftBy, Served, started}
use Rattle.serve_world.specs.Starting.{Show}
use Rattle.serve_world.specs.Stopping.{StopsIn}
use Rattle.service_url.specs.Services.{Service}
use Rattle.validator_cli.specs.Clients.{ClientRuns}
use Rattle.validator_cli.specs.Endings.{Outside, RunEnds}
use Rattle.command_line.specs.Plans.{Asked, session}
use Rattle.keymanager_api.specs.Serving.{LinkSeen}
use Rattle.command_line.specs.declared.serve_options.ServeOptions.{ServeOptions}
use Rattle.program_end.specs.declared.status.Status.{Status}
use Rattle.serve_run.specs.Clients.{Parts}
use Rattle.command_line.specs.declared.proxy_options.ProxyOptions.{ProxyOptions}
use Rattle.client_calls.specs.Seats.{SignerSeen}
use Rattle.proxy_run.specs.Ends.{ProxyEnds}
use Rattle.proxy_run.specs.Parts.{Parts as ProxyParts}
use Rattle.serve_world.specs.Running.{Serviced, TellsOf, Unstarted, restarted}
use Rattle.serve_world.specs.Weaving.{Act, done_in}
use Rattle.client_world.specs.Acts.{AreProxyActs}
use Rattle.client_world.specs.Running.{Proxied, Unproxied}

module _ {D C : Type 0} (moment : D → ℕ) (leaves : D → ℕ → List ℕ → Type 0) (faults : D → ℕ) (see : C → LinkSeen) (genesis : Root) (client : ℕ) where
  -- after a stop of what a client had done, a session was served
  pub record SessionRun (past events : List Event) : Type 0 where
    pub fork : Fork
    pub altair : Option ℕ
    pub watch : Bool
    pub before : Outside
    pub now : Outside
    pub noted : List DeskEvent
    pub ended : Status
    pub files : Files
    pub stop : StopsIn genesis client (no_state genesis) past files
    pub first : Disks D
    pub last : Disks D
    pub served : Served moment leaves faults genesis fork altair watch before now noted ended client past files stop first last
    pub are : events ≡ started genesis client past files stop watch ++ served.events

  -- a desk was called, as for a merge or a showing
  pub record CommandRun (past events : List Event) : Type 0 where
    pub noted : List DeskEvent
    pub files : Files
    pub stop : StopsIn genesis client (no_state genesis) past files
    pub first : Disks D
    pub last : Disks D
    pub called : Called moment leaves faults genesis noted client past files stop first last
    pub are : events ≡ started genesis client past files stop false ++ calls_of client called.made

  -- the validator client ran
  pub record ServiceRun (past events : List Event) : Type 0 where
    pub clock : Option ℕ
    pub options : ServeOptions
    pub chain : options.genesis ≡ genesis
    pub before : Parts C
    pub now : Parts C
    pub noted : List DeskEvent
    pub ended : Status
    pub files : Files
    pub stop : StopsIn options.genesis client (no_state options.genesis) past files
    pub first : Disks D
    pub last : Disks D
    pub serviced : Serviced moment leaves faults see clock options before now noted ended client past files stop first last
    pub acts : List (Act Event)
    pub tell : TellsOf moment leaves faults see clock options serviced.start serviced.opened serviced.closed serviced.equipped now ended client serviced.came acts
    pub are : events ≡ restarted options.genesis client past files stop serviced.epoch options.watch ++ done_in acts

  -- the signing proxy ran
  pub record ProxyRun (past events : List Event) : Type 0 where
    pub clock : Option ℕ
    pub options : ProxyOptions
    pub chain : options.genesis ≡ genesis
    pub signer : SignerSeen
    pub before : ProxyParts C
    pub now : ProxyParts C
    pub noted : List DeskEvent
    pub ended : Status
    pub files : Files
    pub stop : StopsIn options.genesis client (no_state options.genesis) past files
    pub first : Disks D
    pub last : Disks D
    pub proxied : Proxied moment leaves faults see clock options signer before now noted ended client past files stop first last
    pub acts : List (Act Event)
    pub tell : AreProxyActs client proxied.serves acts
    pub are : events ≡ restarted options.genesis client past files stop proxied.epoch false ++ done_in acts

  -- a number of runs of the program were made, one after a stop of the other, and this is what the client did in all of them, up to the stops
  abbrev pub Lived : ℕ → List Event → Type 0
  Lived zero events = events ≡ []
  Lived (suc n) events = (past : List Event) × Lived n past × (SessionRun past events ⊎ CommandRun past events ⊎ ServiceRun past events ⊎ ProxyRun past events)

  abbrev pub HasLived : List Event → Type 0
  HasLived events = (n : ℕ) × Lived n events

-- the reply gives leave
abbrev pub IsGrant : DeskReply → Type 0
IsGrant (reply.Granted grant) = Unit {0}
IsGrant r = ⊥

-- it does, or memory, room or a disk did not suffice for that
abbrev pub IsLeave : DeskReply → Type 0
IsLeave (reply.Granted grant) = Unit {0}
IsLeave reply.OutOfMemory = Unit {0}
IsLeave (reply.Full size wanted) = Unit {0}
IsLeave reply.Disk = Unit {0}
IsLeave r = ⊥

-- the key is active, its past lets the message pass, and its watch lets it sign
abbrev pub MayPass : State → PubKey → Message → Type 0
MayPass state key m = ActiveAnd state key (λ past. Passes past m) × IsAllowed state key

-- a proposal that gets leave may pass, and one that may pass is refused for nothing that was signed, imported or told
abbrev pub PassesExactly : State → PubKey → Message → DeskReply → Type 0
PassesExactly state key m r = (IsGrant r → MayPass state key m) × (MayPass state key m → IsLeave r)

-- What holds of all clients together: all that they did may happen; what was signed before and all that they sent is safe; nothing is
-- sent for a key between its Close and its next activation; and each proposal passes exactly where it may, as its client stood then.
pub record Kept (before : List (PubKey × Message)) (roots : ℕ → Root) (events : List Event) : Type 0 where
  pub runs : IsRun (empty_world roots) events
  pub safe : SafeList (before ++ messages_in events)
  pub quiet : NoneWhileClosed (run (empty_world roots) events).deeds
  pub passes : (earlier later : List Event) (client : ℕ) (key : PubKey) (m : Message) (at : ℕ) (r : DeskReply) → events ≡ earlier ++ Call client (call.Propose key m at) r ∷ later
      → PassesExactly ((run (empty_world roots) earlier).desks client) key m r

-- The client did this so far: it is what was done up to some point of a number of runs, and `more` is what they do after that point. Where
-- all runs have returned, there is nothing more. Else the last of them goes on, or was cut off there, and would return with `more`.
abbrev pub HasLivedSoFar : {D C : Type 0} → (D → ℕ) → (D → ℕ → List ℕ → Type 0) → (D → ℕ) → (C → LinkSeen) → Root → ℕ → List Event → Type 0
HasLivedSoFar {D} {C} moment leaves faults see genesis client events = (more : List Event) × HasLived {D = D} {C = C} moment leaves faults see genesis client (events ++ more)

-- Whatever was signed before, and whatever all clients did so far, each in its runs, one after another among each other in any order:
-- where that is lawful, this holds. It covers each run that returned, and each that would return, up to any point of it: so a client that
-- still serves, and one that was killed or whose machine was lost between two of its acts, counts with what it had done.
abbrev pub Headline : {D C : Type 0} → (D → ℕ) → (D → ℕ → List ℕ → Type 0) → (D → ℕ) → (C → LinkSeen) → Type 0
Headline {D} {C} moment leaves faults see = (before : List (PubKey × Message)) (roots : ℕ → Root) (events : List Event) → SafeList before
    → ((client : ℕ) → HasLivedSoFar {D = D} {C = C} moment leaves faults see (roots client) client (own client events))
    → IsLawful before (empty_world roots) events → Kept before roots events

-- ---- one run more

-- However a run ends that was asked for a session, over disks that show what a stop of the client left, and of which a crash leaves such
-- files: no desk was opened, or the client has lived on, by what it had done up to that stop and what the session's lines did.
abbrev pub SessionLivesOn : {D C : Type 0} → (D → List ℕ → Type 0) → (D → ℕ) → (D → ℕ → List ℕ → Type 0) → (D → ℕ) → (C → LinkSeen) → Type 0
SessionLivesOn {D} {C} shows moment leaves faults see = (genesis : Root) (journal : Option (List ℕ)) (fork : Fork) (altair : Option ℕ) (signer_at : Option Service) (watch : Bool) (disks_before disks_now : Disks D) (before now : Outside) (noted : List DeskEvent) (ended : Status)
    → RunEnds shows moment leaves faults (session genesis journal fork altair signer_at watch) disks_before disks_now before now noted ended
    → (client : ℕ) (past : List Event) (files : Files) → Show shows disks_before files → (stop : StopsIn genesis client (no_state genesis) past files) → LeftBy leaves genesis client past disks_before (now_of moment disks_before)
    → HasLived {D = D} {C = C} moment leaves faults see genesis client past
    → Idle moment leaves genesis client past before now noted disks_before disks_now
    ⊎ ((x : Served moment leaves faults genesis fork altair watch before now noted ended client past files stop disks_before disks_now)
    × HasLived {D = D} {C = C} moment leaves faults see genesis client (started genesis client past files stop watch ++ x.events))

-- so of a merge or a showing
abbrev pub CommandLivesOn : {D C : Type 0} → (D → List ℕ → Type 0) → (D → ℕ) → (D → ℕ → List ℕ → Type 0) → (D → ℕ) → (C → LinkSeen) → Type 0
CommandLivesOn {D} {C} shows moment leaves faults see = (genesis : Root) (asked : Asked) → IsOfChain genesis asked → (disks_before disks_now : Disks D) (before now : Outside) (noted : List DeskEvent) (ended : Status)
    → RunEnds shows moment leaves faults asked disks_before disks_now before now noted ended
    → (client : ℕ) (past : List Event) (files : Files) → Show shows disks_before files → (stop : StopsIn genesis client (no_state genesis) past files) → LeftBy leaves genesis client past disks_before (now_of moment disks_before)
    → HasLived {D = D} {C = C} moment leaves faults see genesis client past
    → Idle moment leaves genesis client past before now noted disks_before disks_now
    ⊎ ((x : Called moment leaves faults genesis noted client past files stop disks_before disks_now)
    × HasLived {D = D} {C = C} moment leaves faults see genesis client (started genesis client past files stop false ++ calls_of client x.made))

-- and of the validator client: whatever acts tell what it did
abbrev pub ServiceLivesOn : {D C : Type 0} → (D → List ℕ → Type 0) → (D → ℕ) → (D → ℕ → List ℕ → Type 0) → (D → ℕ) → (C → LinkSeen) → Type 0
ServiceLivesOn {D} {C} shows moment leaves faults see = (clock : Option ℕ) (options : ServeOptions) (disks_before disks_now : Disks D) (before : Parts C) (now : List Bool → Parts C) (noted : List DeskEvent) (ended : Status)
    → ClientRuns shows moment leaves faults see clock options disks_before disks_now before now noted ended
    → (client : ℕ) (past : List Event) (files : Files) → Show shows disks_before files → (stop : StopsIn options.genesis client (no_state options.genesis) past files) → LeftBy leaves options.genesis client past disks_before (now_of moment disks_before)
    → HasLived {D = D} {C = C} moment leaves faults see options.genesis client past
    → Unstarted moment leaves options.genesis options client past before now noted ended disks_before disks_now
    ⊎ ((flags : List Bool) × (x : Serviced moment leaves faults see clock options before (now flags) noted ended client past files stop disks_before disks_now)
    × Opening shows moment leaves faults disks_before options.genesis options.watch x.epoch x.opened
    × ((acts : List (Act Event)) → TellsOf moment leaves faults see clock options x.start x.opened x.closed x.equipped (now flags) ended client x.came acts
    → HasLived {D = D} {C = C} moment leaves faults see options.genesis client (restarted options.genesis client past files stop x.epoch options.watch ++ done_in acts)))

-- and of the signing proxy: whatever acts tell what it did
abbrev pub ProxyLivesOn : {D C : Type 0} → (D → List ℕ → Type 0) → (D → ℕ) → (D → ℕ → List ℕ → Type 0) → (D → ℕ) → (C → LinkSeen) → Type 0
ProxyLivesOn {D} {C} shows moment leaves faults see = (clock : Option ℕ) (options : ProxyOptions) (signer : SignerSeen) (disks_before disks_now : Disks D) (before now : ProxyParts C) (noted : List DeskEvent) (ended : Status)
    → ProxyEnds shows moment leaves faults see clock options signer disks_before disks_now before now noted ended
    → (client : ℕ) (past : List Event) (files : Files) → Show shows disks_before files → (stop : StopsIn options.genesis client (no_state options.genesis) past files) → LeftBy leaves options.genesis client past disks_before (now_of moment disks_before)
    → HasLived {D = D} {C = C} moment leaves faults see options.genesis client past
    → Unproxied moment leaves options.genesis options signer client past before now noted ended disks_before disks_now
    ⊎ ((x : Proxied moment leaves faults see clock options signer before now noted ended client past files stop disks_before disks_now)
    × Opening shows moment leaves faults disks_before options.genesis false x.epoch x.opened
    × ((acts : List (Act Event)) → AreProxyActs client x.serves acts
    → HasLived {D = D} {C = C} moment leaves faults see options.genesis client (restarted options.genesis client past files stop x.epoch false ++ done_in acts)))
