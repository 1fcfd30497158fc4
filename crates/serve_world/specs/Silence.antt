-- Between the close of a key and its next activation nothing is granted for it and nothing of it is sent, whatever else is done.
use Rattle.std.specs.Prelude.{◌≡◌, false, ℕ, List, ◌∷◌, ◌++◌, Option}
use Rattle.edge_kit.specs.declared.bytes.PubKey.{PubKey}
use Rattle.desk_machine.specs.States.{State, is_active, key_state}
use Rattle.desk_machine.specs.Grants.{open_grants}
use Rattle.desk_machine.specs.declared.call.DeskCall.{DeskCall}
use Rattle.desk_machine.specs.declared.call.DeskCall.TheVariants as call
use Rattle.desk_machine.specs.declared.call.DeskReply.{DeskReply}
use Rattle.desk_machine.specs.declared.call.DeskReply.TheVariants as reply
use Rattle.check_sign.specs.Contents.{Seen}
use Rattle.check_sign.specs.Standing.{DeskStands}
use Rattle.desk_seat.specs.Turns.{calls_of}
use Rattle.session_run.specs.Silent.{IsActivation, IsAmong, IsClose}
use Rattle.world_law.specs.Worlds.{Event}
use Rattle.world_law.specs.Worlds.Event.{Call, Send, Crash}
use Rattle.keymanager_api.specs.Serving.{LinkSeen}
use Rattle.command_line.specs.declared.serve_options.ServeOptions.{ServeOptions}
use Rattle.program_end.specs.declared.status.Status.{Status}
use Rattle.serve_run.specs.Clients.{Parts}
use Rattle.serve_run.specs.Ends.{ServesDesk}
use Rattle.serve_run.specs.declared.start.Start.{Start}
use Rattle.serve_world.specs.Acts.{AreActs, call_in}
use Rattle.serve_world.specs.Weaving.{Act, calls_among, done_in}

-- the key is not active
abbrev pub IsOff : State → PubKey → Type 0
IsOff state key = is_active (key_state state.states key) ≡ false

-- ---- what is granted

-- the call got a grant for the key: for a message, or leave for anything else
abbrev pub IsGrantOf : PubKey → DeskCall × DeskReply → Type 0
IsGrantOf key (call.Propose k m now, reply.Granted grant) = k ≡ key
IsGrantOf key (call.Allow k now, reply.Granted grant) = k ≡ key
IsGrantOf key x = ⊥

-- each grant for the key among these calls has one before it, among them too, that made the key active
abbrev pub UngrantedUntilActive : PubKey → List (DeskCall × DeskReply) → Type 0
UngrantedUntilActive key made = (between later : List (DeskCall × DeskReply)) (x : DeskCall × DeskReply) → made ≡ between ++ x ∷ later → IsGrantOf key x → IsAmong (IsActivation key) between

-- So it is from the start of each key that is not active there, and after each call that closes a key.
pub record StaysUngranted (state : State) (made : List (DeskCall × DeskReply)) : Type 0 where
  pub starts : (key : PubKey) → IsOff state key → UngrantedUntilActive key made
  pub closed : (before after : List (DeskCall × DeskReply)) (x : DeskCall × DeskReply) (key : PubKey) → made ≡ before ++ x ∷ after → IsClose key x → UngrantedUntilActive key after

-- in the one history of a client that served over its desk, whichever state the desk stood for
abbrev pub ServeUngranted : {D C : Type 0} → (D → ℕ) → (D → ℕ → List ℕ → Type 0) → (D → ℕ) → (C → LinkSeen) → Type 0
ServeUngranted {D} {C} moment leaves faults see = (clock : Option ℕ) (options : ServeOptions) (start : Start) (opened ended : Seen D) (before now : Parts C) (result : Status)
    (s : ServesDesk moment leaves faults see clock options start opened ended before now result) (state : State) → DeskStands opened.contents state → StaysUngranted state (calls_of s.shared.log)

-- ---- and what is sent

-- the event is such a call
abbrev pub IsCallThat : (DeskCall × DeskReply → Type 0) → Event → Type 0
IsCallThat P (Call client c r) = P (c, r)
IsCallThat P (Send client grant m) = ⊥
IsCallThat P (Crash client within done now watch) = ⊥

-- something is granted for the key, or a message of it is sent
abbrev pub IsOfKey : PubKey → Event → Type 0
IsOfKey key (Call client c r) = IsGrantOf key (c, r)
IsOfKey key (Send client grant m) = grant.key ≡ key
IsOfKey key (Crash client within done now watch) = ⊥

-- each such event among these has a call before it, among them too, that made the key active
abbrev pub SilentUntilActive : PubKey → List Event → Type 0
SilentUntilActive key events = (between later : List Event) (e : Event) → events ≡ between ++ e ∷ later → IsOfKey key e → IsAmong (IsActivation key) (calls_among call_in between)

-- So it is from the start of each key that is not active there and of which no grant is open, and after each call that closes a key.
pub record StaysSilent (state : State) (events : List Event) : Type 0 where
  pub starts : (key : PubKey) → IsOff state key → open_grants state.grants key ≡ 0 → SilentUntilActive key events
  pub closed : (before after : List Event) (e : Event) (key : PubKey) → events ≡ before ++ e ∷ after → IsCallThat (IsClose key) e → SilentUntilActive key after

-- in whichever acts tell what the client did
abbrev pub ServeSilent : {D C : Type 0} → (D → ℕ) → (D → ℕ → List ℕ → Type 0) → (D → ℕ) → (C → LinkSeen) → Type 0
ServeSilent {D} {C} moment leaves faults see = (clock : Option ℕ) (options : ServeOptions) (start : Start) (opened ended : Seen D) (before now : Parts C) (result : Status)
    (s : ServesDesk moment leaves faults see clock options start opened ended before now result) (client : ℕ) (acts : List (Act Event)) → AreActs client s acts
    → (state : State) → DeskStands opened.contents state → StaysSilent state (done_in acts)
