-- Between the close of a key and its next activation nothing of it is sent.
use Rattle.std.specs.Prelude.{false, ◌≡◌, ◌≢◌, ◌⊎◌, List, [], ◌∷◌}
use Rattle.edge_kit.specs.declared.bytes.PubKey.{PubKey}
use Rattle.slash_defs.specs.declared.message.Message.{Message}
use Rattle.desk_machine.specs.States.{State, key_state, is_active}
use Rattle.desk_machine.specs.declared.call.DeskCall.{DeskCall}
use Rattle.desk_machine.specs.declared.call.DeskCall.TheVariants as call
use Rattle.desk_machine.specs.declared.call.DeskReply.{DeskReply}
use Rattle.desk_machine.specs.declared.call.DeskReply.TheVariants as reply
use Rattle.client_calls.specs.Steps.{ClientStep, step_calls, step_sent}

-- the call made the key active, or closed it
abbrev pub IsActivation : PubKey → DeskCall × DeskReply → Type 0
IsActivation key (call.Activate k now, reply.Active) = k ≡ key
IsActivation key x = ⊥

abbrev pub IsClose : PubKey → DeskCall × DeskReply → Type 0
IsClose key (call.FinishClose k, reply.Closed book) = k ≡ key
IsClose key x = ⊥

-- one of the calls is such
abbrev pub IsAmong : (DeskCall × DeskReply → Type 0) → List (DeskCall × DeskReply) → Type 0
IsAmong P [] = ⊥
IsAmong P (x ∷ made) = P x ⊎ IsAmong P made

-- none of the messages is of the key
abbrev pub NoneOf : PubKey → List (PubKey × Message) → Type 0
NoneOf key [] = Unit {0}
NoneOf key (x ∷ sent) = (x.0 ≢ key) × NoneOf key sent

-- nothing of the key is sent before a step that makes it active
abbrev pub SilentUntilActive : PubKey → List ClientStep → Type 0
SilentUntilActive key [] = Unit {0}
SilentUntilActive key (s ∷ steps) = IsAmong (IsActivation key) (step_calls s) ⊎ (NoneOf key (step_sent s) × SilentUntilActive key steps)

-- so it is from the start of every key that isn't active there
abbrev pub StartsSilent : State → List ClientStep → Type 0
StartsSilent state steps = (key : PubKey) → is_active (key_state state.states key) ≡ false → SilentUntilActive key steps

-- and after each step that closes a key
abbrev pub StaysSilent : List ClientStep → Type 0
StaysSilent [] = Unit {0}
StaysSilent (s ∷ steps) = ((key : PubKey) → IsAmong (IsClose key) (step_calls s) → SilentUntilActive key steps) × StaysSilent steps
