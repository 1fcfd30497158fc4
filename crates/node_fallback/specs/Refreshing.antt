-- Each node asked whether it is still syncing.
use Rattle.std.specs.Prelude.{◌≡◌, ◌≤◌, Bool, false, List, [], ◌∷◌, Result, Ok, Err, ⊤}
use Rattle.edge_kit.specs.Causes.{Rose}
use Rattle.edge_kit.specs.Tellings.{Tells}
use Rattle.node_calls.specs.declared.ask.Ask.TheVariants as ask
use Rattle.node_calls.specs.declared.answer.Answer.{Answer}
use Rattle.node_calls.specs.declared.answer.Answer.TheVariants as answer
use Rattle.node_calls.specs.declared.answer.NodeFault.{NodeFault}
use Rattle.node_calls.specs.declared.answer.NodeFault.TheVariants as fault
use Rattle.node_calls.specs.Asking.{told_ask}
use Rattle.node_fallback.specs.Seen.{Seen}

-- a reply that says so; a node that gave no answer counts as one that is not
abbrev pub says_syncing : Result Answer NodeFault → Bool
says_syncing (Ok (answer.Syncing is_syncing)) = is_syncing
says_syncing (Ok _) = false
says_syncing (Err none) = false

-- the reply says something of the node: memory did not run out at it
abbrev pub IsGiven : Result Answer NodeFault → Type 0
IsGiven (Ok value) = ⊤
IsGiven (Err fault.Fault) = ⊤
IsGiven (Err (fault.Status status)) = ⊤
IsGiven (Err (fault.Unreadable body)) = ⊤
IsGiven (Err fault.OutOfMemory) = ⊥

-- all but the last do
abbrev pub AllButLastGiven : List (Result Answer NodeFault) → Type 0
AllButLastGiven [] = ⊤
AllButLastGiven (reply ∷ []) = ⊤
AllButLastGiven (reply ∷ next ∷ replies) = IsGiven reply × AllButLastGiven (next ∷ replies)

-- one node was asked, and has this flag now
pub record IsHeardOf (old : Seen) (reply : Result Answer NodeFault) (new : Seen) (flag : Bool) : Type 0 where
  pub syncing : new.syncing ≡ flag
  pub tells : Tells old.told new.told (told_ask ask.Syncing reply)
  pub later : old.faults ≤ new.faults
  pub fault : reply ≡ Err fault.Fault → Rose old.faults new.faults

-- each was asked, and is flagged by its reply
abbrev pub AreFlagged : List Seen → List (Result Answer NodeFault) → List Seen → Type 0
AreFlagged [] [] [] = Unit {0}
AreFlagged (o ∷ old) (reply ∷ replies) (n ∷ new) = IsGiven reply × IsHeardOf o reply n (says_syncing reply) × AreFlagged old replies new
AreFlagged _ _ _ = ⊥

-- the first were asked, and all flags stay; the others were not touched
abbrev pub AreAsked : List Seen → List (Result Answer NodeFault) → List Seen → Type 0
AreAsked old [] new = new ≡ old
AreAsked (o ∷ old) (reply ∷ replies) (n ∷ new) = IsHeardOf o reply n o.syncing × AreAsked old replies new
AreAsked _ _ _ = ⊥

-- so of the first few, at the last of which memory may have run out
abbrev pub AreAskedFirst : List Seen → List (Result Answer NodeFault) → List Seen → Type 0
AreAskedFirst old replies new = AllButLastGiven replies × AreAsked old replies new

-- a list of replies that meets this
abbrev pub WithReplies : (List (Result Answer NodeFault) → Type 0) → Type 0
WithReplies P = (replies : List (Result Answer NodeFault)) × P replies
