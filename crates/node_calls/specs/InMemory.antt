-- What the node in memory answers, and what it has left.
use Rattle.std.specs.Prelude.{◌≡◌, ℕ, Bool, true, false, List, [], Contains, Option, Some, None, Result, Ok, Err, if◌then◌else◌, slice_get, ⊤}
use Rattle.edge_kit.specs.Causes.{next_count}
use Rattle.node_calls.specs.declared.ask.Ask.{Ask}
use Rattle.node_calls.specs.declared.answer.Answer.{Answer}
use Rattle.node_calls.specs.declared.answer.NodeFault.{NodeFault}
use Rattle.node_calls.specs.declared.answer.NodeFault.TheVariants as fault
use Rattle.node_calls.specs.declared.mem_node.MemNode.{MemNode}
use Rattle.node_calls.specs.Fitting.{fits}

-- the next call is one that is to fail
abbrev pub FailsNext : MemNode → Type 0
FailsNext s = Contains s.failing.items s.calls

-- an answer of the list, where it fits; else there is none that can be read
abbrev pub reply_of : Ask → Option Answer → Result Answer NodeFault
reply_of ask None = Err (fault.Unreadable [])
reply_of ask (Some answer) = if fits ask answer then Ok answer else Err (fault.Unreadable [])

-- by the next answer of the list
abbrev pub next_reply : MemNode → Ask → Result Answer NodeFault
next_reply s ask = reply_of ask (slice_get s.answers.items s.given)

-- the reply to a question
abbrev pub MemAsks : MemNode → Ask → Result Answer NodeFault → Type 0
MemAsks s ask (Ok answer) = (¬ (FailsNext s)) × (next_reply s ask ≡ Ok answer)
MemAsks s ask (Err fault.Fault) = FailsNext s
MemAsks s ask (Err (fault.Status status)) = ⊥
MemAsks s ask (Err (fault.Unreadable body)) = (¬ (FailsNext s)) × (next_reply s ask ≡ Err (fault.Unreadable body))
MemAsks s ask (Err fault.OutOfMemory) = ⊤

-- and to a post: each is taken
abbrev pub MemPosts : MemNode → Result (Unit {0}) NodeFault → Type 0
MemPosts s (Ok done) = ¬ (FailsNext s)
MemPosts s (Err fault.Fault) = FailsNext s
MemPosts s (Err (fault.Status status)) = ⊥
MemPosts s (Err (fault.Unreadable body)) = ⊥
MemPosts s (Err fault.OutOfMemory) = ⊤

-- whether a reply took an answer of the list
abbrev pub takes_answer : Result Answer NodeFault → Bool
takes_answer (Ok answer) = true
takes_answer (Err (fault.Unreadable body)) = true
takes_answer (Err fault.Fault) = false
takes_answer (Err (fault.Status status)) = false
takes_answer (Err fault.OutOfMemory) = false

-- whether a call was made, and whether it failed
abbrev pub is_made : {T : Type 0} → Result T NodeFault → Bool
is_made (Ok value) = true
is_made (Err fault.Fault) = true
is_made (Err (fault.Status status)) = true
is_made (Err (fault.Unreadable body)) = true
is_made (Err fault.OutOfMemory) = false

abbrev pub is_failed : {T : Type 0} → Result T NodeFault → Bool
is_failed (Ok value) = false
is_failed (Err fault.Fault) = true
is_failed (Err (fault.Status status)) = false
is_failed (Err (fault.Unreadable body)) = false
is_failed (Err fault.OutOfMemory) = false

abbrev pub next_if : Bool → ℕ → ℕ
next_if counts count = if counts then next_count count else count

-- a call that was made is counted, one that failed is too, and so is an answer that was taken; the lists stay
pub record IsCounted (before now : MemNode) (made failed taken : Bool) : Type 0 where
  pub calls : now.calls ≡ next_if made before.calls
  pub faults : now.faults ≡ next_if failed before.faults
  pub given : now.given ≡ next_if taken before.given
  pub failing : now.failing.items ≡ before.failing.items
  pub answers : now.answers.items ≡ before.answers.items
