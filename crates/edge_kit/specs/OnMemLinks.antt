-- What contracts see of a stream in memory.
use Rattle.std.specs.Prelude.{◌≡◌, ℕ, ◌-◌, ◌&&◌, not, Bool, List, length, drop, map, Result}
use Rattle.edge_kit.specs.declared.calls.Calls.{Calls}
use Rattle.edge_kit.specs.declared.mem_link.MemLink.{MemLink}
use Rattle.edge_kit.specs.Calls.{fails_next, IsCounted}
use Rattle.edge_kit.specs.InMemory.{has_room}

-- what the peer still sends over this connection
abbrev pub link_left : MemLink → List ℕ
link_left s = drop s.at s.current.items

-- what it sends over each later one
abbrev pub link_coming : MemLink → List (List ℕ)
link_coming s = map (λ v. v.items) s.conversations.items

-- what was sent to it
abbrev pub link_held : MemLink → List ℕ
link_held s = s.sent.items

-- how many bytes it has room for in all, and how many more
abbrev pub whole_room : MemLink → ℕ
whole_room s = s.room

abbrev pub link_room : MemLink → ℕ
link_room s = s.room - length s.sent.items

-- what it keeps of its calls
abbrev pub link_calls : MemLink → Calls
link_calls s = s.calls

-- one call of this result has come, and the room in all stays
pub record IsCalled {T E : Type 0} (old new : MemLink) (result : Result T E) : Type 0 where
  pub calls : IsCounted (link_calls old) (link_calls new) result
  pub room : whole_room new ≡ whole_room old

-- its next call works, if it sends nothing
abbrev pub link_works : MemLink → Bool
link_works s = not (fails_next s.calls)

-- its next call works, if it sends so many bytes
abbrev pub send_works : MemLink → ℕ → Bool
send_works s count = not (fails_next s.calls) && has_room count (link_room s)

-- everything that it has and holds stays
pub record HoldsSame (old new : MemLink) : Type 0 where
  pub left : link_left new ≡ link_left old
  pub coming : link_coming new ≡ link_coming old
  pub held : link_held new ≡ link_held old
