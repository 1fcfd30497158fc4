-- What contracts see of a door in memory.
use Rattle.std.specs.Prelude.{ℕ, Bool, List, not}
use Rattle.edge_kit.specs.declared.calls.Calls.{Calls}
use Rattle.edge_kit.specs.declared.mem_door.MemDoor.{MemDoor}
use Rattle.edge_kit.specs.declared.mem_link.MemLink.{MemLink}
use Rattle.edge_kit.specs.Calls.{fails_next}

-- the connections that still come in
abbrev pub door_coming : MemDoor → List MemLink
door_coming d = d.coming.items

-- those that it took back
abbrev pub door_finished : MemDoor → List MemLink
door_finished d = d.finished.items

-- how many it has given and not taken back
abbrev pub door_lent : MemDoor → ℕ
door_lent d = d.lent

-- what it keeps of its calls of `accept`
abbrev pub door_calls : MemDoor → Calls
door_calls d = d.calls

-- its next `accept` works
abbrev pub door_works : MemDoor → Bool
door_works d = not (fails_next d.calls)
