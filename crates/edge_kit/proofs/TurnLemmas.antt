-- How a write or cut goes, by its turn.
use Rattle.std.proofs.Common.{◌≡◌, ◌⊎◌, Ok, Err, refl}
use Rattle.edge_kit.specs.declared.mem_disk.Turn.{Turn}
use Rattle.edge_kit.specs.declared.mem_disk.Turn.TheVariants as turn
use Rattle.edge_kit.specs.MemDisks.{GoesBy}

pub goes_on : {T : Type 0} (E made unmade lacked : Type 0) (t : Turn) (x : T) → (t ≡ turn.Fails → ⊥) → (t ≡ turn.Stops → ⊥) → made → GoesBy {T = T} {E = E} t (Ok x) made unmade lacked
goes_on E made unmade lacked turn.Works x no_fault no_stop done = done
goes_on E made unmade lacked turn.Stops x no_fault no_stop done = absurd (no_stop refl)
goes_on E made unmade lacked turn.Fails x no_fault no_stop done = absurd (no_fault refl)

pub goes_last : {E : Type 0} (T made unmade lacked : Type 0) (t : Turn) (e : E) → t ≡ turn.Stops → made ⊎ lacked → GoesBy {T = T} t (Err e) made unmade lacked
goes_last T made unmade lacked turn.Works e is done = absurd cc
goes_last T made unmade lacked turn.Stops e is done = done
goes_last T made unmade lacked turn.Fails e is done = absurd cc
