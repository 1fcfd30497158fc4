use Rattle.std.proofs.Common.{◌≡◌, drop}
use Rattle.edge_clock.specs.InMemory.{delay_of}
use Rattle.edge_clock.proofs.mem_clock.delay_in.Given as goal

abbrev pub invariant-loop-delay : goal.invariant-loop-delay
invariant-loop-delay l = delay_of l.delays l.moment ≡ delay_of (drop l.delay-index l.delays) l.moment
