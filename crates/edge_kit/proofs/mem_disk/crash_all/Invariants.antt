use Rattle.std.proofs.Common.{◌≡◌, take}
use Rattle.edge_kit.specs.MemDisks.{crashed}
use Rattle.edge_kit.proofs.mem_disk.crash_all.Given as goal

abbrev pub invariant-loop-step : goal.invariant-loop-step
invariant-loop-step l = l.image.items ≡ crashed l.crash l.initial.image.items (take l.step-index l.steps)
