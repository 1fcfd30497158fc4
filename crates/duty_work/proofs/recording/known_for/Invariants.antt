use Rattle.duty_work.proofs.recording.known_for.Given as goal

abbrev pub invariant-known : goal.invariant-known
invariant-known l = Unit {0}
