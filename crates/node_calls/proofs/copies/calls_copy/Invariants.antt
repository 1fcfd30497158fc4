use Rattle.std.proofs.Common.{◌≡◌, take}
use Rattle.node_calls.proofs.copies.calls_copy.Given as goal

-- the copies so far are of the calls in front
abbrev pub invariant-calls : goal.invariant-calls
invariant-calls l = l.copies.items ≡ take l.call-index l.calls
