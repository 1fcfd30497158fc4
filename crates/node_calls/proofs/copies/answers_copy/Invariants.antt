use Rattle.std.proofs.Common.{◌≡◌, take}
use Rattle.node_calls.proofs.copies.answers_copy.Given as goal

-- the copies so far are of the answers in front
abbrev pub invariant-answers : goal.invariant-answers
invariant-answers l = l.copies.items ≡ take l.answer-index l.answers
