use Rattle.std.proofs.Common.{◌≡◌, take, map}
use Rattle.edge_kit.proofs.mem_link.conversations_copy.Given as goal

abbrev pub invariant-conversations : goal.invariant-conversations
invariant-conversations l = map (λ v. v.items) l.copies.items ≡ map (λ v. v.items) (take l.conversation-index l.conversations)
