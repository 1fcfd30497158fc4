use Rattle.std.proofs.Common.{◌≡◌, [], drop}
use Rattle.command_line.proofs.ServingLemmas.{rest_of}
use Rattle.command_line.proofs.serving.read_services.Given as goal

abbrev pub invariant-texts : goal.invariant-texts
invariant-texts l = rest_of l.services.items (drop l.text-index l.texts) ≡ rest_of [] l.texts
