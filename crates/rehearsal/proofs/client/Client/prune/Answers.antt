use Rattle.desk_machine.specs.declared.call.DeskCall.TheVariants as call
use Rattle.rehearsal.proofs.GoLemmas.{asks_is, no_grant}
use Rattle.rehearsal.proofs.client.Client.prune.Goals as goal

pub read-requires : goal.read-requires
read-requires c = no_grant (call.Prune c.args.key) c.prune.result tt c.prune.ensures.counted.granted

pub returns : goal.returns
returns c = asks_is (call.Prune c.args.key) c.prune.result _ _ c.in_ok-read.ensures.given c.prune.ensures.machine c.prune.ensures.counted.genesis
