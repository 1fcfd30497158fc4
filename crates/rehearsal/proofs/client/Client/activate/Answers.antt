use Rattle.desk_machine.specs.declared.call.DeskCall.TheVariants as call
use Rattle.rehearsal.proofs.GoLemmas.{asks_is, no_grant}
use Rattle.rehearsal.proofs.client.Client.activate.Goals as goal

pub read-requires : goal.read-requires
read-requires c = no_grant (call.Activate c.args.key c.args.now) c.activate.result tt c.activate.ensures.counted.granted

pub returns : goal.returns
returns c = asks_is (call.Activate c.args.key c.args.now) c.activate.result _ _ c.in_ok-read.ensures.given c.activate.ensures.machine c.activate.ensures.counted.genesis
