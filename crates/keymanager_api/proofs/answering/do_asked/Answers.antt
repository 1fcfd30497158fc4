use Rattle.keymanager_api.specs.Plans.{asked_plan}
use Rattle.keymanager_bodies.specs.declared.asked.Asked.TheVariants as asked
use Rattle.keymanager_api.proofs.RunLemmas.{ran_at}
use Rattle.keymanager_api.proofs.answering.do_asked.Goals as goal

pub returns-in-List-clause-runs : goal.returns-in-List-clause-runs
returns-in-List-clause-runs g c = rw c.in-List.is (c.do_list.ensures.runs c.args.now _)

pub returns-in-Delete-clause-runs : goal.returns-in-Delete-clause-runs
returns-in-Delete-clause-runs g c = rw c.in-Delete.is (ran_at g.K.DeskCalls.leads _ _ (λ keys. asked_plan c.args.now (asked.Delete keys)) _ _ _ c.as_slice.ensures (c.do_delete.ensures.runs c.args.now))
