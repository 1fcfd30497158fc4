use Rattle.record_replay.proofs.ChangeLemmas.{activated, answered, closed, closing, gained_one, merged, own, undated}
use Rattle.record_replay.proofs.laws.replay_laws.Goals as goal

pub returns-clause-activated : goal.returns-clause-activated
returns-clause-activated c = λ items keys states watched key epoch stand. activated items keys states watched stand key epoch

pub returns-clause-undated : goal.returns-clause-undated
returns-clause-undated c = λ items keys states watched key stand. undated items keys states watched stand key

pub returns-clause-answered : goal.returns-clause-answered
returns-clause-answered c = λ items keys states watched key telling stand found. answered items keys states watched stand key telling found

pub returns-clause-closing : goal.returns-clause-closing
returns-clause-closing c = λ items keys states watched key stand active. closing items keys states watched stand key active

pub returns-clause-closed : goal.returns-clause-closed
returns-clause-closed c = λ items keys states watched key stand found active. closed items keys states watched stand key found active

pub returns-clause-own : goal.returns-clause-own
returns-clause-own c = λ items keys states watched key m stand found. own items keys states watched stand key m found

pub returns-clause-merged : goal.returns-clause-merged
returns-clause-merged c = λ items keys states watched file stand once. merged items keys states watched stand file once

pub returns-clause-gained : goal.returns-clause-gained
returns-clause-gained c = λ items keys states watched key book stand. gained_one items keys states watched stand key book
