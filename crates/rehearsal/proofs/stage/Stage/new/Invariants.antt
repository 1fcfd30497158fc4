use Rattle.rehearsal.proofs.StageLemmas.{Dealt, DealtTo}
use Rattle.rehearsal.proofs.stage.Stage.new.Given as goal

abbrev pub invariant-keys : goal.invariant-keys
invariant-keys l = record { dealt : Dealt l.clients l.place l.cast; dealt_to : DealtTo l.clients l.place l.holders.items }
