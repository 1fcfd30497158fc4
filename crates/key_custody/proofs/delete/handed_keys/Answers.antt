use Rattle.std.proofs.Common.{[], ap, sym, ◌∙◌}
use Rattle.key_custody.specs.Statuses.{is_handed}
use Rattle.key_custody.proofs.CustodyLemmas.{handed_step, handed_skip}
use Rattle.key_custody.proofs.delete.handed_keys.Goals.{then-is_handed+in_ok-push, else-is_handed}
use Rattle.key_custody.proofs.delete.handed_keys.Goals as goal

pub keys-preserved : goal.keys-preserved
keys-preserved c = elim c.if-is_handed.branch [
  | then-is_handed+in_ok-push w ↦ rw (w.handed-is, w.in_ok-push.ensures.items)
      (handed_step c.args.keys.now c.args.statuses.now c.keys.i _ c.index-statuses-i.result c.keys.handed.items c.keys-test.true c.requires c.keys.invariant (ap is_handed (sym c.index-statuses-i.is) ∙ sym w.if-is_handed.ensures))
  | else-is_handed w ↦ rw w.handed-is
      (handed_skip c.args.keys.now c.args.statuses.now c.keys.i (record { 0 = [] }) c.index-statuses-i.result c.keys.handed.items c.keys-test.true c.requires c.keys.invariant (ap is_handed (sym c.index-statuses-i.is) ∙ sym w.if-is_handed.ensures))
]
