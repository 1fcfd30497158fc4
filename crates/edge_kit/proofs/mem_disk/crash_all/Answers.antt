use Rattle.std.proofs.Common.{◌∙◌, ap, sym, List, ℕ}
use Rattle.edge_kit.specs.MemDisks.{crashed_after}
use Rattle.edge_kit.proofs.MemDiskLemmas.{crashed_more}
use Rattle.edge_kit.proofs.mem_disk.crash_all.Goals as goal

pub loop-step-preserved : goal.loop-step-preserved
loop-step-preserved c =
    c.in_ok-crash_step.ensures ∙ ap (λ (l : List ℕ). crashed_after c.args.crash c.step-item.result l) c.loop-step.invariant
    ∙ sym (crashed_more c.args.crash c.args.image.now.items c.args.steps.now c.loop-step.step-index c.step-item.result c.loop-step-test.true c.step-item.is)
