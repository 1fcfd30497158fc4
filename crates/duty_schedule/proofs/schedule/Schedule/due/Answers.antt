use Rattle.std.proofs.Common.{◌≡◌, ◌∙◌, ◌++◌, ℕ, List, map, ap}
use Rattle.std.specs.BTreeSet.{contains}
use Rattle.std.proofs.lemmas.Result.{IfOk-weaker}
use Rattle.node_calls.specs.Fitting.{key_order}
use Rattle.node_calls.specs.declared.answer.AttesterRow.{AttesterRow}
use Rattle.node_calls.specs.declared.answer.ProposerRow.{ProposerRow}
use Rattle.duty_schedule.specs.Answers.{TakenAnswer}
use Rattle.duty_schedule.specs.Due.{IsDue, rows_of}
use Rattle.duty_schedule.specs.Holding.{held_at}
use Rattle.duty_schedule.specs.Standing.{Stands}
use Rattle.duty_schedule.specs.declared.rows.Duty.TheVariants as duty
use Rattle.duty_schedule.proofs.StandLemmas.{attesters_by, due_of_set, proposers_by}
use Rattle.duty_schedule.proofs.schedule.Schedule.due.Goals as goal

pub returns : goal.returns
returns c =
    let s = c.args.self.now in
    let epoch = c.epoch_of-epoch.ensures in
    let in_set = contains key_order c.in_ok-active.active in
    IfOk-weaker _ (λ duties. duties.items ≡ map duty.Block c.as_slice.result.now ++ map duty.Vote c.as_slice-2.result.now)
    (λ duties. (answers : List TakenAnswer) → Stands s answers → IsDue answers c.args.slot c.args.active.now duties.items)
    (λ duties is answers stands. record {
      blocks = c.in_ok-blocks.blocks.items;
      votes = c.in_ok-votes.votes.items;
      are_blocks = due_of_set (λ row. row.slot) (λ row. row.pubkey) c.args.slot c.args.active.now in_set c.in_ok-active.ensures.0 c.rows-proposers.result.now _ c.in_ok-blocks.blocks.items
          (c.rows-proposers.ensures ∙ ap (λ (e : ℕ). rows_of (held_at s.proposers s.newest_epoch e)) epoch ∙ proposers_by s answers stands c.args.slot) c.in_ok-blocks.ensures;
      are_votes = due_of_set (λ row. row.slot) (λ row. row.pubkey) c.args.slot c.args.active.now in_set c.in_ok-active.ensures.0 c.rows-attesters.result.now _ c.in_ok-votes.votes.items
          (c.rows-attesters.ensures ∙ ap (λ (e : ℕ). rows_of (held_at s.attesters s.newest_epoch e)) epoch ∙ attesters_by s answers stands c.args.slot) c.in_ok-votes.ensures;
      are_both = is
          ∙ ap (λ (l : List ProposerRow). map duty.Block l ++ map duty.Vote c.as_slice-2.result.now) c.as_slice.ensures.value
          ∙ ap (λ (l : List AttesterRow). map duty.Block c.in_ok-blocks.blocks.items ++ map duty.Vote l) c.as_slice-2.ensures.value;
    })
    c.duties.ensures
