use Rattle.std.proofs.Common.{rules, subst}
use Rattle.std.proofs.lemmas.List.Sorted.{answers_always}
use Rattle.duty_schedule.specs.Due.{IsByKey}
use Rattle.duty_schedule.proofs.due.due_rows.Goals as goal

pub returns : goal.returns
returns g c =
    subst (λ rows. IsByKey g.R.DutyRow.key_of rows c.sort_by_key.new.self.items) c.in_ok-due.ensures (record {
      same_rows = c.sort_by_key.ensures.permutation;
      by_key = c.in_ok-sort_by_key.ensures.sorted g.R.DutyRow.key_of (answers_always _ _ _ (λ f a r f' k. search rules));
      by_place = c.sort_by_key.ensures.stable g.R.DutyRow.key_of (answers_always _ _ _ (λ f a r f' k. search rules));
    })
