use Rattle.std.proofs.Common.{◌≡◌, ◌∙◌, List, true, sym, subst}
use Rattle.duty_plans.specs.declared.ended.Ended.{Ended}
use Rattle.duty_plans.specs.declared.task.Task.{Task}
use Rattle.duty_plans.specs.Votes.{data_tasks, vote_answers}
use Rattle.duty_turns.specs.Turns.{casts_for, work_of}
use Rattle.duty_workers.specs.Places.{are_placed_tasks}
use Rattle.duty_work.proofs.PlacedLemmas.{data_placed}
use Rattle.duty_work.proofs.VoteLemmas.{answers_cast, tasks_cast, tasks_cut, tasks_done}
use Rattle.duty_work.proofs.votes.cast_votes.Goals as goal

pub do_tasks-requires-clause-places : goal.do_tasks-requires-clause-places
do_tasks-requires-clause-places g c = λ lifetimes outlives. subst (λ (l : List Task). are_placed_tasks l ≡ true) (sym (c.as_slice-tasks.ensures.value ∙ c.in-Ok.ensures)) (data_placed c.args.votes.now c.requires.places)

pub returns-in_default-do_tasks-clause-cast : goal.returns-in_default-do_tasks-clause-cast
returns-in_default-do_tasks-clause-cast g c = λ start nodes out s next_by h.
    let work = work_of c.args.setup.now s in
    tasks_cut g.K.DeskCalls.leads start _ _ _ nodes out work c.args.place c.as_slice-tasks.result.now (data_tasks c.args.votes.now)
    (λ ends. casts_for work c.args.place c.args.votes.now next_by (vote_answers c.args.votes.now ends)) next_by
    (c.as_slice-tasks.ensures.value ∙ c.in-Ok.ensures) (c.in_default-do_tasks.ensures.works s h)

pub returns-in_default-vote_answers-clause-cast : goal.returns-in_default-vote_answers-clause-cast
returns-in_default-vote_answers-clause-cast g c = λ start nodes out s next_by h.
    let work = work_of c.args.setup.now s in
    tasks_done g.K.DeskCalls.leads start _ _ _ nodes out work c.args.place c.as_slice-tasks.result.now (data_tasks c.args.votes.now) c.in-Ok-do_tasks.told.items
    (λ ends. casts_for work c.args.place c.args.votes.now next_by (vote_answers c.args.votes.now ends)) next_by
    (c.as_slice-tasks.ensures.value ∙ c.in-Ok.ensures) (c.in-Ok-do_tasks.ensures.works s h)

pub returns-clause-cast : goal.returns-clause-cast
returns-clause-cast g c = λ start nodes out s next_by h.
    let work = work_of c.args.setup.now s in
    let q = λ (ends : List Ended). casts_for work c.args.place c.args.votes.now next_by (vote_answers c.args.votes.now ends) in
    let is = c.as_slice-tasks.ensures.value ∙ c.in-Ok.ensures in
    tasks_cast g.K.DeskCalls.leads start _ _ _ nodes out _ work c.args.place c.as_slice-tasks.result.now (data_tasks c.args.votes.now) c.in-Ok-do_tasks.told.items c.as_slice.result.now q next_by _
    is c.as_slice.ensures.value (c.in-Ok-do_tasks.ensures.works s h)
    (answers_cast g.K.DeskCalls.leads start _ _ work c.args.place c.args.votes.now c.as_slice-tasks.result.now c.as_slice.result.now c.as_slice-asked.result.now next_by _ is
    (c.as_slice-asked.ensures.value ∙ c.in-Ok-vote_answers.ensures) (c.cast_on.ensures.cast start nodes out s next_by h))
