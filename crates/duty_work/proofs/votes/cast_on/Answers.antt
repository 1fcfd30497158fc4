use Rattle.std.proofs.Common.{◌≡◌, ◌∙◌, List, None, true, sym, subst}
use Rattle.duty_plans.specs.declared.ended.Ended.{Ended}
use Rattle.duty_plans.specs.declared.task.Task.{Task}
use Rattle.duty_plans.specs.Votes.{vote_ends, vote_tasks}
use Rattle.duty_turns.specs.Turns.{work_of, works}
use Rattle.duty_workers.specs.Places.{are_placed_tasks}
use Rattle.duty_work.proofs.PlacedLemmas.{cast_placed}
use Rattle.duty_work.proofs.VoteLemmas.{ends_cast, kept_cast, kept_cut, tasks_cast, tasks_cut, work_domains, work_moment}
use Rattle.duty_work.proofs.votes.cast_on.Goals as goal

pub do_tasks-requires-clause-places : goal.do_tasks-requires-clause-places
do_tasks-requires-clause-places g c = λ lifetimes outlives. subst (λ (l : List Task). are_placed_tasks l ≡ true) (sym (c.as_slice-tasks.ensures.value ∙ c.in-Ok.ensures)) (cast_placed c.args.votes.now c.args.asked.now c.requires.places)

pub returns-in_default-record_votes-clause-cast : goal.returns-in_default-record_votes-clause-cast
returns-in_default-record_votes-clause-cast g c = λ start nodes out s next_by h.
    let work = work_of c.args.setup.now s in
    let next = works work c.args.place (vote_tasks c.args.votes.now c.args.asked.now) (λ cast. next_by (vote_ends c.args.asked.now cast)) in
    kept_cut g.K.DeskCalls.leads start _ _ work c.as_slice-tasks.result.now (vote_tasks c.args.votes.now c.args.asked.now) next next_by (c.as_slice-tasks.ensures.value ∙ c.in-Ok.ensures)
    (c.in_default-record_votes.ensures.called work (work_domains c.args.setup.now c.args.held.now s c.new-domains.result h c.new-domains.ensures) (work_moment c.args.setup.now c.args.held.now s c.epoch_of.result h c.epoch_of.ensures.epoch) start _ nodes out next)

pub returns-in_default-do_tasks-clause-cast : goal.returns-in_default-do_tasks-clause-cast
returns-in_default-do_tasks-clause-cast g c = λ start nodes out s next_by h.
    let work = work_of c.args.setup.now s in
    let ts = vote_tasks c.args.votes.now c.args.asked.now in
    let ends = λ (cast : List Ended). next_by (vote_ends c.args.asked.now cast) in
    let is = c.as_slice-tasks.ensures.value ∙ c.in-Ok.ensures in
    kept_cast g.K.DeskCalls.leads start _ _ _ work c.as_slice-tasks.result.now ts (λ l. works work c.args.place l ends) next_by None is
    (c.in-Ok-record_votes.ensures.called work (work_domains c.args.setup.now c.args.held.now s c.new-domains.result h c.new-domains.ensures) (work_moment c.args.setup.now c.args.held.now s c.epoch_of.result h c.epoch_of.ensures.epoch) start _ nodes out (works work c.args.place ts ends))
    (tasks_cut g.K.DeskCalls.leads start _ _ _ nodes out work c.args.place c.as_slice-tasks.result.now ts ends next_by is (c.in_default-do_tasks.ensures.works s h))

pub returns-clause-cast : goal.returns-clause-cast
returns-clause-cast g c = λ start nodes out s next_by h.
    let work = work_of c.args.setup.now s in
    let ts = vote_tasks c.args.votes.now c.args.asked.now in
    let ends = λ (cast : List Ended). next_by (vote_ends c.args.asked.now cast) in
    let is = c.as_slice-tasks.ensures.value ∙ c.in-Ok.ensures in
    kept_cast g.K.DeskCalls.leads start _ _ _ work c.as_slice-tasks.result.now ts (λ l. works work c.args.place l ends) next_by _ is
    (c.in-Ok-record_votes.ensures.called work (work_domains c.args.setup.now c.args.held.now s c.new-domains.result h c.new-domains.ensures) (work_moment c.args.setup.now c.args.held.now s c.epoch_of.result h c.epoch_of.ensures.epoch) start _ nodes out (works work c.args.place ts ends))
    (tasks_cast g.K.DeskCalls.leads start _ _ _ nodes out _ work c.args.place c.as_slice-tasks.result.now ts c.in-Ok-do_tasks.cast.items c.as_slice.result.now ends next_by _ is c.as_slice.ensures.value (c.in-Ok-do_tasks.ensures.works s h)
    (ends_cast g.K.DeskCalls.leads start (λ v. v.items) c.vote_ends.result c.args.asked.now c.as_slice.result.now next_by _ c.vote_ends.ensures))
