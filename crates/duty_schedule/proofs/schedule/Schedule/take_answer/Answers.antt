use Rattle.std.proofs.Common.{◌∙◌, [], ◌∷◌, ◌++◌, ◌≡◌, refl, sym, subst}
use Rattle.duty_schedule.specs.Answers.{taken_answer, verdict}
use Rattle.duty_schedule.specs.Standing.{Stands}
use Rattle.duty_schedule.specs.declared.rows.DutyRows.{DutyRows}
use Rattle.duty_schedule.proofs.StandLemmas.{attesters_verdict, proposers_verdict, took_attesters, took_proposers}
use Rattle.duty_schedule.proofs.schedule.Schedule.take_answer.Goals as goal

pub returns-in-Proposer-clause-stands : goal.returns-in-Proposer-clause-stands
returns-in-Proposer-clause-stands c = λ answers stands.
    let moved = c.move_on.new.self in
    let on = c.move_on.ensures in
    let P : DutyRows → Type 0 = λ rows. Stands (record moved { proposers = c.take.new.self }) (answers ++ taken_answer c.args.epoch c.args.asked c.args.dependent_root rows ∷ []) in
    subst P (sym c.in-Proposer.is)
    (took_proposers c.args.self.now moved (record moved { proposers = c.take.new.self }) c.args.epoch (record { asked = c.args.asked; dependent_root = c.args.dependent_root }) on.newest on.proposers on.attesters answers stands c.in-Proposer.rows refl refl c.take.ensures.own c.take.ensures.others)

pub returns-in-Proposer-clause-taken : goal.returns-in-Proposer-clause-taken
returns-in-Proposer-clause-taken c = λ answers stands.
    let moved = c.move_on.new.self in
    let on = c.move_on.ensures in
    let P : DutyRows → Type 0 = λ rows. c.take.result ≡ verdict answers (taken_answer c.args.epoch c.args.asked c.args.dependent_root rows) in
    subst P (sym c.in-Proposer.is)
    (c.take.ensures.taken ∙ proposers_verdict c.args.self.now moved moved c.args.epoch (record { asked = c.args.asked; dependent_root = c.args.dependent_root }) on.newest on.proposers on.attesters answers stands c.in-Proposer.rows)

pub returns-in-Attester-clause-stands : goal.returns-in-Attester-clause-stands
returns-in-Attester-clause-stands c = λ answers stands.
    let moved = c.move_on.new.self in
    let on = c.move_on.ensures in
    let P : DutyRows → Type 0 = λ rows. Stands (record moved { attesters = c.take-in-Attester.new.self }) (answers ++ taken_answer c.args.epoch c.args.asked c.args.dependent_root rows ∷ []) in
    subst P (sym c.in-Attester.is)
    (took_attesters c.args.self.now moved (record moved { attesters = c.take-in-Attester.new.self }) c.args.epoch (record { asked = c.args.asked; dependent_root = c.args.dependent_root }) on.newest on.proposers on.attesters answers stands c.in-Attester.rows refl refl c.take-in-Attester.ensures.own c.take-in-Attester.ensures.others)

pub returns-in-Attester-clause-taken : goal.returns-in-Attester-clause-taken
returns-in-Attester-clause-taken c = λ answers stands.
    let moved = c.move_on.new.self in
    let on = c.move_on.ensures in
    let P : DutyRows → Type 0 = λ rows. c.take-in-Attester.result ≡ verdict answers (taken_answer c.args.epoch c.args.asked c.args.dependent_root rows) in
    subst P (sym c.in-Attester.is)
    (c.take-in-Attester.ensures.taken ∙ attesters_verdict c.args.self.now moved moved c.args.epoch (record { asked = c.args.asked; dependent_root = c.args.dependent_root }) on.newest on.proposers on.attesters answers stands c.in-Attester.rows)
