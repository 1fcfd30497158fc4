use Rattle.std.proofs.Common.{◌+◌, drop}
use Rattle.call_plans.proofs.PathLemmas.{comes_none}
use Rattle.duty_turns.specs.Turns.{notes_plan}
use Rattle.duty_turns.specs.TurnSteps.{Does, Fits}
use Rattle.duty_loop.proofs.LiveLemmas.{note_done, note_step, note_stop}
use Rattle.duty_loop.proofs.live.note_all.Goals as goal

pub notes-init : goal.notes-init
notes-init g c = record { ready = c.requires.ready; comes = λ start lanes s nodes out. comes_none Fits (Does g.K.DeskCalls.leads start) _ _ }

pub returns-in-Err-clause-runs : goal.returns-in-Err-clause-runs
returns-in-Err-clause-runs g c = λ start lanes s nodes out. note_stop g.K.DeskCalls.leads g.met.K.DeskCalls.leads_none start c.args.epoch c.args.now s _ _ _ _ c.args.notes.now c.notes.note-index _ _ c.notes-test.true (c.notes.invariant.comes start lanes s nodes out)
    (c.in-Err.ensures.noted start lanes nodes out (notes_plan c.args.epoch c.args.now (drop (c.notes.note-index + 1) c.args.notes.now) s))

pub notes-preserved : goal.notes-preserved
notes-preserved g c = record {
  ready = c.in-Ok.ensures.ready;
  comes = λ start lanes s nodes out. note_step g.K.DeskCalls.leads g.met.K.DeskCalls.leads_none start c.args.epoch c.args.now s _ _ _ _ c.args.notes.now c.notes.note-index _ c.notes-test.true (c.notes.invariant.comes start lanes s nodes out)
      (c.in-Ok.ensures.noted start lanes nodes out (notes_plan c.args.epoch c.args.now (drop (c.notes.note-index + 1) c.args.notes.now) s));
}

pub returns-clause-runs : goal.returns-clause-runs
returns-clause-runs g c = λ start lanes s nodes out. note_done g.K.DeskCalls.leads g.met.K.DeskCalls.leads_none start c.args.epoch c.args.now s _ _ _ c.args.notes.now c.notes.note-index c.notes-test.false (c.notes.invariant.comes start lanes s nodes out)
