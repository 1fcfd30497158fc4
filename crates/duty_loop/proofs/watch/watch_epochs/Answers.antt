use Rattle.std.proofs.Common.{◌+◌}
use Rattle.duty_loop.specs.Missing.{missing_from}
use Rattle.duty_loop.proofs.MissingLemmas.{missing_here, missing_none}
use Rattle.duty_loop.proofs.LiveLemmas.{epoch_done, epoch_stop, epochs_at, epochs_begun, epochs_next}
use Rattle.duty_loop.proofs.watch.watch_epochs.Goals as goal

pub epochs-init : goal.epochs-init
epochs-init g c = record {
  ready = c.requires.ready;
  is_now = c.epoch_of-now.ensures.epoch;
  within = c.next_missed-epoch.ensures.within;
  missed = c.next_missed-epoch.ensures.missed;
  comes = λ start lanes s h. epochs_begun g.K.DeskCalls.leads g.met.K.DeskCalls.leads_none start c.epoch_of-now.result c.next_missed-epoch.result c.args.listed.now s _ c.next_missed-epoch.ensures.within c.next_missed-epoch.ensures.none_before;
}

pub returns-in-Err-clause-runs : goal.returns-in-Err-clause-runs
returns-in-Err-clause-runs g c = λ start lanes s h. epochs_at g.K.DeskCalls.leads g.met.K.DeskCalls.leads_none start c.epoch_of-now.result c.args.held.now.slot c.args.listed.now s _ _ _ c.epoch_of-now.ensures.epoch h.slot
    (epoch_stop g.K.DeskCalls.leads g.met.K.DeskCalls.leads_none start c.epoch_of-now.result c.epochs.epoch c.args.listed.now s _ _ _ _ (missing_from c.epochs.epoch c.epoch_of-now.result c.args.listed.now) (missing_from (c.epochs.epoch + 1) c.epoch_of-now.result c.args.listed.now) c.in-Err.stop
    (missing_here c.args.listed.now c.epochs.epoch c.epoch_of-now.result c.epochs-test.true (c.epochs.invariant.missed c.epochs-test.true)) (c.epochs.invariant.comes start lanes s h) (c.in-Err.ensures.runs start lanes s h))

pub epochs-preserved : goal.epochs-preserved
epochs-preserved g c = record {
  ready = c.in-Ok.ensures.ready;
  is_now = c.epoch_of-now.ensures.epoch;
  within = c.next_missed-next.ensures.within;
  missed = c.next_missed-next.ensures.missed;
  comes = λ start lanes s h. epochs_next g.K.DeskCalls.leads g.met.K.DeskCalls.leads_none start c.epoch_of-now.result c.epochs.epoch c.next_missed-next.result c.args.listed.now s _ _ _ _ c.epochs-test.true (c.epochs.invariant.missed c.epochs-test.true) c.next_missed-next.ensures.begun c.next_missed-next.ensures.within c.next_missed-next.ensures.none_before
      (c.epochs.invariant.comes start lanes s h) (c.in-Ok.ensures.runs start lanes s h);
}

pub returns-clause-runs : goal.returns-clause-runs
returns-clause-runs g c = λ start lanes s h. epochs_at g.K.DeskCalls.leads g.met.K.DeskCalls.leads_none start c.epoch_of-now.result c.args.held.now.slot c.args.listed.now s _ _ _ c.epoch_of-now.ensures.epoch h.slot
    (epoch_done g.K.DeskCalls.leads g.met.K.DeskCalls.leads_none start c.epoch_of-now.result c.args.listed.now s _ _ _ (missing_from c.epochs.epoch c.epoch_of-now.result c.args.listed.now) (missing_none c.args.listed.now c.epochs.epoch c.epoch_of-now.result c.epochs-test.false) (c.epochs.invariant.comes start lanes s h))
