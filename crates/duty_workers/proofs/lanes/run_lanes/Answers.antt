use Rattle.std.proofs.Common.{◌<◌, ℕ, length}
use Rattle.duty_plans.specs.Plans.{slot_work}
use Rattle.duty_workers.specs.declared.lane.Lane.{Lane}
use Rattle.duty_workers.proofs.WorkLemmas.{all_done, have_shares}
use Rattle.duty_workers.proofs.lanes.run_lanes.Goals as goal

pub gathered-requires-clause-shares : goal.gathered-requires-clause-shares
gathered-requires-clause-shares g c =
    have_shares g.K.DeskCalls.leads g.S.Signer.told g.S.Signer.faults g.S.Signer.denials g.N.Node.told g.N.Node.faults (slot_work c.args.setup.now c.args.domains.now c.args.slot c.args.now) c.args.place c.args.tasks.now
    c.args.lanes.now c.for_each_mut.new.s c.for_each_mut.auto.s
    (λ (i : ℕ) (d : Lane g.row.K.Denot g.row.S.Denot g.row.N.Denot) (within : i < length c.args.lanes.now).
    (let e = (c.for_each_mut.ensures i d within).1 in record { before = e.argument.now; now = e.after_call.now; before_is = e.argument_is; now_is = e.left; does = e.call.1 }))

pub returns-clause-works : goal.returns-clause-works
returns-clause-works g c =
    all_done g.K.DeskCalls.leads g.S.Signer.told g.S.Signer.faults g.S.Signer.denials g.N.Node.told g.N.Node.faults (slot_work c.args.setup.now c.args.domains.now c.args.slot c.args.now) c.args.place c.args.tasks.now
    c.args.lanes.now c.for_each_mut.new.s (λ ends. ends.items) c.gathered.result c.requires.some c.for_each_mut.auto.s
    (λ (i : ℕ) (d : Lane g.row.K.Denot g.row.S.Denot g.row.N.Denot) (within : i < length c.args.lanes.now).
    (let e = (c.for_each_mut.ensures i d within).1 in record { before = e.argument.now; now = e.after_call.now; before_is = e.argument_is; now_is = e.left; does = e.call.1 }))
    c.gathered.ensures
