use Rattle.std.proofs.Common.{◌≡◌, ◌+◌, ◌%◌, length, refl, sym, ◌∙◌, ap, arith}
use Rattle.std.proofs.lemmas.Nat.{mod_below}
use Rattle.std.proofs.lemmas.Option.{slice_get_read}
use Rattle.duty_workers.proofs.GatherLemmas.{begin_all, begin_more, begin_none, count_more}
use Rattle.duty_workers.proofs.TurnLemmas.{lane_turns}
use Rattle.duty_workers.proofs.shares.gathered.Goals as goal

pub tasks-init : goal.tasks-init
tasks-init g c =
    let first : c.args.place ≡ c.args.place + 0 = omega arith in
    record {
      turn = ap (λ n. n % length c.args.lanes.now) first;
      below = mod_below c.args.place (length c.args.lanes.now) c.requires.some;
      count = ap length c.in_ok-ends.ensures.items;
      begin = begin_none c.args.place c.args.lanes.now c.in_ok-ends.ends.items (sym c.have_ends.ensures ∙ c.if-not-have_ends.false) c.in_ok-ends.ensures.items;
    }

pub tasks-preserved : goal.tasks-preserved
tasks-preserved g c =
    let here = slice_get_read c.args.lanes.now (length c.args.lanes.now) c.tasks.at c.index-lanes-at.result refl c.tasks.invariant.below c.index-lanes-at.is in
    record {
      turn = lane_turns (length c.args.lanes.now) c.args.place c.tasks.i c.tasks.at c.tasks.invariant.turn;
      below = mod_below (c.tasks.at + 1) (length c.args.lanes.now) c.requires.some;
      count = count_more c.tasks.ends.items c.push.new.self.items c.in_ok-end_at.field-0 c.tasks.i c.in_ok-push.ensures.items c.tasks.invariant.count;
      begin = begin_more c.args.place c.args.lanes.now c.tasks.ends.items c.push.new.self.items c.tasks.at c.tasks.i c.index-lanes-at.result c.in_ok-end_at.field-0 c.requires.some
          c.tasks.invariant.turn c.tasks.invariant.count here c.in_ok-end_at.ensures c.in_ok-push.ensures.items c.tasks.invariant.begin;
    }

pub returns : goal.returns
returns g c = begin_all c.args.place c.args.tasks.now c.args.lanes.now c.tasks.ends.items c.requires.shares (omega arith) c.tasks.invariant.begin
