use Rattle.std.proofs.Common.{◌-◌, ◌*◌, ◌^◌, ◌≤◌, max, length, arith}
use Rattle.sorted_search.proofs.StepLemmas.{one_more}
use Rattle.sorted_search.proofs.looking.range_of.Goals as goal

pub returns-clause-few : goal.returns-clause-few
returns-clause-few g c empty =
    let within = c.end_of.ensures.few (omega arith) in
    let more : 2 ^ (c.end_of.new.steps - c.args.steps.now) ≤ max 1 (2 * (2 * length c.args.list.now)) =
    one_more (c.place_of-start.new.steps - c.args.steps.now) (c.end_of.new.steps - c.args.steps.now) (2 * length c.args.list.now) c.place_of-start.ensures.few (omega (arith, within))
    (λ none. let same = c.end_of.ensures.none (omega arith) in omega (arith, same)) in
    omega arith
