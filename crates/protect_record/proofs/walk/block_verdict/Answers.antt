use Rattle.std.proofs.Common.{◌≡◌, None, arith}
use Rattle.slash_defs.specs.declared.entry.BlockEntry.{BlockEntry}
use Rattle.slash_defs.specs.FileOrder.{block_cmp}
use Rattle.protect_record.proofs.LiveLemmas.{slots_rise}
use Rattle.protect_record.proofs.PlaceLemmas.{keys_rise}
use Rattle.sorted_search.proofs.StepLemmas.{no_range}
use Rattle.protect_record.proofs.walk.block_verdict.Goals as goal

pub range_of-range-requires : goal.range_of-range-requires
range_of-range-requires g c = keys_rise block_cmp (λ e. e.slot) slots_rise c.args.blocks.now c.requires

pub returns-in-None-clause-few : goal.returns-in-None-clause-few
returns-in-None-clause-few g c none =
    let d : BlockEntry = record { slot = 0; root = None } in
    let empty = no_range (λ (e : BlockEntry). e.slot) c.args.slot c.args.blocks.now d c.range_of-range.result.0 c.range_of-range.result.1 c.range_of-range.ensures.within.0 c.range_of-range.ensures.within.1 c.range_of-range.ensures.inside none in
    let few = c.range_of-range.ensures.few empty in
    let same : c.first_conflicting.new.steps ≡ c.range_of-range.new.steps = omega (arith, empty, c.first_conflicting.ensures.few, c.first_conflicting.ensures.counts) in
    rw same (omega (arith, few))
