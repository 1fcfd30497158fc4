use Rattle.std.proofs.Common.{◌-◌, None, arith}
use Rattle.slash_defs.specs.declared.entry.VoteEntry.{VoteEntry}
use Rattle.protect_record.proofs.PlaceLemmas.{none_then}
use Rattle.protect_record.proofs.walk.first_surrounded.Goals as goal

-- where the greatest source is above the vote's, an entry is surrounded
pub returns-clause-few : goal.returns-clause-few
returns-clause-few g c =
    let d : VoteEntry = record { target = 0; source = 0; root = None } in
    let bound = c.requires.bounds.each (c.args.place - 1) 0 (omega arith) in
    none_then c.first_clash.result _ _ (λ none. absurd (none bound.at d (omega (arith, bound.up_to)) (omega (arith, bound.one_equal d, c.look.ensures.value 0), c.requires.before bound.at d (omega (arith, bound.up_to))))) c.first_clash.ensures.none
