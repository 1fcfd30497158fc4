use Rattle.std.proofs.Common.{None, arith}
use Rattle.slash_defs.specs.declared.entry.VoteEntry.{VoteEntry}
use Rattle.protect_record.proofs.PlaceLemmas.{none_then}
use Rattle.protect_record.proofs.walk.first_surrounding.Goals as goal

-- where the least source is below the vote's, an entry surrounds it
pub returns-clause-few : goal.returns-clause-few
returns-clause-few g c =
    let d : VoteEntry = record { target = 0; source = 0; root = None } in
    let bound = c.requires.bounds.each c.args.place 0 (omega arith) in
    none_then c.first_clash.result _ _ (λ none. absurd (none bound.at d bound.within (omega (arith, bound.one_equal d), c.requires.behind bound.at d bound.from bound.within))) c.first_clash.ensures.none
