use Rattle.std.proofs.lemmas.List.Filters.{dedup_is}
use Rattle.protect_record.proofs.UniteLemmas.{united_sorted}
use Rattle.protect_record.proofs.sorted.sort_once.Goals as goal

pub returns : goal.returns
returns g c =
    united_sorted g.T.Ord.cmp g.met.T.Ord.total c.requires g.T.PartialEq.eq g.met.T.Eq.laws g.met.T.Ord.matches_eq _ _ _
    c.sort_unstable.ensures.permutation c.sort_unstable.ensures.sorted (dedup_is _ _ _ c.dedup.ensures.filtered)
