use Rattle.std.proofs.Common.{◌≡◌, fold, drop}
use Rattle.std.specs.BTreeSet.{insert_key}
use Rattle.slash_defs.specs.FileOrder.{vote_cmp}
use Rattle.interchange_io.proofs.sorted.add_votes.Given as goal

abbrev pub invariant-each : goal.invariant-each
invariant-each l = fold (insert_key vote_cmp) l.sorted.keys (drop l.vote-index l.votes) ≡ fold (insert_key vote_cmp) l.fn.sorted.keys l.votes
