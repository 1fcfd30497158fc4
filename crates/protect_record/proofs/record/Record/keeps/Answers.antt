use Rattle.slash_defs.specs.FileOrder.{block_cmp, vote_cmp, blocks_total, votes_total, exact_blocks, exact_votes}
use Rattle.protect_record.proofs.PlaceLemmas.{search_tells}
use Rattle.protect_record.proofs.record.Record.keeps.Goals as goal

pub returns-in-Block : goal.returns-in-Block
returns-in-Block c =
    rw (c.in-Block.is, ← c.self.view_is)
    (search_tells block_cmp blocks_total exact_blocks c.self.inside.blocks.items _ _ c.self.invariant.0.blocks_in_order c.as_slice.ensures.value c.binary_search.result c.binary_search.ensures.bound c.binary_search.ensures.position c.is_ok.result c.is_ok.ensures.value)

pub returns-in-Vote : goal.returns-in-Vote
returns-in-Vote c =
    rw (c.in-Vote.is, ← c.self.view_is)
    (search_tells vote_cmp votes_total exact_votes c.self.inside.votes.items _ _ c.self.invariant.0.votes_in_order c.as_slice-in-Vote.ensures.value c.binary_search-in-Vote.result c.binary_search-in-Vote.ensures.bound c.binary_search-in-Vote.ensures.position c.is_ok-in-Vote.result c.is_ok-in-Vote.ensures.value)
