use Rattle.record_journal.proofs.head.compare_heads.Goals as goal

pub returns-clause-newer : goal.returns-clause-newer
returns-clause-newer g c = λ a b shown shown_too.
    let one = c.in-Ok.ensures.rank a shown in
    let other = c.in-Ok-read_rank.ensures.rank b (c.in-Ok-len.ensures.shows.forth b shown_too) in
    cc
