use Rattle.std.proofs.Common.{◌≡◌, ◌∙◌, length, ap, rules}
use Rattle.record_journal.specs.Heads.{rank}
use Rattle.record_journal.proofs.Heads.{head_read}
use Rattle.record_journal.proofs.head.read_rank.Goals as goal

pub returns-clause-rank : goal.returns-clause-rank
returns-clause-rank g c = λ x shown.
    let long : length c.read.new.buf ≡ 55 = search rules in
    c.rank_of.ensures ∙ ap rank (head_read x c.read.new.buf c.in_ok-count.count long (c.in_ok-count.ensures.bytes x shown))
