use Rattle.std.proofs.Common.{◌∙◌}
use Rattle.rehearsal.proofs.GoLemmas.{on_ok, pushed, takes_in, takes_none}
use Rattle.rehearsal.proofs.client.Client.take_in.Goals as goal

pub returns-in_default-2 : goal.returns-in_default-2
returns-in_default-2 c =
    let books = c.from_vec.ensures ∙ pushed c.push.result c.in-Ok.field-0 _ _ (c.args.key, c.args.book) c.in-Ok.is c.push.ensures.items c.new-books.ensures.items in
    takes_none c.args.key c.args.book c.args.now c.genesis.result c.from_vec.result c.args.self.now.desk.contents c.merge.new.self.contents c.merge.result c.in_ok-read.field-0 c.genesis.ensures books c.in_ok-read.ensures.given c.in_ok-read.ensures.told c.in_default-2.not-Merged c.merge.ensures.machine c.merge.ensures.counted.genesis

pub returns : goal.returns
returns c =
    let books = c.from_vec.ensures ∙ pushed c.push.result c.in-Ok.field-0 _ _ (c.args.key, c.args.book) c.in-Ok.is c.push.ensures.items c.new-books.ensures.items in
    on_ok _ _ c.activate.result
    (λ asks. takes_in c.args.key c.args.book c.args.now c.genesis.result c.from_vec.result c.args.self.now.desk.contents c.merge.new.self.contents _ c.merge.result c.in_ok-read.field-0 c.genesis.ensures books c.in_ok-read.ensures.given c.in_ok-read.ensures.told c.in-Merged.is c.merge.ensures.machine c.merge.ensures.counted.genesis asks)
    c.activate.ensures
