use Rattle.rehearsal.proofs.GoLemmas.{book_none, book_some, gives_up}
use Rattle.rehearsal.proofs.client.Client.give_up.Goals as goal

pub returns-in_default : goal.returns-in_default
returns-in_default c =
    gives_up c.args.key c.args.self.now.desk.contents c.begin_close.new.self.contents c.finish_close.new.self.contents c.begin_close.result c.finish_close.result _ c.in_ok-read.ensures.given c.in_ok-book.ensures.given
    c.begin_close.ensures.machine c.begin_close.ensures.counted.genesis c.finish_close.ensures.machine c.finish_close.ensures.counted.genesis (book_none c.finish_close.result c.in_ok-book.field-0 c.in_ok-book.ensures.told c.in_default.not-Closed)

pub returns : goal.returns
returns c =
    gives_up c.args.key c.args.self.now.desk.contents c.begin_close.new.self.contents c.finish_close.new.self.contents c.begin_close.result c.finish_close.result _ c.in_ok-read.ensures.given c.in_ok-book.ensures.given
    c.begin_close.ensures.machine c.begin_close.ensures.counted.genesis c.finish_close.ensures.machine c.finish_close.ensures.counted.genesis (book_some c.finish_close.result c.in_ok-book.field-0 c.in-Closed.book c.in_ok-book.ensures.told c.in-Closed.is)
