use Rattle.std.proofs.Common.{sym, subst, List}
use Rattle.edge_kit.specs.declared.bytes.PubKey.{PubKey}
use Rattle.protect_record.specs.Parts.{Parts}
use Rattle.record_join.specs.BooksPasts.{BooksStand}
use Rattle.record_join.proofs.JudgeLemmas.{is_ready, judges, judges_by, judges_past, judges_same}
use Rattle.record_join.proofs.FileLemmas.{within_same}
use Rattle.record_join.proofs.books.Books.judge.Goals as goal

pub returns-clause-judged : goal.returns-clause-judged
returns-clause-judged c = λ pasts stand.
    let P : List (PubKey × Parts) → Type 0 = λ l. BooksStand l pasts in
    judges _ _ pasts _ _ _ (subst P (sym c.self.view_is) stand) c.judge.ensures.judges

pub returns-clause-ready : goal.returns-clause-ready
returns-clause-ready c = λ repeat is. (is_ready c.self.inside.kept.entries c.judge.new.kept.entries c.args.key.now c.args.message.now c.judge.result repeat c.judge.ensures.judges is, c.judge.ensures.room repeat is)

pub invariant_of-self : goal.invariant_of-self
invariant_of-self c = within_same _ _ _ (judges_same _ _ _ _ _ c.judge.ensures.judges) c.self.invariant

pub returns-clause-same : goal.returns-clause-same
returns-clause-same c = rw (← c.self.view_is) (judges_same _ _ _ _ _ c.judge.ensures.judges)

pub returns-clause-by_record : goal.returns-clause-by_record
returns-clause-by_record c = rw (← c.self.view_is) (judges_by c.self.inside.kept.entries c.judge.new.kept.entries c.args.key.now c.args.message.now c.judge.result c.judge.ensures.judges)

pub returns-clause-by_past : goal.returns-clause-by_past
returns-clause-by_past c = rw (← c.self.view_is) (λ past stands. judges_past c.self.inside.kept.entries c.judge.new.kept.entries c.args.key.now c.args.message.now c.judge.result past stands c.judge.ensures.judges)
