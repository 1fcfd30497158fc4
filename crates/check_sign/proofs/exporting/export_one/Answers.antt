use Rattle.std.proofs.Common.{rules, sym, ◌∙◌}
use Rattle.record_join.specs.KeyLaws.{apart_back}
use Rattle.check_sign.proofs.ExportLemmas.{found_before, not_kept, put_in}
use Rattle.check_sign.proofs.exporting.export_one.Goals as goal

pub returns-then-contains_key-clause-found : goal.returns-then-contains_key-clause-found
returns-then-contains_key-clause-found c = λ asked h. found_before c.args.books.now asked c.args.found.now.entries c.args.key.now (sym c.contains_key.ensures ∙ c.if-contains_key.true) h

pub returns-in_default-clause-found : goal.returns-in_default-clause-found
returns-in_default-clause-found c = λ asked h. not_kept c.args.books.now asked c.args.found.now.entries c.args.key.now (search rules) h

pub returns-in-Ok-clause-found : goal.returns-in-Ok-clause-found
returns-in-Ok-clause-found c = λ asked h. put_in c.args.books.now asked c.args.found.now.entries c.insert.new.self.entries c.args.key.now c.in-Some.record.now c.in_ok-book.book (search rules) c.in_ok-book.ensures.value c.in-Ok.ensures.updates.1 c.in-Ok.ensures.updates.2 (λ q e. apart_back q c.args.key.now e) h
