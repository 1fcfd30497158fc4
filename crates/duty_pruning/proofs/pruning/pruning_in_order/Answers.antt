use Rattle.std.proofs.Common.{List, subst, sym, ◌∙◌}
use Rattle.edge_kit.specs.declared.bytes.PubKey.{PubKey}
use Rattle.slash_defs.specs.declared.book.Book.{Book}
use Rattle.record_join.specs.BooksPasts.{EachOnce}
use Rattle.duty_pruning.proofs.OnceLemmas.{in_order_once, pruned_once}
use Rattle.duty_pruning.proofs.pruning.pruning_in_order.Goals as goal

pub returns-clause-once : goal.returns-clause-once
returns-clause-once c =
    let E : List (PubKey × Book) → Type 0 = λ books. EachOnce books in
    subst E (sym c.in_ok-kept.ensures) (pruned_once c.args.few c.args.from c.args.books.now (in_order_once c.args.books.now (sym c.are_in_order.ensures ∙ c.if-not-are_in_order.false)))
