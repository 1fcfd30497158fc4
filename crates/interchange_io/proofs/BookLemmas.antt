-- One more book among books in order.
use Rattle.std.proofs.Common.{◌≡◌, List, Some, unwrap_or, sym, ap, ◌∙◌}
use Rattle.std.proofs.lemmas.Cmp.{nat_list_cmp_total, on_total}
use Rattle.std.specs.Cmp.{IsTotalOrder}
use Rattle.std.specs.List.Sorted.{IsStrictlySortedBy}
use Rattle.std.specs.Map.{keys_of, lookup, set_value}
use Rattle.std.specs.BTreeMap.{insert_entry, is_at}
use Rattle.edge_kit.specs.declared.bytes.PubKey.{PubKey}
use Rattle.slash_defs.specs.declared.book.Book.{Book}
use Rattle.interchange_io.specs.United.{key_cmp}
use Rattle.interchange_io.specs.WrittenOrder.{empty_book, merged, with_sorted}
use Rattle.interchange_io.proofs.OrderLemmas.{set_value-insert_entry}

pub keys_total : IsTotalOrder key_cmp
keys_total = on_total (λ (k : PubKey). k.0) nat_list_cmp_total

-- the book of a key that is there takes the entries of another
pub merged_there : (books : List (PubKey × Book)) (key : PubKey) (kept after book : Book) → IsStrictlySortedBy key_cmp (keys_of books) → lookup (is_at (key_cmp key)) books ≡ Some kept → after ≡ merged kept book
    → set_value (is_at (key_cmp key)) books after ≡ with_sorted books (key, book)
merged_there books key kept after book sorted found is =
    set_value-insert_entry key_cmp keys_total key books kept after sorted found
    ∙ ap (λ b. insert_entry key_cmp books key b) (is ∙ ap (λ o. merged (unwrap_or o empty_book) book) (sym found))
