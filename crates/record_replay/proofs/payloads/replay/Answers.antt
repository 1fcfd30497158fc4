use Rattle.std.proofs.Common.{◌≡◌, ◌≤◌, length, sym, ◌∙◌, subst, List, arith}
use Rattle.std.specs.List.{IsDistinct}
use Rattle.std.specs.Ordering.{eq_by_cmp}
use Rattle.std.proofs.lemmas.Map.Keys.{IsDistinct-from_sorted}
use Rattle.edge_kit.specs.declared.bytes.PubKey.{PubKey}
use Rattle.record_join.specs.Keys.{key_cmp}
use Rattle.record_join.specs.EachKeyLaws.{each_keys, each_length}
use Rattle.record_replay.specs.Watches.{AreWatchesOf, Watched}
use Rattle.record_replay.specs.Gathering.{IsRecordOf}
use Rattle.record_replay.proofs.BooksLemmas.{replayed, books_stand}
use Rattle.record_replay.proofs.payloads.replay.Goals as goal

pub returns-clause-keys : goal.returns-clause-keys
returns-clause-keys c = sym (each_keys IsRecordOf _ _ c.in-Ok-books_of.ensures) ∙ c.in-Ok.ensures.named

pub returns-clause-each : goal.returns-clause-each
returns-clause-each c = replayed _ c.in-Ok.histories.keys.entries c.in-Ok-books_of.books c.in-Ok.ensures.each c.in-Ok-books_of.ensures

pub returns-clause-limit : goal.returns-clause-limit
returns-clause-limit c =
    let same : length c.in-Ok.histories.keys.entries ≡ length c.in-Ok-books_of.books = each_length IsRecordOf _ _ c.in-Ok-books_of.ensures in
    let few : c.len-new.result ≤ 65536 = c.if-new-gt-KEY_LIMIT.false in
    omega (arith, same, few, c.len-new.ensures.len)

pub returns-clause-stands : goal.returns-clause-stands
returns-clause-stands c = λ pasts states watched stand.
    let D : List PubKey → Type 0 = λ ks. IsDistinct (eq_by_cmp key_cmp) ks in
    let W : List (PubKey × Watched) → Type 0 = λ l. AreWatchesOf c.in-Ok.histories.watches.entries l in
    let distinct = subst D c.in-Ok.ensures.named (IsDistinct-from_sorted key_cmp _ c.len-new.ensures.ordered) in
    (books_stand _ c.in-Ok-books_of.books pasts distinct (returns-clause-keys c) (returns-clause-each c) stand.named stand.each, c.in-Ok.ensures.stated ∙ stand.states, subst W stand.watches c.in-Ok.ensures.watched)
