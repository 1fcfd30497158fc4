use Rattle.std.proofs.Common.{arith, ◌++◌, ◌∙◌, List, length, map, ap, sym, subst, take, ℕ, Vec, Global}
use Rattle.std.specs.List.{AllByRecursion}
use Rattle.std.specs.Map.Iter.{deref_pair}
use Rattle.std.proofs.lemmas.List.{length-append, take_all}
use Rattle.std.proofs.lemmas.Map.Iter.{iter_turn, iter_end}
use Rattle.edge_kit.specs.declared.bytes.PubKey.{PubKey}
use Rattle.protect_record.specs.Parts.{Parts}
use Rattle.record_codec.specs.Spelling.{IsOf}
use Rattle.record_codec.specs.declared.version.JournalVersion.TheVariants.{One}
use Rattle.record_codec.specs.declared.item.JournalItem.{JournalItem}
use Rattle.record_join.proofs.FileLemmas.{read_at}
use Rattle.key_snapshot.specs.Snapshots.{entry_items, snapshot_of}
use Rattle.check_sign.specs.DeskBatches.{AreSpelled, desk_batches}
use Rattle.check_sign.proofs.CompactLemmas.{Short, batches_more, snapshot_short}
use Rattle.check_sign.proofs.compacting.snapshot_payloads.Goals as goal

abbrev batch_of_vec : Vec JournalItem Global → List JournalItem
batch_of_vec v = v.items

abbrev bytes_of_vec : Vec ℕ Global → List ℕ
bytes_of_vec v = v.items

pub push_spelled-requires-clause-short : goal.push_spelled-requires-clause-short
push_spelled-requires-clause-short c =
    let short = snapshot_short c.in-Some.key.now c.state_of.result c.in-Some.record.now (c.batches_law.ensures.filled 4096 (entry_items c.in-Some.key.now c.in-Some.record.now) (omega arith)) in
    let same = ap (λ (l : List (Vec JournalItem Global)). map batch_of_vec l) c.deref.ensures.value ∙ c.in_ok-batches.ensures in
    subst (λ (l : List (List JournalItem)). AllByRecursion Short l) (sym same) short

pub push_spelled-requires-clause-versions : goal.push_spelled-requires-clause-versions
push_spelled-requires-clause-versions c =
    let old = c.batches_law.ensures.versions c.in-Some.key.now c.state_of.result c.in-Some.record.now in
    let same = ap (λ (l : List (Vec JournalItem Global)). map batch_of_vec l) c.deref.ensures.value ∙ c.in_ok-batches.ensures in
    subst (λ (l : List (List JournalItem)). AllByRecursion (AllByRecursion (IsOf One)) l) (sym same) old

pub keys-preserved : goal.keys-preserved
keys-preserved c =
    let start = c.into_iter-key-iterator.ensures.into_iter_gives ∙ c.iter-key-items.ensures.entries in
    let turn = iter_turn deref_pair c.args.books.now c.keys.yielded _ _ _ _ start c.keys.yielded_by (c.in-Some.key, c.in-Some.record) c.in-Some.is c.next.ensures.steps in
    let x : PubKey × Parts = (c.in-Some.key.now, c.in-Some.record.now) in
    let at = read_at c.args.books.now (length c.keys.yielded) x turn.1 in
    let states = c.args.states.now.entries in
    let made = ap (λ (l : List (Vec JournalItem Global)). map batch_of_vec l) c.deref.ensures.value ∙ c.in_ok-batches.ensures ∙ ap (λ s. snapshot_of x.0 s x.1) c.state_of.ensures.value in
    let before = desk_batches states (take (length c.keys.yielded) c.args.books.now) in
    let are = c.in_ok-push_spelled.ensures before c.keys.invariant in
    rw (length-append c.keys.yielded) (subst (λ (bs : List (List JournalItem)). AreSpelled (map bytes_of_vec c.push_spelled.new.payloads.items) bs) (ap (λ l. before ++ l) made ∙ batches_more states c.args.books.now (length c.keys.yielded) x at.0 (sym at.1)) are)

pub returns : goal.returns
returns c =
    let start = c.into_iter-key-iterator.ensures.into_iter_gives ∙ c.iter-key-items.ensures.entries in
    let end = iter_end deref_pair c.args.books.now c.keys.yielded _ _ _ _ start c.keys.yielded_by c.in-None.is c.next.ensures.steps in
    let all = take_all (length c.keys.yielded) c.args.books.now (omega (arith, end.1)) in
    subst (λ (l : List (PubKey × Parts)). AreSpelled (map bytes_of_vec c.keys.payloads.items) (desk_batches c.args.states.now.entries l)) all c.keys.invariant
