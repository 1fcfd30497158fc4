use Rattle.std.proofs.Common.{◌≡◌, ◌<◌, ◌∷◌, [], List, Vec, Global, length, map, ap, ◌∙◌, rules, tests}
use Rattle.std.proofs.lemmas.List.{map-append}
use Rattle.record_codec.specs.declared.item.JournalItem.{JournalItem}
use Rattle.key_snapshot.proofs.TakeLemmas.{begins, ends, goes_on}
use Rattle.key_snapshot.proofs.entries.push_entries.Goals as goal

abbrev contents : Vec JournalItem Global → List JournalItem
contents v = v.items

pub batches-init : goal.batches-init
batches-init c = begins (map contents c.args.batches.now.items) c.args.key c.args.kept.now _ _ c.blocks-blocks.ensures c.votes-votes.ensures

pub returns-then-is_empty : goal.returns-then-is_empty
returns-then-is_empty c =
    let none : length c.in_ok-batch.batch.items ≡ 0 = search (rules, tests) in
    ends _ (map contents c.batches.batches.items) _ _ _ c.batches.invariant c.in_ok-batch.ensures none

pub batches-preserved : goal.batches-preserved
batches-preserved c =
    let some : 0 < length c.in_ok-batch.batch.items = search (rules, tests) in
    let pushed = ap (λ (l : List (Vec JournalItem Global)). map contents l) c.in_ok-push.ensures.items ∙ map-append contents c.batches.batches.items (c.in_ok-batch.batch ∷ []) in
    goes_on _ (map contents c.batches.batches.items) (map contents c.push.new.self.items) _ _ _ c.batches.invariant c.in_ok-batch.ensures some pushed
