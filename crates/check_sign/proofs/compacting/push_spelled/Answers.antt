use Rattle.std.proofs.Common.{◌≤◌, ◌++◌, ◌∷◌, [], ◌∙◌, List, Vec, Global, length, map, ap, sym, subst, take, ℕ, Ok, ◌+◌}
use Rattle.std.proofs.lemmas.List.{map-append}
use Rattle.std.specs.List.{AllByRecursion}
use Rattle.record_codec.specs.Spelling.{IsBatch, IsOf, MomentFits, spelling}
use Rattle.record_codec.specs.declared.version.JournalVersion.TheVariants.{One}
use Rattle.record_codec.specs.declared.item.JournalItem.{JournalItem}
use Rattle.check_sign.specs.DeskBatches.{AreSpelled}
use Rattle.check_sign.proofs.ReadLemmas.{moments_old}
use Rattle.check_sign.proofs.CompactLemmas.{all_at, few_bytes, spelled_more, taken_more}
use Rattle.check_sign.proofs.compacting.push_spelled.Goals as goal

abbrev items_of : Vec JournalItem Global → List JournalItem
items_of v = v.items

abbrev bytes_of : Vec ℕ Global → List ℕ
bytes_of v = v.items

pub encode-requires-clause-batch : goal.encode-requires-clause-batch
encode-requires-clause-batch c =
    let all = all_at items_of IsBatch c.args.batches.now c.batches.batch-index c.batch-item.result c.batches-test.true (sym c.batch-item.is) c.requires.batches in
    subst IsBatch (sym c.deref.ensures.value) all

pub encode-requires-clause-moments : goal.encode-requires-clause-moments
encode-requires-clause-moments c =
    let all = all_at items_of (AllByRecursion (IsOf One)) c.args.batches.now c.batches.batch-index c.batch-item.result c.batches-test.true (sym c.batch-item.is) c.requires.versions in
    subst (AllByRecursion MomentFits) (sym c.deref.ensures.value) (moments_old c.batch-item.result.items all)

pub batches-preserved : goal.batches-preserved
batches-preserved c = λ before are.
    let item = c.batch-item.result in
    let short = all_at items_of (λ b. length b ≤ 4096) c.args.batches.now c.batches.batch-index item c.batches-test.true (sym c.batch-item.is) c.requires.short in
    let now = c.deref.ensures.value in
    let old = all_at items_of (AllByRecursion (IsOf One)) c.args.batches.now c.batches.batch-index item c.batches-test.true (sym c.batch-item.is) c.requires.versions in
    let reads = c.in_ok-payload.ensures.read_back One (subst (AllByRecursion (IsOf One)) (sym now) old) ∙ ap (λ b. Ok b) now in
    let framed = c.journal_law.ensures.payload c.in_ok-payload.payload.items item.items reads (few_bytes item.items short) in
    let more = spelled_more _ _ c.in_ok-payload.payload.items item.items (c.batches.invariant before are) (c.in_ok-payload.ensures.spelled ∙ ap spelling now) reads framed in
    let pushed = ap (λ (l : List (Vec ℕ Global)). map bytes_of l) c.in_ok-push.ensures.items ∙ map-append bytes_of c.batches.payloads.items (c.in_ok-payload.payload ∷ []) in
    let P : List (List ℕ) → Type 0 = λ l. AreSpelled l (before ++ map items_of (take (c.batches.batch-index + 1) c.args.batches.now)) in
    let Q : List (List JournalItem) → Type 0 = λ bs. AreSpelled (map bytes_of c.batches.payloads.items ++ c.in_ok-payload.payload.items ∷ []) bs in
    subst P (sym pushed) (subst Q (taken_more items_of before c.args.batches.now c.batches.batch-index item c.batches-test.true (sym c.batch-item.is)) more)
