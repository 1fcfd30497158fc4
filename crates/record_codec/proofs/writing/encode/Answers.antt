use Rattle.std.proofs.Common.{◌≡◌, take, ap, ◌∙◌, subst, List}
use Rattle.std.proofs.lemmas.List.{take_all}
use Rattle.record_codec.specs.declared.item.JournalItem.{JournalItem}
use Rattle.record_codec.specs.Spelling.{spelling}
use Rattle.record_codec.specs.Reading.{batch_of}
use Rattle.record_codec.proofs.Batches.{AllFit, batch_again}
use Rattle.record_codec.proofs.writing.encode.Goals as goal

pub returns-clause-read_back : goal.returns-clause-read_back
returns-clause-read_back c = λ version of.
    let all : take c.loop-item.item-index c.args.items.now ≡ c.args.items.now = take_all c.loop-item.item-index c.args.items.now c.loop-item-test.false in
    ap (batch_of version) (c.loop-item.invariant.spelled ∙ ap spelling all)
    ∙ batch_again version c.args.items.now c.requires.batch of (subst (λ (l : List JournalItem). AllFit l) all c.loop-item.invariant.fits)
