use Rattle.std.proofs.lemmas.List.{get_or_default}
use Rattle.record_join.proofs.AllLemmas.{added_more, added_none, ready_next}
use Rattle.record_join.proofs.FileLemmas.{distinct_once}
use Rattle.record_join.proofs.message.add_all.Goals as goal

pub messages-init : goal.messages-init
messages-init c = added_none c.args.kept.now.entries

pub add-requires : goal.add-requires
add-requires c =
    ready_next _ _ c.args.listed.now c.messages.one-index _ (distinct_once _ c.requires.once) c.messages-test.true (get_or_default c.args.listed.now c.messages.one-index _ _ c.messages-test.true) c.messages.invariant c.requires.ready

pub messages-preserved : goal.messages-preserved
messages-preserved c =
    added_more _ _ _ c.args.listed.now c.messages.one-index _ (distinct_once _ c.requires.once) c.messages-test.true (get_or_default c.args.listed.now c.messages.one-index _ _ c.messages-test.true) c.messages.invariant
    c.add.ensures.takes c.add.ensures.stands c.add.ensures.len
