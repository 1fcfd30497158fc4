use Rattle.std.proofs.Common.{map, ◌∙◌}
use Rattle.std.proofs.lemmas.List.{length-map}
use Rattle.std.proofs.lemmas.Iterator.Consumers.{count_from_yields_List, YieldsList-from_first}
use Rattle.slash_defs.specs.declared.entry.Entry.{Entry}
use Rattle.slash_defs.specs.declared.entry.Entry.TheVariants as entry
use Rattle.protect_record.specs.Iterating.{entries_left}
use Rattle.record_join.proofs.FileLemmas.{both_same}
use Rattle.record_join.proofs.join.size_of.Goals as goal

pub returns : goal.returns
returns c =
    both_same _ _ _ _ (count_from_yields_List c.blocks-blocks.result c.count.result c.count.ensures.ran (YieldsList-from_first (λ (x : Entry). x) entries_left (map entry.Block c.args.other.now.blocks) c.blocks-blocks.ensures) ∙ length-map c.args.other.now.blocks entry.Block)
    (count_from_yields_List c.votes-votes.result c.count-2.result c.count-2.ensures.ran (YieldsList-from_first (λ (x : Entry). x) entries_left (map entry.Vote c.args.other.now.votes) c.votes-votes.ensures) ∙ length-map c.args.other.now.votes entry.Vote)
