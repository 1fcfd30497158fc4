use Rattle.std.proofs.Common.{map, ◌∙◌}
use Rattle.std.proofs.lemmas.List.{length-map}
use Rattle.std.proofs.lemmas.Iterator.Consumers.{count_from_yields_List, YieldsList-from_first}
use Rattle.slash_defs.specs.declared.entry.Entry.{Entry}
use Rattle.slash_defs.specs.declared.entry.Entry.TheVariants as entry
use Rattle.protect_record.specs.Iterating.{entries_left}
use Rattle.journal_commands.proofs.showing.count_votes.Goals as goal

pub returns : goal.returns
returns c =
    count_from_yields_List c.votes-votes.result c.count.result c.count.ensures.ran (YieldsList-from_first (λ (x : Entry). x) entries_left (map entry.Vote c.args.kept.now.votes) c.votes-votes.ensures) ∙ length-map c.args.kept.now.votes entry.Vote
