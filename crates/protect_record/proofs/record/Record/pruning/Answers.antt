use Rattle.std.proofs.Common.{rules, ◌≡◌, Some, sym, ◌∙◌}
use Rattle.protect_record.specs.Floors.{greatest_by}
use Rattle.protect_record.specs.Exporting.{greatest_epochs}
use Rattle.protect_record.proofs.BoundLemmas.{same_floors}
use Rattle.protect_record.proofs.PruneLemmas.{prune_sets}
use Rattle.protect_record.proofs.record.Record.pruning.Goals as goal

pub returns-clause-floors : goal.returns-clause-floors
returns-clause-floors c =
    let block : c.greatest_slot-block.result ≡ greatest_by (λ e. Some e.slot) c.args.self.now.blocks = search rules in
    let vote : c.greatest_of-vote.result ≡ greatest_epochs c.args.self.now.floors.vote c.args.self.now.votes = search rules in
    same_floors _ _ block vote ∙ sym (prune_sets c.args.self.now)
