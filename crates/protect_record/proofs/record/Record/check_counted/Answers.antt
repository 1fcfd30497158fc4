use Rattle.std.proofs.Common.{rules}
use Rattle.protect_record.specs.Verdicts.{IsVerdict}
use Rattle.protect_record.proofs.StandLemmas.{check_law}
use Rattle.protect_record.proofs.record.Record.check_counted.Goals as goal

pub returns-in-Block-clause-passes : goal.returns-in-Block-clause-passes
returns-in-Block-clause-passes g c past stands =
    let is : IsVerdict c.args.self.now c.args.message.now c.block_verdict.result = search rules in
    check_law _ past _ _ is stands

pub returns-in-Vote-clause-passes : goal.returns-in-Vote-clause-passes
returns-in-Vote-clause-passes g c past stands =
    let is : IsVerdict c.args.self.now c.args.message.now c.vote_verdict.result = search rules in
    check_law _ past _ _ is stands
