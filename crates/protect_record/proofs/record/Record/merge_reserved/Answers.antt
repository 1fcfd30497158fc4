use Rattle.std.proofs.Common.{rules}
use Rattle.protect_record.specs.Gathering.{IsMerge}
use Rattle.protect_record.proofs.GainLemmas.{merged_stands}
use Rattle.protect_record.proofs.record.Record.merge_reserved.Goals as goal

pub returns-clause-stands : goal.returns-clause-stands
returns-clause-stands c past stands =
    let merged : IsMerge c.args.self.now c.args.book.now c.gather_reserved.new.self = search rules in
    merged_stands _ _ past _ merged stands
