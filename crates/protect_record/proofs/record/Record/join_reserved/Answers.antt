use Rattle.std.proofs.Common.{rules}
use Rattle.protect_record.specs.Gathering.{IsJoin}
use Rattle.protect_record.proofs.GainLemmas.{joined_stands}
use Rattle.protect_record.proofs.record.Record.join_reserved.Goals as goal

pub returns-clause-stands : goal.returns-clause-stands
returns-clause-stands c p q first second =
    let joined : IsJoin c.args.self.now c.args.other.now c.gather_reserved.new.self = search rules in
    joined_stands _ _ _ p q joined first second
