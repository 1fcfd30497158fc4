use Rattle.std.proofs.Common.{rules, OnOk, []}
use Rattle.std.proofs.lemmas.Result.{MatchResult-weaker}
use Rattle.protect_record.specs.Floors.{book_floors}
use Rattle.protect_record.specs.Gathering.{Gathers}
use Rattle.protect_record.specs.Exporting.{prune_book}
use Rattle.protect_record.proofs.GainLemmas.{merged_stands}
use Rattle.protect_record.proofs.PruneLemmas.{pruned}
use Rattle.protect_record.proofs.record.Record.prune.Goals as goal

pub returns-in-Some-clause-merged : goal.returns-in-Some-clause-merged
returns-in-Some-clause-merged c =
    let gathered : OnOk c.gather.result (Gathers c.args.self.now c.gather.new.self (book_floors (prune_book c.args.self.now)) [] (prune_book c.args.self.now).votes) = search rules in
    MatchResult-weaker c.gather.result gathered (λ x is. pruned _ _ is) (λ y h. h)

pub returns-in-Some-clause-stands : goal.returns-in-Some-clause-stands
returns-in-Some-clause-stands c =
    MatchResult-weaker c.gather.result (returns-in-Some-clause-merged c) (λ x is past stands. merged_stands _ _ past _ is stands) (λ y h. h)

pub returns-in-None-clause-merged : goal.returns-in-None-clause-merged
returns-in-None-clause-merged c =
    let gathered : OnOk c.gather-in-None.result (Gathers c.args.self.now c.gather-in-None.new.self (book_floors (prune_book c.args.self.now)) [] (prune_book c.args.self.now).votes) = search rules in
    MatchResult-weaker c.gather-in-None.result gathered (λ x is. pruned _ _ is) (λ y h. h)

pub returns-in-None-clause-stands : goal.returns-in-None-clause-stands
returns-in-None-clause-stands c =
    MatchResult-weaker c.gather-in-None.result (returns-in-None-clause-merged c) (λ x is past stands. merged_stands _ _ past _ is stands) (λ y h. h)
