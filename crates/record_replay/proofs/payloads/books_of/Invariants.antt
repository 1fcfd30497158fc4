use Rattle.record_join.specs.Keys.{EachKey}
use Rattle.record_replay.specs.Gathering.{IsRecordOf}
use Rattle.record_replay.proofs.payloads.books_of.Given as goal

abbrev pub invariant-keys : goal.invariant-keys
invariant-keys l = EachKey IsRecordOf l.yielded l.books
