use Rattle.std.proofs.Common.{ap, ◌∙◌, arith, Ok, Err}
use Rattle.record_codec.specs.Reading.{batch_of}
use Rattle.record_codec.proofs.Batches.{found_is, bad_is, read_is, batch_again, first_bad_only}
use Rattle.record_codec.proofs.reading.decode.Goals as goal

pub returns-clause-found : goal.returns-clause-found
returns-clause-found c = found_is c.args.version c.args.payload.now c.all.result (λ i. omega (arith, c.type_inv.payload i)) c.all.ensures

pub returns-clause-only : goal.returns-clause-only
returns-clause-only c = λ items batch of fits is. read_is c.args.version c.args.payload.now (Ok items) c.all.result (ap (batch_of c.args.version) is ∙ batch_again c.args.version items batch of fits) c.all.ensures

pub returns-clause-bad : goal.returns-clause-bad
returns-clause-bad c = bad_is c.args.version c.args.payload.now c.all.result (λ i. omega (arith, c.type_inv.payload i)) c.all.ensures

pub returns-clause-only_bad : goal.returns-clause-only_bad
returns-clause-only_bad c = λ offset bad. read_is c.args.version c.args.payload.now (Err offset) c.all.result (first_bad_only c.args.version c.args.payload.now offset (λ i. omega (arith, c.type_inv.payload i)) bad) c.all.ensures
