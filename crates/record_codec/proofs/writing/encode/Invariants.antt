use Rattle.std.proofs.Common.{◌≡◌, take}
use Rattle.record_codec.specs.Spelling.{spelling}
use Rattle.record_codec.proofs.Batches.{AllFit}
use Rattle.record_codec.proofs.writing.encode.Given as goal

abbrev pub invariant-loop-item : goal.invariant-loop-item
invariant-loop-item l = record {
  spelled : l.out.items ≡ spelling (take l.item-index l.items);
  fits : AllFit (take l.item-index l.items);
}
