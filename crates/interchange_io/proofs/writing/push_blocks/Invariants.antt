use Rattle.std.proofs.Common.{◌≡◌, ◌++◌, false, codes, map, string_bytes}
use Rattle.std.specs.List.{AllByRecursion}
use Rattle.serde_json.specs.View.{items_of}
use Rattle.serde_json.specs.Written.{items_text}
use Rattle.interchange_io.specs.Ranges.{BlockFits}
use Rattle.interchange_io.specs.Writing.{block_data}
use Rattle.interchange_io.proofs.writing.push_blocks.Given as goal

abbrev pub invariant-each : goal.invariant-each
invariant-each l = record {
  text : string_bytes l.out ++ items_text l.later (items_of (map block_data l.block-iterator)) ≡ string_bytes l.fn.out ++ codes ",\"signed_blocks\":[" ++ items_text false (items_of (map block_data l.blocks.keys));
  fits : AllByRecursion BlockFits l.block-iterator → AllByRecursion BlockFits l.blocks.keys;
}
