use Rattle.std.proofs.Common.{◌≡◌, ◌++◌, false, codes, map, string_bytes}
use Rattle.std.specs.List.{AllByRecursion}
use Rattle.serde_json.specs.View.{items_of}
use Rattle.serde_json.specs.Written.{items_text}
use Rattle.interchange_io.specs.Ranges.{VoteFits}
use Rattle.interchange_io.specs.Writing.{vote_data}
use Rattle.interchange_io.proofs.writing.push_votes.Given as goal

abbrev pub invariant-each : goal.invariant-each
invariant-each l = record {
  text : string_bytes l.out ++ items_text l.later (items_of (map vote_data l.vote-iterator)) ≡ string_bytes l.fn.out ++ codes ",\"signed_attestations\":[" ++ items_text false (items_of (map vote_data l.votes.keys));
  fits : AllByRecursion VoteFits l.vote-iterator → AllByRecursion VoteFits l.votes.keys;
}
