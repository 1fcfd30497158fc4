use Rattle.std.proofs.Common.{map, string_bytes}
use Rattle.plan_places.proofs.TokenSearch.{IsSearched}
use Rattle.plan_places.proofs.token_file.place_of.Given as goal

abbrev pub invariant-words : goal.invariant-words
invariant-words l = IsSearched (map string_bytes l.words) l.index
