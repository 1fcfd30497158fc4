use Rattle.protect_record.specs.Standing.{Stands}
use Rattle.record_join.specs.EachKeyLaws.{each_found, each_keys, each_none}
use Rattle.record_join.proofs.BooksLemmas.{all_same_stand}
use Rattle.record_join.proofs.TakeLemmas.{stands_of}
use Rattle.record_join.proofs.laws.books_stand_law.Goals as goal

pub returns : goal.returns
returns c = record {
  keys = λ kept pasts stand. each_keys Stands kept pasts stand;
  each = stands_of;
  found = λ kept pasts key parts stand is. each_found Stands kept pasts key parts stand is;
  absent = λ kept pasts key stand is. each_none Stands kept pasts key stand is;
  same = all_same_stand;
}
