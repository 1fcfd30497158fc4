use Rattle.record_join.specs.KeyLaws.{apart_back, at_itself, key_exact, key_total, same_key}
use Rattle.record_join.proofs.laws.key_laws.Goals as goal

pub returns : goal.returns
returns c = record { itself = at_itself; found = same_key; apart = apart_back; exact = key_exact; total = key_total }
