use Rattle.std.proofs.Common.{◌≡◌, ◌∙◌, ap, rules}
use Rattle.std.proofs.lemmas.List.{take_all}
use Rattle.std.specs.Map.{keys_of}
use Rattle.check_sign.proofs.ReadLemmas.{standings_of}
use Rattle.check_sign.proofs.exporting.standings_of.Goals as goal

pub returns-clause-standings : goal.returns-clause-standings
returns-clause-standings c = λ w stands.
    let list : c.from_vec.result ≡ c.keys.listed.items = search rules in
    let keys : c.as_slice-key-items.result.now ≡ keys_of c.args.books.now = search rules in
    list ∙ c.keys.invariant.1 w stands ∙ ap (λ l. standings_of c.args.states.now.entries w l) (take_all c.keys.key-index c.as_slice-key-items.result.now c.keys-test.false ∙ keys)
