use Rattle.std.proofs.Common.{◌≡◌, ◌<◌, ◌∷◌, Some, ap, ◌∙◌, arith}
use Rattle.json.specs.Token.{Token}
use Rattle.serde_json.specs.Data.{array}
use Rattle.json_walk.specs.Walk.{value_at}
use Rattle.interchange_io.specs.Found.{books_at}
use Rattle.json_walk.proofs.WalkLemmas.{opened_array}
use Rattle.interchange_io.proofs.HaltLemmas.{Halts-inside}
use Rattle.interchange_io.proofs.books.read_data.Goals as goal

pub returns-in-Inside-clause-value : goal.returns-in-Inside-clause-value
returns-in-Inside-clause-value c =
    let inside : (0 < c.args.depth) × (c.args.reader.now ≡ Token.begin_array ∷ c.enter_array.new.reader) = grind arith in
    let opened = ap (value_at c.args.depth) inside.1 ∙ opened_array c.args.depth _ inside.0 in
    Halts-inside c.read_books.result array (λ d. books_at (Some d)) _ _ _ opened c.read_books.ensures.value
