use Rattle.std.proofs.Common.{◌≡◌, ◌<◌, ◌∷◌, ap, ◌∙◌, arith}
use Rattle.json.specs.Token.{Token}
use Rattle.serde_json.specs.Data.{object}
use Rattle.interchange_io.specs.Reading.{book_in}
use Rattle.json_walk.specs.Walk.{value_at}
use Rattle.json_walk.proofs.WalkLemmas.{opened_object}
use Rattle.interchange_io.proofs.HaltLemmas.{Halts-inside}
use Rattle.interchange_io.proofs.books.read_book.Goals as goal

pub returns-in-Inside-clause-value : goal.returns-in-Inside-clause-value
returns-in-Inside-clause-value c =
    let inside : (0 < c.args.depth) × (c.args.reader.now ≡ Token.begin_object ∷ c.enter_object.new.reader) = grind arith in
    let opened = ap (value_at c.args.depth) inside.1 ∙ opened_object c.args.depth _ inside.0 in
    Halts-inside c.read_book_members.result object book_in _ _ _ opened c.read_book_members.ensures.value
