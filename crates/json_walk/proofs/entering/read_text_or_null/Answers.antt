use Rattle.std.proofs.Common.{◌≡◌, [], ◌∷◌, length, refl, ap, ◌∙◌, arith}
use Rattle.json.specs.Token.{Token}
use Rattle.json.specs.Json.{value}
use Rattle.json.specs.Reads.{token_of}
use Rattle.json.proofs.Grammar.{value_is}
use Rattle.serde_json.specs.Data.{null, string}
use Rattle.serde_json.specs.Read.{of_json, converted}
use Rattle.json_walk.specs.Walk.{value_at}
use Rattle.json_walk.proofs.KindLemmas.{other_no_text}
use Rattle.json_walk.proofs.entering.read_text_or_null.Goals as goal

pub returns-in_default-clause-value : goal.returns-in_default-clause-value
returns-in_default-clause-value c =
    let empty : c.args.reader.now ≡ [] = grind arith in
    ap (converted of_json) (ap (value c.args.depth) empty ∙ value_is c.args.depth [])

pub returns-in-String-clause-value : goal.returns-in-String-clause-value
returns-in-String-clause-value c =
    let first : c.args.reader.now ≡ token_of c.in-Some.token ∷ c.next.new.self = grind arith in
    let is : c.args.reader.now ≡ Token.string c.in-String.text.now ∷ c.next.new.self = grind (arith, first) in
    (string c.in-String.text.now, ap (converted of_json) (ap (value c.args.depth) is ∙ value_is c.args.depth _), refl)

pub returns-in-Null-clause-value : goal.returns-in-Null-clause-value
returns-in-Null-clause-value c =
    let first : c.args.reader.now ≡ token_of c.in-Some.token ∷ c.next.new.self = grind arith in
    let is : c.args.reader.now ≡ Token.null ∷ c.next.new.self = grind (arith, first) in
    (null, ap (converted of_json) (ap (value c.args.depth) is ∙ value_is c.args.depth _), refl)

pub returns-in_ok-skip_rest-in_default-token : goal.returns-in_ok-skip_rest-in_default-token
returns-in_ok-skip_rest-in_default-token c =
    let first : c.args.reader.now ≡ token_of c.in-Some.token ∷ c.next.new.self = grind arith in
    let read = c.in_ok-skip_rest-in_default-token.ensures.value in
    let less : length c.args.reader.now ≡ length (token_of c.in-Some.token ∷ c.next.new.self) = ap length first in
    record {
      value = (
        read.0,
        ap (value_at c.args.depth) first ∙ read.1,
        other_no_text c.args.depth c.in-Some.token c.next.new.self c.skip_rest.new.reader read.0 read.1 c.in_default-token.not-Null c.in_default-token.not-String,
      );
      shorter = omega (arith, c.in_ok-skip_rest-in_default-token.ensures.shorter, less);
    }
