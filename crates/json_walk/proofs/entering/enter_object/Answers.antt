use Rattle.std.proofs.Common.{◌≡◌, [], ◌∷◌, length, ap, ap₂, ◌∙◌, arith}
use Rattle.json.specs.Token.{Token}
use Rattle.json.specs.Json.{value}
use Rattle.json.specs.Reads.{token_of}
use Rattle.json.proofs.Grammar.{value_is}
use Rattle.serde_json.specs.Read.{of_json, converted}
use Rattle.json_walk.specs.Walk.{value_at}
use Rattle.json_walk.proofs.KindLemmas.{other_no_null, other_no_object}
use Rattle.json_walk.proofs.entering.enter_object.Goals as goal

pub returns-in_default-clause-value : goal.returns-in_default-clause-value
returns-in_default-clause-value c =
    let empty : c.args.reader.now ≡ [] = grind arith in
    ap (converted of_json) (ap (value c.args.depth) empty ∙ value_is c.args.depth [])

pub returns-then-depth-eq0-clause-value : goal.returns-then-depth-eq0-clause-value
unfolding value
returns-then-depth-eq0-clause-value c =
    let first : c.args.reader.now ≡ token_of c.in-Some.token ∷ c.next.new.self = grind arith in
    let none : c.args.depth ≡ 0 = omega arith in
    ap (converted of_json) (ap₂ value none (first ∙ ap (λ k. token_of k ∷ c.next.new.self) c.in-BeginObject.is))

pub returns-in-Null-clause-value : goal.returns-in-Null-clause-value
returns-in-Null-clause-value c =
    let first : c.args.reader.now ≡ token_of c.in-Some.token ∷ c.next.new.self = grind arith in
    let is : c.args.reader.now ≡ Token.null ∷ c.next.new.self = grind (arith, first) in
    ap (converted of_json) (ap (value c.args.depth) is ∙ value_is c.args.depth _)

pub returns-in_ok-skip_rest-in_default-token : goal.returns-in_ok-skip_rest-in_default-token
returns-in_ok-skip_rest-in_default-token c =
    let first : c.args.reader.now ≡ token_of c.in-Some.token ∷ c.next.new.self = grind arith in
    let read = c.in_ok-skip_rest-in_default-token.ensures.value in
    let no = c.in_default-token.not-Null in
    let less : length c.args.reader.now ≡ length (token_of c.in-Some.token ∷ c.next.new.self) = ap length first in
    record {
      value = (
        read.0,
        ap (value_at c.args.depth) first ∙ read.1,
        other_no_null c.args.depth c.in-Some.token c.next.new.self c.skip_rest.new.reader read.0 read.1 no,
        other_no_object c.args.depth c.in-Some.token c.next.new.self c.skip_rest.new.reader read.0 read.1 no c.in_default-token.not-BeginObject,
      );
      shorter = omega (arith, c.in_ok-skip_rest-in_default-token.ensures.shorter, less);
    }
