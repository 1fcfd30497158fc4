use Rattle.std.proofs.Common.{◌≡◌, [], ◌∷◌, Some, None, Err, refl, sym, ap, ap₂, ◌∙◌, arith, rules}
use Rattle.json.specs.Json.{after_end_array, read_key, value}
use Rattle.json.specs.Reads.{token_of}
use Rattle.json.proofs.Grammar.{value_is}
use Rattle.serde_json.specs.Data.{null, boolean, string, array, object}
use Rattle.serde_json.specs.Read.{of_json, converted}
use Rattle.json_walk.specs.Walk.{nothing_of, value_at}
use Rattle.json_walk.proofs.WalkLemmas.{opened_array, opened_object, Reads-inside, items_start, items_turn, items_refused, items_done, members_start, members_turn, members_stopped, members_no_name, members_done, number_in_range, number_out_of_range, Reads-Err}
use Rattle.json_walk.proofs.skipping.+skip.Goals as goal

pub skip-returns-in_default-clause-value : goal.skip-returns-in_default-clause-value
skip-returns-in_default-clause-value t c =
    let empty : c.args.reader.now ≡ [] = grind arith in
    ap (converted of_json) (ap (value c.args.depth) empty ∙ value_is c.args.depth [])

pub skip-returns-clause-value : goal.skip-returns-clause-value
skip-returns-clause-value t c =
    let first : c.args.reader.now ≡ token_of c.in-Some.token ∷ c.next.new.self = grind arith in
    rw first c.skip_rest.ensures.value

pub skip_rest-returns-in-String-clause-value : goal.skip_rest-returns-in-String-clause-value
skip_rest-returns-in-String-clause-value t c = rw c.in-String.is (string c.in-String.field-0.now, ap (converted of_json) (value_is c.args.depth _), refl)

pub skip_rest-returns-in-Bool-clause-value : goal.skip_rest-returns-in-Bool-clause-value
skip_rest-returns-in-Bool-clause-value t c = rw c.in-Bool.is (boolean c.in-Bool.field-0, ap (converted of_json) (value_is c.args.depth _), refl)

pub skip_rest-returns-in-Null-clause-value : goal.skip_rest-returns-in-Null-clause-value
skip_rest-returns-in-Null-clause-value t c = rw c.in-Null.is (null, ap (converted of_json) (value_is c.args.depth _), refl)

pub skip_rest-returns-then-is_in_range-clause-value : goal.skip_rest-returns-then-is_in_range-clause-value
skip_rest-returns-then-is_in_range-clause-value t c =
    let read = number_in_range c.in-Number.text.now c.args.depth c.args.reader.now (sym c.is_in_range.ensures ∙ c.if-is_in_range.true) in
    rw c.in-Number.is (read.0, read.1, refl)

pub skip_rest-returns-else-is_in_range-clause-value : goal.skip_rest-returns-else-is_in_range-clause-value
skip_rest-returns-else-is_in_range-clause-value t c =
    rw c.in-Number.is (number_out_of_range c.in-Number.text.now c.args.depth c.args.reader.now (sym c.is_in_range.ensures ∙ c.if-is_in_range.false))

pub skip_rest-returns-in-EndObject-clause-value : goal.skip_rest-returns-in-EndObject-clause-value
skip_rest-returns-in-EndObject-clause-value t c =
    let none : value c.args.depth (token_of c.args.token ∷ c.args.reader.now) ≡ None = rw (value_is c.args.depth (token_of c.args.token ∷ c.args.reader.now)) (grind arith) in
    ap (converted of_json) none

pub skip_rest-returns-then-depth-eq0-clause-value : goal.skip_rest-returns-then-depth-eq0-clause-value
unfolding value
skip_rest-returns-then-depth-eq0-clause-value t c =
    let none : c.args.depth ≡ 0 = omega arith in
    ap (converted of_json) (ap₂ value none (ap (λ k. token_of k ∷ c.args.reader.now) c.in-BeginArray.is))

pub skip_rest-returns-then-depth-eq0-2-clause-value : goal.skip_rest-returns-then-depth-eq0-2-clause-value
unfolding value
skip_rest-returns-then-depth-eq0-2-clause-value t c =
    let none : c.args.depth ≡ 0 = omega arith in
    ap (converted of_json) (ap₂ value none (ap (λ k. token_of k ∷ c.args.reader.now) c.in-BeginObject.is))

pub skip_rest-returns-else-depth-eq0-clause-value : goal.skip_rest-returns-else-depth-eq0-clause-value
skip_rest-returns-else-depth-eq0-clause-value t c =
    let opened = ap (λ k. value_at c.args.depth (token_of k ∷ c.args.reader.now)) c.in-BeginArray.is ∙ opened_array c.args.depth c.args.reader.now (omega arith) in
    Reads-inside c.skip_items.result array nothing_of _ _ _ opened c.skip_items.ensures.value

pub skip_rest-returns-else-depth-eq0-2-clause-value : goal.skip_rest-returns-else-depth-eq0-2-clause-value
skip_rest-returns-else-depth-eq0-2-clause-value t c =
    let opened = ap (λ k. value_at c.args.depth (token_of k ∷ c.args.reader.now)) c.in-BeginObject.is ∙ opened_object c.args.depth c.args.reader.now (omega arith) in
    Reads-inside c.skip_members.result object nothing_of _ _ _ opened c.skip_members.ensures.value

pub skip_items-items-init : goal.skip_items-items-init
skip_items-items-init t c = items_start (λ before. Unit {0}) c.args.depth c.args.reader.now tt

pub skip_items-items-preserved : goal.skip_items-items-preserved
skip_items-items-preserved t c =
    let l = c.items in
    let going : (after_end_array l.reader ≡ None) × (c.take_end_array.new.self ≡ l.reader) = grind arith in
    items_turn (λ before. Unit {0}) (λ before. Unit {0}) nothing_of tt c.args.depth c.args.reader.now l.reader c.skip.new.reader (λ before d h e. tt)
    l.invariant going.0 (rw (← going.1) c.in_ok-skip.ensures.value) (rw (← going.1) c.in_ok-skip.ensures.shorter)

pub skip_items-returns-in_err-skip-clause-value : goal.skip_items-returns-in_err-skip-clause-value
skip_items-returns-in_err-skip-clause-value t c =
    let l = c.items in
    let going : (after_end_array l.reader ≡ None) × (c.take_end_array.new.self ≡ l.reader) = grind arith in
    let same : c.from_residual.result ≡ Err c.in_err-skip.field-0.0 = search rules in
    Reads-Err _ _ nothing_of _ _ same (items_refused (λ before. Unit {0}) c.args.depth c.args.reader.now l.reader l.invariant going.0 (rw (← going.1) c.in_err-skip.ensures.value))

pub skip_items-returns-clause-value : goal.skip_items-returns-clause-value
skip_items-returns-clause-value t c =
    items_done (λ before. Unit {0}) nothing_of tt c.args.depth c.args.reader.now c.items.reader c.take_end_array.new.self (λ before h. refl) c.items.invariant (grind arith)

pub skip_members-members-init : goal.skip_members-members-init
skip_members-members-init t c = members_start (λ found. Unit {0}) c.args.depth c.args.reader.now tt

pub skip_members-returns-in_err-next_key-clause-value : goal.skip_members-returns-in_err-next_key-clause-value
skip_members-returns-in_err-next_key-clause-value t c =
    let same : c.from_residual.result ≡ Err c.in_err-next_key.field-0.0 = search rules in
    Reads-Err _ _ nothing_of _ _ same (members_no_name (λ found. Unit {0}) c.args.depth c.args.reader.now c.members.reader c.members.invariant c.in_err-next_key.ensures.value)

pub skip_members-returns-clause-value : goal.skip_members-returns-clause-value
skip_members-returns-clause-value t c =
    members_done (λ found. Unit {0}) nothing_of tt c.args.depth c.args.reader.now c.members.reader c.next_key.new.self (λ found h. refl) c.members.invariant (grind arith)

pub skip_members-members-preserved : goal.skip_members-members-preserved
skip_members-members-preserved t c =
    let l = c.members in
    let named : read_key l.reader ≡ Some (Some c.in-Some.field-0.now, c.next_key.new.self) = grind arith in
    members_turn (λ found. Unit {0}) (λ found. Unit {0}) nothing_of tt c.args.depth c.in-Some.field-0.now c.args.reader.now l.reader c.next_key.new.self c.skip.new.reader (λ found d h e. tt)
    l.invariant named c.in_ok-skip.ensures.value c.in_ok-skip.ensures.shorter

pub skip_members-returns-in_err-skip-clause-value : goal.skip_members-returns-in_err-skip-clause-value
skip_members-returns-in_err-skip-clause-value t c =
    let l = c.members in
    let named : read_key l.reader ≡ Some (Some c.in-Some.field-0.now, c.next_key.new.self) = grind arith in
    let same : c.from_residual-in_err-skip.result ≡ Err c.in_err-skip.field-0.0 = search rules in
    Reads-Err _ _ nothing_of _ _ same (members_stopped (λ found. Unit {0}) c.args.depth c.in-Some.field-0.now c.args.reader.now l.reader c.next_key.new.self l.invariant named c.in_err-skip.ensures.value)
