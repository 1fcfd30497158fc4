use Rattle.std.proofs.Common.{◌≡◌, [], Ok, Err, None, refl, sym, ap, ◌∙◌, subst, arith, rules}
use Rattle.json.specs.Json.{after_end_array}
use Rattle.serde_json.specs.Data.{no_items}
use Rattle.interchange_io.specs.Steps.{each}
use Rattle.interchange_io.specs.Reading.{vote_in}
use Rattle.interchange_io.specs.declared.halt.Halt.TheVariants as halt
use Rattle.interchange_io.proofs.HaltLemmas.{Halts-Err}
use Rattle.json_walk.proofs.WalkLemmas.{ItemsWalk, items_start, items_turn, items_refused, items_done}
use Rattle.interchange_io.proofs.KeptLemmas.{Keeps, Refuses, push, keeps_one, refuses_one, rest_of-push, items_refuse}
use Rattle.interchange_io.proofs.entries.read_votes.Goals as goal

pub items-init : goal.items-init
items-init c = subst (λ xs. ItemsWalk (Keeps vote_in push [] xs) c.args.depth c.args.reader.now c.args.reader.now) (sym c.new-votes.ensures.items) (items_start (Keeps vote_in push [] []) c.args.depth c.args.reader.now (λ ds. refl))

pub returns-in_err-vote-clause-value : goal.returns-in_err-vote-clause-value
returns-in_err-vote-clause-value c =
    let going : (after_end_array c.items.reader ≡ None) × (c.take_end_array.new.self ≡ c.items.reader) = grind arith in
    let same : c.from_residual.result ≡ Err halt.Json = search rules in
    Halts-Err _ _ _ _ _ same (items_refused (Keeps vote_in push [] c.items.votes.items) c.args.depth c.args.reader.now c.items.reader c.items.invariant going.0 (rw (← going.1) c.in_err-vote.ensures.value))

pub items-preserved : goal.items-preserved
items-preserved c =
    let going : (after_end_array c.items.reader ≡ None) × (c.take_end_array.new.self ≡ c.items.reader) = grind arith in
    let read = c.in_ok-vote.ensures in
    subst (λ xs. ItemsWalk (Keeps vote_in push [] xs) c.args.depth c.args.reader.now c.read_vote.new.reader) (sym c.in_ok-push-in-Ok.ensures.items)
    (items_turn (Keeps vote_in push [] c.items.votes.items) (Keeps vote_in push [] (push c.items.votes.items c.in-Ok.vote)) vote_in c.in_ok-vote.field-0 c.args.depth c.args.reader.now c.items.reader c.read_vote.new.reader
    (λ before d h e. keeps_one vote_in push [] c.items.votes.items c.in-Ok.vote before d h (e ∙ c.in-Ok.is))
    c.items.invariant going.0 (rw (← going.1) read.value) (rw (← going.1) read.shorter))

pub returns-in-Err-clause-value : goal.returns-in-Err-clause-value
returns-in-Err-clause-value c =
    let going : (after_end_array c.items.reader ≡ None) × (c.take_end_array.new.self ≡ c.items.reader) = grind arith in
    let read = c.in_ok-vote.ensures in
    let walked = items_turn (Keeps vote_in push [] c.items.votes.items) (Refuses vote_in push [] c.in-Err.fault) vote_in c.in_ok-vote.field-0 c.args.depth c.args.reader.now c.items.reader c.read_vote.new.reader
    (λ before d h e. refuses_one vote_in push [] c.items.votes.items c.in-Err.fault before d h (e ∙ c.in-Err.is))
    c.items.invariant going.0 (rw (← going.1) read.value) (rw (← going.1) read.shorter) in
    items_refuse c.refuse_items.result (Refuses vote_in push [] c.in-Err.fault) (each vote_in) c.in-Err.fault c.args.depth c.args.reader.now c.read_vote.new.reader c.refuse_items.new.reader
    (λ before ds h. sym (rest_of-push vote_in (before ds)) ∙ h ds) walked c.refuse_items.ensures.value

pub returns-clause-value : goal.returns-clause-value
returns-clause-value c =
    items_done (Keeps vote_in push [] c.items.votes.items) (each vote_in) (Ok c.from_vec.result) c.args.depth c.args.reader.now c.items.reader c.take_end_array.new.self
    (λ before h. sym (rest_of-push vote_in (before no_items)) ∙ h no_items ∙ ap Ok (sym c.from_vec.ensures)) c.items.invariant (grind arith)
