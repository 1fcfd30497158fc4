use Rattle.std.proofs.Common.{◌≡◌, [], Ok, Err, None, refl, sym, ap, ◌∙◌, subst, arith, rules}
use Rattle.json.specs.Json.{after_end_array}
use Rattle.serde_json.specs.Data.{no_items}
use Rattle.interchange_io.specs.Steps.{each}
use Rattle.interchange_io.specs.Reading.{block_in}
use Rattle.interchange_io.specs.declared.halt.Halt.TheVariants as halt
use Rattle.interchange_io.proofs.HaltLemmas.{Halts-Err}
use Rattle.json_walk.proofs.WalkLemmas.{ItemsWalk, items_start, items_turn, items_refused, items_done}
use Rattle.interchange_io.proofs.KeptLemmas.{Keeps, Refuses, push, keeps_one, refuses_one, rest_of-push, items_refuse}
use Rattle.interchange_io.proofs.entries.read_blocks.Goals as goal

pub items-init : goal.items-init
items-init c = subst (λ xs. ItemsWalk (Keeps block_in push [] xs) c.args.depth c.args.reader.now c.args.reader.now) (sym c.new-blocks.ensures.items) (items_start (Keeps block_in push [] []) c.args.depth c.args.reader.now (λ ds. refl))

pub returns-in_err-block-clause-value : goal.returns-in_err-block-clause-value
returns-in_err-block-clause-value c =
    let going : (after_end_array c.items.reader ≡ None) × (c.take_end_array.new.self ≡ c.items.reader) = grind arith in
    let same : c.from_residual.result ≡ Err halt.Json = search rules in
    Halts-Err _ _ _ _ _ same (items_refused (Keeps block_in push [] c.items.blocks.items) c.args.depth c.args.reader.now c.items.reader c.items.invariant going.0 (rw (← going.1) c.in_err-block.ensures.value))

pub items-preserved : goal.items-preserved
items-preserved c =
    let going : (after_end_array c.items.reader ≡ None) × (c.take_end_array.new.self ≡ c.items.reader) = grind arith in
    let read = c.in_ok-block.ensures in
    subst (λ xs. ItemsWalk (Keeps block_in push [] xs) c.args.depth c.args.reader.now c.read_block.new.reader) (sym c.in_ok-push-in-Ok.ensures.items)
    (items_turn (Keeps block_in push [] c.items.blocks.items) (Keeps block_in push [] (push c.items.blocks.items c.in-Ok.block)) block_in c.in_ok-block.field-0 c.args.depth c.args.reader.now c.items.reader c.read_block.new.reader
    (λ before d h e. keeps_one block_in push [] c.items.blocks.items c.in-Ok.block before d h (e ∙ c.in-Ok.is))
    c.items.invariant going.0 (rw (← going.1) read.value) (rw (← going.1) read.shorter))

pub returns-in-Err-clause-value : goal.returns-in-Err-clause-value
returns-in-Err-clause-value c =
    let going : (after_end_array c.items.reader ≡ None) × (c.take_end_array.new.self ≡ c.items.reader) = grind arith in
    let read = c.in_ok-block.ensures in
    let walked = items_turn (Keeps block_in push [] c.items.blocks.items) (Refuses block_in push [] c.in-Err.fault) block_in c.in_ok-block.field-0 c.args.depth c.args.reader.now c.items.reader c.read_block.new.reader
    (λ before d h e. refuses_one block_in push [] c.items.blocks.items c.in-Err.fault before d h (e ∙ c.in-Err.is))
    c.items.invariant going.0 (rw (← going.1) read.value) (rw (← going.1) read.shorter) in
    items_refuse c.refuse_items.result (Refuses block_in push [] c.in-Err.fault) (each block_in) c.in-Err.fault c.args.depth c.args.reader.now c.read_block.new.reader c.refuse_items.new.reader
    (λ before ds h. sym (rest_of-push block_in (before ds)) ∙ h ds) walked c.refuse_items.ensures.value

pub returns-clause-value : goal.returns-clause-value
returns-clause-value c =
    items_done (Keeps block_in push [] c.items.blocks.items) (each block_in) (Ok c.from_vec.result) c.args.depth c.args.reader.now c.items.reader c.take_end_array.new.self
    (λ before h. sym (rest_of-push block_in (before no_items)) ∙ h no_items ∙ ap Ok (sym c.from_vec.ensures)) c.items.invariant (grind arith)
