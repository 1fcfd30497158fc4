use Rattle.std.proofs.Common.{◌≡◌, [], Ok, Err, None, refl, sym, ap, ◌∙◌, subst, arith, rules}
use Rattle.json.specs.Json.{after_end_array}
use Rattle.serde_json.specs.Data.{no_items}
use Rattle.interchange_io.specs.Reading.{book_in, united_in}
use Rattle.interchange_io.specs.United.{with_book}
use Rattle.interchange_io.proofs.HaltLemmas.{Halts-map, Halts-Err}
use Rattle.json_walk.proofs.WalkLemmas.{ItemsWalk, items_start, items_turn, items_refused, items_done}
use Rattle.interchange_io.proofs.KeptLemmas.{Keeps, Refuses, keeps_one, refuses_one, items_refuse}
use Rattle.interchange_io.proofs.books.read_books.Goals as goal

pub items-init : goal.items-init
items-init c = record {
  read = subst (λ xs. ItemsWalk (Keeps book_in with_book [] xs) c.args.depth c.args.reader.now c.args.reader.now) (sym c.new-gathered.ensures.books) (items_start (Keeps book_in with_book [] []) c.args.depth c.args.reader.now (λ ds. refl));
  places = c.new-gathered.ensures.places;
}

pub returns-in_err-key-clause-value : goal.returns-in_err-key-clause-value
returns-in_err-key-clause-value c =
    let going : (after_end_array c.items.reader ≡ None) × (c.take_end_array.new.self ≡ c.items.reader) = grind arith in
    let same : c.from_residual.result ≡ Err c.in_err-key.field-0.0 = search rules in
    Halts-Err _ _ _ _ _ same (Halts-map _ (λ none. items_refused (Keeps book_in with_book [] c.items.gathered.books.items) c.args.depth c.args.reader.now c.items.reader c.items.invariant.read going.0 (rw (← going.1) none)) c.in_err-key.ensures.value)

pub items-preserved : goal.items-preserved
items-preserved c =
    let going : (after_end_array c.items.reader ≡ None) × (c.take_end_array.new.self ≡ c.items.reader) = grind arith in
    let read = c.in_ok-key.ensures in
    record {
      read = subst (λ xs. ItemsWalk (Keeps book_in with_book [] xs) c.args.depth c.args.reader.now c.read_book.new.reader) (sym c.in_ok-add-in-Ok.ensures.books)
          (items_turn (Keeps book_in with_book [] c.items.gathered.books.items) (Keeps book_in with_book [] (with_book c.items.gathered.books.items (c.in-Ok.key, c.in-Ok.book))) book_in c.in_ok-key.field-0 c.args.depth c.args.reader.now c.items.reader c.read_book.new.reader
          (λ before d h e. keeps_one book_in with_book [] c.items.gathered.books.items (c.in-Ok.key, c.in-Ok.book) before d h (e ∙ c.in-Ok.is))
          c.items.invariant.read going.0 (rw (← going.1) read.value) (rw (← going.1) read.shorter));
      places = c.in_ok-add-in-Ok.ensures.places;
    }

pub returns-in-Err-clause-value : goal.returns-in-Err-clause-value
returns-in-Err-clause-value c =
    let going : (after_end_array c.items.reader ≡ None) × (c.take_end_array.new.self ≡ c.items.reader) = grind arith in
    let read = c.in_ok-key.ensures in
    let walked = items_turn (Keeps book_in with_book [] c.items.gathered.books.items) (Refuses book_in with_book [] c.in-Err.fault) book_in c.in_ok-key.field-0 c.args.depth c.args.reader.now c.items.reader c.read_book.new.reader
    (λ before d h e. refuses_one book_in with_book [] c.items.gathered.books.items c.in-Err.fault before d h (e ∙ c.in-Err.is))
    c.items.invariant.read going.0 (rw (← going.1) read.value) (rw (← going.1) read.shorter) in
    items_refuse c.refuse_items.result (Refuses book_in with_book [] c.in-Err.fault) united_in c.in-Err.fault c.args.depth c.args.reader.now c.read_book.new.reader c.refuse_items.new.reader
    (λ before ds h. h ds) walked c.refuse_items.ensures.value

pub returns-clause-value : goal.returns-clause-value
returns-clause-value c =
    items_done (Keeps book_in with_book [] c.items.gathered.books.items) united_in (Ok c.from_vec.result) c.args.depth c.args.reader.now c.items.reader c.take_end_array.new.self
    (λ before h. h no_items ∙ ap Ok (sym c.from_vec.ensures)) c.items.invariant.read (grind arith)
