-- The text of a written file is read as the value that was written.
use Rattle.std.proofs.Common.{◌≡◌, ℕ, suc, ◌≤◌, List, [], ◌∷◌, map, Option, Some, None, option_map, option_and_then, refl, sym, ap, ◌∙◌, arith, append-nil}
use Rattle.json.specs.Json as json
use Rattle.json.specs.Lex.{tokens}
use Rattle.json.specs.Tree.{json_tokens, HasNumbers, ItemsHaveNumbers}
use Rattle.json.specs.Tree as tree
use Rattle.json.proofs.Printed.Tokens.{tokens-print}
use Rattle.json.proofs.Printed.Trees.{value-json_tokens, ArePrintable-json_tokens}
use Rattle.serde_json.specs.Data.{Data, array, Items}
use Rattle.serde_json.specs.Read.{read, of_json, of_items, max_depth}
use Rattle.serde_json.specs.View.{items_of}
use Rattle.serde_json.specs.Written.{outline, items_outline, compact_text}
use Rattle.serde_json.proofs.Texts.{print-outline}
use Rattle.edge_kit.specs.declared.bytes.PubKey.{PubKey}
use Rattle.edge_kit.specs.declared.bytes.Root.{Root}
use Rattle.slash_defs.specs.declared.entry.BlockEntry.{BlockEntry}
use Rattle.slash_defs.specs.declared.entry.VoteEntry.{VoteEntry}
use Rattle.slash_defs.specs.declared.book.Book.{Book}
use Rattle.slash_defs.specs.declared.book.File.{File}
use Rattle.interchange_io.specs.Writing.{block_data, vote_data, book_data, file_data}

-- the value has no number, nests at most n deep, and is what its JSON stands for
record IsClean (d : Data) (n : ℕ) : Type 0 where
  numbers : HasNumbers (outline d)
  shallow : tree.depth (outline d) ≤ n
  reads : of_json (outline d) ≡ Some d

record AreClean (ds : Items) (n : ℕ) : Type 0 where
  numbers : ItemsHaveNumbers (items_outline ds)
  shallow : tree.items_depth (items_outline ds) ≤ n
  reads : of_items (items_outline ds) ≡ Some ds

are_clean : {A : Type 0} (f : A → Data) (n : ℕ) → ((x : A) → IsClean (f x) n) → (xs : List A) → AreClean (items_of (map f xs)) n
are_clean f n each [] = record { numbers = tt; shallow = omega arith; reads = refl }
are_clean f n each (x ∷ xs) = let first = each x in let rest = are_clean f n each xs in record {
  numbers = (first.numbers, rest.numbers);
  shallow = omega (arith, first.shallow, rest.shallow);
  reads = rw (first.reads, rest.reads) refl;
}

array_clean : (ds : Items) (n : ℕ) → AreClean ds n → IsClean (array ds) (suc n)
array_clean ds n clean = record { numbers = clean.numbers; shallow = omega (arith, clean.shallow); reads = ap (option_map array) clean.reads }

block_clean : (block : BlockEntry) → IsClean (block_data block) 1
block_clean block = with_its_root block.root where
  with_its_root : (root : Option Root) → IsClean (block_data (record block { root = root })) 1
  with_its_root None = record { numbers = (tt, tt); shallow = omega arith; reads = refl }
  with_its_root (Some root) = record { numbers = (tt, (tt, tt)); shallow = omega arith; reads = refl }

vote_clean : (vote : VoteEntry) → IsClean (vote_data vote) 1
vote_clean vote = with_its_root vote.root where
  with_its_root : (root : Option Root) → IsClean (vote_data (record vote { root = root })) 1
  with_its_root None = record { numbers = (tt, (tt, tt)); shallow = omega arith; reads = refl }
  with_its_root (Some root) = record { numbers = (tt, (tt, (tt, tt))); shallow = omega arith; reads = refl }

book_clean : (book : PubKey × Book) → IsClean (book_data book) 3
book_clean book =
    let votes = array_clean _ 1 (are_clean vote_data 1 vote_clean book.1.votes) in
    let blocks = array_clean _ 1 (are_clean block_data 1 block_clean book.1.blocks) in
    record {
      numbers = (tt, (votes.numbers, (blocks.numbers, tt)));
      shallow = omega (arith, votes.shallow, blocks.shallow);
      reads = rw (votes.reads, blocks.reads) refl;
    }

file_clean : (file : File) → IsClean (file_data file) 5
file_clean file =
    let books = array_clean _ 3 (are_clean book_data 3 book_clean file.books) in
    record { numbers = (books.numbers, ((tt, (tt, tt)), tt)); shallow = omega (arith, books.shallow); reads = rw books.reads refl }

-- a clean value's text is read as the value
read_clean : (d : Data) (n : ℕ) → n ≤ max_depth → IsClean d n → read (compact_text d) ≡ Some d
read_clean d n within clean =
    let j = outline d in
    ap (λ ts. option_and_then of_json (option_and_then (λ p. json.if_last p.0 p.1) (json.value max_depth ts)))
    (ap tokens (sym (print-outline d)) ∙ tokens-print (json_tokens j) (ArePrintable-json_tokens j clean.numbers) ∙ sym (append-nil (json_tokens j)))
    ∙ ap (λ r. option_and_then of_json (option_and_then (λ p. json.if_last p.0 p.1) r)) (value-json_tokens j max_depth [] (omega (arith, clean.shallow)))
    ∙ clean.reads

pub read-file_data : (file : File) → read (compact_text (file_data file)) ≡ Some (file_data file)
read-file_data file = read_clean (file_data file) 5 (omega arith) (file_clean file)
