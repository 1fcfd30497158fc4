-- What is written is read back.
use Rattle.std.proofs.Common.{◌≡◌, ℕ, ◌≤◌, List, [], length, Ok, IsUtf8, ap, ◌∙◌}
use Rattle.std.proofs.lemmas.Bool.{le-ltb}
use Rattle.serde_json.specs.Read.{read}
use Rattle.slash_defs.specs.declared.book.File.{File}
use Rattle.interchange_io.specs.Ranges.{FileFits}
use Rattle.interchange_io.specs.Reading.{file_limit, of_data, file_of}
use Rattle.interchange_io.specs.WrittenOrder.{canonical}
use Rattle.interchange_io.specs.Writing.{file_text}
use Rattle.interchange_io.proofs.TextLemmas.{of_text-utf8}
use Rattle.interchange_io.proofs.CleanLemmas.{read-file_data}
use Rattle.interchange_io.proofs.BackLemmas.{file_back}
use Rattle.interchange_io.proofs.OnceLemmas.{sorted_keys, nothing_sorted, united_once}

pub reads_back : (file : File) (bytes : List ℕ) → bytes ≡ file_text file → IsUtf8 bytes → FileFits (canonical file) → length bytes ≤ file_limit → file_of bytes ≡ Ok (canonical file)
unfolding file_text
reads_back file bytes is utf8 fits within =
    let written = canonical file in
    rw (le-ltb file_limit (length bytes) within)
    (of_text-utf8 bytes utf8 ∙ ap (λ text. of_data (read text)) is ∙ ap of_data (read-file_data written) ∙ file_back written fits (united_once written.books (sorted_keys [] file.books nothing_sorted)))
