use Rattle.std.proofs.Common.{◌≡◌, ◌++◌, ◌∙◌, ap, subst, [], fold, string_bytes}
use Rattle.std.proofs.lemmas.Str.{IsUtf8-string_bytes}
use Rattle.serde_json.specs.Written.{compact_text}
use Rattle.interchange_io.specs.Ranges.{FileFits}
use Rattle.interchange_io.specs.Writing.{file_data, file_text}
use Rattle.interchange_io.specs.WrittenOrder.{with_sorted}
use Rattle.interchange_io.proofs.ReadsBackLemmas.{reads_back}
use Rattle.interchange_io.proofs.writing.write_text.Goals as goal
use Rattle.interchange_io.proofs.writing.write_text.Goals.{After-drop-sorted-2}

sorted_is : (c : After-drop-sorted-2) → c.in_ok-sorted.sorted.entries ≡ fold with_sorted [] c.args.file.now.books
sorted_is c = c.in_ok-sorted.ensures ∙ ap (λ books. fold with_sorted [] books) c.as_slice.ensures

text_is : (c : After-drop-sorted-2) → string_bytes c.push_file.new.out ≡ file_text c.args.file.now
unfolding file_text
text_is c =
    c.in_ok-push_file.ensures.text
    ∙ ap (λ out. out ++ compact_text (file_data (record { genesis = c.args.file.now.genesis; books = c.in_ok-sorted.sorted.entries }))) c.new-out.ensures.bytes
    ∙ ap (λ books. compact_text (file_data (record { genesis = c.args.file.now.genesis; books = books }))) (sorted_is c)

pub returns-clause-text : goal.returns-clause-text
returns-clause-text c = text_is c

pub returns-clause-reads_back : goal.returns-clause-reads_back
returns-clause-reads_back c =
    reads_back c.args.file.now (string_bytes c.push_file.new.out) (text_is c) (IsUtf8-string_bytes c.push_file.new.out)
    (subst (λ books. FileFits (record { genesis = c.args.file.now.genesis; books = books })) (sorted_is c) c.in_ok-push_file.ensures.fits)
