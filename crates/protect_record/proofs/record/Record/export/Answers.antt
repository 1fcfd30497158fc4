use Rattle.std.proofs.Common.{rules, ◌≡◌}
use Rattle.slash_defs.specs.declared.book.Book.{Book}
use Rattle.protect_record.specs.Exporting.{export_of}
use Rattle.protect_record.proofs.ExportLemmas.{exports_no_more, exports_no_less}
use Rattle.protect_record.proofs.record.Record.export.Goals as goal

pub returns-clause-no_more : goal.returns-clause-no_more
returns-clause-no_more c =
    let book : Book = record { blocks = c.from_vec.result; votes = c.from_vec-2.result } in
    let exported : book ≡ export_of c.args.self.now = search rules in
    exports_no_more c.args.self.now book exported

pub returns-clause-no_less : goal.returns-clause-no_less
returns-clause-no_less c =
    let book : Book = record { blocks = c.from_vec.result; votes = c.from_vec-2.result } in
    let exported : book ≡ export_of c.args.self.now = search rules in
    exports_no_less c.args.self.now book exported
