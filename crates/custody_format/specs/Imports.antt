-- What an import is given, of the members of a JSON object.
use Rattle.std.specs.Prelude.{ℕ, List, Option, Some, None, Result, Ok, Err, codes}
use Rattle.serde_json.specs.Data.{Data}
use Rattle.serde_json.specs.Find.{get, as_str}
use Rattle.slash_defs.specs.declared.book.File.{File}
use Rattle.interchange_io.specs.Reading.{file_of}
use Rattle.interchange_io.specs.declared.fault.ReadFault.{ReadFault}
use Rattle.custody_format.specs.Keystores.{keystores_of}
use Rattle.custody_format.specs.Lists.{texts_in}
use Rattle.custody_format.specs.declared.import.Import.{Import}
use Rattle.custody_format.specs.declared.import.ImportFault.{ImportFault}
use Rattle.custody_format.specs.declared.import.ImportFault.TheVariants as fault

-- with the file that a text is, if it is one
abbrev pub import_of : List (List ℕ × List ℕ) → Result File ReadFault → Result Import ImportFault
import_of keystores (Ok file) = Ok (record { file = Some file; keystores = keystores })
import_of keystores (Err f) = Err (fault.File f)

abbrev pub import_with : List (List ℕ × List ℕ) → Option (List ℕ) → Result Import ImportFault
import_with keystores None = Err fault.SlashingProtection
import_with keystores (Some text) = import_of keystores (file_of text)

-- with a file, where the member is there
abbrev pub import_by : List (List ℕ × List ℕ) → Option Data → Result Import ImportFault
import_by keystores None = Ok (record { file = None; keystores = keystores })
import_by keystores (Some d) = import_with keystores (as_str d)

-- of keystores with their passwords, where the lists have one length
abbrev pub import_paired : Option (List (List ℕ × List ℕ)) → Option Data → Result Import ImportFault
import_paired None protection = Err fault.Passwords
import_paired (Some keystores) protection = import_by keystores protection

-- of two lists of texts
abbrev pub import_lists : Option (List (List ℕ)) → Option (List (List ℕ)) → Option Data → Result Import ImportFault
import_lists None passwords protection = Err fault.Keystores
import_lists (Some keystores) None protection = Err fault.Passwords
import_lists (Some keystores) (Some passwords) protection = import_paired (keystores_of (λ text. text) keystores passwords) protection

abbrev pub import_in : Data → Result Import ImportFault
import_in d = import_lists (texts_in (codes "keystores") d) (texts_in (codes "passwords") d) (get (codes "slashing_protection") d)
