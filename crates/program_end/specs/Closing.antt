-- The line that closes an output where a command did not end well.
use Rattle.std.specs.Prelude.{ℕ, List, [], ◌∷◌, ◌++◌, Option, Some, None, codes, decimal, string_bytes}
use Rattle.hex.specs.Hex.{encode_lower}
use Rattle.edge_kit.specs.Texts.{hex_text}
use Rattle.record_journal.specs.declared.place.Place.{Place}
use Rattle.record_journal.specs.declared.place.Place.TheVariants.{First, Second}
use Rattle.interchange_io.specs.Members.{name_of}
use Rattle.interchange_io.specs.declared.fault.ReadFault.{ReadFault}
use Rattle.interchange_io.specs.declared.fault.ReadFault.TheVariants as fault
use Rattle.program_end.specs.Limits.{limit_number}
use Rattle.program_end.specs.declared.closing.ClosingLine.{ClosingLine}
use Rattle.program_end.specs.declared.closing.ClosingLine.TheVariants as closing
use Rattle.program_end.specs.declared.file_refusal.FileRefusal.{FileRefusal}
use Rattle.program_end.specs.declared.file_refusal.FileRefusal.TheVariants as refusal
use Rattle.program_end.specs.declared.status.Status.{Status}
use Rattle.program_end.specs.declared.status.Status.TheVariants as status

-- the status of each line
abbrev pub closing_status : ClosingLine → Status
closing_status closing.ReadFault = status.ReadFault
closing_status closing.DiskFault = status.DiskFault
closing_status (closing.TooLong l) = status.InputTooLong l
closing_status (closing.Damaged file offset byte) = status.Damaged
closing_status (closing.GenesisDiffers kept given) = status.GenesisDiffers
closing_status (closing.NoNode causes) = status.NoNode
closing_status closing.DoorFault = status.DoorFault
closing_status (closing.FileRefused r) = status.FileRefused
closing_status (closing.Usage line) = status.Usage

-- why a text is no interchange file: the reason, and its members in byte order of their names
abbrev pub fault_words : ReadFault → List ℕ
fault_words (fault.TooLong len) = codes "too_long len " ++ decimal len
fault_words fault.NotUtf8 = codes "not_utf8"
fault_words fault.Json = codes "json"
fault_words (fault.Missing m) = codes "missing member " ++ name_of m
fault_words (fault.Version text) = codes "version text " ++ text
fault_words (fault.BadNumber m) = codes "bad_number member " ++ name_of m
fault_words (fault.BadHex m) = codes "bad_hex member " ++ name_of m

-- why a file is refused, in the words of a session's answer
abbrev pub refusal_words : FileRefusal → List ℕ
refusal_words (refusal.Read f) = fault_words f
refusal_words (refusal.TooManyKeys have new) = codes "too_many_keys have " ++ (decimal have ++ (codes " new " ++ decimal new))
refusal_words (refusal.Full size wanted) = codes "full size " ++ (decimal size ++ (codes " wanted " ++ decimal wanted))

-- which file of the journal is damaged
abbrev pub damaged_words : Place → List ℕ
damaged_words First = codes "damaged at "
damaged_words Second = codes "damaged in b at "

-- the byte that stands at a damaged place, where there is one
abbrev pub byte_words : Option ℕ → List ℕ
byte_words None = codes "end"
byte_words (Some byte) = encode_lower (byte ∷ [])

-- the line without the program's name and the newline
abbrev pub closing_words : ClosingLine → List ℕ
closing_words closing.ReadFault = codes "read fault"
closing_words closing.DiskFault = codes "disk fault"
closing_words (closing.TooLong l) = codes "input too long: limit " ++ decimal (limit_number l)
closing_words (closing.Damaged file offset byte) = damaged_words file ++ (decimal offset ++ (codes ": " ++ byte_words byte))
closing_words (closing.GenesisDiffers kept given) = codes "genesis differs: kept " ++ (hex_text kept.0 ++ (codes ", given " ++ hex_text given.0))
closing_words (closing.NoNode causes) = codes "no node: " ++ string_bytes causes
closing_words closing.DoorFault = codes "door fault"
closing_words (closing.FileRefused r) = codes "file refused: " ++ refusal_words r
closing_words (closing.Usage line) = string_bytes line

-- the bytes of the line
unfoldable pub closing_text : ClosingLine → List ℕ
closing_text line = codes "validator: " ++ (closing_words line ++ 10 ∷ [])

-- its text takes memory
abbrev pub TakesMemory : ClosingLine → Type 0
TakesMemory closing.ReadFault = ⊥
TakesMemory closing.DiskFault = ⊥
TakesMemory (closing.TooLong l) = ⊥
TakesMemory (closing.Damaged file offset byte) = Unit {0}
TakesMemory (closing.GenesisDiffers kept given) = Unit {0}
TakesMemory (closing.NoNode causes) = Unit {0}
TakesMemory closing.DoorFault = ⊥
TakesMemory (closing.FileRefused r) = Unit {0}
TakesMemory (closing.Usage line) = Unit {0}
