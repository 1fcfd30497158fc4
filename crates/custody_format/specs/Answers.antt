-- The answers to what was asked of keys as a whole, as JSON.
use Rattle.std.specs.Prelude.{ℕ, List, map, codes, decimal}
use Rattle.edge_kit.specs.Texts.{hex_text}
use Rattle.edge_kit.specs.declared.bytes.PubKey.{PubKey}
use Rattle.slash_defs.specs.declared.book.File.{File}
use Rattle.record_replay.specs.declared.state.KeyState.{KeyState}
use Rattle.interchange_io.specs.Writing.{file_text}
use Rattle.serde_json.specs.Data.{Data, string, array, object, no_members, member}
use Rattle.serde_json.specs.View.{items_of}
use Rattle.key_custody.specs.declared.status.KeyStatus.{KeyStatus}
use Rattle.custody_format.specs.Words.{state_word}
use Rattle.custody_format.specs.Statuses.{statuses_data}

-- what became of the keys of an import
abbrev pub imported_data : List KeyStatus → Data
imported_data statuses =
    object (member (codes "answer") (string (codes "imported")) (member (codes "data") (statuses_data statuses) no_members))

-- what became of the keys of a deletion, and the text of the file that is handed out
abbrev pub deleted_data : List KeyStatus → File → Data
deleted_data statuses file =
    object (member (codes "answer") (string (codes "deleted"))
    (member (codes "data") (statuses_data statuses)
    (member (codes "slashing_protection") (string (file_text file)) no_members)))

-- the active keys
abbrev pub key_data : PubKey → Data
key_data key = string (hex_text key.0)

abbrev pub listed_data : List PubKey → Data
listed_data keys =
    object (member (codes "answer") (string (codes "keys")) (member (codes "data") (array (items_of (map key_data keys))) no_members))

-- the key is in this state, and not being closed
abbrev pub not_closing_data : KeyState → Data
not_closing_data state =
    object (member (codes "answer") (string (codes "refused"))
    (member (codes "reason") (string (codes "not_closing"))
    (member (codes "state") (string (state_word state)) no_members)))

-- so many grants of the key are open
abbrev pub busy_data : ℕ → Data
busy_data grants =
    object (member (codes "answer") (string (codes "refused"))
    (member (codes "grants") (string (decimal grants))
    (member (codes "reason") (string (codes "busy")) no_members)))
