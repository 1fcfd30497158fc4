-- What became of keys, as JSON (Keymanager API, the `data` of an import and of a deletion).
use Rattle.std.specs.Prelude.{List, map, codes}
use Rattle.serde_json.specs.Data.{Data, string, array, object, no_members, member}
use Rattle.serde_json.specs.View.{items_of}
use Rattle.key_custody.specs.declared.status.KeyStatus.{KeyStatus}
use Rattle.custody_format.specs.Words.{status_word}
use Rattle.custody_format.specs.Messages.{message_text}

-- what became of one key
abbrev pub status_data : KeyStatus → Data
status_data s =
    object (member (codes "message") (string (message_text s))
    (member (codes "status") (string (status_word s)) no_members))

-- of keys, in their order
abbrev pub statuses_data : List KeyStatus → Data
statuses_data statuses = array (items_of (map status_data statuses))
