-- The replies to what was done.
use Rattle.std.specs.Prelude.{ℕ, List, [], ◌++◌, map, false, codes}
use Rattle.edge_kit.specs.Texts.{hex_text}
use Rattle.edge_kit.specs.declared.bytes.PubKey.{PubKey}
use Rattle.serde_json.specs.Data.{Data, boolean, string, array, object, member, no_members}
use Rattle.serde_json.specs.View.{items_of}
use Rattle.serde_json.specs.Written.{compact_text}
use Rattle.interchange_io.specs.Writing.{file_text}
use Rattle.key_custody.specs.declared.status.DeskRefusal.{DeskRefusal}
use Rattle.key_custody.specs.declared.status.DeskRefusal.TheVariants as refusal
use Rattle.key_custody.specs.declared.status.KeyStatus.{KeyStatus}
use Rattle.key_custody.specs.declared.import.ImportEnd.{ImportEnd}
use Rattle.key_custody.specs.declared.import.ImportEnd.TheVariants as ending
use Rattle.key_custody.specs.declared.delete.Deletion.{Deletion}
use Rattle.custody_format.specs.Words.{reason_word}
use Rattle.custody_format.specs.Statuses.{statuses_data}
use Rattle.keymanager_routes.specs.Replies.{message_reply}
use Rattle.keymanager_routes.specs.declared.reply.Reply.{Reply}

abbrev pub ok_reply : Data → Reply
ok_reply d = record { status = 200; body = compact_text d }

-- `{"derivation_path":"","readonly":false,"validating_pubkey":"0x.."}`
abbrev pub listed_key : PubKey → Data
listed_key key =
    object (member (codes "derivation_path") (string [])
    (member (codes "readonly") (boolean false)
    (member (codes "validating_pubkey") (string (hex_text key.0)) no_members)))

-- `{"data":[..]}`
abbrev pub with_data : Data → Data
with_data d = object (member (codes "data") d no_members)

abbrev pub listed_reply : List PubKey → Reply
listed_reply keys = ok_reply (with_data (array (items_of (map listed_key keys))))

-- a file of another chain is the client's fault; a disk, a journal or a desk without room is not; a merge is refused for nothing else
abbrev pub merge_refused_reply : DeskRefusal → Reply
merge_refused_reply (refusal.GenesisDiffers kept given) = message_reply 400 (codes "protection refused: " ++ reason_word (refusal.GenesisDiffers kept given))
merge_refused_reply d = message_reply 500 (reason_word d)

abbrev pub import_reply : ImportEnd → Reply
import_reply (ending.Treated statuses) = ok_reply (with_data (statuses_data statuses))
import_reply (ending.MergeRefused d) = merge_refused_reply d

-- `{"data":[..],"slashing_protection":TEXT}`
abbrev pub deletion_data : List KeyStatus → List ℕ → Data
deletion_data statuses text = object (member (codes "data") (statuses_data statuses) (member (codes "slashing_protection") (string text) no_members))

abbrev pub deletion_reply : Deletion → Reply
deletion_reply deletion = ok_reply (deletion_data deletion.statuses (file_text deletion.file))
