-- The reply to each refusal.
use Rattle.std.specs.Prelude.{ℕ, List, ◌++◌, codes, decimal}
use Rattle.std.specs.Str.Lossy.{utf8_lossy}
use Rattle.interchange_io.specs.declared.fault.ReadFault.{ReadFault}
use Rattle.interchange_io.specs.declared.fault.ReadFault.TheVariants as fault
use Rattle.keymanager_routes.specs.Members.{member_name}
use Rattle.keymanager_routes.specs.Replies.{message_reply}
use Rattle.keymanager_routes.specs.declared.reply.Reply.{Reply}
use Rattle.keymanager_routes.specs.declared.refusal.Refusal.{Refusal}
use Rattle.keymanager_routes.specs.declared.refusal.Refusal.TheVariants as refusal

-- why a text is no interchange file, in a word
abbrev pub fault_word : ReadFault → List ℕ
fault_word (fault.TooLong len) = codes "too_long"
fault_word fault.NotUtf8 = codes "not_utf8"
fault_word fault.Json = codes "json"
fault_word (fault.Missing m) = codes "missing"
fault_word (fault.Version text) = codes "version"
fault_word (fault.BadNumber m) = codes "bad_number"
fault_word (fault.BadHex m) = codes "bad_hex"

-- how many there are of each list
abbrev pub lists_text : ℕ → ℕ → List ℕ
lists_text keystores passwords = codes "lists differ: " ++ decimal keystores ++ codes " keystores, " ++ decimal passwords ++ codes " passwords"

-- the status and the message; in the order in which they are looked for
abbrev pub refusal_reply : Refusal → Reply
refusal_reply refusal.BadHead = message_reply 400 (codes "bad head")
refusal_reply refusal.NoRoute = message_reply 404 (codes "no route")
refusal_reply refusal.NoMethod = message_reply 405 (codes "no method")
refusal_reply refusal.NoToken = message_reply 401 (codes "no token")
refusal_reply refusal.WrongToken = message_reply 403 (codes "wrong token")
refusal_reply (refusal.Encoded value) = message_reply 400 (codes "encoded body: " ++ utf8_lossy value)
refusal_reply refusal.BadBody = message_reply 400 (codes "bad body")
refusal_reply refusal.BodyTooLong = message_reply 413 (codes "body too long")
refusal_reply (refusal.BadMember m) = message_reply 400 (codes "bad member: " ++ member_name m)
refusal_reply (refusal.ListsDiffer keystores passwords) = message_reply 400 (lists_text keystores passwords)
refusal_reply (refusal.BadProtection f) = message_reply 400 (codes "protection refused: " ++ fault_word f)
