-- Replies, and their bytes.
use Rattle.std.specs.Prelude.{ℕ, List, ◌++◌, length, codes}
use Rattle.serde_json.specs.Data.{Data, string, object, member, no_members}
use Rattle.serde_json.specs.Written.{compact_text}
use Rattle.http_wire.specs.Spellings.{status_line, response_fields}
use Rattle.keymanager_routes.specs.declared.reply.Reply.{Reply}

-- `{"message":TEXT}`
abbrev pub message_data : List ℕ → Data
message_data text = object (member (codes "message") (string text) no_members)

abbrev pub message_reply : ℕ → List ℕ → Reply
message_reply status text = record { status = status; body = compact_text (message_data text) }

-- the bytes of a reply: the status line, Content-Type, Content-Length and Connection, an empty line, and the body
abbrev pub reply_text : Reply → List ℕ
reply_text r = status_line r.status ++ response_fields (length r.body) ++ r.body
