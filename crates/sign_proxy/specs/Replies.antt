-- The replies to a request for a signature that can be read (Web3Signer API, `eth2/sign`).
use Rattle.std.specs.Prelude.{ℕ, List, ◌++◌, Option, Some, None, codes, decimal}
use Rattle.edge_kit.specs.Texts.{hex_text}
use Rattle.edge_kit.specs.declared.bytes.Sig.{Sig}
use Rattle.serde_json.specs.Data.{Data, string, object, member, no_members}
use Rattle.serde_json.specs.Written.{compact_text}
use Rattle.protect_record.specs.declared.verdict.Verdict.{Verdict}
use Rattle.protect_record.specs.declared.verdict.Verdict.TheVariants as verdict
use Rattle.desk_machine.specs.declared.call.DeskReply.{DeskReply}
use Rattle.desk_machine.specs.declared.call.DeskReply.TheVariants as reply
use Rattle.signer_link.specs.declared.reply.SignReply.{SignReply}
use Rattle.signer_link.specs.declared.reply.SignReply.TheVariants as signing
use Rattle.keymanager_routes.specs.Replies.{message_reply}
use Rattle.keymanager_routes.specs.declared.reply.Reply.{Reply}

-- `{"signature":"0x.."}`
abbrev pub signature_data : Sig → Data
signature_data signature = object (member (codes "signature") (string (hex_text signature.0)) no_members)

abbrev pub signature_reply : Sig → Reply
signature_reply signature = record { status = 200; body = compact_text (signature_data signature) }

-- why a key's past forbids a message, in a word; a message that passes is granted
abbrev pub verdict_word : Verdict → Option (List ℕ)
verdict_word verdict.Pass = None
verdict_word (verdict.SlotBelow floor) = Some (codes "slot_below")
verdict_word (verdict.DoubleBlock kept) = Some (codes "double_block")
verdict_word (verdict.SourceBelow floor) = Some (codes "source_below")
verdict_word (verdict.TargetBelow floor) = Some (codes "target_below")
verdict_word (verdict.DoubleVote kept) = Some (codes "double_vote")
verdict_word (verdict.Surrounds kept) = Some (codes "surrounds")
verdict_word (verdict.Surrounded kept) = Some (codes "surrounded")

-- with this status, where there is a word
abbrev pub worded : ℕ → Option (List ℕ) → Option Reply
worded status None = None
worded status (Some word) = Some (message_reply status word)

-- the reply where the desk gave no grant; none where memory ran out (the other replies without a row come to no call for a grant)
abbrev pub desk_reply : DeskReply → Option Reply
desk_reply reply.Unknown = Some (message_reply 404 (codes "unknown"))
desk_reply reply.NotActive = Some (message_reply 404 (codes "not_active"))
desk_reply reply.Closing = Some (message_reply 412 (codes "closing"))
desk_reply (reply.Live epoch) = Some (message_reply 412 (codes "live"))
desk_reply (reply.Watching first second) = Some (message_reply 412 (codes "watching"))
desk_reply (reply.Refused v) = worded 412 (verdict_word v)
desk_reply (reply.Full size wanted) = Some (message_reply 500 (codes "full"))
desk_reply reply.Disk = Some (message_reply 500 (codes "disk"))
desk_reply r = None

-- the reply where the signing service gave no signature; none where it gave one, or memory ran out
abbrev pub signer_reply : SignReply → Option Reply
signer_reply (signing.Signed signature) = None
signer_reply (signing.NoKey status) = Some (message_reply 404 (codes "signer: no_key"))
signer_reply (signing.Denied status) = Some (message_reply 412 (codes "signer: denied " ++ decimal status))
signer_reply signing.Fault = Some (message_reply 502 (codes "signer: fault"))
signer_reply (signing.BadAnswer body) = Some (message_reply 502 (codes "signer: bad_answer"))
signer_reply signing.OutOfMemory = None
