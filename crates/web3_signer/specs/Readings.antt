-- What a response of Web3Signer means (Web3Signer API, `eth2/sign`; Keymanager API, `keystores`).
use Rattle.std.specs.Prelude.{ℕ, ◌==◌, ◌||◌, ◌++◌, Bool, List, [], ◌∷◌, reverse, Option, Some, None, option_map, option_and_then, unwrap_or, if◌then◌else◌, Result, Ok, Err, codes, decimal, string_bytes}
use Rattle.std.specs.Str.{is_utf8, bytes_eq}
use Rattle.edge_kit.specs.Texts.{hex_bytes}
use Rattle.edge_kit.specs.declared.bytes.Sig.{Sig}
use Rattle.serde_json.specs.Data.{Data, Items, item, no_items}
use Rattle.serde_json.specs.Find.{get, as_str, as_array}
use Rattle.serde_json.specs.Read.{read}
use Rattle.http_wire.specs.declared.message.Response.{Response}
use Rattle.http_wire.specs.declared.message.WireFault.{WireFault}
use Rattle.http_wire.specs.declared.message.WireFault.TheVariants as fault
use Rattle.web3_signer.specs.declared.replies.KeyStatus.{KeyStatus}
use Rattle.signer_link.specs.declared.reply.SignReply.{SignReply}
use Rattle.signer_link.specs.declared.reply.SignReply.TheVariants as reply
use Rattle.signer_link.specs.declared.reply.ImportReply.{ImportReply}
use Rattle.signer_link.specs.declared.reply.ImportReply.TheVariants as importing
use Rattle.signer_link.specs.declared.reply.DeleteReply.{DeleteReply}
use Rattle.signer_link.specs.declared.reply.DeleteReply.TheVariants as deleting

-- ---- texts

-- space, line feed or carriage return
abbrev pub is_blank : ℕ → Bool
is_blank byte = byte == 32 || byte == 10 || byte == 13

-- the bytes without the blanks at their front
abbrev pub trim_front : List ℕ → List ℕ
trim_front [] = []
trim_front (byte ∷ bytes) = if is_blank byte then trim_front bytes else byte ∷ bytes

-- and without those at both ends
abbrev pub trim : List ℕ → List ℕ
trim bytes = reverse (trim_front (reverse (trim_front bytes)))

-- the JSON that the bytes are
unfoldable pub data_of : List ℕ → Option Data
data_of bytes = if is_utf8 bytes then read bytes else None

-- the text of a member
abbrev pub text_at : List ℕ → Data → Option (List ℕ)
text_at name d = option_and_then as_str (get name d)

-- ---- signatures

-- 96 bytes as `0x` hex, with blanks around them
abbrev pub signature_in : List ℕ → Option Sig
signature_in text = option_map (λ bytes. record { 0 = bytes }) (hex_bytes 96 (trim text))

-- that of the member `signature` of a JSON object
abbrev pub member_signature : Data → Option Sig
member_signature d = option_and_then signature_in (text_at (codes "signature") d)

-- the first, or else this one
abbrev pub first_of_two : {T : Type 0} → Option T → Option T → Option T
first_of_two (Some x) other = Some x
first_of_two None other = other

-- the signature that a body says: it is its text, or the member of its object
abbrev pub signature_of : List ℕ → Option Sig
signature_of body = first_of_two (signature_in body) (option_and_then member_signature (data_of body))

-- the answer of status 200
abbrev pub signed_or_bad : List ℕ → Option Sig → SignReply
signed_or_bad body None = reply.BadAnswer body
signed_or_bad body (Some signature) = reply.Signed signature

-- the answer of a status and a body
abbrev pub sign_answer : ℕ → List ℕ → SignReply
sign_answer status body =
    if status == 200 then signed_or_bad body (signature_of body)
    else (if status == 404 then reply.NoKey (Some 404) else reply.Denied status)

-- and of a response, or of why there is none
abbrev pub sign_reading : Result Response WireFault → SignReply
sign_reading (Ok response) = sign_answer response.status response.body.items
sign_reading (Err fault.BadHead) = reply.BadAnswer []
sign_reading (Err fault.BadBody) = reply.BadAnswer []
sign_reading (Err (fault.TooLong limit)) = reply.BadAnswer []
sign_reading (Err (fault.Encoded value)) = reply.BadAnswer []
sign_reading (Err fault.Link) = reply.Fault
sign_reading (Err fault.OutOfMemory) = reply.OutOfMemory

-- ---- keystores

-- the one item of a list of one
abbrev pub only_item : Items → Option Data
only_item no_items = None
only_item (item d no_items) = Some d
only_item (item d (item e others)) = None

-- the status of the one key, and the message next to it, which is empty where there is no such text
abbrev pub key_status : Data → Option (List ℕ × List ℕ)
key_status d = option_map (λ status. (status, unwrap_or (text_at (codes "message") d) [])) (text_at (codes "status") d)

-- the one item of the list `data` of an object
abbrev pub only_of : Data → Option Data
only_of d = option_and_then only_item (option_and_then as_array (get (codes "data") d))

abbrev pub listed_status : Data → Option (List ℕ × List ℕ)
listed_status d = option_and_then key_status (only_of d)

-- such a status and message, without where they lie in memory
abbrev pub status_pair : KeyStatus → List ℕ × List ℕ
status_pair key = (string_bytes key.status, key.message)

abbrev pub status_of : List ℕ → Option (List ℕ × List ℕ)
status_of body = option_and_then listed_status (data_of body)

-- what is told of a status other than 200
abbrev pub status_text : ℕ → List ℕ
status_text status = codes "status " ++ decimal status

-- the answer of status 200, where a key is to be taken in
abbrev pub import_status : List ℕ → Option (List ℕ × List ℕ) → ImportReply
import_status body None = importing.BadAnswer body
import_status body (Some s) =
    if bytes_eq s.0 (codes "imported") then importing.Imported
    else (if bytes_eq s.0 (codes "duplicate") then importing.Duplicate
    else (if bytes_eq s.0 (codes "error") then importing.Refused s.1 else importing.BadAnswer body))

abbrev pub import_answer : ℕ → List ℕ → ImportReply
import_answer status body =
    if status == 200 then import_status body (status_of body) else importing.Refused (status_text status)

abbrev pub import_reading : Result Response WireFault → ImportReply
import_reading (Ok response) = import_answer response.status response.body.items
import_reading (Err fault.BadHead) = importing.BadAnswer []
import_reading (Err fault.BadBody) = importing.BadAnswer []
import_reading (Err (fault.TooLong limit)) = importing.BadAnswer []
import_reading (Err (fault.Encoded value)) = importing.BadAnswer []
import_reading (Err fault.Link) = importing.Fault
import_reading (Err fault.OutOfMemory) = importing.OutOfMemory

-- and where one is to be given up
abbrev pub delete_status : List ℕ → Option (List ℕ × List ℕ) → DeleteReply
delete_status body None = deleting.BadAnswer body
delete_status body (Some s) =
    if bytes_eq s.0 (codes "deleted") then deleting.Deleted
    else (if bytes_eq s.0 (codes "not_active") then deleting.NotActive
    else (if bytes_eq s.0 (codes "not_found") then deleting.NotFound
    else (if bytes_eq s.0 (codes "error") then deleting.Refused s.1 else deleting.BadAnswer body)))

abbrev pub delete_answer : ℕ → List ℕ → DeleteReply
delete_answer status body =
    if status == 200 then delete_status body (status_of body) else deleting.Refused (status_text status)

abbrev pub delete_reading : Result Response WireFault → DeleteReply
delete_reading (Ok response) = delete_answer response.status response.body.items
delete_reading (Err fault.BadHead) = deleting.BadAnswer []
delete_reading (Err fault.BadBody) = deleting.BadAnswer []
delete_reading (Err (fault.TooLong limit)) = deleting.BadAnswer []
delete_reading (Err (fault.Encoded value)) = deleting.BadAnswer []
delete_reading (Err fault.Link) = deleting.Fault
delete_reading (Err fault.OutOfMemory) = deleting.OutOfMemory
