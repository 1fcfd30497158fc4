-- The message of a key: why it failed.
use Rattle.std.specs.Prelude.{ℕ, List, [], ◌++◌, take, codes}
use Rattle.std.specs.Str.{chars, encode_utf8_all}
use Rattle.std.specs.Str.Lossy.{utf8_valid_len}
use Rattle.key_custody.specs.declared.status.Reason.{Reason}
use Rattle.key_custody.specs.declared.status.Reason.TheVariants as reason
use Rattle.key_custody.specs.declared.status.KeyStatus.{KeyStatus}
use Rattle.key_custody.specs.declared.status.KeyStatus.TheVariants as status
use Rattle.custody_format.specs.Words.{reason_word}

-- the longest front of the bytes that is UTF-8
abbrev pub text_front : List ℕ → List ℕ
text_front bytes = take (utf8_valid_len bytes) bytes

-- the first n characters (Unicode scalar values) of a text
abbrev pub first_characters : ℕ → List ℕ → List ℕ
first_characters n text = encode_utf8_all (take n (chars text))

-- what is shown of a text of the service that signs
abbrev pub signer_text : List ℕ → List ℕ
signer_text bytes = codes "signer: " ++ first_characters 200 (text_front bytes)

abbrev pub reason_text : Reason → List ℕ
reason_text reason.BadKeystore = codes "bad keystore"
reason_text reason.SignerFault = codes "signer: fault"
reason_text (reason.SignerBadAnswer body) = codes "signer: bad answer"
reason_text (reason.SignerRefused text) = signer_text text
reason_text (reason.Desk refusal) = reason_word refusal

-- empty where the key did not fail
abbrev pub message_text : KeyStatus → List ℕ
message_text status.Imported = []
message_text status.Duplicate = []
message_text status.Deleted = []
message_text status.NotActive = []
message_text status.NotFound = []
message_text (status.Error reason) = reason_text reason
