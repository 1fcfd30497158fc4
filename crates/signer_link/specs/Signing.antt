-- What the signing service is asked, and what it tells.
use Rattle.std.specs.Prelude.{ℕ, List, [], ◌∷◌, Bool, true, false, Option, Some, None, if◌then◌else◌}
use Rattle.edge_kit.specs.declared.bytes.PubKey.{PubKey}
use Rattle.slash_defs.specs.declared.message.Message.{Message}
use Rattle.signer_link.specs.declared.request.SignObject.{SignObject}
use Rattle.signer_link.specs.declared.request.SignObject.TheVariants as made_of
use Rattle.signer_link.specs.declared.request.SignRequest.{SignRequest}
use Rattle.signer_link.specs.declared.request.SignCall.{SignCall}
use Rattle.signer_link.specs.declared.request.PlainRequest.{PlainRequest}
use Rattle.signer_link.specs.declared.request.PlainCall.{PlainCall}
use Rattle.signer_link.specs.declared.request.ImportCall.{ImportCall}
use Rattle.signer_link.specs.declared.reply.SignReply.{SignReply}
use Rattle.signer_link.specs.declared.reply.ImportReply.{ImportReply}
use Rattle.signer_link.specs.declared.reply.DeleteReply.{DeleteReply}
use Rattle.signer_link.specs.Outcomes.{sign_given, import_given, delete_given}
use Rattle.signer_link.specs.declared.reply.Told.{Told}
use Rattle.signer_link.specs.declared.reply.Told.TheVariants as told

-- a whole block: the one object whose copy takes memory
abbrev pub is_block : SignObject → Bool
is_block (made_of.Header version header) = false
is_block (made_of.Block block) = true
is_block (made_of.Attestation details) = false

-- a message was made of one
abbrev pub has_block : Option SignObject → Bool
has_block None = false
has_block (Some object) = is_block object

-- to sign the message's root by the key
abbrev pub asked : PubKey → Message → SignRequest → SignCall
asked key message request = record { key = key; message = message; request = request }

-- to sign what is no block and no vote by the key
abbrev pub plainly_asked : PubKey → PlainRequest → PlainCall
plainly_asked key request = record { key = key; request = request }

-- to take the key in
abbrev pub imported : PubKey → List ℕ → List ℕ → ImportCall
imported key keystore password = record { key = key; keystore = keystore; password = password }

-- a call with its answer; where memory ran out nothing is told
abbrev pub told_sign : SignCall → SignReply → List Told
told_sign call r = if sign_given r then told.Sign call r ∷ [] else []

abbrev pub told_plain : PlainCall → SignReply → List Told
told_plain call r = if sign_given r then told.Plain call r ∷ [] else []

abbrev pub told_import : ImportCall → ImportReply → List Told
told_import call r = if import_given r then told.Import call r ∷ [] else []

abbrev pub told_delete : PubKey → DeleteReply → List Told
told_delete key r = if delete_given r then told.Delete key r ∷ [] else []
