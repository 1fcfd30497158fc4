-- What an answer says of the service: whether it is one, whether the service failed, and whether it refused.
use Rattle.std.specs.Prelude.{◌≡◌, ℕ, Bool, true, false}
use Rattle.edge_kit.specs.Causes.{Rose}
use Rattle.signer_link.specs.declared.reply.SignReply.{SignReply}
use Rattle.signer_link.specs.declared.reply.SignReply.TheVariants as reply
use Rattle.signer_link.specs.declared.reply.ImportReply.{ImportReply}
use Rattle.signer_link.specs.declared.reply.ImportReply.TheVariants as importing
use Rattle.signer_link.specs.declared.reply.DeleteReply.{DeleteReply}
use Rattle.signer_link.specs.declared.reply.DeleteReply.TheVariants as deleting

-- memory did not run out
abbrev pub sign_given : SignReply → Bool
sign_given reply.OutOfMemory = false
sign_given _ = true

abbrev pub import_given : ImportReply → Bool
import_given importing.OutOfMemory = false
import_given _ = true

abbrev pub delete_given : DeleteReply → Bool
delete_given deleting.OutOfMemory = false
delete_given _ = true

-- the service failed
abbrev pub sign_failed : SignReply → Bool
sign_failed reply.Fault = true
sign_failed _ = false

abbrev pub import_failed : ImportReply → Bool
import_failed importing.Fault = true
import_failed _ = false

abbrev pub delete_failed : DeleteReply → Bool
delete_failed deleting.Fault = true
delete_failed _ = false

-- the service refused
abbrev pub sign_denied : SignReply → Bool
sign_denied (reply.Denied status) = true
sign_denied _ = false

abbrev pub import_denied : ImportReply → Bool
import_denied (importing.Refused text) = true
import_denied _ = false

abbrev pub delete_denied : DeleteReply → Bool
delete_denied (deleting.Refused text) = true
delete_denied _ = false

-- the count of denials rose where the service refused, and else it stands
abbrev pub CountsDenial : Bool → ℕ → ℕ → Type 0
CountsDenial true before now = Rose before now
CountsDenial false before now = now ≡ before
