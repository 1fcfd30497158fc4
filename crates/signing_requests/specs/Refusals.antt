-- The reply to each refusal.
use Rattle.std.specs.Prelude.{◌++◌, codes}
use Rattle.keymanager_routes.specs.Replies.{message_reply}
use Rattle.keymanager_routes.specs.declared.reply.Reply.{Reply}
use Rattle.signing_requests.specs.Members.{member_name}
use Rattle.signing_requests.specs.declared.refusal.SigningRefusal.{SigningRefusal}
use Rattle.signing_requests.specs.declared.refusal.SigningRefusal.TheVariants as refusal

abbrev pub refusal_reply : SigningRefusal → Reply
refusal_reply (refusal.BadMember m) = message_reply 400 (codes "bad member: " ++ member_name m)
refusal_reply refusal.GenesisDiffers = message_reply 400 (codes "genesis differs")
refusal_reply refusal.SigningRootDiffers = message_reply 400 (codes "signing root differs")
refusal_reply refusal.UnknownNetwork = message_reply 400 (codes "unknown network")
