-- What a desk replies, and a grant of it that is held.
use Rattle.std.specs.Prelude.{◌<◌, Contains}
use Rattle.check_sign.specs.Contents.{Contents}
use Rattle.desk_machine.specs.declared.open_grant.OpenGrant.{OpenGrant}
use Rattle.desk_machine.specs.declared.call.DeskReply.{DeskReply}
use Rattle.desk_machine.specs.declared.call.DeskReply.TheVariants as reply

-- there is nothing to settle
abbrev pub IsNoGrant : DeskReply → Type 0
IsNoGrant (reply.Granted grant) = ⊥
IsNoGrant r = Unit {0}

-- the grant is open at the desk, which gave it before any that it still gives
abbrev pub IsHeld : Contents → OpenGrant → Type 0
IsHeld desk grant = Contains desk.grants grant × (grant.number < desk.next)
