-- The members of a request's body.
use Rattle.std.specs.Prelude.{ℕ, List, codes}
use Rattle.keymanager_routes.specs.declared.member.Member.{Member}
use Rattle.keymanager_routes.specs.declared.member.Member.TheVariants as member

-- the name of a member; `body` is that of the whole
abbrev pub member_name : Member → List ℕ
member_name member.Body = codes "body"
member_name member.Keystores = codes "keystores"
member_name member.Passwords = codes "passwords"
member_name member.SlashingProtection = codes "slashing_protection"
member_name member.Pubkeys = codes "pubkeys"
