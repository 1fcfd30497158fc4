-- The names of a line's members.
use Rattle.std.specs.Prelude.{ℕ, List, codes}
use Rattle.phase0_types.specs.Members.{member_name as shape_name}
use Rattle.phase0_types.specs.declared.fault.ReadFault.{ReadFault}
use Rattle.phase0_types.specs.declared.fault.ReadFault.TheVariants as fault
use Rattle.session_format.specs.declared.member.Member.{Member}
use Rattle.session_format.specs.declared.member.Member.TheVariants as member

abbrev pub member_name : Member → List ℕ
member_name member.Line = codes "line"
member_name member.Op = codes "op"
member_name member.File = codes "file"
member_name member.Keystores = codes "keystores"
member_name member.Passwords = codes "passwords"
member_name member.SlashingProtection = codes "slashing_protection"
member_name member.Pubkey = codes "pubkey"
member_name member.Pubkeys = codes "pubkeys"
member_name member.Slot = codes "slot"
member_name member.SourceEpoch = codes "source_epoch"
member_name member.TargetEpoch = codes "target_epoch"
member_name member.SigningRoot = codes "signing_root"
member_name member.Header = codes "header"
member_name member.BeaconBlock = codes "beacon_block"
member_name member.Version = codes "version"
member_name member.Block = codes "block"
member_name member.Attestation = codes "attestation"
member_name member.Of = codes "of"
member_name member.IsLive = codes "is_live"
member_name (member.Inside m) = shape_name m
member_name member.Epoch = codes "epoch"

-- the member that a container's fault names; the whole where the value itself is no object
abbrev pub inside : Member → ReadFault → Member
inside whole fault.Json = whole
inside whole (fault.Missing m) = member.Inside m
inside whole (fault.BadNumber m) = member.Inside m
inside whole (fault.BadHex m) = member.Inside m
inside whole (fault.TooLong m) = member.Inside m
