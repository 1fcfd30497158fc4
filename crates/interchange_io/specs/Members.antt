-- The names of an interchange file's members (EIP-3076, JSON schema).
use Rattle.std.specs.Prelude.{ℕ, List, codes}
use Rattle.interchange_io.specs.declared.member.Member.{Member}
use Rattle.interchange_io.specs.declared.member.Member.TheVariants as member

-- the name in the file, and a word for the whole
abbrev pub name_of : Member → List ℕ
name_of member.File = codes "file"
name_of member.Metadata = codes "metadata"
name_of member.InterchangeFormatVersion = codes "interchange_format_version"
name_of member.GenesisValidatorsRoot = codes "genesis_validators_root"
name_of member.Data = codes "data"
name_of member.Pubkey = codes "pubkey"
name_of member.SignedBlocks = codes "signed_blocks"
name_of member.Slot = codes "slot"
name_of member.SigningRoot = codes "signing_root"
name_of member.SignedAttestations = codes "signed_attestations"
name_of member.SourceEpoch = codes "source_epoch"
name_of member.TargetEpoch = codes "target_epoch"
