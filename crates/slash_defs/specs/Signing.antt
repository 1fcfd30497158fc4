-- What is signed of a message.
use Rattle.edge_kit.specs.declared.bytes.Root.{Root}
use Rattle.slash_defs.specs.declared.message.Message.{Message}
use Rattle.slash_defs.specs.declared.message.Message.TheVariants as message

-- its signing root (consensus-specs, compute_signing_root)
abbrev pub signing_root_of : Message → Root
signing_root_of (message.Block slot root) = root
signing_root_of (message.Vote source target root) = root
