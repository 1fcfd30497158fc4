-- What was found of an object so far, with one more of its members.
use Rattle.std.specs.Prelude.{◌≡◌, ℕ, List, [], Option, Some, None, Result, Ok, Err, if◌then◌else◌}
use Rattle.std.specs.Str.{bytes_eq}
use Rattle.json.specs.Token.{Token}
use Rattle.serde_json.specs.Data.{Data}
use Rattle.json_walk.specs.Walk.{ReadsAs}
use Rattle.interchange_io.specs.declared.halt.Halt.{Halt}
use Rattle.interchange_io.specs.Halts.{Halts}
use Rattle.interchange_io.specs.declared.entries.BlockParts.{BlockParts}
use Rattle.interchange_io.specs.declared.entries.VoteParts.{VoteParts}
use Rattle.interchange_io.specs.declared.books.BookParts.{BookParts}
use Rattle.interchange_io.specs.declared.metadata.MetadataParts.{MetadataParts}
use Rattle.interchange_io.specs.declared.reading.FileParts.{FileParts}
use Rattle.interchange_io.specs.declared.member.Member.{Member}
use Rattle.interchange_io.specs.declared.member.Member.TheVariants as member
use Rattle.interchange_io.specs.Members.{name_of}
use Rattle.interchange_io.specs.Reading.{signing_root_of}
use Rattle.interchange_io.specs.declared.fault.ReadFault.TheVariants as fault
use Rattle.interchange_io.specs.Found.{number_at, root_at, key_at, version_at, blocks_at, votes_at, metadata_at, books_at}

-- r is what f gives of what was read, and new is what follows it; an error says that nothing can be read
abbrev pub Puts : {A R E : Type 0} → Result (Unit {0}) E → R → (A → R) → Option (A × List Token) → List Token → Type 0
Puts (Ok done) r f reading new = ReadsAs r f reading new
Puts (Err e) r f reading new = reading ≡ None

-- the same, where reading may also stop for want of memory
abbrev pub PutsOrHalts : {A R : Type 0} → Result (Unit {0}) Halt → R → (A → R) → Option (A × List Token) → List Token → Type 0
PutsOrHalts (Ok done) r f reading new = ReadsAs r f reading new
PutsOrHalts (Err e) r f reading new = Halts e (reading ≡ None)

-- what the member says, where it has the name, and else what was found before
abbrev pub where_named : {R : Type 0} → Member → (Option Data → R) → List ℕ → Data → R → R
where_named m says name d before = if bytes_eq name (name_of m) then says (Some d) else before

abbrev pub block_with : BlockParts → List ℕ → Data → BlockParts
block_with parts name d = record {
  slot = where_named member.Slot (number_at member.Slot) name d parts.slot;
  root = where_named member.SigningRoot signing_root_of name d parts.root;
}

abbrev pub vote_with : VoteParts → List ℕ → Data → VoteParts
vote_with parts name d = record {
  source = where_named member.SourceEpoch (number_at member.SourceEpoch) name d parts.source;
  target = where_named member.TargetEpoch (number_at member.TargetEpoch) name d parts.target;
  root = where_named member.SigningRoot signing_root_of name d parts.root;
}

-- no key, and nothing listed
abbrev pub no_book : BookParts
no_book = record { key = Err (fault.Missing member.Pubkey); blocks = Ok []; votes = Ok [] }

abbrev pub book_with : BookParts → List ℕ → Data → BookParts
book_with parts name d = record {
  key = where_named member.Pubkey key_at name d parts.key;
  blocks = where_named member.SignedBlocks blocks_at name d parts.blocks;
  votes = where_named member.SignedAttestations votes_at name d parts.votes;
}

abbrev pub metadata_with : MetadataParts → List ℕ → Data → MetadataParts
metadata_with parts name d = record {
  version = where_named member.InterchangeFormatVersion version_at name d parts.version;
  genesis = where_named member.GenesisValidatorsRoot (root_at member.GenesisValidatorsRoot) name d parts.genesis;
}

abbrev pub file_with : FileParts → List ℕ → Data → FileParts
file_with parts name d = record {
  metadata = where_named member.Metadata metadata_at name d parts.metadata;
  books = where_named member.Data books_at name d parts.books;
}
