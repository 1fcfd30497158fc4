-- What was found of an object is what its members say, those found so far.
use Rattle.std.proofs.Common.{◌≡◌, ℕ, List, sym, ap, ◌∙◌}
use Rattle.serde_json.specs.Data.{Data, Members, put, object}
use Rattle.serde_json.specs.Find.{get_member}
use Rattle.std.specs.Prelude.{Some}
use Rattle.interchange_io.specs.declared.entries.BlockParts.{BlockParts}
use Rattle.interchange_io.specs.declared.entries.VoteParts.{VoteParts}
use Rattle.interchange_io.specs.declared.books.BookParts.{BookParts}
use Rattle.interchange_io.specs.declared.metadata.MetadataParts.{MetadataParts}
use Rattle.interchange_io.specs.declared.reading.FileParts.{FileParts}
use Rattle.interchange_io.specs.declared.member.Member.TheVariants as member
use Rattle.interchange_io.specs.Members.{name_of}
use Rattle.interchange_io.specs.Reading.{signing_root_of, block_in, vote_in, book_in, file_in}
use Rattle.interchange_io.specs.Found.{number_at, root_at, key_at, version_at, blocks_at, votes_at, metadata_at, books_at, block_from, vote_from, book_from, metadata_from, file_from}
use Rattle.interchange_io.specs.Parts.{block_with, vote_with, book_with, metadata_with, file_with}
use Rattle.interchange_io.proofs.KeptLemmas.{kept}

abbrev pub block_says : BlockParts → Members → Type 0
block_says parts found = (parts.slot ≡ number_at member.Slot (get_member (name_of member.Slot) found)) × (parts.root ≡ signing_root_of (get_member (name_of member.SigningRoot) found))

pub block_more : (parts : BlockParts) (name : List ℕ) (found : Members) (d : Data) → block_says parts found → block_says (block_with parts name d) (put name d found)
block_more parts name found d h = (kept (number_at member.Slot) member.Slot name d found parts.slot h.0, kept signing_root_of member.SigningRoot name d found parts.root h.1)

pub block_done : (parts : BlockParts) (found : Members) → block_says parts found → block_in (object found) ≡ block_from parts.slot parts.root
block_done parts found h = ap (λ x. block_from x (signing_root_of (get_member (name_of member.SigningRoot) found))) (sym h.0) ∙ ap (λ x. block_from parts.slot x) (sym h.1)

abbrev pub vote_says : VoteParts → Members → Type 0
vote_says parts found = (parts.source ≡ number_at member.SourceEpoch (get_member (name_of member.SourceEpoch) found)) × (parts.target ≡ number_at member.TargetEpoch (get_member (name_of member.TargetEpoch) found)) × (parts.root ≡ signing_root_of (get_member (name_of member.SigningRoot) found))

pub vote_more : (parts : VoteParts) (name : List ℕ) (found : Members) (d : Data) → vote_says parts found → vote_says (vote_with parts name d) (put name d found)
vote_more parts name found d h = (kept (number_at member.SourceEpoch) member.SourceEpoch name d found parts.source h.0, kept (number_at member.TargetEpoch) member.TargetEpoch name d found parts.target h.1, kept signing_root_of member.SigningRoot name d found parts.root h.2)

pub vote_done : (parts : VoteParts) (found : Members) → vote_says parts found → vote_in (object found) ≡ vote_from parts.source parts.target parts.root
vote_done parts found h = ap (λ x. vote_from x (number_at member.TargetEpoch (get_member (name_of member.TargetEpoch) found)) (signing_root_of (get_member (name_of member.SigningRoot) found))) (sym h.0) ∙ ap (λ x. vote_from parts.source x (signing_root_of (get_member (name_of member.SigningRoot) found))) (sym h.1) ∙ ap (λ x. vote_from parts.source parts.target x) (sym h.2)

abbrev pub book_says : BookParts → Members → Type 0
book_says parts found = (parts.key ≡ key_at (get_member (name_of member.Pubkey) found)) × (parts.blocks ≡ blocks_at (get_member (name_of member.SignedBlocks) found)) × (parts.votes ≡ votes_at (get_member (name_of member.SignedAttestations) found))

pub book_more : (parts : BookParts) (name : List ℕ) (found : Members) (d : Data) → book_says parts found → book_says (book_with parts name d) (put name d found)
book_more parts name found d h = (kept key_at member.Pubkey name d found parts.key h.0, kept blocks_at member.SignedBlocks name d found parts.blocks h.1, kept votes_at member.SignedAttestations name d found parts.votes h.2)

pub book_done : (parts : BookParts) (found : Members) → book_says parts found → book_in (object found) ≡ book_from parts.key parts.blocks parts.votes
book_done parts found h = ap (λ x. book_from x (blocks_at (get_member (name_of member.SignedBlocks) found)) (votes_at (get_member (name_of member.SignedAttestations) found))) (sym h.0) ∙ ap (λ x. book_from parts.key x (votes_at (get_member (name_of member.SignedAttestations) found))) (sym h.1) ∙ ap (λ x. book_from parts.key parts.blocks x) (sym h.2)

abbrev pub metadata_says : MetadataParts → Members → Type 0
metadata_says parts found = (parts.version ≡ version_at (get_member (name_of member.InterchangeFormatVersion) found)) × (parts.genesis ≡ root_at member.GenesisValidatorsRoot (get_member (name_of member.GenesisValidatorsRoot) found))

pub metadata_more : (parts : MetadataParts) (name : List ℕ) (found : Members) (d : Data) → metadata_says parts found → metadata_says (metadata_with parts name d) (put name d found)
metadata_more parts name found d h = (kept version_at member.InterchangeFormatVersion name d found parts.version h.0, kept (root_at member.GenesisValidatorsRoot) member.GenesisValidatorsRoot name d found parts.genesis h.1)

pub metadata_done : (parts : MetadataParts) (found : Members) → metadata_says parts found → metadata_at (Some (object found)) ≡ metadata_from parts.version parts.genesis
metadata_done parts found h = ap (λ x. metadata_from x (root_at member.GenesisValidatorsRoot (get_member (name_of member.GenesisValidatorsRoot) found))) (sym h.0) ∙ ap (λ x. metadata_from parts.version x) (sym h.1)

abbrev pub file_says : FileParts → Members → Type 0
file_says parts found = (parts.metadata ≡ metadata_at (get_member (name_of member.Metadata) found)) × (parts.books ≡ books_at (get_member (name_of member.Data) found))

pub file_more : (parts : FileParts) (name : List ℕ) (found : Members) (d : Data) → file_says parts found → file_says (file_with parts name d) (put name d found)
file_more parts name found d h = (kept metadata_at member.Metadata name d found parts.metadata h.0, kept books_at member.Data name d found parts.books h.1)

pub file_done : (parts : FileParts) (found : Members) → file_says parts found → file_in (object found) ≡ file_from parts.metadata parts.books
file_done parts found h = ap (λ x. file_from x (books_at (get_member (name_of member.Data) found))) (sym h.0) ∙ ap (λ x. file_from parts.metadata x) (sym h.1)
