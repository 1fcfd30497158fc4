-- The pieces that are written one after another are the text of the value.
use Rattle.std.proofs.Common.{◌≡◌, ℕ, Option, Some, None, List, ◌++◌, codes, decimal, map, refl, ap, ◌∙◌, append_assoc}
use Rattle.json.specs.Print.{escape_byte}
use Rattle.serde_json.specs.Data.{string, array}
use Rattle.serde_json.specs.View.{items_of}
use Rattle.serde_json.specs.Written.{compact_text}
use Rattle.edge_kit.specs.declared.bytes.PubKey.{PubKey}
use Rattle.edge_kit.specs.declared.bytes.Root.{Root}
use Rattle.slash_defs.specs.declared.entry.BlockEntry.{BlockEntry}
use Rattle.slash_defs.specs.declared.entry.VoteEntry.{VoteEntry}
use Rattle.slash_defs.specs.declared.book.Book.{Book}
use Rattle.slash_defs.specs.declared.book.File.{File}
use Rattle.edge_kit.specs.Texts.{hex_text}
use Rattle.interchange_io.specs.Writing.{opening_text, block_data, vote_data, book_data, metadata_data, file_data}

abbrev Bytes : Type 0
Bytes = List ℕ

abbrev number_text : ℕ → Bytes
number_text n = compact_text (string (decimal n))

abbrev root_text : Root → Bytes
root_text root = compact_text (string (hex_text root.0))

-- ---- pieces

pub pieces2 : (o x1 x2 a b : Bytes) → x1 ≡ o ++ a → x2 ≡ x1 ++ b → x2 ≡ o ++ (a ++ b)
pieces2 o x1 x2 a b first second = second ∙ ap (λ t. t ++ b) first ∙ append_assoc o a b

module _ (o x1 x2 x3 a b c : Bytes) (first : x1 ≡ o ++ a) (second : x2 ≡ x1 ++ b) (third : x3 ≡ x2 ++ c) where
  joined3 : x3 ≡ ((o ++ a) ++ b) ++ c
  joined3 = third ∙ ap (λ t. t ++ c) (second ∙ ap (λ t. t ++ b) first)

  pub pieces3 : x3 ≡ o ++ (a ++ (b ++ c))
  pieces3 = joined3 ∙ simp append_assoc

  pub pieces4 : (x4 d : Bytes) → x4 ≡ x3 ++ d → x4 ≡ o ++ (a ++ (b ++ (c ++ d)))
  pieces4 x4 d fourth = fourth ∙ ap (λ t. t ++ d) joined3 ∙ simp append_assoc

  pub pieces5 : (x4 x5 d e : Bytes) → x4 ≡ x3 ++ d → x5 ≡ x4 ++ e → x5 ≡ o ++ (a ++ (b ++ (c ++ (d ++ e))))
  pieces5 x4 x5 d e fourth fifth = fifth ∙ ap (λ t. t ++ e) (fourth ∙ ap (λ t. t ++ d) joined3) ∙ simp append_assoc

-- ---- texts

opened : (root : Root) (tail : Bytes) → opening_text (Some root) ++ tail ≡ codes "{\"signing_root\":" ++ (root_text root ++ (codes "," ++ tail))
opened root tail = ap (λ t. codes "{\"signing_root\":" ++ t) (append_assoc (root_text root) (codes ",") tail)

block_text-by : (root : Option Root) (slot : ℕ)
    → opening_text root ++ ((codes "\"slot\":" ++ number_text slot) ++ codes "}") ≡ compact_text (block_data (record { slot = slot; root = root }))
unfolding escape_byte
block_text-by None slot = refl
block_text-by (Some root) slot = opened root _

pub block_text : (block : BlockEntry) → opening_text block.root ++ ((codes "\"slot\":" ++ number_text block.slot) ++ codes "}") ≡ compact_text (block_data block)
block_text block = block_text-by block.root block.slot

vote_text-by : (root : Option Root) (source target : ℕ)
    → opening_text root ++ ((codes "\"source_epoch\":" ++ number_text source) ++ ((codes ",\"target_epoch\":" ++ number_text target) ++ codes "}"))
    ≡ compact_text (vote_data (record { target = target; source = source; root = root }))
unfolding escape_byte
vote_text-by None source target = refl
vote_text-by (Some root) source target = opened root _

pub vote_text : (vote : VoteEntry)
    → opening_text vote.root ++ ((codes "\"source_epoch\":" ++ number_text vote.source) ++ ((codes ",\"target_epoch\":" ++ number_text vote.target) ++ codes "}")) ≡ compact_text (vote_data vote)
vote_text vote = vote_text-by vote.root vote.source vote.target

pub book_text : (key : PubKey) (book : Book)
    → (codes "{\"pubkey\":" ++ compact_text (string (hex_text key.0))) ++ ((codes ",\"signed_attestations\":" ++ compact_text (array (items_of (map vote_data book.votes))))
    ++ ((codes ",\"signed_blocks\":" ++ compact_text (array (items_of (map block_data book.blocks)))) ++ codes "}"))
    ≡ compact_text (book_data (key, book))
unfolding escape_byte
book_text key book = refl

pub metadata_text : (genesis : Root) → (codes "{\"genesis_validators_root\":" ++ root_text genesis) ++ codes ",\"interchange_format_version\":\"5\"}" ≡ compact_text (metadata_data genesis)
unfolding escape_byte
metadata_text genesis = refl

pub file_pieces : (file : File)
    → codes "{\"data\":" ++ (compact_text (array (items_of (map book_data file.books))) ++ (codes ",\"metadata\":" ++ (compact_text (metadata_data file.genesis) ++ codes "}"))) ≡ compact_text (file_data file)
unfolding escape_byte
file_pieces file = refl
