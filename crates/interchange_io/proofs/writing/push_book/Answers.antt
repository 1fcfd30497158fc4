use Rattle.std.proofs.Common.{◌++◌, ◌∙◌, ap, append_assoc, codes, map, string_bytes}
use Rattle.serde_json.specs.Data.{array}
use Rattle.serde_json.specs.View.{items_of}
use Rattle.serde_json.specs.Written.{compact_text}
use Rattle.interchange_io.specs.Writing.{block_data, vote_data}
use Rattle.interchange_io.proofs.ResultLemmas.{OnOk-map}
use Rattle.interchange_io.proofs.SpellingLemmas.{pieces4, book_text}
use Rattle.interchange_io.proofs.writing.push_book.Goals as goal

pub returns-clause-text : goal.returns-clause-text
returns-clause-text c =
    let out = string_bytes c.args.out.now in
    let votes = c.in_ok-push_votes.ensures.text ∙ ap (λ keys. string_bytes c.push_hex_member.new.out ++ codes ",\"signed_attestations\":" ++ compact_text (array (items_of (map vote_data keys)))) c.votes.ensures ∙ append_assoc (string_bytes c.push_hex_member.new.out) (codes ",\"signed_attestations\":") (compact_text (array (items_of (map vote_data c.args.book.now.votes)))) in
    let blocks = c.in_ok-push_blocks.ensures.text ∙ ap (λ keys. string_bytes c.push_votes.new.out ++ codes ",\"signed_blocks\":" ++ compact_text (array (items_of (map block_data keys)))) c.blocks-2.ensures ∙ append_assoc (string_bytes c.push_votes.new.out) (codes ",\"signed_blocks\":") (compact_text (array (items_of (map block_data c.args.book.now.blocks)))) in
    OnOk-map c.push_text.result
    (λ last. pieces4 out _ _ _ _ _ _ c.in_ok-push_hex_member.ensures.text votes blocks _ _ last ∙ ap (λ t. out ++ t) (book_text c.args.key.now c.args.book.now)) c.push_text.ensures
