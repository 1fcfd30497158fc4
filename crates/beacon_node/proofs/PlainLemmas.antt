-- No body holds a float.
use Rattle.std.proofs.Common.{◌≡◌, ℕ, false, List, refl}
use Rattle.std.specs.Prelude.{decimal}
use Rattle.serde_json.specs.Data.{string}
use Rattle.serde_json.specs.Written.{has_float, items_have_float}
use Rattle.phase0_types.specs.Writing.{write}
use Rattle.phase0_types.specs.Containers.{attestation, signed}
use Rattle.phase0_blocks.specs.Signed.{signed_value}
use Rattle.phase0_blocks.specs.Votes.{attestation_value}
use Rattle.altair_blocks.specs.AnyBlocks.{block_shape, block_value, write_signed}
use Rattle.duty_types.specs.Containers.{aggregate_and_proof}
use Rattle.duty_types.specs.Values.{aggregate_and_proof_value}
use Rattle.block_copies.proofs.PlainLemmas.{items_plain, neither, write_plain}
use Rattle.node_calls.specs.declared.post.Post.{Post}
use Rattle.node_calls.specs.declared.post.Post.TheVariants as post
use Rattle.beacon_node.specs.Requests.{number_items, post_data}

pub numbers_plain : (ns : List ℕ) → items_have_float (number_items ns) ≡ false
numbers_plain ns = items_plain (λ n. string (decimal n)) ns (λ n. refl)

pub post_plain : (given : Post) → has_float (post_data given) ≡ false
unfolding write_signed signed
post_plain (post.Vote vote) = neither (has_float (write attestation (attestation_value vote))) false (write_plain attestation (attestation_value vote)) refl
post_plain (post.Block given) = write_plain (signed (block_shape (block_value given.message).0)) ((block_value given.message).1, (given.signature.0, tt))
post_plain (post.Aggregate given) =
    neither (has_float (write (signed aggregate_and_proof) (signed_value aggregate_and_proof aggregate_and_proof_value given))) false (write_plain (signed aggregate_and_proof) (signed_value aggregate_and_proof aggregate_and_proof_value given)) refl
