-- The block that is posted.
use Rattle.std.specs.Prelude.{◌≡◌}
use Rattle.altair_blocks.specs.declared.any_block.AnyBlock.{AnyBlock}
use Rattle.node_calls.specs.declared.post.Post.{Post}
use Rattle.node_calls.specs.declared.post.Post.TheVariants as post

abbrev pub HasBlock : Post → AnyBlock → Type 0
HasBlock (post.Block signed) block = signed.message ≡ block
HasBlock (post.Vote vote) block = ⊥
HasBlock (post.Aggregate aggregate) block = ⊥
