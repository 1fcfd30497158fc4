-- Subtrees of zero chunks.
use Rattle.std.specs.Prelude.{◌≡◌, ℕ, ◌^◌, ◌<◌, List, replicate, slice_index_or}
use Rattle.edge_kit.specs.declared.bytes.Root.{Root}
use Rattle.ssz_roots.specs.Trees.{zero_chunk, tree_root, padded}

-- the root of a tree of zero chunks alone
unfoldable pub zero_root : ℕ → List ℕ
zero_root depth = tree_root depth (replicate (2 ^ depth) zero_chunk)

-- the root of the chunks padded to a tree of this depth
unfoldable pub padded_root : ℕ → List (List ℕ) → List ℕ
padded_root depth chunks = tree_root depth (padded (2 ^ depth) chunks)

-- the first n roots are those of the trees of zero chunks, by depth
abbrev pub AreZeroRoots : List Root → ℕ → Type 0
AreZeroRoots roots n = (depth : ℕ) (other : Root) → depth < n → (slice_index_or roots depth other).0 ≡ zero_root depth
