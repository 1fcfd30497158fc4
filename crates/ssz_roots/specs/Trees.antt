-- The root of a list of chunks (consensus-specs, "SimpleSerialize", "Merkleization").
use Rattle.std.specs.Prelude.{ℕ, zero, suc, ◌+◌, ◌-◌, ◌^◌, List, ◌++◌, length, take, drop, map, replicate, nat_le, if◌then◌else◌, slice_index_or}
use Rattle.edge_kit.specs.declared.bytes.Root.{Root}
use Rattle.sha2.specs.Sha256.{sha256}

-- 32 zero bytes: what chunks are padded with (SimpleSerialize, "Merkleization", `merkleize`)
abbrev pub zero_chunk : List ℕ
zero_chunk = replicate 32 0

-- the least depth from this one on, of at most `more` above it, whose width holds n
unfoldable pub depth_from : ℕ → ℕ → ℕ → ℕ
depth_from zero depth n = depth
depth_from (suc more) depth n = if nat_le n (2 ^ depth) then depth else depth_from more (depth + 1) n

-- the depth of a tree over n chunks: 2 to it is the next power of two of n, at least one (`next_pow_of_two`)
unfoldable pub depth_of : ℕ → ℕ
depth_of n = depth_from n 0 n

-- the chunks, with zero chunks behind them up to this many (`merkleize`)
unfoldable pub padded : ℕ → List (List ℕ) → List (List ℕ)
padded width chunks = chunks ++ replicate (width - length chunks) zero_chunk

-- one chunk is its own root; else the root is the hash of the roots of the two halves (`merkleize`)
unfoldable pub tree_root : ℕ → List (List ℕ) → List ℕ
tree_root zero chunks = slice_index_or chunks 0 zero_chunk
tree_root (suc depth) chunks = sha256 (tree_root depth (take (2 ^ depth) chunks) ++ tree_root depth (drop (2 ^ depth) chunks))

-- the root of the whole padded list of chunks under a limit (`merkleize(chunks, limit)`)
unfoldable pub merkle_root : ℕ → List (List ℕ) → List ℕ
merkle_root limit chunks = tree_root (depth_of limit) (padded (2 ^ depth_of limit) chunks)

-- roots as chunks
abbrev pub root_chunks : List Root → List (List ℕ)
root_chunks roots = map (λ root. root.0) roots
