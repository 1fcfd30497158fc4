-- Trees over padded chunks.
use Rattle.std.proofs.Common.{◌≡◌, ℕ, zero, suc, ◌+◌, ◌-◌, ◌^◌, ◌<◌, ◌≤◌, List, [], ◌++◌, length, take, drop, replicate, get_or, refl, ap, ◌∙◌, inl, inr, arith, rules, sub-one, add-one, drop-cons}
use Rattle.std.proofs.lemmas.List.{places, same_lists, take-take, drop-take, drop-drop, take-replicate, drop-replicate, drop_all, take_all}
use Rattle.std.proofs.lemmas.Bool.{cases_eq, cases_lt, le-leb, lt-leb, cond-true, cond-false}
use Rattle.std.proofs.Math.Nat.{pow-succ', pow-le-pow_right}
use Rattle.sha2.specs.Sha256.{sha256}
use Rattle.ssz_roots.specs.Trees.{zero_chunk, depth_from, depth_of, padded, tree_root, merkle_root}
use Rattle.ssz_roots.specs.Zeros.{zero_root, padded_root}

-- ---- the depth of a limit

-- the least depth is found
depth_from-is : (more start n d : ℕ) → start ≤ d → d ≤ start + more → n ≤ 2 ^ d → ((e : ℕ) → e < d → 2 ^ e < n) → depth_from more start n ≡ d
unfolding depth_from
depth_from-is zero start n d low high fits least = omega arith
depth_from-is (suc more) start n d low high fits least =
    elim (cases_eq start d) [
      | inl same ↦
          let holds : n ≤ 2 ^ start = rw same fits in
          cond-true _ _ _ (le-leb n (2 ^ start) holds) ∙ same
      | inr other ↦
          let below : start < d = omega arith in
          cond-false _ _ _ (lt-leb n (2 ^ start) (least start below)) ∙ depth_from-is more (start + 1) n d (omega arith) (omega arith) fits least
    ]

-- the depth of a limit is the least whose width holds it
pub depth_of-is : (n d : ℕ) → d ≤ n → n ≤ 2 ^ d → ((e : ℕ) → e < d → 2 ^ e < n) → depth_of n ≡ d
unfolding depth_of
depth_of-is n d high fits least = depth_from-is n 0 n d (omega arith) (omega arith) fits least

-- ---- halves of a padded list

take-padded : (w : ℕ) (xs : List (List ℕ)) → take w (padded (w + w) xs) ≡ padded w (take w xs)
unfolding padded
take-padded w xs = same_lists _ _ (search (rules, places)) (λ k d h. grind (arith, places))

drop-padded : (w : ℕ) (xs : List (List ℕ)) → drop w (padded (w + w) xs) ≡ padded w (drop w xs)
unfolding padded
drop-padded w xs = same_lists _ _ (search (rules, places)) (λ k d h. grind (arith, places))

twice : (d : ℕ) → 2 ^ suc d ≡ 2 ^ d + 2 ^ d
twice d = omega (arith, pow-succ' 2 d)

-- the root of a padded tree is the hash of those of its halves
pub padded_root-suc : (d : ℕ) (xs : List (List ℕ)) → padded_root (suc d) xs ≡ sha256 (padded_root d (take (2 ^ d) xs) ++ padded_root d (drop (2 ^ d) xs))
unfolding padded_root tree_root
padded_root-suc d xs = rw (twice d, take-padded (2 ^ d) xs, drop-padded (2 ^ d) xs)

-- ---- trees of zero chunks

pub zero_root-zero : zero_root 0 ≡ zero_chunk
unfolding zero_root tree_root
zero_root-zero = refl

pub zero_root-suc : (d : ℕ) → zero_root (suc d) ≡ sha256 (zero_root d ++ zero_root d)
unfolding zero_root tree_root
zero_root-suc d = rw (twice d, take-replicate (2 ^ d) (2 ^ d + 2 ^ d) zero_chunk (omega arith), drop-replicate (2 ^ d) (2 ^ d + 2 ^ d) zero_chunk) (ap (λ n. sha256 (tree_root d (replicate (2 ^ d) zero_chunk) ++ tree_root d (replicate n zero_chunk))) (omega arith))

-- no chunks at all
pub padded_root-nil : (d : ℕ) → padded_root d [] ≡ zero_root d
unfolding padded_root zero_root padded
padded_root-nil d = ap (λ n. tree_root d (replicate n zero_chunk)) (omega arith)

-- ---- the subtree of a depth that begins at a chunk

-- its root is the hash of those of its halves
pub subtree-suc : (depth start : ℕ) (chunks : List (List ℕ)) → padded_root (suc depth) (take (2 ^ suc depth) (drop start chunks)) ≡ sha256 (padded_root depth (take (2 ^ depth) (drop start chunks)) ++ padded_root depth (take (2 ^ depth) (drop (start + 2 ^ depth) chunks)))
subtree-suc depth start chunks =
    rw (padded_root-suc depth (take (2 ^ suc depth) (drop start chunks)), twice depth, take-take (2 ^ depth) (2 ^ depth + 2 ^ depth) (drop start chunks) (omega arith), drop-take (2 ^ depth) (2 ^ depth) (drop start chunks), drop-drop (2 ^ depth) start chunks)

pub subtree_halves : (depth start : ℕ) (chunks : List (List ℕ)) → 0 < depth → padded_root depth (take (2 ^ depth) (drop start chunks)) ≡ sha256 (padded_root (depth - 1) (take (2 ^ (depth - 1)) (drop start chunks)) ++ padded_root (depth - 1) (take (2 ^ (depth - 1)) (drop (start + 2 ^ (depth - 1)) chunks)))
subtree_halves zero start chunks h = absurd (omega arith)
subtree_halves (suc depth) start chunks h = rw sub-one (subtree-suc depth start chunks)

-- past the chunks it is a tree of zero chunks
pub subtree_past : (depth start : ℕ) (chunks : List (List ℕ)) → length chunks ≤ start → padded_root depth (take (2 ^ depth) (drop start chunks)) ≡ zero_root depth
subtree_past depth start chunks h =
    rw (drop_all start chunks h, take_all {A = List ℕ} (2 ^ depth) [] (omega arith)) (padded_root-nil depth)

-- a tree of one chunk
pub subtree_one : (start : ℕ) (chunks : List (List ℕ)) (other : List ℕ) → start < length chunks → padded_root 0 (take (2 ^ 0) (drop start chunks)) ≡ get_or chunks start other
unfolding padded_root padded tree_root
subtree_one start chunks other h =
    rw (drop-cons chunks start other)

-- the whole tree
pub merkle_root-is : (limit depth : ℕ) (chunks : List (List ℕ)) → length chunks ≤ limit → limit ≤ 2 ^ depth → depth ≡ depth_of limit → padded_root depth (take (2 ^ depth) (drop 0 chunks)) ≡ merkle_root limit chunks
unfolding merkle_root padded_root
merkle_root-is limit depth chunks few fits same =
    rw (take_all (2 ^ depth) chunks (omega arith), same)

-- ---- widths

pub width_halves : (depth : ℕ) → 0 < depth → 2 ^ depth ≡ 2 ^ (depth - 1) + 2 ^ (depth - 1)
width_halves zero h = absurd (omega arith)
width_halves (suc depth) h = rw sub-one (twice depth)

-- a greater width is that of a greater depth
pub below_from_width : (i j : ℕ) → 2 ^ i < 2 ^ j → i < j
below_from_width i j h =
    elim (cases_lt i j) [
      | inl below ↦ below
      | inr above ↦ let more : 2 ^ j ≤ 2 ^ i = pow-le-pow_right (omega arith) above in absurd (omega arith)
    ]

pub zero_root-step : (depth : ℕ) → 0 < depth → zero_root depth ≡ sha256 (zero_root (depth - 1) ++ zero_root (depth - 1))
zero_root-step zero h = absurd (omega arith)
zero_root-step (suc depth) h = rw sub-one (zero_root-suc depth)

pub below_width : (depth : ℕ) → depth < 2 ^ depth
below_width zero = omega arith
below_width (suc depth) = omega (arith, below_width depth, twice depth)

pub width_more : (depth : ℕ) → 2 ^ (depth + 1) ≡ 2 ^ depth + 2 ^ depth
width_more depth = rw add-one (twice depth)
