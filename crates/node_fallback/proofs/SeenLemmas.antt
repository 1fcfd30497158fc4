-- The nodes as others see them, place by place.
use Rattle.std.proofs.Common.{◌≡◌, ℕ, zero, suc, List, [], ◌∷◌, length, get_or, Bool, false, Option, slice_get, unwrap_or, refl, ap}
use Rattle.std.proofs.Math.ListN.{set}
use Rattle.node_calls.specs.declared.told.NodeCall.{NodeCall}
use Rattle.node_fallback.specs.Seen.{Seen, seen_of}
use Rattle.node_fallback.specs.Turns.{place_seen}

-- a node's flag
abbrev pub flag_at : List Bool → ℕ → Bool
flag_at flags i = unwrap_or (slice_get flags i) false

pub get_or-seen_of : {N : Type 0} (told : N → Option (List NodeCall)) (faults : N → ℕ) (ns : List N) (flags : List Bool) (i : ℕ) (d : N)
    → get_or (seen_of told faults ns flags) i (place_seen told faults d (flag_at flags i)) ≡ place_seen told faults (get_or ns i d) (flag_at flags i)
get_or-seen_of told faults [] flags i d = refl
get_or-seen_of told faults (n ∷ ns) flags zero d = refl
get_or-seen_of told faults (n ∷ ns) [] (suc i) d = get_or-seen_of told faults ns [] i d
get_or-seen_of told faults (n ∷ ns) (b ∷ flags) (suc i) d = get_or-seen_of told faults ns flags i d

pub seen_of-set : {N : Type 0} (told : N → Option (List NodeCall)) (faults : N → ℕ) (ns : List N) (flags : List Bool) (i : ℕ) (n : N)
    → seen_of told faults (set ns i n) flags ≡ set (seen_of told faults ns flags) i (place_seen told faults n (flag_at flags i))
seen_of-set told faults [] flags i n = refl
seen_of-set told faults (x ∷ ns) flags zero n = refl
seen_of-set told faults (x ∷ ns) [] (suc i) n = ap (λ (l : List Seen). place_seen told faults x (flag_at [] 0) ∷ l) (seen_of-set told faults ns [] i n)
seen_of-set told faults (x ∷ ns) (b ∷ flags) (suc i) n = ap (λ (l : List Seen). place_seen told faults x b ∷ l) (seen_of-set told faults ns flags i n)

pub length-seen_of : {N : Type 0} (told : N → Option (List NodeCall)) (faults : N → ℕ) (ns : List N) (flags : List Bool) → length (seen_of told faults ns flags) ≡ length ns
length-seen_of told faults [] flags = refl
length-seen_of told faults (n ∷ ns) [] = ap (λ k. suc k) (length-seen_of told faults ns [])
length-seen_of told faults (n ∷ ns) (b ∷ flags) = ap (λ k. suc k) (length-seen_of told faults ns flags)
