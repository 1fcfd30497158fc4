-- The images of a disk between two syncs: change by change and byte by byte.
use Rattle.std.proofs.Common.{◌≡◌, ◌⊎◌, ℕ, suc, ◌+◌, ◌-◌, ◌<◌, ◌≤◌, min, max, cond, ltb, leb, List, [], ◌∷◌, length, take, drop, map, get_or, refl, sym, ◌∙◌, ap, arith, inl, inr, ⊎_elim}
use Rattle.std.specs.List.{range_with_len}
use Rattle.std.proofs.lemmas.List.{get_or-take, get_or-drop, length-map, length-take, length-drop, same_lists, get_or_default, get_or_past, drop_all}
use Rattle.std.proofs.lemmas.List.FromFn.{length-range_with_len, get_or-map-range_with_len}
use Rattle.std.proofs.lemmas.Bool.{cases_lt, le-leb, lt-leb, le-ltb, lt-ltb}
use Rattle.edge_kit.specs.Disks.{Torn, Cut}
use Rattle.edge_kit.specs.Images.{Change, Wrote, Shortened, LeftBy, length_now, shortest, longest, IsImage}
use Rattle.edge_kit.proofs.DiskLemmas.{reach_le}

-- the length now is between the shortest and the longest
between_shortest : (len : ℕ) (changes : List Change) → shortest len changes ≤ length_now len changes
between_shortest len [] = omega arith
between_shortest len (change ∷ earlier) = omega arith

between_longest : (len : ℕ) (changes : List Change) → length_now len changes ≤ longest len changes
between_longest len [] = omega arith
between_longest len (change ∷ earlier) = omega arith

-- a byte before and behind a place where two lists agree
same_before : (n k : ℕ) (c d : List ℕ) → k < n → take n c ≡ take n d → get_or c k 0 ≡ get_or d k 0
same_before n k c d lt same = sym (get_or-take n c k 0 lt) ∙ ap (λ (l : List ℕ). get_or l k 0) same ∙ get_or-take n d k 0 lt

same_behind : (n k : ℕ) (c d : List ℕ) → n ≤ k → drop n c ≡ drop n d → get_or c k 0 ≡ get_or d k 0
same_behind n k c d le same =
    ap (λ (i : ℕ). get_or c i 0) split ∙ sym (get_or-drop n c (k - n) 0) ∙ ap (λ (l : List ℕ). get_or l (k - n) 0) same ∙ get_or-drop n d (k - n) 0 ∙ ap (λ (i : ℕ). get_or d i 0) (sym split)
  where
    split : k ≡ n + (k - n)
    split = omega arith

-- two lists that agree at each place up to one, or from one on
take_same : (n : ℕ) (c d : List ℕ) → n ≤ length c → n ≤ length d → ((k : ℕ) → k < n → get_or c k 0 ≡ get_or d k 0) → take n c ≡ take n d
take_same n c d long_c long_d same =
    same_lists (take n c) (take n d) (omega (arith, length-take n c, length-take n d))
    (λ k e lt. let low : k < n = omega (arith, length-take n c) in
    get_or-take n c k e low ∙ get_or_default c k e 0 (omega arith) ∙ same k low ∙ get_or_default d k 0 e (omega arith) ∙ sym (get_or-take n d k e low))

drop_same : (n : ℕ) (c d : List ℕ) → length c ≡ length d → ((k : ℕ) → n ≤ k → get_or c k 0 ≡ get_or d k 0) → drop n c ≡ drop n d
drop_same n c d long same =
    same_lists (drop n c) (drop n d) (omega (arith, length-drop n c, length-drop n d, long))
    (λ k e lt. let within : n + k < length c = omega (arith, length-drop n c) in
    get_or-drop n c k e ∙ get_or_default c (n + k) e 0 within ∙ same (n + k) (omega arith) ∙ get_or_default d (n + k) 0 e (omega (arith, long)) ∙ sym (get_or-drop n d k e))

-- a list by its places
built : (ℕ → ℕ) → ℕ → List ℕ
built f n = map f (range_with_len 0 n)

length-built : (f : ℕ → ℕ) (n : ℕ) → length (built f n) ≡ n
unfolding built
length-built f n = length-map (range_with_len 0 n) f ∙ length-range_with_len 0 n

get_or-built : (f : ℕ → ℕ) (n k : ℕ) → k < n → get_or (built f n) k 0 ≡ f k
unfolding built
get_or-built f n k lt = get_or-map-range_with_len f 0 n k k 0 lt (omega arith)

-- one list from a place on and up to another, and elsewhere a second
patched : ℕ → ℕ → List ℕ → List ℕ → ℕ → ℕ
patched low high s c k = cond (leb low k) (cond (ltb k high) (get_or s k 0) (get_or c k 0)) (get_or c k 0)

patched_in : (low high : ℕ) (s c : List ℕ) (k : ℕ) → low ≤ k → k < high → patched low high s c k ≡ get_or s k 0
unfolding patched
patched_in low high s c k from below = rw (le-leb low k from, lt-ltb k high below) refl

patched_below : (low high : ℕ) (s c : List ℕ) (k : ℕ) → k < low → patched low high s c k ≡ get_or c k 0
unfolding patched
patched_below low high s c k below = rw (lt-leb low k below) refl

patched_above : (low high : ℕ) (s c : List ℕ) (k : ℕ) → low ≤ k → high ≤ k → patched low high s c k ≡ get_or c k 0
unfolding patched
patched_above low high s c k from above = rw (le-leb low k from, le-ltb k high above) refl

-- what a change leaves of an image is an image
written_image : (at n : ℕ) (synced : List ℕ) (earlier : List Change) (d c : List ℕ) → IsImage synced earlier d → Torn at n d c → IsImage synced (Wrote at n ∷ earlier) c
written_image at n synced earlier d c image torn =
    let low = between_shortest (length synced) earlier in
    record {
      no_shorter = omega (arith, image.no_shorter, torn.no_shorter);
      no_longer = omega (arith, image.no_longer, torn.no_longer);
      stays = λ k lt unwritten.
          let early : k < shortest (length synced) earlier = omega arith in
          let there : k < length d = omega (arith, image.no_shorter) in
          elim (cases_lt k at) [
            | inl before ↦ same_before (suc k) k c d (omega arith) (torn.before (suc k) (omega arith) (omega arith)) ∙ image.stays k early (λ w. unwritten (inr w))
            | inr from ↦ elim (cases_lt k (at + n)) [
              | inl within ↦ absurd (unwritten (inl (from, within)))
              | inr behind ↦ same_behind (at + n) k c d behind torn.after ∙ image.stays k early (λ w. unwritten (inr w))
            ]
          ];
    }

shortened_image : (to : ℕ) (synced : List ℕ) (earlier : List Change) (d c : List ℕ) → IsImage synced earlier d → Cut to d c → IsImage synced (Shortened to ∷ earlier) c
shortened_image to synced earlier d c image cut =
    let low = between_shortest (length synced) earlier in
    record {
      no_shorter = omega (arith, image.no_shorter, cut.no_shorter);
      no_longer = omega (arith, image.no_longer, cut.no_longer);
      stays = λ k lt unwritten.
          let early : k < shortest (length synced) earlier = omega arith in
          let there : k < length d = omega (arith, image.no_shorter) in
          same_before (suc k) k c d (omega arith) (cut.front (suc k) (omega arith) (omega arith)) ∙ image.stays k early unwritten;
    }

pub only_images : (synced : List ℕ) (changes : List Change) (c : List ℕ) → LeftBy synced changes c → IsImage synced changes c
only_images synced [] c left = record { no_shorter = omega (arith, ap length left); no_longer = omega (arith, ap length left); stays = λ k lt unwritten. ap (λ (l : List ℕ). get_or l k 0) left }
only_images synced (Wrote at n ∷ earlier) c left = written_image at n synced earlier left.0 c (only_images synced earlier left.0 left.1) left.2
only_images synced (Shortened to ∷ earlier) c left = shortened_image to synced earlier left.0 c (only_images synced earlier left.0 left.1) left.2

-- An image of a write's images: this one with the bytes of the last sync in the range.
module _ (at n : ℕ) (synced : List ℕ) (earlier : List Change) (c : List ℕ) where
  abbrev least : ℕ
  least = shortest (length synced) earlier

  abbrev most : ℕ
  most = longest (length synced) earlier

  abbrev size : ℕ
  size = min (length c) most

  abbrev value : ℕ → ℕ
  value = patched at (min (at + n) least) synced c

  unwritten_outside : (k : ℕ) → k < size → (k < at) ⊎ (at + n ≤ k) → get_or (built value size) k 0 ≡ get_or c k 0
  unwritten_outside k lt outside = get_or-built value size k lt ∙ ⊎_elim (λ below. patched_below at (min (at + n) least) synced c k below) (λ behind. patched_above at (min (at + n) least) synced c k (omega arith) (omega arith)) outside

  unwritten_image : IsImage synced (Wrote at n ∷ earlier) c → IsImage synced earlier (built value size)
  unwritten_image image =
      let low = between_shortest (length synced) earlier in
      let high = between_longest (length synced) earlier in
      let long = length-built value size in
      record {
        no_shorter = omega (arith, image.no_shorter);
        no_longer = omega arith;
        stays = λ k lt unwritten.
            let there : k < size = omega (arith, image.no_shorter) in
            let kept : k < shortest (length synced) (Wrote at n ∷ earlier) = omega arith in
            elim (cases_lt k at) [
              | inl before ↦ unwritten_outside k there (inl before) ∙ image.stays k kept (λ w. ⊎_elim (λ (r : (at ≤ k) × (k < at + n)). omega (arith, r.0)) unwritten w)
              | inr from ↦ elim (cases_lt k (at + n)) [
                | inl within ↦ get_or-built value size k there ∙ patched_in at (min (at + n) least) synced c k from (omega arith)
                | inr behind ↦ unwritten_outside k there (inr behind) ∙ image.stays k kept (λ w. ⊎_elim (λ (r : (at ≤ k) × (k < at + n)). omega (arith, r.1)) unwritten w)
              ]
            ];
      }

  unwritten_torn : IsImage synced (Wrote at n ∷ earlier) c → Torn at n (built value size) c
  unwritten_torn image =
      let high = between_longest (length synced) earlier in
      let long = length-built value size in
      record {
        before = λ k low fits. take_same k c (built value size) (omega arith) fits (λ i lt. sym (unwritten_outside i (omega arith) (inl (omega arith))));
        after = elim (cases_lt most (length c)) [
          | inl past ↦ drop_all (at + n) c (omega (arith, image.no_longer, reach_le at n)) ∙ sym (drop_all (at + n) (built value size) (omega (arith, image.no_longer, reach_le at n)))
          | inr within ↦ drop_same (at + n) c (built value size) (omega arith) (λ k behind. elim (cases_lt k size) [
            | inl there ↦ sym (unwritten_outside k there (inr behind))
            | inr none ↦ get_or_past c k 0 (omega arith) ∙ sym (get_or_past (built value size) k 0 (omega arith))
          ])
        ];
        no_shorter = omega arith;
        no_longer = omega (arith, image.no_longer);
      }

-- An image of a cut's images: this one with the bytes of the last sync behind the new end.
module _ (to : ℕ) (synced : List ℕ) (earlier : List Change) (c : List ℕ) where
  abbrev floor : ℕ
  floor = shortest (length synced) earlier

  abbrev long : ℕ
  long = max (length c) floor

  abbrev byte : ℕ → ℕ
  byte = patched to floor synced c

  uncut_front : (k : ℕ) → k < long → k < to → get_or (built byte long) k 0 ≡ get_or c k 0
  uncut_front k lt front = get_or-built byte long k lt ∙ patched_below to floor synced c k front

  uncut_image : IsImage synced (Shortened to ∷ earlier) c → IsImage synced earlier (built byte long)
  uncut_image image =
      let low = between_shortest (length synced) earlier in
      let high = between_longest (length synced) earlier in
      let size_is = length-built byte long in
      record {
        no_shorter = omega arith;
        no_longer = omega (arith, image.no_longer);
        stays = λ k lt unwritten.
            elim (cases_lt k to) [
              | inl front ↦ uncut_front k (omega arith) front ∙ image.stays k (omega arith) unwritten
              | inr behind ↦ get_or-built byte long k (omega arith) ∙ patched_in to floor synced c k behind lt
            ];
      }

  uncut_cut : IsImage synced (Shortened to ∷ earlier) c → Cut to (built byte long) c
  uncut_cut image =
      let low = between_shortest (length synced) earlier in
      let size_is = length-built byte long in
      record {
        front = λ k fits there. take_same k c (built byte long) (omega (arith, image.no_shorter)) there (λ i lt. sym (uncut_front i (omega arith) (omega arith)));
        no_shorter = omega (arith, image.no_shorter);
        no_longer = omega arith;
      }

pub each_image : (synced : List ℕ) (changes : List Change) (c : List ℕ) → IsImage synced changes c → LeftBy synced changes c
each_image synced [] c image = same_lists c synced (omega (arith, image.no_shorter, image.no_longer)) (λ k e lt. get_or_default c k e 0 lt ∙ image.stays k (omega (arith, image.no_longer)) (λ none. none) ∙ get_or_default synced k 0 e (omega (arith, image.no_longer)))
each_image synced (Wrote at n ∷ earlier) c image =
    (built (value at n synced earlier c) (size at n synced earlier c), each_image synced earlier (built (value at n synced earlier c) (size at n synced earlier c)) (unwritten_image at n synced earlier c image), unwritten_torn at n synced earlier c image)
each_image synced (Shortened to ∷ earlier) c image =
    (built (byte to synced earlier c) (long to synced earlier c), each_image synced earlier (built (byte to synced earlier c) (long to synced earlier c)) (uncut_image to synced earlier c image), uncut_cut to synced earlier c image)
