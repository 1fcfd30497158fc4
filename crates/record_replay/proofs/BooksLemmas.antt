-- From what was gathered of each key to its record, and to the past that the items stand for.
use Rattle.std.proofs.Common.{◌≡◌, Bool, true, false, cond, List, [], ◌∷◌, ◌++◌, map, None, Some, refl, sym, ◌∙◌, ap, subst}
use Rattle.std.specs.List.{IsDistinct, AllByRecursion}
use Rattle.std.specs.List.Sorted.{IsStrictlySortedBy}
use Rattle.std.specs.Ordering.{eq_by_cmp}
use Rattle.std.specs.declared.cmp.Ordering.TheVariants.{Less, Greater}
use Rattle.std.specs.BTreeMap.{is_at}
use Rattle.std.specs.Map.{keys_of}
use Rattle.std.proofs.lemmas.Cmp.{eq_by_cmp_equiv}
use Rattle.std.proofs.lemmas.List.{map-id}
use Rattle.std.proofs.lemmas.Map.{lookup-none}
use Rattle.std.proofs.lemmas.Map.Entries.{none_past_head}
use Rattle.std.proofs.lemmas.Map.Keys.{sorted_head, sorted_tail, IsDistinct-tail}
use Rattle.edge_kit.specs.declared.bytes.PubKey.{PubKey}
use Rattle.slash_defs.specs.declared.entry.BlockEntry.{BlockEntry}
use Rattle.slash_defs.specs.declared.entry.VoteEntry.{VoteEntry}
use Rattle.protect_record.specs.declared.floors.Floors.{Floors}
use Rattle.protect_record.specs.Floors.{IsDeadBlock, IsDeadVote}
use Rattle.protect_record.specs.Parts.{Parts}
use Rattle.protect_record.specs.Pasts.{Past}
use Rattle.protect_record.specs.Standing.{Stands}
use Rattle.protect_record.proofs.OrderLemmas.{greater_from_less}
use Rattle.record_join.specs.Keys.{key_cmp, kept_of, with_key, EachKey}
use Rattle.record_join.specs.BooksPasts.{BooksStand}
use Rattle.record_join.specs.EachKeyLaws.{each_flip, each_found}
use Rattle.record_join.specs.KeyLaws.{key_total, at_itself}
use Rattle.record_codec.specs.declared.item.JournalItem.{JournalItem}
use Rattle.record_replay.specs.Items.{named_keys, floors_in}
use Rattle.record_replay.specs.Gathering.{Gains, gains_in, known_gains, IsRecordOf}
use Rattle.record_replay.specs.Replaying.{IsReplayed, KeyStands}

-- a key behind those of a list comes last
pub put_last : {X Y : Type 0} (R : X → Y → Type 0) (front : List (PubKey × X)) (k : PubKey) (x : X) (rest : List (PubKey × X)) (ys : List (PubKey × Y)) (y : Y)
    → IsStrictlySortedBy key_cmp (keys_of (front ++ (k, x) ∷ rest)) → EachKey R front ys → R x y → (kept_of ys k ≡ None) × EachKey R (front ++ (k, x) ∷ []) (with_key ys k y)
put_last R [] k x rest [] y sorted each fits = (refl, (refl, fits, tt))
put_last R [] k x rest (b ∷ bs) y sorted each fits = absurd each
put_last R (a ∷ more) k x rest [] y sorted each fits = absurd each
put_last {X} {Y} R (a ∷ more) k x rest (b ∷ bs) y sorted each fits =
    let behind : key_cmp a.0 k ≡ Less = first more (sorted_head key_cmp a.0 (keys_of (more ++ (k, x) ∷ rest)) sorted) in
    let before : key_cmp k b.0 ≡ Greater = ap (λ q. key_cmp k q) (sym each.0) ∙ greater_from_less key_cmp key_total a.0 k behind in
    let others = put_last R more k x rest bs y (sorted_tail key_cmp a.0 (keys_of (more ++ (k, x) ∷ rest)) sorted) each.2 fits in
    rw before (others.0, (each.0, each.1, others.1)) where
      first : (xs : List (PubKey × X)) → AllByRecursion (λ q. key_cmp a.0 q ≡ Less) (keys_of (xs ++ (k, x) ∷ rest)) → key_cmp a.0 k ≡ Less
      first [] all = all.0
      first (z ∷ zs) all = first zs all.1

-- the record of the next key that was gathered
pub books_next : (all s t u xs : List (PubKey × Gains)) (k : PubKey) (gains : Gains) (books new : List (PubKey × Parts)) (parts : Parts) → s ≡ all → s ≡ map (λ p. p) xs ++ t → t ≡ (k, gains) ∷ u
    → IsStrictlySortedBy key_cmp (keys_of all) → EachKey IsRecordOf xs books → IsRecordOf gains parts → (kept_of books k ≡ None → new ≡ with_key books k parts) → EachKey IsRecordOf (xs ++ (k, gains) ∷ []) new
books_next all s t u xs k gains books new parts start so_far more sorted each made put =
    let whole : all ≡ xs ++ (k, gains) ∷ u = sym start ∙ so_far ∙ ap (λ zs. map (λ p. p) xs ++ zs) more ∙ ap (λ zs. zs ++ (k, gains) ∷ u) (map-id xs) in
    let S : List (PubKey × Gains) → Type 0 = λ zs. IsStrictlySortedBy key_cmp (keys_of zs) in
    let last = put_last IsRecordOf xs k gains u books parts (subst S whole sorted) each made in
    let E : List (PubKey × Parts) → Type 0 = λ zs. EachKey IsRecordOf (xs ++ (k, gains) ∷ []) zs in
    subst E (sym (put last.0)) last.1

pub books_all : (all xs : List (PubKey × Gains)) (books : List (PubKey × Parts)) → map (λ p. p) xs ≡ all → EachKey IsRecordOf xs books → EachKey IsRecordOf all books
books_all all xs books ended each =
    let E : List (PubKey × Gains) → Type 0 = λ zs. EachKey IsRecordOf zs books in
    subst E (sym (map-id xs) ∙ ended) each

-- what is kept of a key behind the first
kept_behind : {X : Type 0} (a : PubKey × X) (more : List (PubKey × X)) (k : PubKey) (x : X) → IsDistinct (eq_by_cmp key_cmp) (keys_of (a ∷ more)) → kept_of more k ≡ Some x → kept_of (a ∷ more) k ≡ Some x
kept_behind {X} a more k x distinct found = at (is_at (key_cmp k) a.0) refl where
  at : (b : Bool) → is_at (key_cmp k) a.0 ≡ b → cond b (Some a.1) (kept_of more k) ≡ Some x
  at true is =
      let none : kept_of more k ≡ None = lookup-none (is_at (key_cmp k)) more (none_past_head (eq_by_cmp_equiv key_total) k a more distinct is) in
      absurd (let bad : None ≡ Some x = sym none ∙ found in cc)
  at false is = found

-- two lists of the same keys fit where they fit at each key
pub each_of_keys : {X Y : Type 0} (R : X → Y → Type 0) (xs : List (PubKey × X)) (ys : List (PubKey × Y)) → keys_of xs ≡ keys_of ys → IsDistinct (eq_by_cmp key_cmp) (keys_of xs) → IsDistinct (eq_by_cmp key_cmp) (keys_of ys)
    → ((k : PubKey) (x : X) (y : Y) → kept_of xs k ≡ Some x → kept_of ys k ≡ Some y → R x y) → EachKey R xs ys
each_of_keys R [] [] same distinct other fits = tt
each_of_keys R [] (b ∷ bs) same distinct other fits = absurd (let bad : [] ≡ b.0 ∷ keys_of bs = same in cc)
each_of_keys R (a ∷ more) [] same distinct other fits = absurd (let bad : a.0 ∷ keys_of more ≡ [] = same in cc)
each_of_keys {X} {Y} R (a ∷ more) (b ∷ bs) same distinct other fits =
    let first : a.0 ≡ b.0 = cons_first a.0 b.0 (keys_of more) (keys_of bs) same in
    let here : kept_of (b ∷ bs) a.0 ≡ Some b.1 = subst (λ (q : PubKey). kept_of (b ∷ bs) q ≡ Some b.1) (sym first) (itself b bs) in (
      first,
      fits a.0 a.1 b.1 (itself a more) here,
      each_of_keys R more bs (cons_rest a.0 b.0 (keys_of more) (keys_of bs) same) (IsDistinct-tail (eq_by_cmp key_cmp) a.0 (keys_of more) distinct) (IsDistinct-tail (eq_by_cmp key_cmp) b.0 (keys_of bs) other)
          (λ k x y e h. fits k x y (kept_behind a more k x distinct e) (kept_behind b bs k y other h)),
    ) where
      cons_first : (p q : PubKey) (ps qs : List PubKey) → p ∷ ps ≡ q ∷ qs → p ≡ q
      cons_first p q ps qs h = cc

      cons_rest : (p q : PubKey) (ps qs : List PubKey) → p ∷ ps ≡ q ∷ qs → ps ≡ qs
      cons_rest p q ps qs h = cc

      itself : {Z : Type 0} (z : PubKey × Z) (zs : List (PubKey × Z)) → kept_of (z ∷ zs) z.0 ≡ Some z.1
      itself z zs = rw (at_itself z.0) refl

-- of a key that is kept, what was gathered is what the items say
gains_kept : (items : List JournalItem) (kept : List (PubKey × Gains)) (key : PubKey) (gains : Gains) → ((k : PubKey) → known_gains (kept_of kept k) ≡ gains_in items k) → kept_of kept key ≡ Some gains → gains ≡ gains_in items key
gains_kept items kept key gains each found = ap known_gains (sym found) ∙ each key

replayed_of : (items : List JournalItem) (key : PubKey) (gains : Gains) (parts : Parts) → gains ≡ gains_in items key → IsRecordOf gains parts → IsReplayed items key parts
replayed_of items key gains parts is made =
    let of : IsRecordOf (gains_in items key) parts = subst (λ (g : Gains). IsRecordOf g parts) is made in
    record { floors = of.floors; blocks = of.blocks; votes = of.votes }

pub replayed : (items : List JournalItem) (kept : List (PubKey × Gains)) (books : List (PubKey × Parts)) → ((k : PubKey) → known_gains (kept_of kept k) ≡ gains_in items k) → EachKey IsRecordOf kept books
    → (key : PubKey) (parts : Parts) → kept_of books key ≡ Some parts → IsReplayed items key parts
replayed items kept books gathered each key parts found =
    let other = each_found (λ p g. IsRecordOf g p) books kept key parts (each_flip IsRecordOf kept books each) found in
    replayed_of items key other.0 parts (gains_kept items kept key other.0 gathered other.1) other.2

-- a record that keeps what the items say stands for the past that they stand for
stands_for : (items : List JournalItem) (key : PubKey) (parts : Parts) (past : Past) → IsReplayed items key parts → KeyStands items key past → Stands parts past
stands_for items key parts past made stands = record {
  floors = made.floors ∙ stands.floors;
  blocks = λ e. (λ has. let h = (made.blocks.elements e).0 has in ((stands.blocks e (live_block e h.1)).0 h.0, h.1), λ h. (made.blocks.elements e).1 ((stands.blocks e (live_block e h.1)).1 h.0, h.1));
  votes = λ e. (λ has. let h = (made.votes.elements e).0 has in ((stands.votes e (live_vote e h.1)).0 h.0, h.1), λ h. (made.votes.elements e).1 ((stands.votes e (live_vote e h.1)).1 h.0, h.1));
  blocks_in_order = made.blocks.in_order;
  votes_in_order = made.votes.in_order;
} where
  live_block : (e : BlockEntry) → ¬ (IsDeadBlock parts.floors e) → ¬ (IsDeadBlock (floors_in items key) e)
  live_block e live = subst (λ (f : Floors). ¬ (IsDeadBlock f e)) made.floors live

  live_vote : (e : VoteEntry) → ¬ (IsDeadVote parts.floors e) → ¬ (IsDeadVote (floors_in items key) e)
  live_vote e live = subst (λ (f : Floors). ¬ (IsDeadVote f e)) made.floors live

-- the records stand for the pasts of the same keys
pub books_stand : (items : List JournalItem) (books : List (PubKey × Parts)) (pasts : List (PubKey × Past)) → IsDistinct (eq_by_cmp key_cmp) (named_keys items) → keys_of books ≡ named_keys items
    → ((key : PubKey) (parts : Parts) → kept_of books key ≡ Some parts → IsReplayed items key parts) → keys_of pasts ≡ named_keys items
    → ((key : PubKey) (past : Past) → kept_of pasts key ≡ Some past → KeyStands items key past) → BooksStand books pasts
books_stand items books pasts distinct named made keys stands =
    let D : List PubKey → Type 0 = λ ks. IsDistinct (eq_by_cmp key_cmp) ks in
    each_of_keys Stands books pasts (named ∙ sym keys) (subst D (sym named) distinct) (subst D (sym keys) distinct) (λ key parts past e h. stands_for items key parts past (made key parts e) (stands key past h))
