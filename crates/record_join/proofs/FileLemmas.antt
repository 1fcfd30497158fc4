-- What is listed is taken in, one after another.
use Rattle.std.proofs.Common.{◌≡◌, ℕ, zero, suc, ◌+◌, ◌<◌, ◌≤◌, inl, inr, true, false, Bool, cond, List, [], ◌∷◌, ◌++◌, length, take, drop, get_or, fold, None, Some, Option, refl, sym, ◌∙◌, ap, subst, arith, All, Contains}
use Rattle.std.specs.Prelude.{IsSome, IsSomeAnd, is_some}
use Rattle.std.specs.Ordering.{eq_by_cmp, match_ordering, ordering_reverse, is_eq}
use Rattle.std.specs.declared.cmp.Ordering.{Ordering}
use Rattle.std.specs.declared.cmp.Ordering.TheVariants.{Less, Equal, Greater}
use Rattle.std.specs.BTreeMap.{is_at}
use Rattle.std.specs.List.{IsDistinct, slice_get}
use Rattle.std.specs.List.Sorted.{IsStrictlySortedBy}
use Rattle.std.specs.Map.{keys_of}
use Rattle.std.proofs.lemmas.List.{take_more, take_all, take-append-drop}
use Rattle.std.proofs.lemmas.Option.{slice_get_within, get_or_from_slice_get}
use Rattle.std.proofs.lemmas.List.Sums.{fold_push}
use Rattle.std.proofs.lemmas.List.Elements.{All-head, All-tail, All-weaker}
use Rattle.edge_kit.specs.declared.bytes.PubKey.{PubKey}
use Rattle.slash_defs.specs.declared.entry.BlockEntry.{BlockEntry}
use Rattle.slash_defs.specs.declared.entry.VoteEntry.{VoteEntry}
use Rattle.protect_record.specs.Floors.{IsDeadBlock, IsDeadVote}
use Rattle.protect_record.specs.Parts.{Parts, SameParts, no_floors}
use Rattle.protect_record.specs.Pasts.{Past, no_past, then_past, IsPastBlock, IsPastVote}
use Rattle.protect_record.specs.Standing.{Stands}
use Rattle.record_join.specs.Keys.{key_cmp, kept_of, with_key, with_kept, EachKey}
use Rattle.record_join.specs.BooksPasts.{BooksStand, IsMergeFault, IsOverLimit, KeepsOthers, gain, joined, known_past, new_keys}
use Rattle.record_join.specs.declared.fault.MergeFault.{MergeFault}
use Rattle.record_join.specs.declared.fault.MergeFault.TheVariants as merge_fault
use Rattle.record_join.specs.Preparing.{no_parts, with_each, AreFresh, HasRoomFor, HaveRoomFor, ArePrepared, IsReady, MakesRoom, parts_size}
pub use Rattle.record_join.specs.KeyLaws.{distinct_once, distinct_ordered, same_keys}
use Rattle.record_join.proofs.KeyLemmas.{each_found, each_keys, each_length, each_none, each_new, each_changed, each_present}
use Rattle.record_join.proofs.OrderLemmas.{key_total, key_exact, at_itself, same_key, apart_back, kept_here, kept_apart, put_twice, put_kept, once_before}
use Rattle.record_join.proofs.BooksLemmas.{all_same_stand}
use Rattle.record_join.specs.KeyByKey.{EachTakes, Takes, TakesRecord}
use Rattle.record_join.proofs.TakeLemmas.{takes_more, takes_none}
use Rattle.record_join.proofs.FreshLemmas.{prepared_more, prepared_wider, ready_more, length_fresh}

-- ---- a list at a place

pub next_at : {X : Type 0} (xs : List X) (i : ℕ) (x : X) → i < length xs → x ≡ get_or xs i x → take (i + 1) xs ≡ take i xs ++ x ∷ []
next_at xs i x lt is = take_more xs i x lt ∙ ap (λ y. take i xs ++ y ∷ []) (sym is)

around : {X : Type 0} (xs : List X) (i : ℕ) (x : X) → i < length xs → x ≡ get_or xs i x → (take i xs ++ x ∷ []) ++ drop (i + 1) xs ≡ xs
around xs i x lt is = ap (λ ys. ys ++ drop (i + 1) xs) (sym (next_at xs i x lt is)) ∙ take-append-drop (i + 1) xs

flat : {X : Type 0} (xs ys : List X) (x : X) → (xs ++ x ∷ []) ++ ys ≡ xs ++ x ∷ ys
flat [] ys x = refl
flat (a ∷ more) ys x = ap (λ l. a ∷ l) (flat more ys x)

pub none_before : {X : Type 0} (xs : List (PubKey × X)) (i : ℕ) (x : PubKey × X) → IsDistinct (eq_by_cmp key_cmp) (keys_of xs) → i < length xs → x ≡ get_or xs i x → kept_of (take i xs) x.0 ≡ None
none_before {X} xs i x distinct lt is =
    let D : List (PubKey × X) → Type 0 = λ l. IsDistinct (eq_by_cmp key_cmp) (keys_of l) in
    once_before (take i xs) x (drop (i + 1) xs) (subst D (sym (sym (flat (take i xs) (drop (i + 1) xs) x) ∙ around xs i x lt is)) distinct)

-- ---- room is made for one after another

pub ready_step : {X : Type 0} (size : X → ℕ × ℕ) (old mid new : List (PubKey × Parts)) (xs : List (PubKey × X)) (i : ℕ) (x : PubKey × X) (fresh more : List PubKey) (n : ℕ × ℕ) → IsDistinct (eq_by_cmp key_cmp) (keys_of xs)
    → i < length xs → x ≡ get_or xs i x → n ≡ size x.1 → IsReady size old (take i xs) fresh mid → MakesRoom mid new x.0 fresh more → IsSomeAnd (kept_of new x.0) (λ parts. HasRoomFor parts n)
    → length more ≡ length fresh + cond (is_some (kept_of mid x.0)) 0 1 → IsReady size old (take (i + 1) xs) more new
ready_step {X} size old mid new xs i x fresh more n distinct lt is sized ready makes room noted =
    let R : ℕ × ℕ → Type 0 = λ m. IsSomeAnd (kept_of new x.0) (λ parts. HasRoomFor parts m) in
    let P : List (PubKey × X) → Type 0 = λ l. IsReady size old l more new in
    subst P (sym (next_at xs i x lt is)) (ready_more size old mid new (take i xs) x fresh more ready (none_before xs i x distinct lt is) makes (subst R sized room) noted)

pub prepared_step : {X : Type 0} (old mid new : List (PubKey × Parts)) (xs : List (PubKey × X)) (i : ℕ) (x : PubKey × X) (fresh more : List PubKey) → i < length xs → x ≡ get_or xs i x
    → ArePrepared old (take i xs) fresh mid → MakesRoom mid new x.0 fresh more → ArePrepared old xs more new
prepared_step {X} old mid new xs i x fresh more lt is prepared makes =
    let P : List (PubKey × X) → Type 0 = λ l. ArePrepared old l more new in
    subst P (around xs i x lt is) (prepared_wider old new (take i xs ++ x ∷ []) (drop (i + 1) xs) more (prepared_more old mid new (take i xs) x fresh more prepared makes))

pub both_same : (a b c d : ℕ) → a ≡ b → c ≡ d → ◌≡◌ {A = ℕ × ℕ} (a, c) (b, d)
both_same a b c d e f = rw (e, f) refl

-- ---- each record takes in what is listed for it

-- a key of which something is kept gains something
pub gains_at : {X : Type 0} (f : Past → X → Past) (old new : List (PubKey × Parts)) (pasts : List (PubKey × Past)) (key : PubKey) (x : X) (parts after : Parts) → IsStrictlySortedBy key_cmp (keys_of old) → kept_of old key ≡ Some parts
    → new ≡ with_kept old key after → ((past : Past) → Stands parts past → Stands after (f past x)) → BooksStand old pasts → BooksStand new (gain f pasts (key, x))
gains_at f old new pasts key x parts after sorted is_kept is stands each =
    let found = each_found Stands old pasts key parts each is_kept in
    let past = found.0 in
    let S : List PubKey → Type 0 = λ ks. IsStrictlySortedBy key_cmp ks in
    let there : IsSome (kept_of pasts key) = ap is_some found.1 in
    let put : gain f pasts (key, x) ≡ with_kept pasts key (f past x) =
    ap (λ o. with_key pasts key (f (known_past o) x)) found.1 ∙ put_kept pasts key (f past x) (subst S (each_keys Stands old pasts each) sorted) there
    in
    let E : List (PubKey × Parts) → Type 0 = λ l. EachKey Stands l (gain f pasts (key, x)) in
    let F : List (PubKey × Past) → Type 0 = λ l. EachKey Stands (with_kept old key after) l in
    subst E (sym is) (subst F (sym put) (each_changed Stands old pasts key after (f past x) each (stands past found.2)))

-- so far the front of what is listed was taken in
pub record GoesOn {X : Type 0} (T : Parts → X → Parts → Type 0) (f : Past → X → Past) (start : List (PubKey × Parts)) (front : List (PubKey × X)) (now : List (PubKey × Parts)) : Type 0 where
  pub stands : (pasts : List (PubKey × Past)) → BooksStand start pasts → BooksStand now (fold (gain f) pasts front)
  pub len : length now ≡ length start
  pub takes : EachTakes T front start now

pub goes_none : {X : Type 0} (T : Parts → X → Parts → Type 0) (f : Past → X → Past) (start : List (PubKey × Parts)) → GoesOn {X = X} T f start [] start
goes_none T f start = record { stands = λ pasts stand. stand; len = refl; takes = takes_none T start }

-- one more is taken in
pub goes_more : {X : Type 0} (T : Parts → X → Parts → Type 0) (f : Past → X → Past) → ((p : Parts) (x : X) (q : Parts) → T p x q → (past : Past) → Stands p past → Stands q (f past x)) → (start now new : List (PubKey × Parts)) (xs : List (PubKey × X)) (i : ℕ)
    (x : PubKey × X) → IsDistinct (eq_by_cmp key_cmp) (keys_of xs) → i < length xs → x ≡ get_or xs i x → GoesOn T f start (take i xs) now → Takes T now new x.0 x.1 → IsStrictlySortedBy key_cmp (keys_of now) → length new ≡ length now
    → GoesOn T f start (take (i + 1) xs) new
goes_more {X} T f gives start now new xs i x distinct lt is so_far takes sorted len =
    let P : List (PubKey × X) → Type 0 = λ l. GoesOn T f start l new in
    subst P (sym (next_at xs i x lt is)) (record {
      stands = λ pasts stand.
          let E : List (PubKey × Past) → Type 0 = λ l. BooksStand new l in
          subst E (sym (fold_push (gain f) pasts (take i xs) x)) (gains_at f now new (fold (gain f) pasts (take i xs)) x.0 x.1 takes.parts takes.after sorted takes.is_kept takes.is (gives takes.parts x.1 takes.after takes.taken) (so_far.stands pasts stand));
      len = len ∙ so_far.len;
      takes = takes_more T start now new (take i xs) x (none_before xs i x distinct lt is) takes so_far.takes;
    })

-- the room of the next is still as it was made
pub room_next : {X : Type 0} (T : Parts → X → Parts → Type 0) (f : Past → X → Past) (size : X → ℕ × ℕ) (start now : List (PubKey × Parts)) (xs : List (PubKey × X)) (i : ℕ) (x : PubKey × X) → IsDistinct (eq_by_cmp key_cmp) (keys_of xs) → i < length xs
    → x ≡ get_or xs i x → GoesOn T f start (take i xs) now → HaveRoomFor size start xs → IsSomeAnd (kept_of now x.0) (λ parts. HasRoomFor parts (size x.1))
room_next {X} T f size start now xs i x distinct lt is so_far room =
    let P : Option Parts → Type 0 = λ o. IsSomeAnd o (λ parts. HasRoomFor parts (size x.1)) in
    let Q : PubKey × X → Type 0 = λ y. IsSomeAnd (kept_of start y.0) (λ parts. HasRoomFor parts (size y.1)) in
    subst P (sym (so_far.takes.others x.0 (none_before xs i x distinct lt is))) (subst Q (sym is) (room i x lt))

-- ---- the fresh keys are taken out, or their records stay

-- a key that is not listed is none of the fresh ones
apart_from_fresh : {X : Type 0} (listed : List (PubKey × X)) (key k : PubKey) → kept_of listed key ≡ None → IsSome (kept_of listed k) → is_at (key_cmp k) key ≡ false
apart_from_fresh {X} listed key k none found = at (is_at (key_cmp k) key) refl where
  at : (b : Bool) → is_at (key_cmp k) key ≡ b → b ≡ false
  at true e =
      let same : IsSome (kept_of listed key) = subst (λ (q : PubKey). IsSome (kept_of listed q)) (same_key k key e) found in
      absurd (let bad : false ≡ true = sym (ap is_some none) ∙ same in cc)
  at false e = refl

pub others_back : {X : Type 0} (old mid new : List (PubKey × Parts)) (listed : List (PubKey × X)) (fresh : List PubKey) → ArePrepared old listed fresh mid
    → ((key : PubKey) → All (λ other. is_at (key_cmp other) key ≡ false) fresh → kept_of new key ≡ kept_of mid key) → KeepsOthers listed old new
others_back old mid new listed fresh prepared out key none =
    out key (All-weaker (λ k. IsSome (kept_of listed k)) (λ k. is_at (key_cmp k) key ≡ false) (λ k found. apart_from_fresh listed key k none found) fresh prepared.are_listed) ∙ prepared.others key none

-- ---- a key that begins with no past and then gains is as one that was not kept and gains

module _ {X : Type 0} where
  -- keys that differ go in in either order
  put_either : (xs : List (PubKey × X)) (j k : PubKey) (x y : X) → is_at (key_cmp j) k ≡ false → with_key (with_key xs j x) k y ≡ with_key (with_key xs k y) j x
  put_either [] j k x y apart = at (key_cmp j k) refl apart where
    at : (r : Ordering) → key_cmp j k ≡ r → is_eq r ≡ false → with_key ((j, x) ∷ []) k y ≡ with_key ((k, y) ∷ []) j x
    at Less e no_tie = rw (key_total.antisymm k j, e) refl
    at Equal e no_tie = absurd (let bad : true ≡ false = no_tie in cc)
    at Greater e no_tie = rw (key_total.antisymm k j, e) refl
  put_either (a ∷ more) j k x y apart = at (key_cmp j a.0) (key_cmp k a.0) refl refl (put_either more j k x y apart) where
    back : is_at (key_cmp k) j ≡ false
    back = apart_back j k apart

    -- where one goes before another, the other goes behind it
    behind : (p q : PubKey) → key_cmp p q ≡ Less → key_cmp q p ≡ Greater
    behind p q e = key_total.antisymm q p ∙ ap ordering_reverse e

    before : (p q : PubKey) → key_cmp p q ≡ Greater → key_cmp q p ≡ Less
    before p q e = key_total.antisymm q p ∙ ap ordering_reverse e

    at : (r s : Ordering) → key_cmp j a.0 ≡ r → key_cmp k a.0 ≡ s → with_key (with_key more j x) k y ≡ with_key (with_key more k y) j x
        → with_key (match_ordering r ((j, x) ∷ a ∷ more) ((a.0, x) ∷ more) (a ∷ with_key more j x)) k y ≡ with_key (match_ordering s ((k, y) ∷ a ∷ more) ((a.0, y) ∷ more) (a ∷ with_key more k y)) j x
    at Less Less e f rest = by (key_cmp j k) refl apart where
      by : (t : Ordering) → key_cmp j k ≡ t → is_eq t ≡ false → with_key ((j, x) ∷ a ∷ more) k y ≡ with_key ((k, y) ∷ a ∷ more) j x
      by Less g no_tie = rw (g, behind j k g, f) refl
      by Equal g no_tie = absurd (let bad : true ≡ false = no_tie in cc)
      by Greater g no_tie = rw (g, before j k g, e) refl
    at Less Equal e f rest =
        let g : key_cmp j k ≡ Less = subst (λ (q : PubKey). key_cmp j q ≡ Less) (sym (key_exact k a.0 f)) e in
        rw (behind j k g, e, f) refl
    at Less Greater e f rest =
        let g : key_cmp j k ≡ Less = key_total.trans j a.0 k e (before k a.0 f) in
        rw (behind j k g, e, f) refl
    at Equal Less e f rest =
        let g : key_cmp k j ≡ Less = subst (λ (q : PubKey). key_cmp k q ≡ Less) (sym (key_exact j a.0 e)) f in
        rw (behind k j g, e, f) refl
    at Equal Equal e f rest =
        let same : j ≡ k = key_exact j a.0 e ∙ sym (key_exact k a.0 f) in
        absurd (let bad : true ≡ false = sym (subst (λ (q : PubKey). is_at (key_cmp j) q ≡ true) same (at_itself j)) ∙ apart in cc)
    at Equal Greater e f rest = rw (e, f) refl
    at Greater Less e f rest =
        let g : key_cmp k j ≡ Less = key_total.trans k a.0 j f (before j a.0 e) in
        rw (behind k j g, e, f) refl
    at Greater Equal e f rest = rw (e, f) refl
    at Greater Greater e f rest = rw (e, f) (ap (λ l. a ∷ l) rest)

-- to begin with no past is not seen once something was gained
one_unseen : {X : Type 0} (f : Past → X → Past) (listed : List (PubKey × X)) (pasts : List (PubKey × Past)) (key : PubKey) → kept_of pasts key ≡ None → IsSome (kept_of listed key)
    → fold (gain f) (with_key pasts key no_past) listed ≡ fold (gain f) pasts listed
one_unseen f [] pasts key none found = let bad : false ≡ true = found in cc
one_unseen {X} f (one ∷ more) pasts key none found = at (is_at (key_cmp key) one.0) refl found (λ still later. one_unseen f more (gain f pasts one) key still later) where
  at : (b : Bool) → is_at (key_cmp key) one.0 ≡ b → IsSome (cond b (Some one.1) (kept_of more key))
      → (kept_of (gain f pasts one) key ≡ None → IsSome (kept_of more key) → fold (gain f) (with_key (gain f pasts one) key no_past) more ≡ fold (gain f) (gain f pasts one) more) → fold (gain f) (gain f (with_key pasts key no_past) one) more ≡ fold (gain f) (gain f pasts one) more
  at true e h rest =
      let same : one.0 ≡ key = sym (same_key key one.0 e) in
      let known : kept_of (with_key pasts key no_past) one.0 ≡ Some no_past = ap (λ k. kept_of (with_key pasts key no_past) k) same ∙ kept_here pasts key no_past in
      let absent : kept_of pasts one.0 ≡ None = ap (λ k. kept_of pasts k) same ∙ none in
      let both : gain f (with_key pasts key no_past) one ≡ gain f pasts one =
      ap (λ o. with_key (with_key pasts key no_past) one.0 (f (known_past o) one.1)) known ∙ ap (λ k. with_key (with_key pasts k no_past) one.0 (f no_past one.1)) (sym same)
      ∙ put_twice pasts one.0 no_past (f no_past one.1) ∙ ap (λ o. with_key pasts one.0 (f (known_past o) one.1)) (sym absent)
      in
      ap (λ l. fold (gain f) l more) both
  at false e h rest =
      let known : kept_of (with_key pasts key no_past) one.0 ≡ kept_of pasts one.0 = kept_apart pasts key one.0 no_past e in
      let after = f (known_past (kept_of pasts one.0)) one.1 in
      let both : gain f (with_key pasts key no_past) one ≡ with_key (gain f pasts one) key no_past =
      ap (λ o. with_key (with_key pasts key no_past) one.0 (f (known_past o) one.1)) known ∙ put_either pasts key one.0 no_past after e
      in
      let still : kept_of (gain f pasts one) key ≡ None = kept_apart pasts one.0 key after (apart_back key one.0 e) ∙ none in
      ap (λ l. fold (gain f) l more) both ∙ rest still h

unseen : {X : Type 0} (f : Past → X → Past) (listed : List (PubKey × X)) (pasts : List (PubKey × Past)) (fresh : List PubKey) → AreFresh no_past pasts fresh → All (λ key. IsSome (kept_of listed key)) fresh
    → fold (gain f) (with_each no_past pasts fresh) listed ≡ fold (gain f) pasts listed
unseen f listed pasts [] are all = refl
unseen f listed pasts (key ∷ keys) are all =
    unseen f listed (with_key pasts key no_past) keys are.1 (All-tail (λ k. IsSome (kept_of listed k)) key keys all)
    ∙ one_unseen f listed pasts key are.0 (All-head (λ k. IsSome (kept_of listed k)) key keys all)

-- keys that are fresh in the one are fresh in the other, and may begin in both
each_fresh : {X Y : Type 0} (R : X → Y → Type 0) (x : X) (y : Y) → R x y → (xs : List (PubKey × X)) (ys : List (PubKey × Y)) (keys : List PubKey) → EachKey R xs ys → AreFresh x xs keys
    → AreFresh y ys keys × EachKey R (with_each x xs keys) (with_each y ys keys)
each_fresh R x y r xs ys [] each are = (tt, each)
each_fresh R x y r xs ys (key ∷ keys) each are =
    let rest = each_fresh R x y r (with_key xs key x) (with_key ys key y) keys (each_new R xs ys key x y each r) are.1 in
    ((each_none R xs ys key each are.0, rest.0), rest.1)

pub no_parts_stand : Stands no_parts no_past
no_parts_stand = record {
  floors = refl;
  blocks = λ e. (λ has. absurd (omega (arith, has.1)), block e);
  votes = λ e. (λ has. absurd (omega (arith, has.1)), vote e);
  blocks_in_order = λ i j d lt within. absurd (omega arith);
  votes_in_order = λ i j d lt within. absurd (omega arith);
} where
  block : (e : BlockEntry) → IsPastBlock no_past e × ¬ (IsDeadBlock no_floors e) → Contains [] e
  block e (inl book, live) = absurd (let h = book.1.1 in omega arith)
  block e (inr own, live) = absurd (let h = own.2.1 in omega arith)

  vote : (e : VoteEntry) → IsPastVote no_past e × ¬ (IsDeadVote no_floors e) → Contains [] e
  vote e (inl book, live) = absurd (let h = book.1.1 in omega arith)
  vote e (inr own, live) = absurd (let h = own.2.1 in omega arith)

-- what the prepared records gained, the pasts gained that were before
pub all_gained : {X : Type 0} (f : Past → X → Past) (old mid new : List (PubKey × Parts)) (listed : List (PubKey × X)) (fresh : List PubKey) (pasts : List (PubKey × Past)) → EachKey SameParts (with_each no_parts old fresh) mid → AreFresh no_parts old fresh
    → All (λ key. IsSome (kept_of listed key)) fresh → ((before : List (PubKey × Past)) → BooksStand mid before → BooksStand new (fold (gain f) before listed)) → BooksStand old pasts → BooksStand new (fold (gain f) pasts listed)
all_gained f old mid new listed fresh pasts same absent are_listed stands stand =
    let both = each_fresh Stands no_parts no_past no_parts_stand old pasts fresh stand absent in
    let middle = all_same_stand (with_each no_parts old fresh) mid (with_each no_past pasts fresh) same both.1 in
    let E : List (PubKey × Past) → Type 0 = λ l. BooksStand new l in
    subst E (unseen f listed pasts fresh both.0 are_listed) (stands (with_each no_past pasts fresh) middle)

-- so many keys more
pub length_after : {X : Type 0} (size : X → ℕ × ℕ) (old mid new : List (PubKey × Parts)) (listed : List (PubKey × X)) (fresh : List PubKey) → IsReady size old listed fresh mid → length new ≡ length mid → length new ≡ length old + new_keys old listed
length_after size old mid new listed fresh ready len =
    len ∙ sym (each_length SameParts (with_each no_parts old fresh) mid ready.prepared.same) ∙ length_fresh no_parts old fresh ready.prepared.absent ∙ ap (λ n. length old + n) ready.count

-- so many keys are within the limit
pub within_after : {X : Type 0} (size : X → ℕ × ℕ) (old mid new : List (PubKey × Parts)) (listed : List (PubKey × X)) (fresh : List PubKey) (n : ℕ) → IsReady size old listed fresh mid → length new ≡ length mid → length old + new_keys old listed ≤ n
    → length new ≤ n
within_after size old mid new listed fresh n ready same within = let len = length_after size old mid new listed fresh ready same in omega (arith, within, len)

-- all that is listed is ready
pub ready_whole : {X : Type 0} (size : X → ℕ × ℕ) (old new : List (PubKey × Parts)) (listed : List (PubKey × X)) (fresh : List PubKey) (n : ℕ) → IsReady size old (take n listed) fresh new → length listed ≤ n → IsReady size old listed fresh new
ready_whole {X} size old new listed fresh n ready all = let P : List (PubKey × X) → Type 0 = λ l. IsReady size old l fresh new in subst P (take_all n listed all) ready

pub within_same : (old new : List (PubKey × Parts)) (n : ℕ) → EachKey SameParts old new → length old ≤ n → length new ≤ n
within_same old new n same within = let len = each_length SameParts old new same in omega (arith, within, len)

-- a fault of numbers is one of what is kept and listed
pub over_is : {X : Type 0} (kept : List (PubKey × Parts)) (listed : List (PubKey × X)) (have new : ℕ) (fault : MergeFault) → have ≡ length kept → new ≡ new_keys kept listed → IsOverLimit have new fault → IsMergeFault kept listed fault
over_is kept listed have new (merge_fault.TooManyKeys n m) h k over = (over.0 ∙ h, over.1 ∙ k, over.2)
over_is kept listed have new merge_fault.OutOfMemory h k over = absurd over

-- ---- records are joined

-- so far the first of the others were joined
pub record JoinsOn (start joining : List (PubKey × Parts)) (n : ℕ) (now : List (PubKey × Parts)) : Type 0 where
  pub stands : (pasts more : List (PubKey × Past)) → BooksStand start pasts → BooksStand joining more → BooksStand now (fold (gain then_past) pasts (take n more))
  pub len : length now ≡ length start
  pub takes : EachTakes TakesRecord (take n joining) start now

-- what is at a place of the one fits what is there in the other
each_at : {X Y : Type 0} (R : X → Y → Type 0) (xs : List (PubKey × X)) (ys : List (PubKey × Y)) (i : ℕ) (x : PubKey × X) (y : PubKey × Y) → EachKey R xs ys → i < length xs
    → (i < length ys) × ((get_or xs i x).0 ≡ (get_or ys i y).0) × R (get_or xs i x).1 (get_or ys i y).1
each_at R [] ys i x y h lt = absurd (omega arith)
each_at R (a ∷ more) [] i x y h lt = absurd h
each_at R (a ∷ more) (b ∷ bs) zero x y h lt = (omega arith, h.0, h.1)
each_at R (a ∷ more) (b ∷ bs) (suc i) x y h lt = let rest = each_at R more bs i x y h.2 (omega arith) in (omega (arith, rest.0), rest.1, rest.2)

-- one more is joined
pub joins_more : (start others now new : List (PubKey × Parts)) (i : ℕ) (x : PubKey × Parts) → IsDistinct (eq_by_cmp key_cmp) (keys_of others) → i < length others → x ≡ get_or others i x → JoinsOn start others i now → Takes TakesRecord now new x.0 x.1
    → IsStrictlySortedBy key_cmp (keys_of now) → length new ≡ length now → JoinsOn start others (i + 1) new
joins_more start others now new i x distinct lt is so_far takes sorted len = record {
  stands = λ pasts more stand each.
      let y : PubKey × Past = (x.0, no_past) in
      let at = each_at Stands others more i x y each lt in
      let q = get_or more i y in
      let key : x.0 ≡ q.0 = ap (λ (z : PubKey × Parts). z.0) is ∙ at.1 in
      let S : PubKey × Parts → Type 0 = λ z. Stands z.1 q.1 in
      let fits : Stands x.1 q.1 = subst S (sym is) at.2 in
      let G : PubKey → Type 0 = λ k. BooksStand new (gain then_past (fold (gain then_past) pasts (take i more)) (k, q.1)) in
      let E : List (PubKey × Past) → Type 0 = λ l. BooksStand new l in
      let after = gains_at then_past now new (fold (gain then_past) pasts (take i more)) x.0 q.1 takes.parts takes.after sorted takes.is_kept takes.is (λ p s. takes.taken.stands p q.1 s fits) (so_far.stands pasts more stand each) in
      let whole = ap (λ l. fold (gain then_past) pasts l) (take_more more i y at.0) ∙ fold_push (gain then_past) pasts (take i more) q in
      subst E (sym whole) (subst G key after);
  len = len ∙ so_far.len;
  takes =
      let E : List (PubKey × Parts) → Type 0 = λ l. EachTakes TakesRecord l start new in
      subst E (sym (next_at others i x lt is)) (takes_more TakesRecord start now new (take i others) x (none_before others i x distinct lt is) takes so_far.takes);
}

-- the room of the next is still as it was made
pub room_next_join : (start others now : List (PubKey × Parts)) (i : ℕ) (x : PubKey × Parts) → IsDistinct (eq_by_cmp key_cmp) (keys_of others) → i < length others → x ≡ get_or others i x → JoinsOn start others i now
    → HaveRoomFor parts_size start others → IsSomeAnd (kept_of now x.0) (λ parts. HasRoomFor parts (parts_size x.1))
room_next_join start others now i x distinct lt is so_far room =
    let P : Option Parts → Type 0 = λ o. IsSomeAnd o (λ parts. HasRoomFor parts (parts_size x.1)) in
    let Q : PubKey × Parts → Type 0 = λ y. IsSomeAnd (kept_of start y.0) (λ parts. HasRoomFor parts (parts_size y.1)) in
    subst P (sym (so_far.takes.others x.0 (none_before others i x distinct lt is))) (subst Q (sym is) (room i x lt))

pub joins_none : (start others : List (PubKey × Parts)) → JoinsOn start others 0 start
joins_none start others = record { stands = λ pasts more stand each. stand; len = refl; takes = takes_none TakesRecord start }

-- all are joined
pub joins_all : (start others now : List (PubKey × Parts)) (n : ℕ) → n ≡ length others → JoinsOn start others n now
    → ((pasts more : List (PubKey × Past)) → BooksStand start pasts → BooksStand others more → BooksStand now (joined pasts more)) × EachTakes TakesRecord others start now
joins_all start others now n all so_far = (
  λ pasts more stand each.
      let E : List (PubKey × Past) → Type 0 = λ l. BooksStand now (fold (gain then_past) pasts l) in
      let past : length more ≤ n = let e = each_length Stands others more each in omega (arith, e, all) in
      subst E (take_all n more past) (so_far.stands pasts more stand each),
  let K : List (PubKey × Parts) → Type 0 = λ l. EachTakes TakesRecord l start now in subst K (take_all n others (omega (arith, all))) so_far.takes,
)

-- what is read at a place stands there
pub read_at : {X : Type 0} (xs : List X) (i : ℕ) (x : X) → slice_get xs i ≡ Some x → (i < length xs) × (x ≡ get_or xs i x)
read_at xs i x read = (slice_get_within xs i x read, sym (get_or_from_slice_get xs i x x read))

-- what the prepared records were joined with, the pasts were that were before
pub all_joined : (old mid new others : List (PubKey × Parts)) (fresh : List PubKey) (pasts more : List (PubKey × Past)) → ArePrepared old others fresh mid
    → ((before after : List (PubKey × Past)) → BooksStand mid before → BooksStand others after → BooksStand new (joined before after)) → BooksStand old pasts → BooksStand others more → BooksStand new (joined pasts more)
all_joined old mid new others fresh pasts more prepared stands stand each =
    all_gained then_past old mid new more fresh pasts prepared.same prepared.absent
    (All-weaker (λ k. IsSome (kept_of others k)) (λ k. IsSome (kept_of more k)) (λ k found. each_present Stands others more k each found) fresh prepared.are_listed)
    (λ before s. stands before more s each) stand
