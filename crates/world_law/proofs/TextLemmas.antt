-- That what is handed out stands in its written order.
use Rattle.std.proofs.Common.{◌≡◌, ℕ, suc, ◌<◌, Bool, true, false, cond, List, [], ◌∷◌, ◌++◌, length, get_or, fold, Option, Some, None, Ordering, Less, Greater, is_eq, refl, sym, ◌∙◌, ap, subst, append-nil, append_assoc, arith}
use Rattle.std.specs.Prelude.{AllPairs, IsSomeAnd, unwrap_or}
use Rattle.std.specs.List.{AllByRecursion}
use Rattle.std.specs.List.Sorted.{IsStrictlySortedBy}
use Rattle.std.specs.Map.{keys_of, lookup}
use Rattle.std.specs.Cmp.{IsTotalOrder}
use Rattle.std.specs.Ordering.{match_ordering, ordering_reverse}
use Rattle.std.specs.BTreeMap.{insert_entry, is_at}
use Rattle.std.specs.BTreeSet.{insert_key}
use Rattle.edge_kit.specs.declared.bytes.PubKey.{PubKey}
use Rattle.slash_defs.specs.FileOrder.{block_cmp, vote_cmp, blocks_total, votes_total}
use Rattle.slash_defs.specs.declared.entry.VoteEntry.{VoteEntry}
use Rattle.slash_defs.specs.declared.book.Book.{Book}
use Rattle.slash_defs.specs.declared.book.File.{File}
use Rattle.interchange_io.specs.WrittenOrder.{empty_book, merged, book_at, with_sorted, canonical}
use Rattle.interchange_io.specs.Contents.{IsBookInOrder}
use Rattle.protect_record.specs.Exporting.{exported_votes, vote_without_root, is_regular_at, greatest_epochs}
use Rattle.protect_record.specs.Pasts.{Past}
use Rattle.record_join.specs.Keys.{key_cmp, kept_of}
use Rattle.record_join.specs.KeyLaws.{key_total, at_itself, same_key}
use Rattle.desk_machine.specs.States.{is_among}
use Rattle.desk_machine.specs.Handing.{IsExport, ExportsOne}
use Rattle.world_law.specs.Plans.{file_of}
use Rattle.world_law.specs.Texts.{ExportsAsWritten, ClosesAsWritten}

-- ---- what is inserted in order, one behind the other

module _ {K : Type 0} (cmp : K → K → Ordering) (total : IsTotalOrder cmp) where
  -- it stands behind each of these
  abbrev Behind : K → List K → Type 0
  Behind k xs = AllByRecursion (λ x. cmp k x ≡ Greater) xs

  -- and so does each of those
  abbrev Follow : List K → List K → Type 0
  Follow xs ys = AllByRecursion (λ y. Behind y xs) ys

  follow_none : (ys : List K) → Follow [] ys
  follow_none [] = tt
  follow_none (y ∷ ys) = (tt, follow_none ys)

  back : (a b : K) → cmp a b ≡ Less → cmp b a ≡ Greater
  back a b e = total.antisymm b a ∙ ap ordering_reverse e

  behind_more : (k : K) (xs : List K) (x : K) → Behind k xs → cmp k x ≡ Greater → Behind k (xs ++ x ∷ [])
  behind_more k [] x h e = (e, tt)
  behind_more k (y ∷ xs) x h e = (h.0, behind_more k xs x h.1 e)

  follow_more : (xs : List K) (y : K) (ys : List K) → Follow xs ys → AllByRecursion (λ z. cmp y z ≡ Less) ys → Follow (xs ++ y ∷ []) ys
  follow_more xs y [] h a = tt
  follow_more xs y (z ∷ ys) h a = (behind_more z xs y h.0 (back y z a.0), follow_more xs y ys h.1 a.1)

  insert_last : (k : K) (xs : List K) → Behind k xs → insert_key cmp xs k ≡ xs ++ k ∷ []
  insert_last k [] h = refl
  insert_last k (x ∷ xs) h = ap (λ o. match_ordering o (k ∷ x ∷ xs) (x ∷ xs) (x ∷ insert_key cmp xs k)) h.0 ∙ ap (λ l. x ∷ l) (insert_last k xs h.1)

  insert_rest : (xs ys : List K) → Follow xs ys → IsStrictlySortedBy cmp ys → fold (insert_key cmp) xs ys ≡ xs ++ ys
  unfolding IsStrictlySortedBy
  insert_rest xs [] f s = sym (append-nil xs)
  insert_rest xs (y ∷ ys) f s = ap (λ l. fold (insert_key cmp) l ys) (insert_last y xs f.0) ∙ (insert_rest (xs ++ y ∷ []) ys (follow_more xs y ys f.1 s.0) s.1 ∙ append_assoc xs (y ∷ []) ys)

  inserts_all : (ys : List K) → IsStrictlySortedBy cmp ys → fold (insert_key cmp) [] ys ≡ ys
  inserts_all ys s = insert_rest [] ys (follow_none ys) s

  -- from pairs by their places
  by_each : (P : K → Type 0) (xs : List K) → ((k : ℕ) (d : K) → k < length xs → P (get_or xs k d)) → AllByRecursion P xs
  by_each P [] h = tt
  by_each P (x ∷ xs) h = (h 0 x (omega arith), by_each P xs (λ k d lt. h (suc k) d (omega (arith, lt))))

  sorted_of : (xs : List K) → AllPairs (λ a b. cmp a b ≡ Less) xs → IsStrictlySortedBy cmp xs
  unfolding IsStrictlySortedBy
  sorted_of [] h = tt
  sorted_of (x ∷ xs) h =
      (by_each (λ y. cmp x y ≡ Less) xs (λ k d lt. h 0 (suc k) d (omega arith) (omega (arith, lt))), sorted_of xs (λ i j d before within. h (suc i) (suc j) d (omega (arith, before)) (omega (arith, within))))

  sorted_one : (x : K) → IsStrictlySortedBy cmp (x ∷ [])
  unfolding IsStrictlySortedBy
  sorted_one x = (tt, tt)

  sorted_none : IsStrictlySortedBy cmp []
  unfolding IsStrictlySortedBy
  sorted_none = tt

-- ---- a file in order is its written order

abbrev Listed : Type 0
Listed = PubKey × Book

merged_none : (b : Book) → IsStrictlySortedBy block_cmp b.blocks → IsStrictlySortedBy vote_cmp b.votes → merged empty_book b ≡ b
merged_none b blocks votes = λ i. record { blocks = inserts_all block_cmp blocks_total b.blocks blocks i; votes = inserts_all vote_cmp votes_total b.votes votes i }

book_none : (k : PubKey) (xs : List Listed) → Behind key_cmp key_total k (keys_of xs) → book_at xs k ≡ empty_book
book_none k [] h = refl
book_none k (x ∷ xs) h = ap (λ o. unwrap_or (cond (is_eq o) (Some x.1) (lookup (is_at (key_cmp k)) xs)) empty_book) h.0 ∙ book_none k xs h.1

entry_last : (k : PubKey) (b : Book) (xs : List Listed) → Behind key_cmp key_total k (keys_of xs) → insert_entry key_cmp xs k b ≡ xs ++ (k, b) ∷ []
entry_last k b [] h = refl
entry_last k b (x ∷ xs) h = ap (λ o. match_ordering o ((k, b) ∷ x ∷ xs) ((x.0, b) ∷ xs) (x ∷ insert_entry key_cmp xs k b)) h.0 ∙ ap (λ l. x ∷ l) (entry_last k b xs h.1)

sorted_last : (y : Listed) (xs : List Listed) → Behind key_cmp key_total y.0 (keys_of xs) → IsBookInOrder y → with_sorted xs y ≡ xs ++ y ∷ []
sorted_last y xs h o = ap (λ b. insert_entry key_cmp xs y.0 b) (ap (λ b. merged b y.1) (book_none y.0 xs h) ∙ merged_none y.1 o.0 o.1) ∙ entry_last y.0 y.1 xs h

keys_more : (xs : List Listed) (y : Listed) → keys_of (xs ++ y ∷ []) ≡ keys_of xs ++ y.0 ∷ []
keys_more [] y = refl
keys_more (x ∷ xs) y = ap (λ l. x.0 ∷ l) (keys_more xs y)

sorted_rest : (xs ys : List Listed) → Follow key_cmp key_total (keys_of xs) (keys_of ys) → IsStrictlySortedBy key_cmp (keys_of ys) → AllByRecursion IsBookInOrder ys → fold with_sorted xs ys ≡ xs ++ ys
unfolding IsStrictlySortedBy
sorted_rest xs [] f s o = sym (append-nil xs)
sorted_rest xs (y ∷ ys) f s o =
    let F : List PubKey → Type 0 = λ l. Follow key_cmp key_total l (keys_of ys) in
    ap (λ l. fold with_sorted l ys) (sorted_last y xs f.0 o.0)
    ∙ (sorted_rest (xs ++ y ∷ []) ys (subst F (sym (keys_more xs y)) (follow_more key_cmp key_total (keys_of xs) y.0 (keys_of ys) f.1 s.0)) s.1 o.1 ∙ append_assoc xs (y ∷ []) ys)

canonical_is : (file : File) → IsStrictlySortedBy key_cmp (keys_of file.books) → AllByRecursion IsBookInOrder file.books → canonical file ≡ file
canonical_is file s o = ap (λ books. record { genesis = file.genesis; books = books }) (sorted_rest [] file.books (follow_none key_cmp key_total (keys_of file.books)) s o)

-- ---- what is handed out is in order

votes_in_order : (floors : Option (ℕ × ℕ)) (votes : List VoteEntry) → IsStrictlySortedBy vote_cmp votes → IsStrictlySortedBy vote_cmp (exported_votes floors votes)
votes_in_order None votes s = s
votes_in_order (Some floor) votes s = at (is_regular_at floor votes) (greatest_epochs (Some floor) votes) where
  one : (p : Option (ℕ × ℕ)) → IsStrictlySortedBy vote_cmp (vote_without_root p)
  one None = sorted_none vote_cmp votes_total
  one (Some p) = sorted_one vote_cmp votes_total (record { target = p.1; source = p.0; root = None })

  at : (b : Bool) (p : Option (ℕ × ℕ)) → IsStrictlySortedBy vote_cmp (cond b votes (vote_without_root p))
  at true p = s
  at false p = one p

book_in_order : (key : PubKey) (book : Book) (o : Option Past) → IsSomeAnd o (λ past. IsExport past book) → IsBookInOrder (key, book)
book_in_order key book None h = absurd h
book_in_order key book (Some past) h =
    let P : Book → Type 0 = λ b. IsBookInOrder (key, b) in
    subst P (sym h.value) (sorted_of block_cmp blocks_total h.parts.blocks h.stands.blocks_in_order, votes_in_order h.parts.floors.vote h.parts.votes (sorted_of vote_cmp votes_total h.parts.votes h.stands.votes_in_order))

none_above : (key : PubKey) (xs : List Listed) → AllByRecursion (λ y. key_cmp key y ≡ Less) (keys_of xs) → kept_of xs key ≡ None
none_above key [] h = refl
none_above key (x ∷ xs) h = ap (λ o. cond (is_eq o) (Some x.1) (kept_of xs key)) h.0 ∙ none_above key xs h.1

all_in_order : (xs : List Listed) → IsStrictlySortedBy key_cmp (keys_of xs) → ((key : PubKey) (book : Book) → kept_of xs key ≡ Some book → IsBookInOrder (key, book)) → AllByRecursion IsBookInOrder xs
unfolding IsStrictlySortedBy
all_in_order [] s h = tt
all_in_order (x ∷ xs) s h = (h x.0 x.1 (ap (λ b. cond b (Some x.1) (kept_of xs x.0)) (at_itself x.0)), all_in_order xs s.1 (λ key book e. h key book (at key book (is_at (key_cmp key) x.0) refl e))) where
  none_some : (book : Book) → None ≡ Some book → ⊥
  none_some book e = cc

  at : (key : PubKey) (book : Book) (b : Bool) → is_at (key_cmp key) x.0 ≡ b → kept_of xs key ≡ Some book → kept_of (x ∷ xs) key ≡ Some book
  at key book true is e =
      let P : PubKey → Type 0 = λ q. kept_of xs q ≡ Some book in
      absurd (none_some book (sym (none_above x.0 xs s.0) ∙ subst P (same_key key x.0 is) e))
  at key book false is e = ap (λ b. cond b (Some x.1) (kept_of xs key)) is ∙ e

exported_book : (asks : Bool) (o : Option Past) (book : Book) → ExportsOne asks o (Some book) → IsSomeAnd o (λ past. IsExport past book)
exported_book true (Some past) book x = x
exported_book true None book x = absurd (let bad : Some book ≡ None = x in cc)
exported_book false (Some past) book x = absurd (let bad : Some book ≡ None = x in cc)
exported_book false None book x = absurd (let bad : Some book ≡ None = x in cc)

pub exports_as_written : ExportsAsWritten
exports_as_written state keys file h = canonical_is file h.1.ordered (all_in_order file.books h.1.ordered (λ key book e. at key book e)) where
  at : (key : PubKey) (book : Book) → kept_of file.books key ≡ Some book → IsBookInOrder (key, book)
  at key book e =
      let P : Option Book → Type 0 = λ o. ExportsOne (is_among keys key) (kept_of state.keys key) o in
      book_in_order key book (kept_of state.keys key) (exported_book (is_among keys key) (kept_of state.keys key) book (subst P e (h.1.each key)))

pub closes_as_written : ClosesAsWritten
closes_as_written state key book genesis h = canonical_is (file_of genesis key book) (sorted_one key_cmp key_total key) (book_in_order key book (kept_of state.keys key) h.1, tt)
