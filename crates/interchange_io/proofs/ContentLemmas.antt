-- The written order leaves out nothing and adds nothing.
use Rattle.std.proofs.Common.{◌≡◌, ◌⊎◌, inl, inr, ℕ, zero, suc, ◌<◌, Bool, true, false, cond, List, [], ◌∷◌, length, get_or, fold, Some, unwrap_or, Ordering, Less, Equal, Greater, is_eq, refl, sym, ap, ◌∙◌, subst, arith}
use Rattle.std.specs.Prelude.{◌↔◌, Contains, ⊤}
use Rattle.std.specs.List.{AllByRecursion}
use Rattle.std.specs.List.Sorted.{IsStrictlySortedBy}
use Rattle.std.specs.Map.{lookup}
use Rattle.std.specs.Ordering.{match_ordering}
use Rattle.std.specs.BTreeMap.{insert_entry, is_at}
use Rattle.std.specs.BTreeSet.{insert_key}
use Rattle.std.proofs.lemmas.Map.Lookups.{CmpEqualImpliesEq, exact_bytes}
use Rattle.edge_kit.specs.declared.bytes.PubKey.{PubKey}
use Rattle.slash_defs.specs.declared.entry.BlockEntry.{BlockEntry}
use Rattle.slash_defs.specs.declared.entry.VoteEntry.{VoteEntry}
use Rattle.slash_defs.specs.declared.book.Book.{Book}
use Rattle.slash_defs.specs.declared.book.File.{File}
use Rattle.slash_defs.specs.FileOrder.{block_cmp, vote_cmp, blocks_total, votes_total, exact_blocks, exact_votes}
use Rattle.interchange_io.specs.United.{key_cmp}
use Rattle.interchange_io.specs.WrittenOrder.{empty_book, merged, book_at, with_sorted, canonical}
use Rattle.interchange_io.specs.Contents.{SomeBook, HoldSame, IsBookInOrder, AreInWrittenOrder}
use Rattle.interchange_io.proofs.OnceLemmas.{sorted_all, sorted_keys, nothing_sorted}

abbrev Listed : Type 0
Listed = PubKey × Book

-- ---- elements of a list

contains_first : {X : Type 0} (x : X) (xs : List X) → Contains (x ∷ xs) x
contains_first x xs = (0, omega arith, refl)

contains_later : {X : Type 0} (x y : X) (xs : List X) → Contains xs y → Contains (x ∷ xs) y
contains_later x y xs h = (suc h.0, omega (arith, h.1), h.2)

contains_cases : {X : Type 0} (x y : X) (xs : List X) → Contains (x ∷ xs) y → (x ≡ y) ⊎ Contains xs y
contains_cases x y xs h = by_place h.0 h.1 h.2 where
  by_place : (k : ℕ) → k < length (x ∷ xs) → get_or (x ∷ xs) k y ≡ y → (x ≡ y) ⊎ Contains xs y
  by_place zero below is = inl is
  by_place (suc k) below is = inr (k, omega arith, is)

contains_nothing : {X A : Type 0} (y : X) → Contains [] y → A
contains_nothing y h = absurd (omega (arith, h.1))

-- ---- a key inserted in order

module _ {K : Type 0} (cmp : K → K → Ordering) (exact : CmpEqualImpliesEq cmp) where
  to_by : (o : Ordering) (k x y : K) (xs : List K) → (Contains (insert_key cmp xs k) y → (k ≡ y) ⊎ Contains xs y) → Contains (match_ordering o (k ∷ x ∷ xs) (x ∷ xs) (x ∷ insert_key cmp xs k)) y → (k ≡ y) ⊎ Contains (x ∷ xs) y
  to_by Less k x y xs later h = contains_cases k y (x ∷ xs) h
  to_by Equal k x y xs later h = inr h
  to_by Greater k x y xs later h = elim (contains_cases x y (insert_key cmp xs k) h) [
    | inl first ↦ inr (subst (Contains (x ∷ xs)) first (contains_first x xs))
    | inr rest ↦ elim (later rest) [ inl same ↦ inl same | inr there ↦ inr (contains_later x y xs there) ]
  ]

  inserted_to : (k y : K) (xs : List K) → Contains (insert_key cmp xs k) y → (k ≡ y) ⊎ Contains xs y
  inserted_to k y [] h = contains_cases k y [] h
  inserted_to k y (x ∷ xs) h = to_by (cmp k x) k x y xs (inserted_to k y xs) h

  from_by : (o : Ordering) (k x y : K) (xs : List K) → cmp k x ≡ o → ((k ≡ y) ⊎ Contains xs y → Contains (insert_key cmp xs k) y) → (k ≡ y) ⊎ Contains (x ∷ xs) y
      → Contains (match_ordering o (k ∷ x ∷ xs) (x ∷ xs) (x ∷ insert_key cmp xs k)) y
  from_by Less k x y xs is later (inl same) = subst (Contains (k ∷ x ∷ xs)) same (contains_first k (x ∷ xs))
  from_by Less k x y xs is later (inr there) = contains_later k y (x ∷ xs) there
  from_by Equal k x y xs is later (inl same) = subst (Contains (x ∷ xs)) (sym (exact k x is) ∙ same) (contains_first x xs)
  from_by Equal k x y xs is later (inr there) = there
  from_by Greater k x y xs is later (inl same) = contains_later x y (insert_key cmp xs k) (later (inl same))
  from_by Greater k x y xs is later (inr there) = elim (contains_cases x y xs there) [
    | inl first ↦ subst (Contains (x ∷ insert_key cmp xs k)) first (contains_first x (insert_key cmp xs k))
    | inr rest ↦ contains_later x y (insert_key cmp xs k) (later (inr rest))
  ]

  inserted_from : (k y : K) (xs : List K) → (k ≡ y) ⊎ Contains xs y → Contains (insert_key cmp xs k) y
  inserted_from k y [] (inl same) = subst (Contains (k ∷ [])) same (contains_first k [])
  inserted_from k y [] (inr there) = contains_nothing y there
  inserted_from k y (x ∷ xs) h = from_by (cmp k x) k x y xs refl (inserted_from k y xs) h

  all_to : (y : K) (found xs : List K) → Contains (fold (insert_key cmp) found xs) y → Contains found y ⊎ Contains xs y
  all_to y found [] h = inl h
  all_to y found (x ∷ xs) h = elim (all_to y (insert_key cmp found x) xs h) [
    | inl before ↦ elim (inserted_to x y found before) [
      | inl same ↦ inr (subst (Contains (x ∷ xs)) same (contains_first x xs))
      | inr there ↦ inl there
    ]
    | inr rest ↦ inr (contains_later x y xs rest)
  ]

  all_from : (y : K) (found xs : List K) → Contains found y ⊎ Contains xs y → Contains (fold (insert_key cmp) found xs) y
  all_from y found [] (inl there) = there
  all_from y found [] (inr there) = contains_nothing y there
  all_from y found (x ∷ xs) (inl there) = all_from y (insert_key cmp found x) xs (inl (inserted_from x y found (inr there)))
  all_from y found (x ∷ xs) (inr there) = elim (contains_cases x y xs there) [
    | inl first ↦ all_from y (insert_key cmp found x) xs (inl (inserted_from x y found (inl first)))
    | inr rest ↦ all_from y (insert_key cmp found x) xs (inr rest)
  ]

-- ---- books in order

-- a book made of two holds what one of them holds, and where no book was there is nothing to hold
record IsKept (holds : Book → Type 0) : Type 0 where
  to : (kept more : Book) → holds (merged kept more) → holds kept ⊎ holds more
  from : (kept more : Book) → holds kept ⊎ holds more → holds (merged kept more)
  none : (more : Book) → holds empty_book → holds more

key_exact : CmpEqualImpliesEq key_cmp
key_exact a b e = ap (λ bytes. record { 0 = bytes }) (exact_bytes a.0 b.0 e)

module _ (holds : Book → Type 0) (kept : IsKept holds) where
  -- what is found at a key is of a book of it
  found_by : (o : Ordering) (k : PubKey) (e : Listed) (es : List Listed) → key_cmp k e.0 ≡ o → (holds (unwrap_or (lookup (is_at (key_cmp k)) es) empty_book) → SomeBook k holds es ⊎ holds empty_book)
      → holds (unwrap_or (cond (is_eq o) (Some e.1) (lookup (is_at (key_cmp k)) es)) empty_book) → SomeBook k holds (e ∷ es) ⊎ holds empty_book
  found_by Less k e es is later h = elim (later h) [ inl there ↦ inl (inr there) | inr none ↦ inr none ]
  found_by Equal k e es is later h = inl (inl (sym (key_exact k e.0 is), h))
  found_by Greater k e es is later h = elim (later h) [ inl there ↦ inl (inr there) | inr none ↦ inr none ]

  found : (k : PubKey) (es : List Listed) → holds (book_at es k) → SomeBook k holds es ⊎ holds empty_book
  found k [] h = inr h
  found k (e ∷ es) h = found_by (key_cmp k e.0) k e es refl (found k es) h

  to_insert_by : (o : Ordering) (key k : PubKey) (v : Book) (e : Listed) (es : List Listed) → key_cmp k e.0 ≡ o → (SomeBook key holds (insert_entry key_cmp es k v) → SomeBook key holds es ⊎ ((k ≡ key) × holds v))
      → SomeBook key holds (match_ordering o ((k, v) ∷ e ∷ es) ((e.0, v) ∷ es) (e ∷ insert_entry key_cmp es k v)) → SomeBook key holds (e ∷ es) ⊎ ((k ≡ key) × holds v)
  to_insert_by Less key k v e es is later (inl h) = inr h
  to_insert_by Less key k v e es is later (inr h) = inl h
  to_insert_by Equal key k v e es is later (inl h) = inr (key_exact k e.0 is ∙ h.0, h.1)
  to_insert_by Equal key k v e es is later (inr h) = inl (inr h)
  to_insert_by Greater key k v e es is later (inl h) = inl (inl h)
  to_insert_by Greater key k v e es is later (inr h) = elim (later h) [ inl there ↦ inl (inr there) | inr new ↦ inr new ]

  to_insert : (key k : PubKey) (v : Book) (es : List Listed) → SomeBook key holds (insert_entry key_cmp es k v) → SomeBook key holds es ⊎ ((k ≡ key) × holds v)
  to_insert key k v [] (inl h) = inr h
  to_insert key k v [] (inr h) = absurd h
  to_insert key k v (e ∷ es) h = to_insert_by (key_cmp k e.0) key k v e es refl (to_insert key k v es) h

  new_insert_by : (o : Ordering) (key k : PubKey) (v : Book) (e : Listed) (es : List Listed) → key_cmp k e.0 ≡ o → (k ≡ key) × holds v → SomeBook key holds (insert_entry key_cmp es k v)
      → SomeBook key holds (match_ordering o ((k, v) ∷ e ∷ es) ((e.0, v) ∷ es) (e ∷ insert_entry key_cmp es k v))
  new_insert_by Less key k v e es is h later = inl h
  new_insert_by Equal key k v e es is h later = inl (sym (key_exact k e.0 is) ∙ h.0, h.1)
  new_insert_by Greater key k v e es is h later = inr later

  new_insert : (key k : PubKey) (v : Book) (es : List Listed) → (k ≡ key) × holds v → SomeBook key holds (insert_entry key_cmp es k v)
  new_insert key k v [] h = inl h
  new_insert key k v (e ∷ es) h = new_insert_by (key_cmp k e.0) key k v e es refl h (new_insert key k v es h)

  old_insert_by : (o : Ordering) (key k : PubKey) (v : Book) (e : Listed) (es : List Listed) → key_cmp k e.0 ≡ o → (holds (unwrap_or (cond (is_eq o) (Some e.1) (lookup (is_at (key_cmp k)) es)) empty_book) → holds v)
      → ((holds (book_at es k) → holds v) → SomeBook key holds es → SomeBook key holds (insert_entry key_cmp es k v))
      → SomeBook key holds (e ∷ es) → SomeBook key holds (match_ordering o ((k, v) ∷ e ∷ es) ((e.0, v) ∷ es) (e ∷ insert_entry key_cmp es k v))
  old_insert_by Less key k v e es is keeps later h = inr h
  old_insert_by Equal key k v e es is keeps later (inl h) = inl (h.0, keeps h.1)
  old_insert_by Equal key k v e es is keeps later (inr h) = inr h
  old_insert_by Greater key k v e es is keeps later (inl h) = inl h
  old_insert_by Greater key k v e es is keeps later (inr h) = inr (later keeps h)

  old_insert : (key k : PubKey) (v : Book) (es : List Listed) → (holds (book_at es k) → holds v) → SomeBook key holds es → SomeBook key holds (insert_entry key_cmp es k v)
  old_insert key k v [] keeps h = absurd h
  old_insert key k v (e ∷ es) keeps h = old_insert_by (key_cmp k e.0) key k v e es refl keeps (old_insert key k v es) h

  with_to : (key : PubKey) (es : List Listed) (new : Listed) → SomeBook key holds (with_sorted es new) → SomeBook key holds es ⊎ ((new.0 ≡ key) × holds new.1)
  with_to key es new h = elim (to_insert key new.0 (merged (book_at es new.0) new.1) es h) [
    | inl there ↦ inl there
    | inr made ↦ elim (kept.to (book_at es new.0) new.1 made.1) [
      | inl before ↦ elim (found new.0 es before) [
        | inl there ↦ inl (subst (λ k. SomeBook k holds es) made.0 there)
        | inr none ↦ inr (made.0, kept.none new.1 none)
      ]
      | inr more ↦ inr (made.0, more)
    ]
  ]

  with_from : (key : PubKey) (es : List Listed) (new : Listed) → SomeBook key holds es ⊎ ((new.0 ≡ key) × holds new.1) → SomeBook key holds (with_sorted es new)
  with_from key es new (inl there) = old_insert key new.0 (merged (book_at es new.0) new.1) es (λ h. kept.from (book_at es new.0) new.1 (inl h)) there
  with_from key es new (inr more) = new_insert key new.0 (merged (book_at es new.0) new.1) es (more.0, kept.from (book_at es new.0) new.1 (inr more.1))

  books_to : (key : PubKey) (es books : List Listed) → SomeBook key holds (fold with_sorted es books) → SomeBook key holds es ⊎ SomeBook key holds books
  books_to key es [] h = inl h
  books_to key es (book ∷ books) h = elim (books_to key (with_sorted es book) books h) [
    | inl before ↦ elim (with_to key es book before) [ inl there ↦ inl there | inr new ↦ inr (inl new) ]
    | inr later ↦ inr (inr later)
  ]

  books_from : (key : PubKey) (es books : List Listed) → SomeBook key holds es ⊎ SomeBook key holds books → SomeBook key holds (fold with_sorted es books)
  books_from key es [] (inl h) = h
  books_from key es [] (inr h) = absurd h
  books_from key es (book ∷ books) (inl h) = books_from key (with_sorted es book) books (inl (with_from key es book (inl h)))
  books_from key es (book ∷ books) (inr (inl h)) = books_from key (with_sorted es book) books (inl (with_from key es book (inr h)))
  books_from key es (book ∷ books) (inr (inr h)) = books_from key (with_sorted es book) books (inr h)

  same : (key : PubKey) (books : List Listed) → SomeBook key holds books ↔ SomeBook key holds (fold with_sorted [] books)
  same key books = (λ h. books_from key [] books (inr h), λ h. elim (books_to key [] books h) [ inl none ↦ absurd none | inr there ↦ there ])

anything_kept : IsKept (λ _. ⊤)
anything_kept = record { to = λ a b h. inl tt; from = λ a b h. tt; none = λ b h. tt }

block_kept : (block : BlockEntry) → IsKept (λ book. Contains book.blocks block)
block_kept block = record {
  to = λ a b h. all_to block_cmp exact_blocks block a.blocks b.blocks h;
  from = λ a b h. all_from block_cmp exact_blocks block a.blocks b.blocks h;
  none = λ b h. contains_nothing block h;
}

vote_kept : (vote : VoteEntry) → IsKept (λ book. Contains book.votes vote)
vote_kept vote = record {
  to = λ a b h. all_to vote_cmp exact_votes vote a.votes b.votes h;
  from = λ a b h. all_from vote_cmp exact_votes vote a.votes b.votes h;
  none = λ b h. contains_nothing vote h;
}

pub canonical_same : (file : File) → HoldSame file.books (canonical file).books
canonical_same file = record {
  keys = λ key. same (λ _. ⊤) anything_kept key file.books;
  blocks = λ key block. same (λ book. Contains book.blocks block) (block_kept block) key file.books;
  votes = λ key vote. same (λ book. Contains book.votes vote) (vote_kept vote) key file.books;
}

-- ---- each book in order

abbrev InOrder : Book → Type 0
InOrder book = IsStrictlySortedBy block_cmp book.blocks × IsStrictlySortedBy vote_cmp book.votes

empty_in_order : InOrder empty_book
unfolding IsStrictlySortedBy
empty_in_order = (tt, tt)

merged_in_order : (a b : Book) → InOrder a → InOrder (merged a b)
merged_in_order a b h = (sorted_all block_cmp blocks_total a.blocks b.blocks h.0, sorted_all vote_cmp votes_total a.votes b.votes h.1)

found_in_order : (es : List Listed) (k : PubKey) → AllByRecursion IsBookInOrder es → InOrder (book_at es k)
found_in_order [] k h = empty_in_order
found_in_order (e ∷ es) k h = by_test (is_at (key_cmp k) e.0) (found_in_order es k h.1) where
  by_test : (b : Bool) → InOrder (book_at es k) → InOrder (unwrap_or (cond b (Some e.1) (lookup (is_at (key_cmp k)) es)) empty_book)
  by_test true later = h.0
  by_test false later = later

insert_in_order : (es : List Listed) (k : PubKey) (v : Book) → InOrder v → AllByRecursion IsBookInOrder es → AllByRecursion IsBookInOrder (insert_entry key_cmp es k v)
insert_in_order [] k v new h = (new, tt)
insert_in_order (e ∷ es) k v new h = by_order (key_cmp k e.0) (insert_in_order es k v new h.1) where
  by_order : (o : Ordering) → AllByRecursion IsBookInOrder (insert_entry key_cmp es k v) → AllByRecursion IsBookInOrder (match_ordering o ((k, v) ∷ e ∷ es) ((e.0, v) ∷ es) (e ∷ insert_entry key_cmp es k v))
  by_order Less later = (new, h)
  by_order Equal later = (new, h.1)
  by_order Greater later = (h.0, later)

all_in_order : (es books : List Listed) → AllByRecursion IsBookInOrder es → AllByRecursion IsBookInOrder (fold with_sorted es books)
all_in_order es [] h = h
all_in_order es (book ∷ books) h = all_in_order (with_sorted es book) books (insert_in_order es book.0 (merged (book_at es book.0) book.1) (merged_in_order (book_at es book.0) book.1 (found_in_order es book.0 h)) h)

pub canonical_in_order : (file : File) → AreInWrittenOrder (canonical file).books
canonical_in_order file = record { keys = sorted_keys [] file.books nothing_sorted; entries = all_in_order [] file.books tt }
