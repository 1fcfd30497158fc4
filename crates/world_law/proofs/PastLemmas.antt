-- What each change leaves of the pasts: none passes more.
use Rattle.std.proofs.Common.{◌≡◌, Bool, true, false, cond, List, [], ◌∷◌, Option, Some, None, refl, sym, ◌∙◌, subst}
use Rattle.std.specs.Prelude.{is_some, IsSomeAnd, Contains}
use Rattle.std.proofs.lemmas.List.Elements.{Contains-append_left}
use Rattle.std.specs.BTreeMap.{is_at}
use Rattle.std.specs.Ordering.{match_ordering}
use Rattle.std.specs.declared.cmp.Ordering.{Ordering}
use Rattle.std.specs.declared.cmp.Ordering.TheVariants.{Less, Equal, Greater}
use Rattle.edge_kit.specs.declared.bytes.PubKey.{PubKey}
use Rattle.slash_defs.specs.declared.message.Message.{Message}
use Rattle.slash_defs.specs.declared.book.Book.{Book}
use Rattle.protect_record.specs.Pasts.{Past, no_past, with_own, with_book}
use Rattle.protect_record.specs.Passing.{Passes, Covers}
use Rattle.protect_record.specs.PastLaws.{passes-with_own, passes-with_book}
use Rattle.record_join.specs.Keys.{key_cmp, kept_of, with_key, with_kept}
use Rattle.record_join.specs.BooksPasts.{put_past, known_past, with_file_book, with_file, with_messages, own_grown, own_grown_from}
use Rattle.record_join.specs.KeyLaws.{same_key}
use Rattle.record_replay.specs.Pruning.{pruning_of}
use Rattle.desk_machine.specs.Machine.{pruned_keys}

some_inj : {X : Type 0} (a b : X) → Some a ≡ Some b → a ≡ b
some_inj a b h = cc

none_some : {X : Type 0} (b : X) → None ≡ Some b → ⊥
none_some b h = cc

-- a past that has grown passes no more, and has each book that it had
abbrev pub Grows : Past → Past → Type 0
Grows old new = ((n : Message) → Passes new n → Passes old n) × ((b : Book) → Contains old.books b → Contains new.books b)

grows_self : (p : Past) → Grows p p
grows_self p = (λ n x. x, λ b x. x)

grows_on : (p q r : Past) → Grows p q → Grows q r → Grows p r
grows_on p q r f g = (λ n x. f.0 n (g.0 n x), λ b x. g.1 b (f.1 b x))

own_grows : (p : Past) (m : Message) → Grows p (with_own p m)
own_grows p m = (λ n x. passes-with_own p m n x, λ b x. x)

book_grows : (p : Past) (b : Book) → Grows p (with_book p b)
book_grows p b = (λ n x. passes-with_book p b n x, λ c x. Contains-append_left p.books (b ∷ []) c x)

abbrev pub Kept : Type 0
Kept = List (PubKey × Past)

abbrev pub KeepsIn : Kept → Kept → Type 0
KeepsIn old new = (q : PubKey) (p : Past) → kept_of old q ≡ Some p → (p' : Past) × (kept_of new q ≡ Some p') × Grows p p'

abbrev Found : Kept → PubKey → Past → Type 0
Found kept q p = (p' : Past) × (kept_of kept q ≡ Some p') × Grows p p'

abbrev Lessens : Option Past → Past → Type 0
Lessens o x = (z : Past) → o ≡ Some z → Grows z x

-- another past at a key, that passes no more
changed_at : (t u : Bool) (e : PubKey × Past) (es : Kept) (key q : PubKey) (x p : Past) → is_at (key_cmp q) e.0 ≡ u → Lessens (cond t (Some e.1) (kept_of es key)) x
    → cond u (Some e.1) (kept_of es q) ≡ Some p → (Lessens (kept_of es key) x → kept_of es q ≡ Some p → Found (with_kept es key x) q p)
    → Found (cond t ((e.0, x) ∷ es) (e ∷ with_kept es key x)) q p
changed_at true true e es key q x p s less h rest = (x, rw s refl, let P : Past → Type 0 = λ z. Grows z x in subst P (some_inj e.1 p h) (less e.1 refl))
changed_at true false e es key q x p s less h rest = (p, rw s h, grows_self p)
changed_at false true e es key q x p s less h rest = (p, rw s h, grows_self p)
changed_at false false e es key q x p s less h rest = let r = rest less h in (r.0, rw s r.1, r.2)

changed : (kept : Kept) (key : PubKey) (x : Past) → Lessens (kept_of kept key) x → KeepsIn kept (with_kept kept key x)
changed [] key x less q p h = absurd (none_some p h)
changed (e ∷ es) key x less q p h = changed_at (is_at (key_cmp key) e.0) (is_at (key_cmp q) e.0) e es key q x p refl less h (λ l k. changed es key x l q p k)

-- a new key
added_at : (o : Ordering) (v u : Bool) (e : PubKey × Past) (es : Kept) (key q : PubKey) (x p : Past) → key_cmp key e.0 ≡ o → is_at (key_cmp q) key ≡ v → is_at (key_cmp q) e.0 ≡ u
    → kept_of (e ∷ es) key ≡ None → cond u (Some e.1) (kept_of es q) ≡ Some p → (kept_of es key ≡ None → kept_of es q ≡ Some p → Found (with_key es key x) q p)
    → Found (match_ordering o ((key, x) ∷ e ∷ es) ((e.0, x) ∷ es) (e ∷ with_key es key x)) q p
added_at Less true u e es key q x p oe ve ue none h rest =
    let P : PubKey → Type 0 = λ k. kept_of (e ∷ es) k ≡ Some p in
    let whole : kept_of (e ∷ es) q ≡ Some p = rw ue h in
    absurd (none_some p (sym none ∙ subst P (same_key q key ve) whole))
added_at Less false u e es key q x p oe ve ue none h rest = (p, rw (ve, ue) h, grows_self p)
added_at Equal v u e es key q x p oe ve ue none h rest =
    let here : kept_of (e ∷ es) key ≡ Some e.1 = rw oe refl in
    absurd (none_some e.1 (sym none ∙ here))
added_at Greater v true e es key q x p oe ve ue none h rest = (p, rw ue h, grows_self p)
added_at Greater v false e es key q x p oe ve ue none h rest =
    let gone = rw oe at none in
    let r = rest gone h in
    (r.0, rw ue r.1, r.2)

added : (kept : Kept) (key : PubKey) (x : Past) → kept_of kept key ≡ None → KeepsIn kept (with_key kept key x)
added [] key x none q p h = absurd (none_some p h)
added (e ∷ es) key x none q p h = added_at (key_cmp key e.0) (is_at (key_cmp q) key) (is_at (key_cmp q) e.0) e es key q x p refl refl refl none h (λ n k. added es key x n q p k)

found_at : {X : Type 0} (t : Bool) (e : PubKey × X) (es : List (PubKey × X)) (key : PubKey) (x p : X) → is_at (key_cmp key) e.0 ≡ t → cond t (Some e.1) (kept_of es key) ≡ Some p
    → (kept_of es key ≡ Some p → kept_of (with_kept es key x) key ≡ Some x) → kept_of (cond t ((e.0, x) ∷ es) (e ∷ with_kept es key x)) key ≡ Some x
found_at true e es key x p s h rest = rw s refl
found_at false e es key x p s h rest = rw s (rest h)

-- what was put at a key is found there
pub found_changed : {X : Type 0} (kept : List (PubKey × X)) (key : PubKey) (x p : X) → kept_of kept key ≡ Some p → kept_of (with_kept kept key x) key ≡ Some x
found_changed [] key x p h = absurd (none_some p h)
found_changed (e ∷ es) key x p h = found_at (is_at (key_cmp key) e.0) e es key x p refl h (found_changed es key x p)

pub keeps_all : (kept : Kept) → KeepsIn kept kept
keeps_all kept q p h = (p, h, grows_self p)

keeps_on : (a b c : Kept) → KeepsIn a b → KeepsIn b c → KeepsIn a c
keeps_on a b c f g q p h =
    let x = f q p h in
    let y = g q x.0 x.1 in
    (y.0, y.1, grows_on p x.0 y.0 x.2 y.2)

-- ---- what each change leaves of the pasts

pub grown_keeps : (kept : Kept) (key : PubKey) (m : Message) (o : Option Past) → kept_of kept key ≡ o → KeepsIn kept (own_grown_from kept key m o)
grown_keeps kept key m None e = keeps_all kept
grown_keeps kept key m (Some past) e =
    changed kept key (with_own past m) (λ z is. let P : Past → Type 0 = λ y. Grows y (with_own past m) in subst P (some_inj past z (sym e ∙ is)) (own_grows past m))

pub messages_keep : (kept : Kept) (listed : List (PubKey × Message)) → KeepsIn kept (with_messages kept listed)
messages_keep kept [] = keeps_all kept
messages_keep kept (one ∷ listed) =
    keeps_on kept (own_grown kept one.0 one.1) (with_messages kept (one ∷ listed)) (grown_keeps kept one.0 one.1 (kept_of kept one.0) refl) (messages_keep (own_grown kept one.0 one.1) listed)

pub known_keeps : (kept : Kept) (key : PubKey) (b : Bool) → is_some (kept_of kept key) ≡ b → KeepsIn kept (cond b kept (with_key kept key no_past))
known_keeps kept key true e = keeps_all kept
known_keeps kept key false e = added kept key no_past (none_if (kept_of kept key) e) where
  none_if : (o : Option Past) → is_some o ≡ false → o ≡ None
  none_if None h = refl
  none_if (Some x) h = absurd (let bad : true ≡ false = h in cc)

-- with another past at the key's place, or the key at its place
put_at : (o : Ordering) (v u : Bool) (e : PubKey × Past) (es : Kept) (key q : PubKey) (x p : Past) → key_cmp key e.0 ≡ o → is_at (key_cmp q) key ≡ v → is_at (key_cmp q) e.0 ≡ u
    → Lessens (kept_of (e ∷ es) key) x → cond u (Some e.1) (kept_of es q) ≡ Some p → (Lessens (kept_of es key) x → kept_of es q ≡ Some p → Found (with_key es key x) q p)
    → Found (match_ordering o ((key, x) ∷ e ∷ es) ((e.0, x) ∷ es) (e ∷ with_key es key x)) q p
put_at Less true u e es key q x p oe ve ue less h rest =
    let P : PubKey → Type 0 = λ k. Lessens (kept_of (e ∷ es) k) x in
    let here = subst P (sym (same_key q key ve)) less in
    let whole : kept_of (e ∷ es) q ≡ Some p = rw ue h in
    (x, rw ve refl, here p whole)
put_at Less false u e es key q x p oe ve ue less h rest = (p, rw (ve, ue) h, grows_self p)
put_at Equal v true e es key q x p oe ve ue less h rest =
    let here : kept_of (e ∷ es) key ≡ Some e.1 = rw oe refl in
    let P : Past → Type 0 = λ z. Grows z x in
    (x, rw ue refl, subst P (some_inj e.1 p h) (less e.1 here))
put_at Equal v false e es key q x p oe ve ue less h rest = (p, rw ue h, grows_self p)
put_at Greater v true e es key q x p oe ve ue less h rest = (p, rw ue h, grows_self p)
put_at Greater v false e es key q x p oe ve ue less h rest =
    let further : Lessens (kept_of es key) x = rw oe at less in
    let r = rest further h in
    (r.0, rw ue r.1, r.2)

put : (kept : Kept) (key : PubKey) (x : Past) → Lessens (kept_of kept key) x → KeepsIn kept (put_past kept key x)
put [] key x less q p h = absurd (none_some p h)
put (e ∷ es) key x less q p h = put_at (key_cmp key e.0) (is_at (key_cmp q) key) (is_at (key_cmp q) e.0) e es key q x p refl refl refl less h (λ l k. put es key x l q p k)

book_lessens : (o : Option Past) (b : Book) → Lessens o (with_book (known_past o) b)
book_lessens None b z e = absurd (none_some z e)
book_lessens (Some p) b z e = let P : Past → Type 0 = λ y. Grows y (with_book p b) in subst P (some_inj p z e) (book_grows p b)

pub file_keeps : (kept : Kept) (books : List (PubKey × Book)) → KeepsIn kept (with_file kept books)
file_keeps kept [] = keeps_all kept
file_keeps kept (b ∷ bs) =
    keeps_on kept (with_file_book kept b) (with_file kept (b ∷ bs)) (put kept b.0 (with_book (known_past (kept_of kept b.0)) b.1) (book_lessens (kept_of kept b.0) b.1)) (file_keeps (with_file_book kept b) bs)

pub pruned_keeps : (kept : Kept) (key : PubKey) (o : Option Past) → KeepsIn kept (pruned_keys kept key o)
pruned_keeps kept key None = keeps_all kept
pruned_keeps kept key (Some past) = file_keeps kept ((key, pruning_of past) ∷ [])

-- what was covered is covered still
pub covers_on : (old new : Kept) (key : PubKey) (m : Message) → KeepsIn old new → IsSomeAnd (kept_of old key) (λ past. Covers past m) → IsSomeAnd (kept_of new key) (λ past. Covers past m)
covers_on old new key m keeps h = at (kept_of old key) refl h where
  at : (o : Option Past) → kept_of old key ≡ o → IsSomeAnd o (λ past. Covers past m) → IsSomeAnd (kept_of new key) (λ past. Covers past m)
  at None e x = absurd x
  at (Some p) e x = let f = keeps key p e in rw f.1 (λ n passes. x n (f.2.0 n passes))

-- and a book that was there is there still
abbrev pub HasBook : Kept → PubKey → Book → Type 0
HasBook kept key book = IsSomeAnd (kept_of kept key) (λ past. Contains past.books book)

pub book_stays : (old new : Kept) (key : PubKey) (b : Book) → KeepsIn old new → HasBook old key b → HasBook new key b
book_stays old new key b keeps h = at (kept_of old key) refl h where
  at : (o : Option Past) → kept_of old key ≡ o → IsSomeAnd o (λ past. Contains past.books b) → HasBook new key b
  at None e x = absurd x
  at (Some p) e x = let f = keeps key p e in rw f.1 (f.2.1 b x)
