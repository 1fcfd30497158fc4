-- What is taken in, key by key.
use Rattle.std.proofs.Common.{◌≡◌, ℕ, ◌≤◌, ◌+◌, true, false, Bool, List, [], ◌∷◌, ◌++◌, length, None, Some, Option, refl, sym, ◌∙◌, ap, subst, arith, All}
use Rattle.std.specs.Prelude.{IsSome, IsSomeAnd, is_some}
use Rattle.std.specs.Option.{option_or}
use Rattle.std.specs.BTreeMap.{is_at}
use Rattle.std.proofs.lemmas.List.Elements.{All-cons, All-nil, All-weaker}
use Rattle.edge_kit.specs.declared.bytes.PubKey.{PubKey}
use Rattle.slash_defs.specs.declared.entry.BlockEntry.{BlockEntry}
use Rattle.slash_defs.specs.declared.entry.VoteEntry.{VoteEntry}
use Rattle.slash_defs.specs.declared.book.Book.{Book}
use Rattle.slash_defs.specs.FileOrder.{block_cmp, vote_cmp}
use Rattle.protect_record.specs.Parts.{Parts, SameParts}
use Rattle.protect_record.specs.Pasts.{Past}
use Rattle.protect_record.specs.Standing.{Stands}
use Rattle.protect_record.specs.Floors.{greater_floors, IsDeadBlock, IsDeadVote}
use Rattle.protect_record.specs.Gathering.{Gathers, HasGathered}
use Rattle.protect_record.specs.declared.floors.Floors.{Floors}
use Rattle.record_join.specs.Keys.{key_cmp, kept_of, with_key, with_kept, EachKey}
use Rattle.record_join.specs.BooksPasts.{BooksStand}
use Rattle.record_join.specs.KeyByKey.{EachTakes, StandsOf, Takes, TakesBook, TakesRecord, known_parts}
use Rattle.record_join.specs.Preparing.{no_parts, with_each, AreFresh, ArePrepared, AreTaken}
use Rattle.record_join.proofs.KeyLemmas.{each_found, each_length, each_none}
use Rattle.record_join.proofs.OrderLemmas.{apart_back, apart_from_first, changed, changed_here, kept_append, kept_apart, kept_here, none_in_both, same_key}
use Rattle.record_join.proofs.BooksLemmas.{same_itself, same_stands, some_is}
use Rattle.record_join.proofs.FreshLemmas.{length_fresh}

none_some : {X : Type 0} (b : X) → None ≡ Some b → ⊥
none_some b h = cc

some_inj : {X : Type 0} (a b : X) → Some a ≡ Some b → a ≡ b
some_inj a b h = cc

or_none : {X : Type 0} (o : Option X) → option_or o None ≡ o
or_none None = refl
or_none (Some x) = refl

pub weaker : {A : Type 0} (P Q : A → Type 0) (o : Option A) → ((x : A) → P x → Q x) → IsSomeAnd o P → IsSomeAnd o Q
weaker P Q None f h = h
weaker P Q (Some x) f h = f x h

-- what is kept of another key, where one record has changed
pub others_at : (old new : List (PubKey × Parts)) (key other : PubKey) (after : Parts) → IsSome (kept_of old key) → new ≡ with_kept old key after → is_at (key_cmp key) other ≡ false → kept_of new other ≡ kept_of old other
others_at old new key other after found is apart = rw (is, changed old key other after found, apart) refl

-- ---- one after another

pub takes_none : {X : Type 0} (T : Parts → X → Parts → Type 0) (start : List (PubKey × Parts)) → EachTakes {X = X} T [] start start
takes_none T start = record { each = λ key x found. absurd (none_some x found); others = λ key none. refl }

-- one more record takes in what is listed for it
pub takes_more : {X : Type 0} (T : Parts → X → Parts → Type 0) (start now new : List (PubKey × Parts)) (front : List (PubKey × X)) (one : PubKey × X) → kept_of front one.0 ≡ None → Takes T now new one.0 one.1
    → EachTakes T front start now → EachTakes T (front ++ one ∷ []) start new
takes_more {X} T start now new front one none takes so_far = record {
  each = λ key x found. at key x (is_at (key_cmp key) one.0) refl found;
  others = λ key absent.
      let parts = none_in_both front (one ∷ []) key absent in
      apart key (apart_back key one.0 (apart_from_first one [] key parts.1)) ∙ so_far.others key parts.0;
} where
  there : IsSome (kept_of now one.0)
  there = ap is_some takes.is_kept

  apart : (key : PubKey) → is_at (key_cmp one.0) key ≡ false → kept_of new key ≡ kept_of now key
  apart key e = others_at now new one.0 key takes.after there takes.is e

  here : kept_of new one.0 ≡ Some takes.after
  here = ap (λ l. kept_of l one.0) takes.is ∙ changed_here now one.0 takes.after there

  was : known_parts (kept_of start one.0) ≡ takes.parts
  was = ap known_parts (sym (so_far.others one.0 none) ∙ takes.is_kept)

  taken : IsSomeAnd (kept_of new one.0) (λ parts. T (known_parts (kept_of start one.0)) one.1 parts)
  taken = some_is (kept_of new one.0) takes.after (λ parts. T (known_parts (kept_of start one.0)) one.1 parts) here (subst (λ (p : Parts). T p one.1 takes.after) (sym was) takes.taken)

  at : (key : PubKey) (x : X) (b : Bool) → is_at (key_cmp key) one.0 ≡ b → kept_of (front ++ one ∷ []) key ≡ Some x → IsSomeAnd (kept_of new key) (λ parts. T (known_parts (kept_of start key)) x parts)
  at key x true e found =
      let same : key ≡ one.0 = same_key key one.0 e in
      let listed : kept_of (front ++ one ∷ []) key ≡ Some one.1 = kept_append front (one ∷ []) key ∙ rw (ap (λ (k : PubKey). kept_of front k) same ∙ none, e) refl in
      let value : one.1 ≡ x = some_inj one.1 x (sym listed ∙ found) in
      let G : PubKey → Type 0 = λ k. IsSomeAnd (kept_of new k) (λ parts. T (known_parts (kept_of start k)) x parts) in
      let H : X → Type 0 = λ y. IsSomeAnd (kept_of new one.0) (λ parts. T (known_parts (kept_of start one.0)) y parts) in
      subst G (sym same) (subst H value taken)
  at key x false e found =
      let second : kept_of (one ∷ []) key ≡ None = rw e refl in
      let whole : kept_of (front ++ one ∷ []) key ≡ kept_of front key = kept_append front (one ∷ []) key ∙ ap (λ o. option_or (kept_of front key) o) second ∙ or_none (kept_of front key) in
      let O : Option Parts → Type 0 = λ o. IsSomeAnd o (λ parts. T (known_parts (kept_of start key)) x parts) in
      subst O (sym (apart key (apart_back key one.0 e))) (so_far.each key x (sym whole ∙ found))

-- ---- from the records before they were made ready

known_each : (old : List (PubKey × Parts)) (fresh : List PubKey) (key : PubKey) → AreFresh no_parts old fresh → known_parts (kept_of (with_each no_parts old fresh) key) ≡ known_parts (kept_of old key)
known_each old [] key are = refl
known_each old (k ∷ ks) key are = known_each (with_key old k no_parts) ks key are.1 ∙ at (is_at (key_cmp k) key) refl where
  at : (b : Bool) → is_at (key_cmp k) key ≡ b → known_parts (kept_of (with_key old k no_parts) key) ≡ known_parts (kept_of old key)
  at true e =
      let here : known_parts (kept_of (with_key old k no_parts) k) ≡ known_parts (kept_of old k) = ap known_parts (kept_here old k no_parts) ∙ sym (ap known_parts are.0) in
      subst (λ (q : PubKey). known_parts (kept_of (with_key old k no_parts) q) ≡ known_parts (kept_of old q)) (same_key k key e) here
  at false e = ap known_parts (kept_apart old k key no_parts e)

known_fits : (xs ys : List (PubKey × Parts)) (key : PubKey) → EachKey SameParts xs ys → SameParts (known_parts (kept_of xs key)) (known_parts (kept_of ys key))
known_fits xs ys key each = at (kept_of xs key) refl where
  at : (o : Option Parts) → kept_of xs key ≡ o → SameParts (known_parts o) (known_parts (kept_of ys key))
  at None e = rw (each_none SameParts xs ys key each e) (same_itself no_parts)
  at (Some p) e = let found = each_found SameParts xs ys key p each e in rw found.1 found.2

pub taken_all : {X : Type 0} (T : Parts → X → Parts → Type 0) → ((p q : Parts) (x : X) (r : Parts) → SameParts p q → T q x r → T p x r) → (old mid new : List (PubKey × Parts)) (listed : List (PubKey × X)) (fresh : List PubKey)
    → ArePrepared old listed fresh mid → EachTakes T listed mid new → EachTakes T listed old new
taken_all {X} T back old mid new listed fresh prepared takes = record {
  each = λ key x found. weaker (λ r. T (known_parts (kept_of mid key)) x r) (λ r. T (known_parts (kept_of old key)) x r) (kept_of new key) (λ r t. back (known_parts (kept_of old key)) (known_parts (kept_of mid key)) x r (fits key) t) (takes.each key x found);
  others = λ key none. takes.others key none ∙ prepared.others key none;
} where
  fits : (key : PubKey) → SameParts (known_parts (kept_of old key)) (known_parts (kept_of mid key))
  fits key =
      let S : Parts → Type 0 = λ p. SameParts p (known_parts (kept_of mid key)) in
      subst S (known_each old fresh key prepared.absent) (known_fits (with_each no_parts old fresh) mid key prepared.same)

gathers_from : (p q r : Parts) (f : Floors) (bs : List BlockEntry) (vs : List VoteEntry) → SameParts p q → Gathers q r f bs vs → Gathers p r f bs vs
gathers_from p q r f bs vs same g =
    let B : List BlockEntry → Type 0 = λ l. HasGathered block_cmp (IsDeadBlock r.floors) l bs r.blocks in
    let V : List VoteEntry → Type 0 = λ l. HasGathered vote_cmp (IsDeadVote r.floors) l vs r.votes in record {
      floors = g.floors ∙ ap (λ (h : Floors). greater_floors h f) same.floors;
      blocks = subst B same.blocks g.blocks;
      votes = subst V same.votes g.votes;
    }

pub takes_book_from : (p q : Parts) (b : Book) (r : Parts) → SameParts p q → TakesBook q b r → TakesBook p b r
takes_book_from p q b r same takes = record {
  merged = gathers_from p q r _ _ _ same takes.merged;
  stands = λ past s. takes.stands past (same_stands p q past same s);
}

pub takes_record_from : (p q o r : Parts) → SameParts p q → TakesRecord q o r → TakesRecord p o r
takes_record_from p q o r same takes = record {
  joined = gathers_from p q r _ _ _ same takes.joined;
  copied = λ empty. takes.copied (record { floors = same.floors ∙ empty.floors; blocks = same.blocks ∙ empty.blocks; votes = same.votes ∙ empty.votes });
  stands = λ past other s t. takes.stands past other (same_stands p q past same s) t;
}

-- ---- what stands for what

pub stands_of : (kept : List (PubKey × Parts)) (pasts : List (PubKey × Past)) (key : PubKey) → BooksStand kept pasts → StandsOf (kept_of kept key) (kept_of pasts key)
stands_of kept pasts key each = at (kept_of kept key) refl where
  at : (o : Option Parts) → kept_of kept key ≡ o → StandsOf o (kept_of pasts key)
  at None e = rw (each_none Stands kept pasts key each e) tt
  at (Some p) e = let found = each_found Stands kept pasts key p each e in rw found.1 found.2

-- ---- fresh keys are taken back

none_before : (kept : List (PubKey × Parts)) (k key : PubKey) → kept_of kept k ≡ None → kept_of (with_key kept k no_parts) key ≡ None → kept_of kept key ≡ None
none_before kept k key none still = at (is_at (key_cmp k) key) refl where
  at : (b : Bool) → is_at (key_cmp k) key ≡ b → kept_of kept key ≡ None
  at true e = subst (λ (q : PubKey). kept_of kept q ≡ None) (same_key k key e) none
  at false e = sym (kept_apart kept k key no_parts e) ∙ still

fresh_absent : (kept : List (PubKey × Parts)) (keys : List PubKey) → AreFresh no_parts kept keys → All (λ key. kept_of kept key ≡ None) keys
fresh_absent kept [] are = All-nil (λ key. kept_of kept key ≡ None)
fresh_absent kept (k ∷ ks) are =
    All-cons (λ key. kept_of kept key ≡ None) k ks are.0 (All-weaker (λ key. kept_of (with_key kept k no_parts) key ≡ None) (λ key. kept_of kept key ≡ None) (λ key still. none_before kept k key are.0 still) ks (fresh_absent (with_key kept k no_parts) ks are.1))

pub gone_back : (before new : List (PubKey × Parts)) (fresh : List PubKey) → AreFresh no_parts before fresh → EachKey SameParts before new → All (λ key. kept_of new key ≡ None) fresh
gone_back before new fresh are same = All-weaker (λ key. kept_of before key ≡ None) (λ key. kept_of new key ≡ None) (λ key none. each_none SameParts before new key same none) fresh (fresh_absent before fresh are)

pub fewer_back : (before taken new : List (PubKey × Parts)) (fresh : List PubKey) (n : ℕ) → AreTaken before fresh taken → EachKey SameParts before new → length taken ≤ n → length new ≤ n
fewer_back before taken new fresh n are same within =
    let after : length before ≡ length new = each_length SameParts before new same in
    let with_fresh : length (with_each no_parts before fresh) ≡ length taken = each_length SameParts (with_each no_parts before fresh) taken are.same in
    let sum : length (with_each no_parts before fresh) ≡ length before + length fresh = length_fresh no_parts before fresh are.absent in
    omega (arith, within)
