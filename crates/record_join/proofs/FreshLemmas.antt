-- Keys that become known with empty records, and are taken out again.
use Rattle.std.proofs.Common.{◌≡◌, ℕ, ◌+◌, ◌⊎◌, inl, inr, true, false, Bool, cond, List, [], ◌∷◌, ◌++◌, length, None, Some, Option, refl, sym, ◌∙◌, ap, subst, arith, All}
use Rattle.std.specs.Prelude.{IsSome, IsSomeAnd, OnErr, OnOk, Result, Ok, Err, is_some, not}
use Rattle.std.proofs.lemmas.List.{length-append}
use Rattle.std.specs.BTreeMap.{is_at}
use Rattle.std.specs.Map.{remove_entry}
use Rattle.std.specs.List.{AllByRecursion as ByRecursion}
use Rattle.std.proofs.lemmas.List.Sums.{fold_push, sum_by_push}
use Rattle.std.proofs.lemmas.List.Elements.{All-push, All-pop, All-weaker, All-nil, All-from_recursion, recursion_from_All}
use Rattle.edge_kit.specs.declared.bytes.PubKey.{PubKey}
use Rattle.protect_record.specs.Parts.{Parts, SameParts}
use Rattle.record_join.specs.Keys.{key_cmp, kept_of, with_key, EachKey}
use Rattle.record_join.specs.BooksPasts.{new_keys}
use Rattle.record_join.specs.Preparing.{no_parts, with_each, AreFresh, HasRoomFor, ArePrepared, IsReady, Knows, MakesRoom}
use Rattle.record_join.proofs.KeyLemmas.{each_flip, each_none, each_new, each_removed, each_self}
use Rattle.record_join.proofs.OrderLemmas.{kept_apart, at_itself, apart_back, taken_out, changed, length_new, none_in_both, some_in_first, some_in_second, apart_from_first}
use Rattle.record_join.proofs.BooksLemmas.{IsRoomier, roomier_same, same_itself}

-- one more fresh key
with_each_push : {X : Type 0} (x : X) (kept : List (PubKey × X)) (keys : List PubKey) (key : PubKey) → with_each x kept (keys ++ key ∷ []) ≡ with_key (with_each x kept keys) key x
with_each_push x kept keys key = fold_push (λ before k. with_key before k x) kept keys key

fresh_push : {X : Type 0} (x : X) (kept : List (PubKey × X)) (keys : List PubKey) (key : PubKey) → AreFresh x kept keys → kept_of (with_each x kept keys) key ≡ None → AreFresh x kept (keys ++ key ∷ [])
fresh_push x kept [] key fresh none = (none, tt)
fresh_push x kept (k ∷ ks) key fresh none = (fresh.0, fresh_push x (with_key kept k x) ks key fresh.1 none)

-- one fresh key less
fresh_front : {X : Type 0} (x : X) (kept : List (PubKey × X)) (keys : List PubKey) (key : PubKey) → AreFresh x kept (keys ++ key ∷ []) → AreFresh x kept keys × (kept_of (with_each x kept keys) key ≡ None)
fresh_front x kept [] key fresh = (tt, fresh.0)
fresh_front x kept (k ∷ ks) key fresh = let rest = fresh_front x (with_key kept k x) ks key fresh.1 in ((fresh.0, rest.0), rest.1)

pub length_fresh : {X : Type 0} (x : X) (kept : List (PubKey × X)) (keys : List PubKey) → AreFresh x kept keys → length (with_each x kept keys) ≡ length kept + length keys
length_fresh x kept [] fresh = omega arith
length_fresh x kept (k ∷ ks) fresh = let rest = length_fresh x (with_key kept k x) ks fresh.1 in let one = length_new kept k x fresh.0 in omega arith

-- the last fresh key is taken out
pub one_out : (before now : List (PubKey × Parts)) (old keys : List PubKey) (key : PubKey) → old ≡ keys ++ key ∷ [] → AreFresh no_parts before old → EachKey SameParts (with_each no_parts before old) now
    → AreFresh no_parts before keys × EachKey SameParts (with_each no_parts before keys) (remove_entry (is_at (key_cmp key)) now)
one_out before now old keys key is fresh each =
    let F : List PubKey → Type 0 = λ ks. AreFresh no_parts before ks in
    let front = fresh_front no_parts before keys key (subst F is fresh) in
    let E : List PubKey → Type 0 = λ ks. EachKey SameParts (with_each no_parts before ks) now in
    let G : List (PubKey × Parts) → Type 0 = λ l. EachKey SameParts l now in
    let H : List (PubKey × Parts) → Type 0 = λ l. EachKey SameParts l (remove_entry (is_at (key_cmp key)) now) in
    let removed = each_removed SameParts (with_key (with_each no_parts before keys) key no_parts) now key (subst G (with_each_push no_parts before keys key) (subst E is each)) in
    (front.0, subst H (taken_out (with_each no_parts before keys) key no_parts front.1) removed)

known_others : (old new : List (PubKey × Parts)) (key : PubKey) (fresh more : List PubKey) → Knows old new key fresh more → (other : PubKey) → is_at (key_cmp key) other ≡ false → kept_of new other ≡ kept_of old other
known_others old new key fresh more (inl h) other apart = rw h.1 refl
known_others old new key fresh more (inr h) other apart = rw h.1.2 (kept_apart old key other h.1.0 apart)

known_noted : (old new : List (PubKey × Parts)) (key : PubKey) (fresh more : List PubKey) → Knows old new key fresh more → (more ≡ fresh) ⊎ (more ≡ fresh ++ key ∷ [])
known_noted old new key fresh more (inl h) = inl h.2
known_noted old new key fresh more (inr h) = inr h.2

pub known_same : (old new : List (PubKey × Parts)) (key : PubKey) (fresh more : List PubKey) → Knows old new key fresh more → (before : List (PubKey × Parts)) → AreFresh no_parts before fresh → EachKey SameParts (with_each no_parts before fresh) old
    → AreFresh no_parts before more × EachKey SameParts (with_each no_parts before more) new
known_same old new key fresh more (inl h) before are each =
    let P : List PubKey → Type 0 = λ ks. AreFresh no_parts before ks × EachKey SameParts (with_each no_parts before ks) new in
    let E : List (PubKey × Parts) → Type 0 = λ l. EachKey SameParts (with_each no_parts before fresh) l in
    subst P (sym h.2) (are, subst E (sym h.1) each)
known_same old new key fresh more (inr h) before are each =
    let P : List PubKey → Type 0 = λ ks. AreFresh no_parts before ks × EachKey SameParts (with_each no_parts before ks) new in
    let E : List (PubKey × Parts) → Type 0 = λ l. EachKey SameParts (with_each no_parts before (fresh ++ key ∷ [])) l in
    let F : List (PubKey × Parts) → Type 0 = λ l. EachKey SameParts l (with_key old key h.1.0) in
    let none = each_none (λ b a. SameParts a b) old (with_each no_parts before fresh) key (each_flip SameParts (with_each no_parts before fresh) old each) h.0 in
    let both = each_new SameParts (with_each no_parts before fresh) old key no_parts h.1.0 each h.1.1 in
    subst P (sym h.2) (fresh_push no_parts before fresh key are none, subst E (sym h.1.2) (subst F (sym (with_each_push no_parts before fresh key)) both))

-- more room changes nothing of another key
roomier_others : (old new : List (PubKey × Parts)) (key : PubKey) → IsRoomier old new key → (other : PubKey) → is_at (key_cmp key) other ≡ false → kept_of new other ≡ kept_of old other
roomier_others old new key is other apart = rw (is.others, changed old key other is.roomy (rw is.is_kept refl), apart) refl

-- the key is kept already, and its record becomes roomier
pub makes_roomier : (old new : List (PubKey × Parts)) (key : PubKey) (fresh : List PubKey) → IsRoomier old new key → MakesRoom old new key fresh fresh
makes_roomier old new key fresh roomier = record {
  noted = inl refl;
  same = λ before are each. (are, roomier_same (with_each no_parts before fresh) old new key roomier each);
  others = λ other apart. roomier_others old new key roomier other apart;
}

-- the key becomes known, or nothing changes
pub makes_known : {A E : Type 0} (r : Result A E) (old new : List (PubKey × Parts)) (key : PubKey) (fresh more : List PubKey) → OnOk r (Knows old new key fresh more) → OnErr r ((new ≡ old) × (more ≡ fresh)) → MakesRoom old new key fresh more
makes_known (Ok x) old new key fresh more knows err = record {
  noted = known_noted old new key fresh more knows;
  same = known_same old new key fresh more knows;
  others = known_others old new key fresh more knows;
}
makes_known (Err x) old new key fresh more knows err = record {
  noted = inl err.1;
  same = λ before are each.
      let F : List PubKey → Type 0 = λ ks. AreFresh no_parts before ks × EachKey SameParts (with_each no_parts before ks) new in
      let E : List (PubKey × Parts) → Type 0 = λ l. EachKey SameParts (with_each no_parts before fresh) l in
      subst F (sym err.1) (are, subst E (sym err.0) each);
  others = λ other apart. ap (λ l. kept_of l other) err.0;
}

-- one is noted where the key was not kept
known_count : (old new : List (PubKey × Parts)) (key : PubKey) (fresh more : List PubKey) → Knows old new key fresh more → length more ≡ length fresh + cond (is_some (kept_of old key)) 0 1
known_count old new key fresh more (inl h) = rw (h.2, h.0) (omega arith)
known_count old new key fresh more (inr h) = rw (h.2, h.0, length-append fresh) refl

pub known_noted_one : {A E : Type 0} (r : Result A E) (old new : List (PubKey × Parts)) (key : PubKey) (fresh more : List PubKey) → OnOk r (Knows old new key fresh more) → OnOk r (length more ≡ length fresh + cond (is_some (kept_of old key)) 0 1)
known_noted_one (Ok x) old new key fresh more knows = known_count old new key fresh more knows
known_noted_one (Err x) old new key fresh more knows = knows

-- some of the fresh keys are taken out, and these are left
pub record IsOnTheWay (start_keys : List PubKey) (start : List (PubKey × Parts)) (keys : List PubKey) (now : List (PubKey × Parts)) : Type 0 where
  pub same : (before : List (PubKey × Parts)) → AreFresh no_parts before start_keys → EachKey SameParts (with_each no_parts before start_keys) start
      → AreFresh no_parts before keys × EachKey SameParts (with_each no_parts before keys) now
  pub others : (key : PubKey) → All (λ other. is_at (key_cmp other) key ≡ false) start_keys → All (λ other. is_at (key_cmp other) key ≡ false) keys × (kept_of now key ≡ kept_of start key)

pub way_on : (start_keys : List PubKey) (start : List (PubKey × Parts)) (old keys : List PubKey) (now new : List (PubKey × Parts)) (key : PubKey) → IsOnTheWay start_keys start old now → old ≡ keys ++ key ∷ []
    → new ≡ remove_entry (is_at (key_cmp key)) now → ((other : PubKey) → is_at (key_cmp key) other ≡ false → kept_of new other ≡ kept_of now other) → IsOnTheWay start_keys start keys new
way_on start_keys start old keys now new key way is removed others = record {
  same = λ before are each.
      let at = way.same before are each in
      let E : List (PubKey × Parts) → Type 0 = λ l. EachKey SameParts (with_each no_parts before keys) l in
      let out = one_out before now old keys key is at.0 at.1 in
      (out.0, subst E (sym removed) out.1);
  others = λ other apart.
      let at = way.others other apart in
      let parts = All-pop (λ k. is_at (key_cmp k) other ≡ false) old keys (Some key) is at.0 in
      (parts.0, others other parts.1 ∙ at.1);
}

-- ---- one more of what is listed

-- what is listed may be more
pub prepared_wider : {X : Type 0} (old new : List (PubKey × Parts)) (front rest : List (PubKey × X)) (fresh : List PubKey) → ArePrepared old front fresh new → ArePrepared old (front ++ rest) fresh new
prepared_wider old new front rest fresh is = record {
  same = is.same;
  absent = is.absent;
  are_listed = All-weaker (λ k. IsSome (kept_of front k)) (λ k. IsSome (kept_of (front ++ rest) k)) (λ k found. some_in_first front rest k found) fresh is.are_listed;
  others = λ key none. is.others key (none_in_both front rest key none).0;
}

pub prepared_more : {X : Type 0} (old mid new : List (PubKey × Parts)) (front : List (PubKey × X)) (one : PubKey × X) (fresh more : List PubKey) → ArePrepared old front fresh mid → MakesRoom mid new one.0 fresh more
    → ArePrepared old (front ++ one ∷ []) more new
prepared_more {X} old mid new front one fresh more is makes =
    let both = makes.same old is.absent is.same in record {
      same = both.1;
      absent = both.0;
      are_listed = noted makes.noted;
      others = λ key none.
          let parts = none_in_both front (one ∷ []) key none in
          makes.others key (apart_back key one.0 (apart_from_first one [] key parts.1)) ∙ is.others key parts.0;
    } where
      wider : ArePrepared old (front ++ one ∷ []) fresh mid
      wider = prepared_wider old mid front (one ∷ []) fresh is

      here : IsSome (kept_of (one ∷ []) one.0)
      here = rw (at_itself one.0) refl

      noted : (more ≡ fresh) ⊎ (more ≡ fresh ++ one.0 ∷ []) → All (λ k. IsSome (kept_of (front ++ one ∷ []) k)) more
      noted (inl e) = subst (λ (ks : List PubKey). All (λ k. IsSome (kept_of (front ++ one ∷ []) k)) ks) (sym e) wider.are_listed
      noted (inr e) = subst (λ (ks : List PubKey). All (λ k. IsSome (kept_of (front ++ one ∷ []) k)) ks) (sym e)
          (All-push (λ k. IsSome (kept_of (front ++ one ∷ []) k)) fresh one.0 wider.are_listed (some_in_second front (one ∷ []) one.0 here))

-- a listed key keeps its room where another's changes
room_kept : {X : Type 0} (size : X → ℕ × ℕ) (old new : List (PubKey × Parts)) (key : PubKey) (front : List (PubKey × X)) → kept_of front key ≡ None
    → ((other : PubKey) → is_at (key_cmp key) other ≡ false → kept_of new other ≡ kept_of old other) → ByRecursion (λ one. IsSomeAnd (kept_of old one.0) (λ parts. HasRoomFor parts (size one.1))) front
    → ByRecursion (λ one. IsSomeAnd (kept_of new one.0) (λ parts. HasRoomFor parts (size one.1))) front
room_kept size old new key [] none others all = tt
room_kept {X} size old new key (a ∷ more) none others all =
    let apart : is_at (key_cmp key) a.0 ≡ false = apart_from_first a more key none in
    let P : Option Parts → Type 0 = λ o. IsSomeAnd o (λ parts. HasRoomFor parts (size a.1)) in
    (subst P (sym (others a.0 apart)) all.0, room_kept size old new key more (later apart none) others all.1) where
      later : is_at (key_cmp key) a.0 ≡ false → kept_of (a ∷ more) key ≡ None → kept_of more key ≡ None
      later apart h = rw apart at h

-- so many more are fresh
one_or_none : (b : Bool) (n : ℕ) → n + cond b 0 1 ≡ n + cond (not b) 1 0
one_or_none true n = refl
one_or_none false n = refl

pub ready_more : {X : Type 0} (size : X → ℕ × ℕ) (old mid new : List (PubKey × Parts)) (front : List (PubKey × X)) (one : PubKey × X) (fresh more : List PubKey) → IsReady size old front fresh mid
    → kept_of front one.0 ≡ None → MakesRoom mid new one.0 fresh more → IsSomeAnd (kept_of new one.0) (λ parts. HasRoomFor parts (size one.1))
    → length more ≡ length fresh + cond (is_some (kept_of mid one.0)) 0 1 → IsReady size old (front ++ one ∷ []) more new
ready_more {X} size old mid new front one fresh more is none makes room noted = record {
  prepared = prepared_more old mid new front one fresh more is.prepared makes;
  count =
      let same : is_some (kept_of mid one.0) ≡ is_some (kept_of old one.0) = ap is_some (is.prepared.others one.0 none) in
      noted ∙ one_or_none (is_some (kept_of mid one.0)) (length fresh) ∙ ap (λ n. n + cond (not (is_some (kept_of mid one.0))) 1 0) is.count
      ∙ ap (λ b. new_keys old front + cond (not b) 1 0) same ∙ sym (sum_by_push (λ a. cond (not (is_some (kept_of old a.0))) 1 0) front one);
  room =
      let before = room_kept size mid new one.0 front none makes.others (recursion_from_All (λ a. IsSomeAnd (kept_of mid a.0) (λ parts. HasRoomFor parts (size a.1))) front is.room) in
      All-push (λ a. IsSomeAnd (kept_of new a.0) (λ parts. HasRoomFor parts (size a.1))) front one
      (All-from_recursion (λ a. IsSomeAnd (kept_of new a.0) (λ parts. HasRoomFor parts (size a.1))) front before) room;
}

-- nothing is listed yet
pub ready_none : {X : Type 0} (size : X → ℕ × ℕ) (old : List (PubKey × Parts)) (fresh : List PubKey) → fresh ≡ [] → IsReady {X = X} size old [] fresh old
ready_none {X} size old fresh is = let P : List PubKey → Type 0 = λ ks. IsReady {X = X} size old [] ks old in subst P (sym is) (record {
  prepared = record { same = each_self SameParts same_itself old; absent = tt; are_listed = All-nil (λ k. IsSome (kept_of {X = X} [] k)); others = λ key none. refl };
  count = refl;
  room = All-nil (λ (a : PubKey × X). IsSomeAnd (kept_of old a.0) (λ parts. HasRoomFor parts (size a.1)));
})
