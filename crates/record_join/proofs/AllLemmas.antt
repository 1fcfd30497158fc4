-- Messages of several keys that are judged one after another.
use Rattle.std.proofs.Common.{◌≡◌, ◌⊎◌, inl, inr, ℕ, ◌+◌, ◌<◌, Bool, true, false, cond, List, [], ◌∷◌, ◌++◌, length, take, get_or, Option, None, Some, refl, sym, ◌∙◌, ap, subst}
use Rattle.std.specs.Prelude.{Contains, IsSome, IsSomeAnd, is_some}
use Rattle.std.specs.BTreeMap.{is_at}
use Rattle.std.specs.List.{IsDistinct}
use Rattle.std.specs.Map.{keys_of}
use Rattle.std.specs.Ordering.{eq_by_cmp}
use Rattle.std.proofs.lemmas.List.Elements.{Contains-get_or, Contains-push_cases}
use Rattle.std.proofs.lemmas.List.Sums.{fold_push}
use Rattle.edge_kit.specs.declared.bytes.PubKey.{PubKey}
use Rattle.slash_defs.specs.declared.message.Message.{Message}
use Rattle.protect_record.specs.Parts.{Parts, SameParts, HasRoom}
use Rattle.protect_record.specs.Pasts.{Past, with_own}
use Rattle.protect_record.specs.Passing.{Passes}
use Rattle.protect_record.specs.Verdicts.{IsVerdict}
use Rattle.protect_record.specs.declared.verdict.Verdict.{Verdict}
use Rattle.protect_record.specs.declared.verdict.Verdict.TheVariants as verdict
use Rattle.protect_record.proofs.MemberLemmas.{contains_cases, contains_none}
use Rattle.record_join.specs.Keys.{key_cmp, kept_of, with_kept, EachKey}
use Rattle.record_join.specs.BooksPasts.{AreNew, BooksStand, IsNewTo, JudgesPast, KeepsOthers, own_grown, with_messages}
use Rattle.record_join.specs.KeyLaws.{changed, same_key}
use Rattle.record_join.specs.KeyByKey.{EachTakes, Takes, TakesMessage}
use Rattle.record_join.specs.Repeats.{IsKeptIn, repeats}
use Rattle.record_join.specs.Taking.{AreNewIn, AreReadyFor, HasJudged, IsNewIn, IsReadyFor, JudgesBy, JudgesKept}
use Rattle.record_join.specs.declared.judgement.Judged.{Judged}
use Rattle.record_join.specs.declared.judgement.Judged.TheVariants as judged
use Rattle.record_join.proofs.BooksLemmas.{all_same_stand, roomier_same, same_itself}
use Rattle.record_join.proofs.FileLemmas.{next_at, none_before}
use Rattle.record_join.proofs.JudgeLemmas.{is_ready, judges, judges_by}
use Rattle.record_join.proofs.KeyLemmas.{each_self}
use Rattle.record_join.proofs.OrderLemmas.{apart_back, apart_from_first, at_itself, none_in_both}
use Rattle.record_join.proofs.TakeLemmas.{takes_more, takes_none}

-- those so far pass, are new and have room, and the records keep what they kept
pub record JudgedSoFar (start : List (PubKey × Parts)) (front : List (PubKey × Message)) (now : List (PubKey × Parts)) : Type 0 where
  pub same : EachKey SameParts start now
  pub ready : AreReadyFor now front
  pub others : KeepsOthers front start now
  pub own : AreNewIn start front
  pub news : (pasts : List (PubKey × Past)) → BooksStand start pasts → AreNew pasts front

pub judged_none : (start : List (PubKey × Parts)) → JudgedSoFar start [] start
judged_none start = record { same = each_self SameParts same_itself start; ready = λ one c. contains_none one c; others = λ key none. refl; own = λ one c. contains_none one c; news = λ pasts stand one c. contains_none one c }

-- the records keep what they kept before
same_judged : (before old new : List (PubKey × Parts)) (key : PubKey) (m : Message) (v : Verdict) → EachKey SameParts before old → HasJudged old new key m v → EachKey SameParts before new
same_judged before old new key m v h j = roomier_same before old new key (record { parts = j.parts; is_kept = j.is_kept; roomy = j.roomy; same = j.same; others = j.others }) h

pub same_on : (before old new : List (PubKey × Parts)) (key : PubKey) (m : Message) (j : Judged) → EachKey SameParts before old → JudgesKept old new key m j → EachKey SameParts before new
same_on before old new key m judged.Unknown h t = subst (λ (l : List (PubKey × Parts)). EachKey SameParts before l) (sym t.1) h
same_on before old new key m (judged.Refused v) h t = same_judged before old new key m v h t.1
same_on before old new key m judged.NoRoom h t = same_judged before old new key m verdict.Pass h t
same_on before old new key m (judged.Ready repeat) h t = same_judged before old new key m verdict.Pass h t.is_judged

-- a judgement changes the record of its key alone
others_of : (old new : List (PubKey × Parts)) (key : PubKey) (m : Message) (v : Verdict) (other : PubKey) → HasJudged old new key m v → is_at (key_cmp key) other ≡ false → kept_of new other ≡ kept_of old other
others_of old new key m v other j apart =
    ap (λ l. kept_of l other) j.others ∙ changed old key other j.roomy (ap is_some j.is_kept) ∙ ap (λ b. cond b (Some j.roomy) (kept_of old other)) apart

judged_others : (old new : List (PubKey × Parts)) (key : PubKey) (m : Message) (j : Judged) (other : PubKey) → JudgesKept old new key m j → is_at (key_cmp key) other ≡ false → kept_of new other ≡ kept_of old other
judged_others old new key m judged.Unknown other t apart = ap (λ l. kept_of l other) t.1
judged_others old new key m (judged.Refused v) other t apart = others_of old new key m v other t.1 apart
judged_others old new key m judged.NoRoom other t apart = others_of old new key m verdict.Pass other t apart
judged_others old new key m (judged.Ready repeat) other t apart = others_of old new key m verdict.Pass other t.is_judged apart

-- a key that is in a list is kept in it
listed_kept : (xs : List (PubKey × Message)) (one : PubKey × Message) → Contains xs one → IsSome (kept_of xs one.0)
listed_kept [] one c = contains_none one c
listed_kept (x ∷ xs) one c = at (is_at (key_cmp one.0) x.0) refl (λ r. listed_kept xs one r) (contains_cases x xs one c) where
  at : (t : Bool) → is_at (key_cmp one.0) x.0 ≡ t → (Contains xs one → IsSome (kept_of xs one.0)) → (x ≡ one) ⊎ Contains xs one → IsSome (cond t (Some x.1) (kept_of xs one.0))
  at true e rest h = refl
  at false e rest (inl same) = absurd (
      let here : is_at (key_cmp one.0) x.0 ≡ true = ap (λ (y : PubKey × Message). is_at (key_cmp one.0) y.0) same ∙ at_itself one.0 in
      let bad : false ≡ true = sym e ∙ here in cc)
  at false e rest (inr there) = rest there

-- those before are of other keys
apart_before : (xs : List (PubKey × Message)) (i : ℕ) (x one : PubKey × Message) → IsDistinct (eq_by_cmp key_cmp) (keys_of xs) → i < length xs → x ≡ get_or xs i x → Contains (take i xs) one → is_at (key_cmp x.0) one.0 ≡ false
apart_before xs i x one distinct lt is c = at (is_at (key_cmp x.0) one.0) refl where
  at : (b : Bool) → is_at (key_cmp x.0) one.0 ≡ b → b ≡ false
  at true e =
      let P : PubKey → Type 0 = λ k. IsSome (kept_of (take i xs) k) in
      let some = subst P (sym (same_key x.0 one.0 e)) (listed_kept (take i xs) one c) in
      absurd (let bad : false ≡ true = sym (ap is_some (none_before xs i x distinct lt is)) ∙ some in cc)
  at false e = refl

ready_same : (old new : List (PubKey × Parts)) (one : PubKey × Message) → kept_of new one.0 ≡ kept_of old one.0 → IsReadyFor old one.0 one.1 → IsReadyFor new one.0 one.1
ready_same old new one e h = let P : Option Parts → Type 0 = λ o. IsSomeAnd o (λ parts. IsVerdict parts one.1 verdict.Pass × HasRoom parts one.1) in subst P (sym e) h

-- what is judged ready, and not a repeat, is new
new_of : (o : Option Past) (m : Message) (repeat : Bool) → repeat ≡ false → IsSomeAnd o (λ p. Passes p m × (repeat ≡ repeats p m)) → IsSomeAnd o (λ p. Passes p m × (repeats p m ≡ false))
new_of None m repeat off h = h
new_of (Some p) m repeat off h = (h.0, sym h.1 ∙ off)

new_in : (o : Option Parts) (m : Message) (repeat : Bool) → repeat ≡ false → JudgesBy o m (judged.Ready repeat) → IsSomeAnd o (λ parts. IsVerdict parts m verdict.Pass × ¬ (IsKeptIn parts m))
new_in None m repeat off h = h
new_in (Some parts) m repeat off h = (h.0, λ kept. let bad : true ≡ false = sym (h.1.1 kept) ∙ off in cc)

pub judged_more : (start now new : List (PubKey × Parts)) (xs : List (PubKey × Message)) (i : ℕ) (x : PubKey × Message) (repeat : Bool) → IsDistinct (eq_by_cmp key_cmp) (keys_of xs) → i < length xs → x ≡ get_or xs i x
    → JudgedSoFar start (take i xs) now → JudgesKept now new x.0 x.1 (judged.Ready repeat) → repeat ≡ false → JudgedSoFar start (take (i + 1) xs) new
judged_more start now new xs i x repeat distinct lt is so_far judges_it off =
    let P : List (PubKey × Message) → Type 0 = λ l. JudgedSoFar start l new in
    subst P (sym (next_at xs i x lt is)) (record {
      same = same_on start now new x.0 x.1 (judged.Ready repeat) so_far.same judges_it;
      ready = λ one c. ready_one one (Contains-push_cases (take i xs) x one c);
      others = λ key absent.
          let parts = none_in_both (take i xs) (x ∷ []) key absent in
          judged_others now new x.0 x.1 (judged.Ready repeat) key judges_it (apart_back key x.0 (apart_from_first x [] key parts.1)) ∙ so_far.others key parts.0;
      own = λ one c. own_one one (Contains-push_cases (take i xs) x one c);
      news = λ pasts stand one c. new_one pasts stand one (Contains-push_cases (take i xs) x one c);
    }) where
      ready_one : (one : PubKey × Message) → Contains (take i xs) one ⊎ (x ≡ one) → IsReadyFor new one.0 one.1
      ready_one one (inl there) = ready_same now new one (judged_others now new x.0 x.1 (judged.Ready repeat) one.0 judges_it (apart_before xs i x one distinct lt is there)) (so_far.ready one there)
      ready_one one (inr e) = subst (λ (y : PubKey × Message). IsReadyFor new y.0 y.1) e (is_ready now new x.0 x.1 (judged.Ready repeat) repeat judges_it refl)

      own_one : (one : PubKey × Message) → Contains (take i xs) one ⊎ (x ≡ one) → IsNewIn start one
      own_one one (inl there) = so_far.own one there
      own_one one (inr e) =
          let P : Option Parts → Type 0 = λ o. JudgesBy o x.1 (judged.Ready repeat) in
          let by = subst P (so_far.others x.0 (none_before xs i x distinct lt is)) (judges_by now new x.0 x.1 (judged.Ready repeat) judges_it) in
          subst (λ (y : PubKey × Message). IsNewIn start y) e (new_in (kept_of start x.0) x.1 repeat off by)

      new_one : (pasts : List (PubKey × Past)) → BooksStand start pasts → (one : PubKey × Message) → Contains (take i xs) one ⊎ (x ≡ one) → IsNewTo pasts one
      new_one pasts stand one (inl there) = so_far.news pasts stand one there
      new_one pasts stand one (inr e) =
          let j = judges now new pasts x.0 x.1 (judged.Ready repeat) (all_same_stand start now pasts so_far.same stand) judges_it in
          subst (λ (y : PubKey × Message). IsNewTo pasts y) e (new_of (kept_of pasts x.0) x.1 repeat off j.0)

-- ---- one that is not such

-- the judgement is none of a new message
abbrev pub Unfitting : Judged → Type 0
Unfitting judged.Unknown = Unit {0}
Unfitting (judged.Refused v) = Unit {0}
Unfitting (judged.Ready repeat) = repeat ≡ true
Unfitting judged.NoRoom = ⊥

not_new : (o : Option Past) (m : Message) (j : Judged) → JudgesPast o m j → Unfitting j → IsSomeAnd o (λ p. Passes p m × (repeats p m ≡ false)) → ⊥
not_new None m j h u n = n
not_new (Some p) m judged.Unknown h u n = let bad : Some p ≡ None = h in cc
not_new (Some p) m (judged.Refused v) h u n = h.forbids n.0
not_new (Some p) m (judged.Ready repeat) h u n = let bad : true ≡ false = sym u ∙ h.1 ∙ n.1 in cc
not_new (Some p) m judged.NoRoom h u n = u

pub unfitting_of : (r j : Judged) → r ≡ j → Unfitting j → Unfitting r
unfitting_of r j e u = subst (λ (x : Judged). Unfitting x) (sym e) u

pub judged_unfit : (start now new : List (PubKey × Parts)) (xs : List (PubKey × Message)) (i : ℕ) (x : PubKey × Message) (j : Judged) → i < length xs → x ≡ get_or xs i x → JudgedSoFar start (take i xs) now
    → JudgesKept now new x.0 x.1 j → Unfitting j → (pasts : List (PubKey × Past)) → BooksStand start pasts → ¬ (AreNew pasts xs)
judged_unfit start now new xs i x j lt is so_far judges_it unfit pasts stand new_all =
    let at : IsNewTo pasts (get_or xs i x) = new_all (get_or xs i x) (Contains-get_or xs i x lt) in
    let here : IsNewTo pasts x = subst (λ (y : PubKey × Message). IsNewTo pasts y) (sym is) at in
    not_new (kept_of pasts x.0) x.1 j (judges now new pasts x.0 x.1 j (all_same_stand start now pasts so_far.same stand) judges_it).0 unfit here

-- ---- each is added

-- those so far are taken in
pub record AddedSoFar (start : List (PubKey × Parts)) (front : List (PubKey × Message)) (now : List (PubKey × Parts)) : Type 0 where
  pub stands : (pasts : List (PubKey × Past)) → BooksStand start pasts → BooksStand now (with_messages pasts front)
  pub len : length now ≡ length start
  pub takes : EachTakes TakesMessage front start now

pub added_none : (start : List (PubKey × Parts)) → AddedSoFar start [] start
added_none start = record { stands = λ pasts stand. stand; len = refl; takes = takes_none TakesMessage start }

pub added_more : (start now new : List (PubKey × Parts)) (xs : List (PubKey × Message)) (i : ℕ) (x : PubKey × Message) → IsDistinct (eq_by_cmp key_cmp) (keys_of xs) → i < length xs → x ≡ get_or xs i x
    → AddedSoFar start (take i xs) now → Takes TakesMessage now new x.0 x.1 → ((pasts : List (PubKey × Past)) → BooksStand now pasts → BooksStand new (own_grown pasts x.0 x.1)) → length new ≡ length now → AddedSoFar start (take (i + 1) xs) new
added_more start now new xs i x distinct lt is so_far takes grows len =
    let P : List (PubKey × Message) → Type 0 = λ l. AddedSoFar start l new in
    subst P (sym (next_at xs i x lt is)) (record {
      stands = λ pasts stand.
          let E : List (PubKey × Past) → Type 0 = λ l. BooksStand new l in
          subst E (sym (fold_push (λ before one. own_grown before one.0 one.1) pasts (take i xs) x)) (grows (with_messages pasts (take i xs)) (so_far.stands pasts stand));
      len = len ∙ so_far.len;
      takes = takes_more TakesMessage start now new (take i xs) x (none_before xs i x distinct lt is) takes so_far.takes;
    })

-- the next is still ready
pub ready_next : (start now : List (PubKey × Parts)) (xs : List (PubKey × Message)) (i : ℕ) (x : PubKey × Message) → IsDistinct (eq_by_cmp key_cmp) (keys_of xs) → i < length xs → x ≡ get_or xs i x
    → AddedSoFar start (take i xs) now → AreReadyFor start xs → IsReadyFor now x.0 x.1
ready_next start now xs i x distinct lt is so_far ready =
    let at = ready (get_or xs i x) (Contains-get_or xs i x lt) in
    ready_same start now x (so_far.takes.others x.0 (none_before xs i x distinct lt is)) (subst (λ (y : PubKey × Message). IsReadyFor start y.0 y.1) (sym is) at)
